pub mod FirstOutside
pub mod NamesMeant
pub mod VariablesMeant
pub mod VariablesNamed
