pub mod Members
pub mod ParamRows
pub mod ValueData
