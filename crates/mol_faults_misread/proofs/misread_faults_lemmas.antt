pub mod Found
pub mod MisreadRows
pub mod NamesTold
pub mod SameFile
pub mod SameRows
pub mod Scoped
