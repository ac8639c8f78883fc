pub mod First
pub mod Met
pub mod Names
