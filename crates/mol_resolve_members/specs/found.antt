pub mod Found
pub mod OnValues
