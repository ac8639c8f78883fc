pub mod Calls
pub mod Cells
pub mod Declarations
pub mod Links
pub mod Met
pub mod Rests
pub mod Ways
