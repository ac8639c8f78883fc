pub mod Cells
pub mod LastWriters
