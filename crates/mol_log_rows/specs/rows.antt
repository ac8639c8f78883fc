pub mod RowForms
pub mod RowData
pub mod RowReader
pub mod FirstLine
pub mod RowLine
pub mod NextRow
