pub mod RowsKept
pub mod RowsViewed
