pub mod FilesInTurn
pub mod TidiedFiles
