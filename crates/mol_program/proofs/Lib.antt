mod FirstWrong
pub mod TreesOfFiles
