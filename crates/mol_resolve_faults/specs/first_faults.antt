pub mod FirstByPath
