pub mod Agreement
pub mod ClassFiles
pub mod Looked
pub mod Numbering
pub mod Tops
