pub mod Spelled
pub mod Seeking
