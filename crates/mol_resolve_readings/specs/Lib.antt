pub mod locals
pub mod meant
pub mod reads
