pub mod Lines
pub mod Objects
pub mod Reader
pub mod Headers
pub mod HeaderReader
pub mod Stamps
