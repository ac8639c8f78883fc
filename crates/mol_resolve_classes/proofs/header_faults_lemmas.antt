pub mod FaultyFiles
pub mod HeadersNoted
