pub mod StatementHeads
pub mod Bodies
pub mod BodyReader
pub mod BodyWords
pub mod ReadsIn
