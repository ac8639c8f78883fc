-- What the pieces of a Java source are, over lists of bytes. `Tokens` and `Forms` say what one token is, as
-- a whole; the others how a source is read: characters, comments, names, numbers, literals in quotes,
-- symbols, and what stands at its front.
pub mod Characters
pub mod Comments
pub mod Escapes
pub mod Flaws
pub mod Forms
pub mod Front
pub mod Names
pub mod Numbers
pub mod Quoted
pub mod Symbols
pub mod Tokens
