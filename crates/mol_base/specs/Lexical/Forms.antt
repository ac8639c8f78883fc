-- The forms of tokens, as whole lists of bytes: what the standard says a comment, a name, a number, a
-- string and a character literal are.
pub mod Comment
pub mod Name
pub mod Number
pub mod Quoted
