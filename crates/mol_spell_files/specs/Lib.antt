pub mod Bundle
pub mod FileLimits
pub mod ProgramTexts
