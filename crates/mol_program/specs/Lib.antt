pub mod FaultTexts
pub mod Programs
pub mod SourceTexts
