pub mod FaultTexts
pub mod Sources
