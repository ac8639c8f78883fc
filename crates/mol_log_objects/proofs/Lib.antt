pub mod DataTexts
pub mod ParamItems
pub mod PartTexts
