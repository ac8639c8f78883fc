pub mod ModifierTexts
pub mod Pages
pub mod WrittenTexts
pub mod FileTexts
pub mod Printings
