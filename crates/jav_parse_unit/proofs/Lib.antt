pub mod EndOf
pub mod FeatureRows
pub mod FieldLists
pub mod Wrong
