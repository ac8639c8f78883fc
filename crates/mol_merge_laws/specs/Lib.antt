pub mod BadLaws
pub mod ConflictLaws
pub mod OrderLaws
pub mod PairLaws
pub mod PartLaws
pub mod TagLaws
pub mod UnitedLaws
