pub mod Alike
pub mod Laws
pub mod NumberLaws
pub mod NumberedPrograms
