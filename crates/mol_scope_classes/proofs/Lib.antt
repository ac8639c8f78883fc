pub mod cells_lemmas
pub mod class_members_lemmas
pub mod classes_lemmas
pub mod hierarchy_lemmas
