pub mod Conflicts
