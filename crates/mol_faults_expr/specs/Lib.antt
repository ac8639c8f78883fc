pub use Rattle.mol_scope.specs.asked.Answers
pub mod Kept
pub mod Names
pub mod Noted
pub mod Paths
pub mod Places
pub mod Readings
pub mod References
