pub use Rattle.mol_scope.proofs.asked_lemmas.AnswersTested
pub mod ClassPaths
pub mod Members
pub mod NamesCut
pub mod ReadsOn
pub mod Said
pub mod SaidInstead
pub mod Words
