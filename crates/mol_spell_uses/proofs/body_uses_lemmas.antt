pub mod DeclarationUses
pub mod DeclaredTypes
pub mod InTurn
pub mod LoopUses
pub mod Marks
pub mod StatementUses
pub mod ValueUses
