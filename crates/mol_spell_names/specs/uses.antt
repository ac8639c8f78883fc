pub mod CellUses
