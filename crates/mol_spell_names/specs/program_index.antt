pub mod KeptUses
