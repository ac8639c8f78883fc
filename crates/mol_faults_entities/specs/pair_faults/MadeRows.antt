-- Rows that are made of what is known.
use Rattle.std.specs.Prelude.{◌≡◌, ◌↔◌, List, Option, Some, Contains}
use Rattle.mol_base.specs.declared.ident.Id.{Id}

-- These are all rows that are made so of identities, each of its own.
abbrev pub AreMade : {R : Type 0} → (R → Id) → (Id → Option R) → List R → Type 0
AreMade {R} id_of made rows = (row : R) → Contains rows row ↔ (made (id_of row) ≡ Some row)
