-- Where following superclasses leads.
use Rattle.std.specs.Prelude.{◌≡◌, ℕ, List, Some, Contains}
use Rattle.mol_base.specs.declared.ident.Id.{Id}
use Rattle.mol_table_rules.specs.Heights.{upward, climb}
use Rattle.mol_table_rules.specs.Program.{Program}

-- Following superclasses that live leads from the first class to the second.
pub record Reaches (program : Program) (class above : Id) : Type 0 where
  pub steps : ℕ
  pub leads : climb program steps (Some class) ≡ Some above

-- These lead from each to each other one, and to nothing else; the class is one of them.
pub record AreTop (program : Program) (class : Id) (classes : List Id) : Type 0 where
  pub stands : Contains classes class
  pub closed : (below above : Id) → Contains classes below → upward program (Some below) ≡ Some above → Contains classes above
  pub joined : (below above : Id) → Contains classes below → Contains classes above → Reaches program below above
