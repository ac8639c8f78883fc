use Rattle.std.proofs.Common.{◌≡◌, [], ◌∷◌, ◌++◌, Some, cond, length, take}
use Rattle.std.specs.List.{list_any}
use Rattle.mol_base.specs.declared.ident.Id.{Id}
use Rattle.mol_table_rules.specs.Program.{same_id}
use Rattle.mol_scope_classes.specs.hierarchy.Forest.{top_place}
use Rattle.mol_scope_classes.specs.hierarchy.Placed.{number_in}
use Rattle.mol_scope_classes.proofs.hierarchy.forest.Forest.add_top.Given as goal

abbrev pub invariant-loop-class : goal.invariant-loop-class
invariant-loop-class l = record {
  places : l.self.places.items ≡ l.fn.self.places.items ++ top_place (length l.fn.self.places.items) ∷ [];
  numbers : (class : Id) → number_in l.self.numbers.entries class
      ≡ cond (list_any (same_id class) (take l.class-index l.classes)) (Some (length l.fn.self.places.items))
      (number_in l.fn.self.numbers.entries class);
}
