-- The classes that are numbered anew.
use Rattle.std.specs.Prelude.{ℕ, true, List, [], ◌∷◌, codes, None}
use Rattle.mol_base.specs.declared.ident.Id.{Id}
use Rattle.mol_table_rules.specs.declared.entity.NewEntity.{NewEntity}
use Rattle.mol_values_types.specs.declared.kind.Kind.TheVariants as kinds
use Rattle.mol_values_types.specs.declared.value.Value.TheVariants as values

abbrev pub class_id : ℕ → Id
class_id num = record { tag = []; num = num }

-- a living class, without superclass, modifiers and comments
abbrev pub class : ℕ → List ℕ → List ℕ → NewEntity
class num in_package name = record {
  id = class_id num;
  kind = kinds.Class;
  values =
      values.Live true ∷ values.Package in_package ∷ values.Name name ∷ values.Super None ∷ values.Words (record { texts = [] })
      ∷ values.Notes (record { front = []; head = []; tail = [] }) ∷ [];
}

abbrev pub classes : List NewEntity
classes = class 7 (codes "shop") (codes "Till") ∷ class 4 (codes "shop") (codes "Cart") ∷ class 9 (codes "bank") (codes "Desk") ∷ []
