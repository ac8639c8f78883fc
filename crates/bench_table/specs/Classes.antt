-- Classes that a table is filled with.
use Rattle.std.specs.Prelude.{ℕ, zero, suc, true, List, [], ◌∷◌, ◌++◌, codes, None}
use Rattle.mol_base.specs.declared.ident.Id.{Id}
use Rattle.mol_table_rules.specs.Program.{cell}
use Rattle.mol_values_types.specs.declared.cell.Cell.{Cell}
use Rattle.mol_values_types.specs.declared.cell.Slot.TheVariants as slots
use Rattle.mol_table_rules.specs.declared.entity.NewEntity.{NewEntity}
use Rattle.mol_values_types.specs.declared.kind.Kind.TheVariants as kinds
use Rattle.mol_values_types.specs.declared.value.Value.TheVariants as values

abbrev pub id_of : List ℕ → ℕ → Id
id_of tag number = record { tag = tag; num = number }

-- the cell of the name of a base's class
abbrev pub name_of : ℕ → Cell
name_of number = cell (id_of [] number) slots.Name

-- a living class of this name, without superclass, words and comments
abbrev pub named_class : Id → List ℕ → List ℕ → NewEntity
named_class id in_package name = record {
  id = id;
  kind = kinds.Class;
  values = values.Live true ∷ values.Package in_package ∷ values.Name name ∷ values.Super None ∷ values.Words (record { texts = [] }) ∷ values.Notes (record { front = []; head = []; tail = [] }) ∷ [];
}

-- the class `p.C`
abbrev pub class_entity : Id → NewEntity
class_entity id = named_class id (codes "p") (codes "C")

-- so many classes of a tag, numbered from 1 on
abbrev pub classes : List ℕ → ℕ → List NewEntity
classes tag zero = []
classes tag (suc count) = classes tag count ++ class_entity (id_of tag (suc count)) ∷ []
