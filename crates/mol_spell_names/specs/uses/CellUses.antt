-- What the cells of members use in the file of a class.
use Rattle.std.specs.Prelude.{List}
use Rattle.std.specs.List.{flat_map}
use Rattle.mol_base.specs.declared.ident.Id.{Id}
use Rattle.mol_spell_rules.specs.SimpleNames.{uses_at}
use Rattle.mol_spell_rules.specs.UnitCells.{member_cells}
use Rattle.mol_spell_rules.specs.Writers.{Use}
use Rattle.mol_table_rules.specs.Program.{Program}
use Rattle.mol_values_types.specs.declared.known.Known.{Known}

module _ (program : Program) (class : Id) where
  abbrev pub member_uses : Id × Known → List Use
  member_uses member = flat_map (uses_at program class) (member_cells member)

  abbrev pub members_uses : List (Id × Known) → List Use
  members_uses members = flat_map (uses_at program class) (flat_map member_cells members)
