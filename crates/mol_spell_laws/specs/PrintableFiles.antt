-- The files that a program is spelled as, as trees that can be printed and read again.
use Rattle.std.specs.Prelude.{◌≡◌, ◌≢◌, ◌≤◌, IsTrue, All, Some}
use Rattle.mol_base.specs.Limits.{max_items}
use Rattle.mol_base.specs.declared.ident.Id.{Id}
use Rattle.jav_tree.specs.Parens.{unit_without_parens}
use Rattle.jav_tree.specs.Printable.{IsPrintable}
use Rattle.jav_tree.specs.Widths.{unit_width}
use Rattle.mol_spell_rules.specs.Clean.{Clean}
use Rattle.mol_spell_rules.specs.NameFaults.{IsLivingDeclaration}
use Rattle.mol_spell_rules.specs.SpelledUnits.{SpelledUnit, units_of, spelling}
use Rattle.mol_table_rules.specs.Program.{Program, value_at}
use Rattle.mol_table_rules.specs.Renumber.{is_living_class}
use Rattle.mol_table_rules.specs.Rules.{IsProgram}
use Rattle.mol_table_rules.specs.StatementForms.{block_shape}
use Rattle.mol_values_types.specs.declared.cell.Slot.TheVariants as slots
use Rattle.mol_values_types.specs.declared.iblock.IBody.{IBody}
use Rattle.mol_values_types.specs.declared.kind.MethodKind.{MethodKind}
use Rattle.mol_values_types.specs.declared.kind.MethodKind.TheVariants.{Constructor}
use Rattle.mol_values_types.specs.declared.value.Value.TheVariants as values

-- A file has a tree that the grammar has, but for parentheses and height, within the limit of number, and with no parentheses in it.
pub record IsPrintableFile (file : SpelledUnit) : Type 0 where
  pub printable : IsPrintable file.unit
  pub narrow : unit_width file.unit ≤ max_items
  pub bare : unit_without_parens file.unit ≡ file.unit

-- `super(..)` stands in the bodies of constructors alone (JLS 8.8.7): the body of a method that prints may be a block inside a body. The
-- rules of programs do not ask that, since the kind of a method and the bodies of its declarations stand in cells of their own.
abbrev pub SupersInPlace : Program → Type 0
SupersInPlace program = (class declaration method : Id) (kind : MethodKind) (body : IBody) → IsTrue (is_living_class program class)
    → IsLivingDeclaration program declaration method class kind → kind ≢ Constructor
    → value_at program declaration slots.Body ≡ Some (values.Body (Some body)) → IsTrue (block_shape body.block).formed

-- The files of a program that keeps the rules are printable where `super(..)` is in its place; and so are those that a clean program is
-- spelled as, in which it reads as no constructor elsewhere.
pub record FilesPrintable : Type 0 where
  pub placed : (program : Program) → IsProgram program → SupersInPlace program → All IsPrintableFile (units_of program)
  pub clean : (program : Program) → IsProgram program → Clean program → All IsPrintableFile (spelling program)
