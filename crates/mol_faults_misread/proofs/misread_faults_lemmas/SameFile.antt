-- Simple names and imports of a file, from what the file uses; and the cells of members, from the members.
use Rattle.std.proofs.Common.{◌≡◌, Bool, List, [], ◌∷◌, ◌++◌, refl, sym, ap, ◌∙◌, append_assoc}
use Rattle.std.proofs.lemmas.List.{append-nil}
use Rattle.std.proofs.lemmas.List.Concat.{flat_map-append}
use Rattle.std.specs.List.{flat_map}
use Rattle.jav_names.specs.DottedNames.{Names}
use Rattle.mol_base.specs.declared.ident.Id.{Id}
use Rattle.mol_faults_misread.specs.misread_faults.Files.{AreNamesOf}
use Rattle.mol_faults_misread.specs.misread_faults.Found.{Found, cell_misreads, cells_misreads, file_misreads, member_misreads, members_misreads}
use Rattle.mol_spell_names.specs.simple_names.Named.{imports_of_file, simple_in_file}
use Rattle.mol_spell_names.specs.declared.simple_names.simple_names.SimpleNames.{SimpleNames}
use Rattle.mol_spell_rules.specs.SimpleNames.{imports_by, is_simple_by}
use Rattle.mol_spell_rules.specs.UnitCells.{member_cells, printed_cells}
use Rattle.mol_spell_rules.specs.Writers.{Importable}
use Rattle.mol_table_rules.specs.Program.{Program}
use Rattle.mol_values_types.specs.declared.cell.Cell.{Cell}
use Rattle.mol_values_types.specs.declared.known.Known.{Known}

-- a file with these simple names, and the imports that go with them
pub same-file : (names : SimpleNames) (program : Program) (class : Id) (imports : Names) → AreNamesOf program class names
    → imports ≡ imports_of_file names
    → cells_misreads program imports (simple_in_file names) class (printed_cells program class) ≡ file_misreads program class
same-file names program class imports are imported = λ i. cells_misreads program
    ((imported ∙ (λ j. imports_by (are.in_program j) (are.of_class j) (are.by_uses j))) i)
    (λ what. is_simple_by (are.in_program i) (are.of_class i) (are.by_uses i) what) class (printed_cells program class)

-- ---- members and their cells

module _ (program : Program) (imports : Names) (is_simple : Importable → Bool) (class : Id) where
  abbrev of_cell : Cell → List Found
  of_cell = cell_misreads program imports is_simple class

  of-members : (members : List (Id × Known))
      → members_misreads program imports is_simple class members ≡ flat_map of_cell (flat_map member_cells members)
  of-members [] = refl
  of-members (member ∷ members) =
      ap (λ found. member_misreads program imports is_simple class member ++ found) (of-members members)
      ∙ sym (flat_map-append of_cell (member_cells member) (flat_map member_cells members))

  -- the cell `super`, and then those of the members
  pub all-cells : (first : Cell) (listed members : List (Id × Known)) (so_far one more : List Found) → listed ≡ members
      → one ≡ so_far ++ of_cell first → more ≡ one ++ members_misreads program imports is_simple class listed
      → more ≡ so_far ++ cells_misreads program imports is_simple class (first ∷ flat_map member_cells members)
  all-cells first listed members so_far one more are is next =
      next ∙ (λ i. is i ++ members_misreads program imports is_simple class (are i))
      ∙ append_assoc so_far (of_cell first) (members_misreads program imports is_simple class members)
      ∙ ap (λ found. so_far ++ (of_cell first ++ found)) (of-members members)

  pub one-cell : (cell : Cell) (so_far more : List Found) → more ≡ so_far ++ of_cell cell
      → more ≡ so_far ++ cells_misreads program imports is_simple class (cell ∷ [])
  one-cell cell so_far more is = is ∙ ap (λ found. so_far ++ found) (sym (append-nil (of_cell cell)))

  pub three-cells : (first second third : Cell) (so_far one two more : List Found) → one ≡ so_far ++ of_cell first
      → two ≡ one ++ of_cell second → more ≡ two ++ of_cell third
      → more ≡ so_far ++ cells_misreads program imports is_simple class (first ∷ second ∷ third ∷ [])
  three-cells first second third so_far one two more is next last =
      last ∙ ap (λ found. found ++ of_cell third)
      (next ∙ ap (λ found. found ++ of_cell second) is ∙ append_assoc so_far (of_cell first) (of_cell second))
      ∙ append_assoc so_far (of_cell first ++ of_cell second) (of_cell third)
      ∙ ap (λ found. so_far ++ found) (append_assoc (of_cell first) (of_cell second) (of_cell third)
      ∙ ap (λ found. of_cell first ++ (of_cell second ++ found)) (sym (append-nil (of_cell third))))
