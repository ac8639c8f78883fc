-- What simple names stand for in the file of a class, and what it imports (JLS 6.4.1, 7.5.1).
use Rattle.std.specs.Prelude.{Bool, true, false, ◌&&◌, not, List, [], ◌∷◌, Option, Some, None, option_map, is_none, if◌then◌else◌}
use Rattle.std.specs.List.{flat_map, filter_map, list_any, list_all}
use Rattle.std.specs.Ordering.{nat_cmp}
use Rattle.std.specs.Cmp.Lexicographic.{slice_cmp}
use Rattle.std.specs.Str.{bytes_eq}
use Rattle.mol_base.specs.declared.ident.Id.{Id}
use Rattle.mol_table_rules.specs.Program.{Program, same_id, package_at, name_at}
use Rattle.mol_values_types.specs.declared.cell.Cell.{Cell}
use Rattle.jav_names.specs.DottedNames.{Name, Names, joined, cut}
use Rattle.jav_names.specs.LookUps.{class_named}
use Rattle.jav_names.specs.Views.{ViewClass}
use Rattle.mol_resolve_rules.specs.ProgramViews.{program_view}
use Rattle.mol_spell_rules.specs.Sets.{as_set}
use Rattle.mol_spell_rules.specs.UnitCells.{printed_cells, cell_writer, references_at}
use Rattle.mol_spell_rules.specs.Writers.{Importable, program_class, outside_import, full_of, simple_of, Writer, Use, importable_use, written_use, Reference}

abbrev pub same_importable : Importable → Importable → Bool
same_importable (program_class first) (program_class second) = same_id first second
same_importable (outside_import first) (outside_import second) = bytes_eq first second
same_importable first second = false

-- ---- what a file uses

-- What the names in a file use, in printed order. That a name is used is no matter of whether it is simple in the end; so each counts as
-- simple here, and none is imported.
abbrev pub uses_at : Program → Id → Cell → List Use
uses_at program class at =
    filter_map (λ (reference : Reference). reference.uses) (references_at (cell_writer program [] (λ what. true) class at) at)

abbrev pub uses_in : Program → Id → List Use
uses_in program class = flat_map (uses_at program class) (printed_cells program class)

-- ---- what a simple name stands for

-- The class that has a simple name without an import: the file's own class, or a class of its package that lives.
abbrev pub near_class : Program → Id → Name → Option Id
near_class program class name =
    if bytes_eq (name_at program class) name then Some class
    else option_map (λ (near : ViewClass Id). near.key)
    (class_named (program_view program).classes (joined (package_at program class) (name ∷ [])))

-- a name as it is written begins with this one
abbrev pub begins_written : Name → Use → Bool
begins_written name (written_use text) = bytes_eq (cut text).first name
begins_written name (importable_use what hidden) = false

-- what is used does not have this simple name, or is this
abbrev pub is_no_rival : Program → Importable → Use → Bool
is_no_rival program what (importable_use used hidden) =
    if bytes_eq (simple_of program used) (simple_of program what) then same_importable used what else true
is_no_rival program what (written_use text) = true

-- Without a class near by, a simple name is for what is used: not if a name as it is written begins with it, nor if two have it.
abbrev pub is_simple_beside : Program → List Use → Importable → Option Id → Bool
is_simple_beside program uses what (Some near) = same_importable (program_class near) what
is_simple_beside program uses what None =
    not (list_any (begins_written (simple_of program what)) uses) && list_all (is_no_rival program what) uses

-- What may be imported has its simple name in the file of a class that uses these.
abbrev pub is_simple_by : Program → Id → List Use → Importable → Bool
is_simple_by program class uses what = is_simple_beside program uses what (near_class program class (simple_of program what))

abbrev pub is_simple_in : Program → Id → Importable → Bool
is_simple_in program class = is_simple_by program class (uses_in program class)

-- ---- imports

-- Imported is what has its simple name in the file by no class near by, and is used where that name is not hidden.
abbrev pub needs_import : Program → Id → List Use → Importable → Bool
needs_import program class uses what =
    is_simple_by program class uses what && is_none (near_class program class (simple_of program what))

abbrev pub import_of : Program → Id → List Use → Use → Option Name
import_of program class uses (importable_use what false) =
    if needs_import program class uses what then Some (full_of program what) else None
import_of program class uses (importable_use what true) = None
import_of program class uses (written_use text) = None

-- each once, in the order of their bytes
abbrev pub imports_by : Program → Id → List Use → Names
imports_by program class uses = as_set (slice_cmp nat_cmp) (filter_map (import_of program class uses) uses)

-- the imports of the file of a class
abbrev pub imports_in : Program → Id → Names
imports_in program class = imports_by program class (uses_in program class)

-- ---- writing in the file

-- what is printed of a cell in the file of a class
abbrev pub unit_writer : Program → Id → Cell → Writer
unit_writer program class at = cell_writer program (imports_in program class) (is_simple_in program class) class at

-- the references of a cell, as they print in the file of a class
abbrev pub unit_references : Program → Id → Cell → List Reference
unit_references program class at = references_at (unit_writer program class at) at
