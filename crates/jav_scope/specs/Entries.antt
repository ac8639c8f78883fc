-- The view of source files, and how their classes and imports stand in an index.
use Rattle.std.specs.Prelude.{ℕ, List, map, flat_map}
use Rattle.jav_tree.specs.declared.unit.Unit.{Unit}
use Rattle.jav_names.specs.DottedNames.{Name, simple_name}
use Rattle.jav_names.specs.Types.{full_name}
use Rattle.jav_names.specs.UnitViews.{MemberKey, numbered, class_of, classes_of, view_of}
use Rattle.jav_names.specs.Views.{Classes, View}
use Rattle.jav_names.specs.index.Seeking.{FindsSame}
use Rattle.jav_names.specs.declared.index.entry.Entry.{Entry}
use Rattle.jav_scope.specs.declared.source.SourceUnit.{SourceUnit}

abbrev pub units_of : List SourceUnit → List Unit
units_of sources = map (λ source. source.unit) sources

abbrev pub view_in : List SourceUnit → View ℕ MemberKey
view_in sources = view_of (units_of sources)

abbrev pub classes_in : List SourceUnit → Classes ℕ
classes_in sources = classes_of (units_of sources)

-- the class of a file, by its full name
abbrev pub class_entry : ℕ × Unit → Entry
class_entry unit = record { owner = 0; arity = 0; name = full_name (class_of unit); place = unit.0 }

-- an import of a file, by the file's number and its simple name
abbrev pub import_entry : ℕ → ℕ × Name → Entry
import_entry unit import = record { owner = unit; arity = 0; name = simple_name import.1; place = import.0 }

abbrev pub import_entries : ℕ × Unit → List Entry
import_entries unit = map (import_entry unit.0) (numbered unit.1.imports)

-- The indexes find the first class of a full name, and the first import of a simple name in a file.
pub record AreNamesIndexed (sources : List SourceUnit) (by_full_name by_simple_name : List Entry) : Type 0 where
  pub classes : FindsSame by_full_name (map class_entry (numbered (units_of sources)))
  pub imports : FindsSame by_simple_name (flat_map import_entries (numbered (units_of sources)))
