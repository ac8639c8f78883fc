-- A whole file: the class `p.U` (`:1`) with a field `Date a` (`:2`) of the imported type `java.util.Date`.
use Rattle.std.proofs.Common.{◌≡◌, true, false, List, [], ◌∷◌, ◌++◌, filter_map, Some, None, codes, refl, ap, ◌∙◌}
use Rattle.std.specs.FinMap.{find, entries, entries-from_sorted}
use Rattle.std.specs.List.{cons_option, flat_map}
use Rattle.mol_base.specs.Order.{id_cmp}
use Rattle.mol_base.specs.declared.ident.Id.{Id}
use Rattle.mol_table_rules.specs.Program.{Program, value_at, name_in, package_in, cell}
use Rattle.mol_values_types.specs.Order.{cell_cmp}
use Rattle.mol_values_types.specs.declared.cell.Cell.{Cell}
use Rattle.mol_values_types.specs.declared.cell.Slot.{Slot}
use Rattle.mol_values_types.specs.declared.cell.Slot.TheVariants as slots
use Rattle.mol_values_types.specs.declared.itype.IType.TheOpen.{IType-F}
use Rattle.mol_values_types.specs.declared.itype.IType.TheVariants as itypes
use Rattle.mol_values_types.specs.declared.known.Known.{Known}
use Rattle.mol_values_types.specs.declared.known.Known.TheVariants as knowns
use Rattle.mol_values_types.specs.declared.value.Value.{Value}
use Rattle.mol_values_types.specs.declared.value.Value.TheVariants as values
use Rattle.mol_values_types.specs.declared.words.Notes.{Notes}
use Rattle.jav_tree.specs.declared.types.TypeName.TheVariants as types
use Rattle.jav_tree.proofs.StatementTexts.{text-Named}
use Rattle.jav_tree.specs.Layout.{unit_text}
use Rattle.jav_tree.specs.declared.unit.Member.{Member}
use Rattle.jav_tree.specs.declared.unit.Member.TheVariants as member
use Rattle.jav_tree.specs.declared.unit.Unit.{Unit as Source}
use Rattle.jav_names.specs.DottedNames.{Name}
use Rattle.mol_resolve_rules.specs.Locals.{no_locals}
use Rattle.mol_resolve_rules.specs.ProgramViews.{words_in}
use Rattle.mol_spell_rules.proofs.ExampleNames.{set-one}
use Rattle.mol_spell_rules.proofs.ExamplePrograms.{base, program_of, holds-in}
use Rattle.mol_spell_rules.proofs.SpelledEquations.{type_of_parts, type-Imported}
use Rattle.mol_spell_rules.specs.SimpleNames.{uses_at, uses_in, near_class, is_simple_in, imports_in, imports_by, unit_writer}
use Rattle.mol_spell_rules.specs.SpelledStatements.{declared_type}
use Rattle.mol_spell_rules.specs.SpelledTypes.{SpelledType, spelled_type}
use Rattle.mol_spell_rules.specs.SpelledUnits.{words_at, notes_in, notes_at, parent_tree, field_member, spelled_member, unit_tree}
use Rattle.mol_spell_rules.specs.UnitCells.{member_cells, printed_cells, members_of, cell_writer, references_in}
use Rattle.mol_spell_rules.specs.Writers.{Writer, hides_none, importable_use, outside_import, Reference}

abbrev date : Name
date = codes "java.util.Date"

abbrev known : List (Id × Known)
known = (base 1, knowns.Class) ∷ (base 2, knowns.Field) ∷ []

abbrev cells : List (Cell × Value)
cells = (cell (base 1) slots.Live, values.Live true) ∷ (cell (base 1) slots.Package, values.Package (codes "p"))
    ∷ (cell (base 1) slots.Name, values.Name (codes "U")) ∷ (cell (base 1) slots.Super, values.Super None)
    ∷ (cell (base 1) slots.Words, values.Words (record { texts = [] }))
    ∷ (cell (base 1) slots.Notes, values.Notes (record { front = []; head = []; tail = [] }))
    ∷ (cell (base 2) slots.Live, values.Live true) ∷ (cell (base 2) slots.Owner, values.Owner (base 1))
    ∷ (cell (base 2) slots.Name, values.Name (codes "a")) ∷ (cell (base 2) slots.Words, values.Words (record { texts = [] }))
    ∷ (cell (base 2) slots.Notes, values.Notes (record { front = []; head = []; tail = [] }))
    ∷ (cell (base 2) slots.Value, values.Value (itypes.Imported date []) None) ∷ []

abbrev program : Program
program = program_of known cells

holds-at : (id : Id) (slot : Slot) → value_at program id slot ≡ find cell_cmp (cell id slot) cells
holds-at id slot = holds-in known cells tt id slot

entries-are : entries program.known ≡ known
entries-are = entries-from_sorted id_cmp known tt

members : members_of program (base 1) ≡ (base 2, knowns.Field) ∷ []
members = simp (entries-are, holds-at (base 2) slots.Live, holds-at (base 2) slots.Owner) refl

-- ---- what the file uses and imports

date-type : (writer : Writer) → spelled_type writer hides_none no_locals (itypes.Imported date [])
    ≡ type_of_parts writer hides_none no_locals (IType-F.Imported date [])
date-type writer = type-Imported writer hides_none no_locals date []

no_super : value_at program (base 1) slots.Super ≡ Some (values.Super None)
no_super = holds-at (base 1) slots.Super

value : value_at program (base 2) slots.Value ≡ Some (values.Value (itypes.Imported date []) None)
value = holds-at (base 2) slots.Value

cells-are : printed_cells program (base 1) ≡ cell (base 1) slots.Super ∷ cell (base 2) slots.Value ∷ []
cells-are = ap (λ (ms : List (Id × Known)). cell (base 1) slots.Super ∷ flat_map member_cells ms) members

-- where the uses of a cell are looked for
abbrev used_in : Cell → Writer
used_in at = cell_writer program [] (λ what. true) (base 1) at

none-used : uses_at program (base 1) (cell (base 1) slots.Super) ≡ []
none-used = ap (λ held. filter_map (λ (r : Reference). r.uses) (references_in (used_in (cell (base 1) slots.Super)) held)) no_super

date-used : uses_at program (base 1) (cell (base 2) slots.Value) ≡ importable_use (outside_import date) false ∷ []
date-used = ap (λ held. filter_map (λ (r : Reference). r.uses) (references_in (used_in (cell (base 2) slots.Value)) held)) value
    ∙ ap (λ (part : SpelledType). filter_map (λ (r : Reference). r.uses) (part.references ++ []))
    (date-type (used_in (cell (base 2) slots.Value)))

uses : uses_in program (base 1) ≡ importable_use (outside_import date) false ∷ []
uses = ap (flat_map (uses_at program (base 1))) cells-are ∙ (λ i. none-used i ++ (date-used i ++ []))

near : near_class program (base 1) (codes "Date") ≡ None
near = simp (
  entries-are,
  holds-at (base 1) slots.Live,
  holds-at (base 1) slots.Package,
  holds-at (base 1) slots.Name,
) refl

simple : is_simple_in program (base 1) (outside_import date) ≡ true
simple = simp (uses, near) refl

imports : imports_in program (base 1) ≡ date ∷ []
imports = ap (imports_by program (base 1)) uses ∙ simp (near, set-one date) refl

-- ---- the file

abbrev no_notes : Notes
no_notes = record { front = []; head = []; tail = [] }

notes : (id : Id) → value_at program id slots.Notes ≡ Some (values.Notes no_notes) → notes_at program id ≡ no_notes
notes id is = ap notes_in is

words : (id : Id) → value_at program id slots.Words ≡ Some (values.Words (record { texts = [] })) → words_at program id ≡ []
words id is = ap words_in is

-- the type by its simple name
type-tree : (writer : Writer) → writer.is_simple (outside_import date) ≡ true
    → (declared_type writer no_locals (itypes.Imported date [])).tree ≡ types.Named (codes "Date")
type-tree writer is = ap (λ (part : SpelledType). part.tree) (date-type writer) ∙ rw is refl

abbrev date_field : Member
date_field = member.Field (record {
  front = [];
  at = 0;
  words = [];
  ty = types.Named (codes "Date");
  name = codes "a";
  init = None;
})

field-is : spelled_member program (base 1) (base 2, knowns.Field) ≡ Some date_field
field-is = ap (field_member program (base 1) (base 2)) value ∙ (λ i. Some (member.Field (record {
  front = (notes (base 2) (holds-at (base 2) slots.Notes) i).front;
  at = 0;
  words = words (base 2) (holds-at (base 2) slots.Words) i;
  ty = type-tree (unit_writer program (base 1) (cell (base 2) slots.Value)) simple i;
  name = name_in (holds-at (base 2) slots.Name i);
  init = None;
})))

fields : filter_map (spelled_member program (base 1)) (members_of program (base 1)) ≡ date_field ∷ []
fields = ap (filter_map (spelled_member program (base 1))) members ∙ ap (λ o. cons_option o []) field-is

abbrev file : Source
file = record {
  head = [];
  «package» = codes "p";
  imports = date ∷ [];
  class = record {
    front = [];
    words = [];
    name = codes "U";
    parent = None;
    members = date_field ∷ [];
    tail = [];
  };
}

file-is : unit_tree program (base 1) ≡ file
file-is i = record {
  head = (notes (base 1) (holds-at (base 1) slots.Notes) i).head;
  «package» = package_in (holds-at (base 1) slots.Package i);
  imports = imports i;
  class = record {
    front = (notes (base 1) (holds-at (base 1) slots.Notes) i).front;
    words = words (base 1) (holds-at (base 1) slots.Words) i;
    name = name_in (holds-at (base 1) slots.Name i);
    parent = parent_tree program (base 1) (no_super i);
    members = fields i;
    tail = (notes (base 1) (holds-at (base 1) slots.Notes) i).tail;
  };
}

-- as a text
text-is : unit_text file ≡ codes "package p;\n\nimport java.util.Date;\n\nclass U {\n    Date a;\n}\n"
text-is = rw (text-Named (codes "Date")) refl
