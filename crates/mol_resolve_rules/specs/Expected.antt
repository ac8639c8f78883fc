-- What source files say of each of their classes, members, methods and parameters: what it is known as, and what its cells hold.
use Rattle.std.specs.Prelude.{ℕ, Bool, true, List, [], ◌∷◌, map, Option, Some, None, option_map, slice_get, codes}
use Rattle.std.specs.List.{zip}
use Rattle.std.specs.Option.{option_and_then}
use Rattle.mol_base.specs.declared.ident.Id.{Id}
use Rattle.mol_values_types.specs.declared.cell.Slot.{Slot}
use Rattle.mol_values_types.specs.declared.cell.Slot.TheVariants as slots
use Rattle.mol_values_types.specs.declared.iexpr.IExpr.{IExpr}
use Rattle.mol_values_types.specs.declared.itype.IType.{IType, fold-IType}
use Rattle.mol_values_types.specs.declared.itype.IType.TheOpen.{IType-F}
use Rattle.mol_values_types.specs.declared.itype.IType.TheVariants as types
use Rattle.mol_values_types.specs.declared.kind.MethodKind.{MethodKind}
use Rattle.mol_values_types.specs.declared.kind.MethodKind.TheVariants.{Instance, Static, Constructor}
use Rattle.mol_values_types.specs.declared.known.Known.{Known}
use Rattle.mol_values_types.specs.declared.known.Known.TheVariants as knowns
use Rattle.mol_values_types.specs.declared.param.Param.{Param as Listed}
use Rattle.mol_values_types.specs.declared.value.Value.{Value}
use Rattle.mol_values_types.specs.declared.value.Value.TheVariants as values
use Rattle.mol_values_types.specs.declared.words.Notes.{Notes}
use Rattle.jav_tree.specs.declared.types.TypeName.{TypeName}
use Rattle.jav_tree.specs.declared.unit.Member.{Member}
use Rattle.jav_tree.specs.declared.unit.Member.TheVariants as member
use Rattle.jav_tree.specs.declared.unit.Param.{Param}
use Rattle.jav_names.specs.DottedNames.{Name}
use Rattle.jav_names.specs.Members.{is_object_method}
use Rattle.jav_names.specs.UnitViews.{MemberKey}
use Rattle.jav_names.specs.Views.{DeclarationKind, instance_method, static_method, constructor, ViewDeclaration}
use Rattle.mol_resolve_rules.specs.Files.{File, Files, files_view, params_of, place_of_member, declaration_at, PlacedMember, member_at}
use Rattle.mol_resolve_rules.specs.Numbering.{Numbered, numbered_class, numbered_member, numbered_method, numbered_param, id_at, ids_of}
use Rattle.mol_resolve_rules.specs.Readers.{Reader}
use Rattle.mol_resolve_rules.specs.ReadFiles.{file_reader, member_reader, declared_ids, read_field, read_params, read_block}
use Rattle.mol_resolve_rules.specs.ReadStatements.{read_body}
use Rattle.mol_resolve_rules.specs.ReadTypes.{ReadType, read_type}

-- ---- fillers

-- what a call gives for a parameter that is added later: `0`, `'\0'` (by its bytes), `false` or `null`
abbrev pub filler_step : IType-F Name → Name
filler_step IType-F.Boolean = codes "false"
filler_step IType-F.Byte = codes "0"
filler_step IType-F.Short = codes "0"
filler_step IType-F.Int = codes "0"
filler_step IType-F.Long = codes "0"
filler_step IType-F.Char = 39 ∷ 92 ∷ 48 ∷ 39 ∷ []
filler_step reference = codes "null"

abbrev pub filler_of : IType → Name
filler_of = fold-IType Name filler_step

-- ---- what it is known as

abbrev pub kind_of : DeclarationKind → MethodKind
kind_of instance_method = Instance
kind_of static_method = Static
kind_of constructor = Constructor

-- a declaration is one of its method, and what is none is a field
abbrev pub member_known : Files → Option (ViewDeclaration ℕ MemberKey) → Known
member_known files None = knowns.Field
member_known files (Some declared) = knowns.Decl ((ids_of files).method_id declared)

abbrev pub known_of : Files → Numbered → Option Known
known_of files (numbered_class number) = Some knowns.Class
known_of files (numbered_member key) = option_map (λ (at : PlacedMember). member_known files at.declared) (member_at files key)
known_of files (numbered_method key) =
    option_map (λ (declared : ViewDeclaration ℕ MemberKey). knowns.Method (kind_of declared.kind)) (declaration_at (files_view files) key)
known_of files (numbered_param key place) = Some (knowns.Param (id_at files (numbered_method key)))

-- ---- cells of classes

abbrev pub super_cell : Files → ℕ × File → Option TypeName → Option Value
super_cell files file None = Some (values.Super None)
super_cell files file (Some name) =
    option_map (λ (read : ReadType ℕ). values.Super (Some read.tree)) (read_type (file_reader files file) 0 name).value

abbrev pub cell_of_class : Files → ℕ → Slot → File → Option Value
cell_of_class files number slots.Live file = Some (values.Live true)
cell_of_class files number slots.Package file = Some (values.Package file.unit.«package»)
cell_of_class files number slots.Name file = Some (values.Name file.unit.class.name)
cell_of_class files number slots.Super file = super_cell files (number, file) file.unit.class.parent
cell_of_class files number slots.Words file = Some (values.Words (record { texts = file.unit.class.words }))
cell_of_class files number slots.Notes file =
    Some (values.Notes (record { front = file.unit.class.front; head = file.unit.head; tail = file.unit.class.tail }))
cell_of_class files number slot file = None

-- ---- cells of fields and declarations

abbrev pub name_of_member : Member → Name
name_of_member (member.Field f) = f.name
name_of_member (member.Method m) = m.name
name_of_member (member.Ctor c) = []

abbrev pub words_of_member : Member → List Name
words_of_member (member.Field f) = f.words
words_of_member (member.Method m) = m.words
words_of_member (member.Ctor c) = c.words

abbrev pub front_of_member : Member → List Name
front_of_member (member.Field f) = f.front
front_of_member (member.Method m) = m.front
front_of_member (member.Ctor c) = c.front

-- comments stand before a member alone
abbrev pub notes_of : List Name → Notes
notes_of front = record { front = front; head = []; tail = [] }

-- a field has none
abbrev pub body_cell : Reader ℕ MemberKey → Member → Option Value
body_cell reader (member.Field f) = None
body_cell reader (member.Method m) = option_map (λ body. values.Body body) (read_block reader m.block).value
body_cell reader (member.Ctor c) = option_map (λ body. values.Body (Some body)) (read_body reader c.block).value

abbrev pub value_cell : Reader ℕ MemberKey → Member → Option Value
value_cell reader (member.Field f) =
    option_map (λ (parts : ReadType ℕ × Option IExpr). values.Value parts.0.tree parts.1) (read_field reader f).value
value_cell reader declaration = None

abbrev pub method_cell : Files → Option (ViewDeclaration ℕ MemberKey) → Option Value
method_cell files None = None
method_cell files (Some declared) = Some (values.Method ((ids_of files).method_id declared))

abbrev pub cell_of_member : Files → Slot → PlacedMember → Option Value
cell_of_member files slots.Live at = Some (values.Live true)
cell_of_member files slots.Owner at = Some (values.Owner (id_at files (numbered_class at.number)))
cell_of_member files slots.Method at = method_cell files at.declared
cell_of_member files slots.Name at = Some (values.Name (name_of_member at.member))
cell_of_member files slots.Words at = Some (values.Words (record { texts = words_of_member at.member }))
cell_of_member files slots.Notes at = Some (values.Notes (notes_of (front_of_member at.member)))
cell_of_member files slots.Body at = body_cell (member_reader files at) at.member
cell_of_member files slots.Value at = value_cell (member_reader files at) at.member
cell_of_member files slot at = None

-- ---- cells of methods, by their topmost declarations

abbrev pub result_cell : Reader ℕ MemberKey → Member → Option Value
result_cell reader (member.Method m) =
    option_map (λ (read : ReadType ℕ). values.Result read.tree) (read_type reader m.at m.result).value
result_cell reader member = Some (values.Result types.Void)

-- an identity, and a parameter with its type as it is read
abbrev pub listed : Id × (Param × ReadType ℕ) → Listed
listed param = record { id = param.0; name = param.1.0.name; ty = param.1.1.tree; filler = filler_of param.1.1.tree }

abbrev pub params_cell : Files → PlacedMember → Option Value
params_cell files at = option_map
    (λ read. values.Params (map listed (zip (declared_ids files at.declared) (zip (params_of at.member) read))))
    (read_params (member_reader files at) (place_of_member at.member) (params_of at.member)).value

-- A method's name and number of parameters may be those of one of `java.lang.Object`; a constructor's never are.
abbrev pub is_fixed : ViewDeclaration ℕ MemberKey → Bool
is_fixed declared = is_object_method declared.name declared.arity

abbrev pub declared_cell : (ViewDeclaration ℕ MemberKey → Value) → PlacedMember → Option Value
declared_cell value at = option_map value at.declared

abbrev pub cell_of_method : Files → Slot → PlacedMember → Option Value
cell_of_method files slots.Name at = Some (values.Name (name_of_member at.member))
cell_of_method files slots.Result at = result_cell (member_reader files at) at.member
cell_of_method files slots.Params at = params_cell files at
cell_of_method files slots.Kind at = declared_cell (λ declared. values.Kind (kind_of declared.kind)) at
cell_of_method files slots.Fixed at = declared_cell (λ declared. values.Fixed (is_fixed declared)) at
cell_of_method files slot at = None

-- ---- all cells

-- What a cell is to hold, where there is such a cell; nothing, where a name in it has no meaning.
abbrev pub value_of : Files → Numbered → Slot → Option Value
value_of files (numbered_class number) slot = option_and_then (cell_of_class files number slot) (slice_get files number)
value_of files (numbered_member key) slot = option_and_then (cell_of_member files slot) (member_at files key)
value_of files (numbered_method key) slot = option_and_then (cell_of_method files slot) (member_at files key)
value_of files (numbered_param key place) slot = None
