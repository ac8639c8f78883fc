-- The names in source files, read file by file: what is met in trees.
use Rattle.std.specs.Prelude.{ℕ, Bool, true, false, List, [], ◌∷◌, ◌++◌, map, Option, Some, None, option_map, if◌then◌else◌, ◌||◌}
use Rattle.std.specs.List.{flat_map, list_any, zip}
use Rattle.std.specs.Option.{option_map_or}
use Rattle.std.specs.Str.{bytes_eq}
use Rattle.mol_base.specs.declared.ident.Id.{Id}
use Rattle.jav_tree.specs.declared.stmt.Block.{Block}
use Rattle.jav_tree.specs.declared.unit.Field.{Field}
use Rattle.jav_tree.specs.declared.unit.Member.{Member}
use Rattle.jav_tree.specs.declared.unit.Member.TheVariants as member
use Rattle.jav_tree.specs.declared.unit.Param.{Param}
use Rattle.jav_names.specs.DottedNames.{Names}
use Rattle.jav_names.specs.UnitViews.{MemberKey, header_of, numbered}
use Rattle.jav_names.specs.Views.{ViewDeclaration}
use Rattle.mol_resolve_rules.specs.FaultKinds.{redeclared}
use Rattle.mol_resolve_rules.specs.Files.{File, Files, files_view, params_of, PlacedMember, placed}
use Rattle.mol_resolve_rules.specs.Numbering.{ids_of}
use Rattle.mol_resolve_rules.specs.Outcomes.{TreeFault, Outcome, both, all, maybe}
use Rattle.mol_resolve_rules.specs.Readers.{Parameter, Reader}
use Rattle.mol_resolve_rules.specs.ReadStatements.{read_initial, read_body}
use Rattle.mol_resolve_rules.specs.ReadTypes.{ReadType, read_type, seen_type}
use Rattle.mol_values_types.specs.declared.iblock.IBody.{IBody}
use Rattle.mol_values_types.specs.declared.iexpr.IExpr.{IExpr}

-- ---- readers

-- outside of methods and constructors of a file
abbrev pub file_reader : Files → ℕ × File → Reader ℕ MemberKey
file_reader files file = record {
  view = files_view files;
  ids = ids_of files;
  header = header_of (file.0, file.1.unit);
  class = file.0;
  params = [];
  in_constructor = false;
}

abbrev pub parameter_of : Reader ℕ MemberKey → Id × Param → Parameter ℕ
parameter_of reader param = record { name = param.1.name; type = seen_type reader param.1.ty; id = param.0 }

abbrev pub declared_ids : Files → Option (ViewDeclaration ℕ MemberKey) → List Id
declared_ids files None = []
declared_ids files (Some declared) = (ids_of files).param_ids declared

abbrev pub is_constructor_member : Member → Bool
is_constructor_member (member.Field f) = false
is_constructor_member (member.Method m) = false
is_constructor_member (member.Ctor c) = true

-- in a member
abbrev pub member_reader : Files → PlacedMember → Reader ℕ MemberKey
member_reader files at = record (file_reader files (at.number, at.file)) {
  params = map (parameter_of (file_reader files (at.number, at.file))) (zip (declared_ids files at.declared) (params_of at.member));
  in_constructor = is_constructor_member at.member;
}

-- ---- what a member says

abbrev pub read_field : Reader ℕ MemberKey → Field → Outcome (ReadType ℕ × Option IExpr)
read_field reader field = both (read_type reader field.at field.ty) (read_initial reader field.init)

-- the types of a list of parameters
abbrev pub read_params : Reader ℕ MemberKey → ℕ → List Param → Outcome (List (ReadType ℕ))
read_params reader at params = all (map (λ (param : Param). read_type reader at param.ty) params)

-- a body, if a method has one
abbrev pub read_block : Reader ℕ MemberKey → Option Block → Outcome (Option IBody)
read_block reader block = maybe (option_map (read_body reader) block)

-- ---- faults of a member

-- whether two of these names are one
abbrev pub is_repeated : Names → Bool
is_repeated [] = false
is_repeated (name ∷ names) = list_any (bytes_eq name) names || is_repeated names

-- No two parameters have one name (JLS 8.4.1).
abbrev pub repeated_faults : ℕ → List Param → List TreeFault
repeated_faults at params =
    if is_repeated (map (λ (param : Param). param.name) params) then record { kind = redeclared; at = at } ∷ [] else []

-- What is met in a member whose trees are read so. Each of its parts tells what it meets, whatever the others come to.
abbrev pub faults_in : Reader ℕ MemberKey → Member → List TreeFault
faults_in reader (member.Field f) = (read_field reader f).faults
faults_in reader (member.Method m) = (read_type reader m.at m.result).faults ++ (read_params reader m.at m.params).faults
    ++ repeated_faults m.at m.params ++ (read_block reader m.block).faults
faults_in reader (member.Ctor c) =
    (read_params reader c.at c.params).faults ++ repeated_faults c.at c.params ++ (read_body reader c.block).faults

abbrev pub member_faults : Files → PlacedMember → List TreeFault
member_faults files at = faults_in (member_reader files at) at.member

-- ---- faults of a file

-- a superclass has its place at the beginning of the file
abbrev pub superclass_faults : Files → ℕ × File → List TreeFault
superclass_faults files file = option_map_or (λ type. (read_type (file_reader files file) 0 type).faults) file.1.unit.class.parent []

abbrev pub tree_faults : Files → ℕ × File → List TreeFault
tree_faults files file =
    superclass_faults files file ++ flat_map (λ member. member_faults files (placed files file member)) (numbered file.1.unit.class.members)
