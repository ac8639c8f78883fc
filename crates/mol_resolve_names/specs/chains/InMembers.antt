-- Where names stand in the members of source files.
use Rattle.std.specs.Prelude.{ℕ, Bool, List, map}
use Rattle.std.specs.Str.{bytes_eq}
use Rattle.jav_scope.specs.declared.source.SourceUnit.{SourceUnit}
use Rattle.jav_names.specs.seen.Kept.{view_type}
use Rattle.jav_names.specs.DottedNames.{Name, Names}
use Rattle.jav_names.specs.UnitViews.{MemberKey}
use Rattle.mol_resolve_names.specs.declared.chains.parameter.Parameter.{Parameter as Kept}
use Rattle.mol_resolve_members.specs.sources.Sources.{file_of, files_of}
use Rattle.mol_resolve_rules.specs.Readers.{Parameter, Reader}
use Rattle.mol_resolve_rules.specs.ReadFiles.{file_reader}

abbrev pub view_param : Kept → Parameter ℕ
view_param param = record { name = param.name; type = view_type param.ty; id = param.id }

abbrev pub has_name : Name → Kept → Bool
has_name name param = bytes_eq param.name name

abbrev pub names_of_params : List Kept → Names
names_of_params params = map (λ (param : Parameter ℕ). param.name) (map view_param params)

-- in the file of this number, which is this one, in a member with these parameters
abbrev pub reader_in : List SourceUnit → ℕ → SourceUnit → List Kept → Bool → Reader ℕ MemberKey
reader_in sources unit source params in_constructor = record (file_reader (files_of sources) (unit, file_of source)) {
  params = map view_param params;
  in_constructor = in_constructor;
}
