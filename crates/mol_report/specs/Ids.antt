-- The identities of a base, as they are listed.
use Rattle.std.specs.Prelude.{ℕ, List, [], ◌∷◌, ◌++◌, codes}
use Rattle.std.specs.FinMap.{get, entries}
use Rattle.std.specs.List.{flat_map}
use Rattle.std.specs.Option.{option_map_or}
use Rattle.mol_base.specs.Identity.{spelled_id}
use Rattle.mol_base.specs.declared.ident.Id.{Id}
use Rattle.mol_report.specs.Labels.{label}
use Rattle.mol_table_rules.specs.Program.{Program}
use Rattle.mol_values_types.specs.declared.known.Known.{Known}
use Rattle.mol_values_types.specs.declared.known.Known.TheVariants as knowns

-- what an identity names
abbrev pub kind_text : Known → List ℕ
kind_text knowns.Class = codes "class"
kind_text (knowns.Method kind) = codes "method"
kind_text (knowns.Decl method) = codes "decl"
kind_text knowns.Field = codes "field"
kind_text (knowns.Param method) = codes "param"

-- the method of a declaration
abbrev pub method_text : Known → List ℕ
method_text (knowns.Decl method) = codes " of " ++ spelled_id method
method_text known = []

abbrev pub line_end : Known → List ℕ
line_end known = method_text known ++ 10 ∷ []

-- an identity, what it names, its address, and for a declaration its method
abbrev pub id_line : Program → Id × Known → List ℕ
id_line base entry = spelled_id entry.0 ++ 32 ∷ kind_text entry.1 ++ 32 ∷ label base entry.0 ++ line_end entry.1

-- a line for each identity that the base knows, ascending
abbrev pub ids_text : Program → List ℕ
ids_text base = flat_map (id_line base) (entries base.known)

-- the line of an identity; none where the base does not know it
abbrev pub line_at : Program → Id → List ℕ
line_at base id = option_map_or (λ (known : Known). id_line base (id, known)) (get base.known id) []
