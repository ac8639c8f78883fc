-- The topmost declarations of methods, and their places among all members.
use Rattle.std.specs.Prelude.{ℕ, List, map}
use Rattle.std.specs.Option.{option_map_or}
use Rattle.jav_names.specs.UnitViews.{MemberKey}
use Rattle.jav_names.specs.Views.{ViewDeclaration, View}
use Rattle.jav_scope.specs.Entries.{view_in}
use Rattle.jav_scope.specs.declared.source.SourceUnit.{SourceUnit}
use Rattle.mol_resolve_rules.specs.Files.{declaration_at}
use Rattle.mol_resolve_rules.specs.Numbering.{topmost}
use Rattle.mol_resolve_members.specs.numbers.Members.{keys_of, place_of}

-- the key of the topmost declaration of its method; of a field its own
abbrev pub top_key : View ℕ MemberKey → MemberKey → MemberKey
top_key view key =
    option_map_or (λ (declared : ViewDeclaration ℕ MemberKey). (topmost view declared).key) (declaration_at view key) key

-- of each member the place of that
abbrev pub tops_of : List SourceUnit → List ℕ
tops_of sources = map (λ key. place_of sources (top_key (view_in sources) key)) (keys_of sources)
