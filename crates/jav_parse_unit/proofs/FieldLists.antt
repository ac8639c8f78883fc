-- The fields of a declaration, added at the end.
use Rattle.std.proofs.Common.{◌≡◌, ℕ, List, [], ◌∷◌, ◌++◌, Option, Some, None, refl, ap}
use Rattle.std.specs.Prelude.{unwrap_or}
use Rattle.jav_tree.specs.declared.types.TypeName.{TypeName}
use Rattle.jav_parse_stmt.specs.declared.local.Variable.{Variable}
use Rattle.jav_parse_unit.specs.declared.member.Front.{Front}
use Rattle.jav_parse_unit.specs.declared.words.Words.{Words as Modifiers}
use Rattle.jav_parse_unit.specs.MemberRules.{field_of, further_fields, fields_of}

-- the comments and the place of the next field after these
abbrev pub next_notes : Front → List Variable → List (List ℕ)
next_notes front [] = front.notes
next_notes front (v ∷ vs) = []

abbrev pub next_at : Front → List Variable → Option ℕ
next_at front [] = Some front.at
next_at front (v ∷ vs) = None

further : (w : Modifiers) (to : TypeName) (vs : List Variable) (v : Variable) → further_fields w to (vs ++ v ∷ []) ≡ further_fields w to vs ++ field_of [] v.at w to v ∷ []
further w to [] v = refl
further w to (u ∷ vs) v = ap (λ ms. field_of [] u.at w to u ∷ ms) (further w to vs v)

pub one_field : (front : Front) (to : TypeName) (vs : List Variable) (v : Variable)
    → fields_of front to (vs ++ v ∷ []) ≡ fields_of front to vs ++ field_of (next_notes front vs) (unwrap_or (next_at front vs) v.at) front.words to v ∷ []
one_field front to [] v = refl
one_field front to (u ∷ vs) v = ap (λ ms. field_of front.notes front.at front.words to u ∷ ms) (further front.words to vs v)

pub no_notes : (front : Front) (vs : List Variable) (v : Variable) → [] ≡ next_notes front (vs ++ v ∷ [])
no_notes front [] v = refl
no_notes front (u ∷ vs) v = refl

pub no_place : (front : Front) (vs : List Variable) (v : Variable) → None ≡ next_at front (vs ++ v ∷ [])
no_place front [] v = refl
no_place front (u ∷ vs) v = refl
