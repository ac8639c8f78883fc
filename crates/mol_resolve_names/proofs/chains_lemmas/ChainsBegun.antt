-- What names begin with, by what the look-up of the first of them answers.
use Rattle.std.proofs.Common.{◌≡◌, ℕ, suc, ◌||◌, Bool, true, false, [], ◌∷◌, length, Option, Some, None, option_map, is_some, refl, sym, ◌∙◌}
use Rattle.std.proofs.lemmas.List.{append-nil}
use Rattle.std.proofs.lemmas.Option.{same_Some}
use Rattle.jav_scope.specs.Answers.{leftmost_answered}
use Rattle.jav_scope.specs.declared.found.Found.TheVariants as answer
use Rattle.jav_scope.specs.declared.found.Leftmost.TheVariants as answer_of
use Rattle.jav_scope.specs.declared.found.VarRef.{VarRef}
use Rattle.jav_names.specs.DottedNames.{Name, Names, Dotted}
use Rattle.jav_names.specs.Leftmost.{Leftmost, leftmost_variable, leftmost_class, leftmost_import, leftmost_outside}
use Rattle.jav_names.specs.LookUps.{field_from, first_place, last_place, leftmost, leftmost_type, local_or, simple_type, variable_or}
use Rattle.jav_names.specs.UnitViews.{MemberKey}
use Rattle.jav_names.specs.Variables.{Place}
use Rattle.jav_names.specs.Views.{Found, View}
use Rattle.mol_resolve_names.specs.chains.Spelled.{spelled}
use Rattle.mol_resolve_readings.specs.reads.Chains.{chain_by, chain_of}
use Rattle.mol_resolve_readings.specs.declared.reads.chain.Chain.{Chain}
use Rattle.mol_resolve_readings.specs.declared.reads.chain.Chain.TheVariants as chain
use Rattle.mol_resolve_rules.specs.Locals.{Locals}
use Rattle.mol_resolve_rules.specs.Readers.{Reader, place_of}

module _ (count : ℕ) where
  pub class-begun : (read : Leftmost ℕ MemberKey) (class spelling : ℕ)
      → answer.Found (answer_of.Class class spelling) ≡ leftmost_answered read → chain.Class class spelling count ≡ chain_by count read
  class-begun (leftmost_class key names) class spelling is =
      let same : class ≡ key = cc in
      let many : spelling ≡ names = cc in
      λ i. chain.Class (same i) (many i) count
  class-begun (leftmost_variable variable) class spelling is = absurd cc
  class-begun (leftmost_import import) class spelling is = absurd cc
  class-begun leftmost_outside class spelling is = absurd cc

  pub variable-begun : (read : Leftmost ℕ MemberKey) (variable : VarRef) → answer.Found (answer_of.Var variable) ≡ leftmost_answered read
      → chain.NoClass ≡ chain_by count read
  variable-begun (leftmost_class key names) variable is = absurd cc
  variable-begun (leftmost_variable read) variable is = refl
  variable-begun (leftmost_import import) variable is = refl
  variable-begun leftmost_outside variable is = refl

  pub outside-begun : (read : Leftmost ℕ MemberKey) → answer.Outside ≡ leftmost_answered read → chain.NoClass ≡ chain_by count read
  outside-begun (leftmost_class key names) is = absurd cc
  outside-begun (leftmost_variable read) is = refl
  outside-begun (leftmost_import import) is = refl
  outside-begun leftmost_outside is = refl

  pub nothing-begun : (read : Leftmost ℕ MemberKey) → answer.NotFound ≡ leftmost_answered read → chain.NoClass ≡ chain_by count read
  nothing-begun (leftmost_class key names) is = absurd cc
  nothing-begun (leftmost_variable read) is = refl
  nothing-begun (leftmost_import import) is = refl
  nothing-begun leftmost_outside is = refl

module _ (view : View ℕ MemberKey) (place : Place ℕ) (first : Name) (rest : Names) where
  abbrev is_declared : Bool
  is_declared = is_some (last_place first place.locals) || is_some (first_place first place.params)

  abbrev bare : Place ℕ
  bare = record place { locals = []; params = [] }

  abbrev otherwise : Leftmost ℕ MemberKey
  otherwise = leftmost_type view.classes first rest (simple_type view.classes place.header first)

  -- a local or a parameter is no class
  pub declared-begun : (count : ℕ) → is_declared ≡ true → chain.NoClass ≡ chain_by count (leftmost view place first rest)
  declared-begun count = by (last_place first place.locals) (first_place first place.params) where
    by : (local parameter : Option ℕ) → is_some local || is_some parameter ≡ true
        → chain.NoClass ≡ chain_by count (variable_or (local_or local parameter (field_from view place.class first)) otherwise)
    by (Some place) parameter is = refl
    by None (Some place) is = refl
    by None None is = absurd cc

  -- without these the first name reads the same
  pub undeclared-begun : is_declared ≡ false → leftmost view place first rest ≡ leftmost view bare first rest
  undeclared-begun = by (last_place first place.locals) (first_place first place.params) where
    by : (local parameter : Option ℕ) → is_some local || is_some parameter ≡ false
        → variable_or (local_or local parameter (field_from view place.class first)) otherwise
        ≡ variable_or (local_or None None (field_from view place.class first)) otherwise
    by (Some place) parameter is = absurd cc
    by None (Some place) is = absurd cc
    by None None is = refl

-- what all of them begin with
pub whole-begun : (reader : Reader ℕ MemberKey) (view : View ℕ MemberKey) (locals : Locals ℕ) (names : Names) (dotted : Option Dotted)
    (begun : Chain) → reader.view ≡ view → Some names ≡ option_map spelled dotted
    → ((first : Name) (rest : Names) → names ≡ first ∷ rest
    → begun ≡ chain_by (suc (length rest)) (leftmost view (place_of reader locals) first rest))
    → begun ≡ chain_of reader locals dotted []
whole-begun reader view locals names None begun same is by = absurd cc
whole-begun reader view locals names (Some dotted) begun same is by =
    by dotted.first dotted.rest (same_Some names (spelled dotted) is)
    ∙ (λ i. chain_by (suc (length dotted.rest))
    (leftmost (sym same i) (place_of reader locals) dotted.first (sym (append-nil dotted.rest) i)))

pub no_names : (reader : Reader ℕ MemberKey) (locals : Locals ℕ) (dotted : Option Dotted) → None ≡ option_map spelled dotted
    → chain.NoNames ≡ chain_of reader locals dotted []
no_names reader locals None is = refl
no_names reader locals (Some dotted) is = absurd cc
