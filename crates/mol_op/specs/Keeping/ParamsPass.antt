-- What holds of the parameters of an operation that applies.
use Rattle.std.specs.Prelude.{◌≡◌, ◌⊎◌, ℕ, Bool, true, false, ◌||◌, not, cond, List, [], ◌∷◌, ◌++◌, map, None, Some}
use Rattle.std.proofs.Common.{refl, sym, ap, ◌∙◌, true≢false}
use mathlib.Core.Logic.{inl, inr}
use Rattle.std.proofs.lemmas.List.Folds.{list_all-append}
use Rattle.std.specs.FinMap.{get}
use Rattle.std.specs.List.{AllByRecursion, list_all, list_any, flat_map}
use Rattle.mol_base.specs.declared.ident.Id.{Id}
use Rattle.mol_table_rules.specs.Forms.{are_params, differ}
use Rattle.mol_table_rules.specs.Mentions.{Mention, param_mentions, type_mentions, a_listed_param}
use Rattle.mol_table_rules.specs.Program.{Knowns, same_id}
use Rattle.mol_table_rules.specs.Rules.{fills}
use Rattle.mol_values_types.specs.declared.known.Known.TheVariants as knowns
use Rattle.mol_values_types.specs.declared.param.Param.{Param}
use Rattle.mol_op.specs.Changes.{Name, first_name}
use Rattle.mol_op.specs.Kept.{may_be_params}
use Rattle.mol_op.specs.Operation.{Within}
use Rattle.mol_op.specs.Rows.{param_tests}
use Rattle.mol_op.specs.Seen.{named_params}
use Rattle.mol_op.specs.Tests.{Test, makes, lists, mentions_fault, is_named, test_fault, tests_fault}
use Rattle.mol_op.specs.ChangeLaws.{both-none, id_self, id_turned}
use Rattle.mol_op.specs.Laws.{new-is, list-is}
use Rattle.mol_op.specs.Names.{first-params}
use Rattle.mol_op.specs.Parts.{IsParamTest, param-step}
use Rattle.mol_op.specs.RulesKept.{fills-grows, all-more}
use Rattle.mol_op.specs.Keeping.Sets.{and-both, mentions-right}

or-false : (a b : Bool) → (a || b) ≡ false → (a ≡ false) × (b ≡ false)
or-false false b e = (refl, e)
or-false true b e = absurd (true≢false e)

-- not named, and not the one that is named last
not-named : (own : List Name) (name : Name) (id : Id) → is_named (own ++ name ∷ []) id ≡ false → (is_named own id ≡ false) × (same_id id name.0 ≡ false)
not-named [] name id e = (refl, (or-false (same_id id name.0) false e).0)
not-named (first ∷ own) name id e =
    let both = or-false (same_id id first.0) _ e in
    let rest = not-named own name id both.1 in
    (ap (λ b. b || is_named own id) both.0 ∙ rest.0, rest.1)

-- a parameter that passes: known as one of the method, or not known; and not named before
pub record Passes (known : Knowns) (method : Id) (own : List Name) (param : Param) : Type 0 where
  pub is : (get known param.id ≡ Some (knowns.Param method)) ⊎ (get known param.id ≡ None)
  pub unnamed : is_named own param.id ≡ false
  pub ty : mentions_fault known (type_mentions param.ty) ≡ None

-- no other has the identity
abbrev IsOnly : Id → List Param → Type 0
IsOnly id params = AllByRecursion (λ (param : Param). same_id param.id id ≡ false) params

module _ (tag : List ℕ) (known : Knowns) (method : Id) (test : Id → Test) (is : IsParamTest method test)
    (holds : (own : List Name) (id : Id) → test_fault tag own known (test id) ≡ None
    → ((get known id ≡ Some (knowns.Param method)) ⊎ (get known id ≡ None)) × (is_named own id ≡ false)) where
  weaker : (own : List Name) (name : Name) (params : List Param) → AllByRecursion (Passes known method (own ++ name ∷ [])) params
      → AllByRecursion (Passes known method own) params × IsOnly name.0 params
  weaker own name [] all = (tt {0}, tt {0})
  weaker own name (param ∷ params) all =
      let both = not-named own name param.id all.0.unnamed in
      let rest = weaker own name params all.1 in
      ((record { is = all.0.is; unnamed = both.0; ty = all.0.ty }, rest.0), (both.1, rest.1))

  only-differ : (id : Id) (params : List Param) → IsOnly id params → list_any (same_id id) (map (λ (param : Param). param.id) params) ≡ false
  only-differ id [] only = refl
  only-differ id (param ∷ params) only = ap (λ b. b || list_any (same_id id) (map (λ (param : Param). param.id) params)) (id_turned id param.id ∙ only.0) ∙ only-differ id params only.1

  -- all pass, and no identity stands twice
  pub params-pass : (own : List Name) (params : List Param) → tests_fault tag own known (param_tests test params) ≡ None
      → AllByRecursion (Passes known method own) params × (differ (map (λ (param : Param). param.id) params) ≡ true)
  params-pass own [] e = (tt {0}, refl)
  params-pass own (param ∷ params) e =
      let name : Name = (param.id, knowns.Param method) in
      let first = both-none (test_fault tag own known (test param.id)) _ (sym (param-step method test is tag known own param params) ∙ e) in
      let second = both-none (mentions_fault known (type_mentions param.ty)) _ first.1 in
      let here = holds own param.id first.0 in
      let rest = params-pass (own ++ name ∷ []) params second.1 in
      let others = weaker own name params rest.0 in (
        (record { is = here.0; unnamed = here.1; ty = second.0 }, others.0),
        and-both _ _ (ap not (only-differ param.id params others.1)) rest.1,
      )

pub made-holds : (tag : List ℕ) (known : Knowns) (method : Id) (own : List Name) (id : Id) → test_fault tag own known (makes (knowns.Param method) id) ≡ None
    → ((get known id ≡ Some (knowns.Param method)) ⊎ (get known id ≡ None)) × (is_named own id ≡ false)
made-holds tag known method own id e = let new = new-is tag (is_named own id) id (get known id) e in (inr new.0, new.1.1)

pub listed-holds : (tag : List ℕ) (known : Knowns) (method : Id) (own : List Name) (id : Id) → test_fault tag own known (lists method id) ≡ None
    → ((get known id ≡ Some (knowns.Param method)) ⊎ (get known id ≡ None)) × (is_named own id ≡ false)
listed-holds tag known method own id e = let is = list-is tag (is_named own id) method id (get known id) e in (by is.0, is.1) where
  by : (get known id ≡ Some (knowns.Param method)) ⊎ ((get known id ≡ None) × (id.tag ≡ tag)) → (get known id ≡ Some (knowns.Param method)) ⊎ (get known id ≡ None)
  by (inl known-as) = inl known-as
  by (inr new) = inr new.0

-- a list that may be one of parameters is one where none stands twice
pub params-formed : (params : List Param) → may_be_params params ≡ true → differ (map (λ (param : Param). param.id) params) ≡ true → are_params params ≡ true
params-formed params may apart = and-both (may_be_params params) (differ (map (λ (param : Param). param.id) params)) may apart

-- ---- what a list of parameters mentions

module _ (known more : Knowns) (within : Within known more) (method : Id) where
  type-right : (ms : List Mention) → mentions_fault known ms ≡ None → list_all (λ (mention : Mention). fills method mention.role (get more mention.id)) ms ≡ true
  type-right ms e =
      all-more _ _ (λ (mention : Mention) h. fills-grows method mention.role (get known mention.id) (get more mention.id) (within mention.id) h) ms (mentions-right known method ms e)

  -- each is known afterwards as a parameter of the method, and its type mentions what is known
  pub params-right : (own : List Name) (params : List Param) → AllByRecursion (Passes known method own) params
      → AllByRecursion (λ (param : Param). get more param.id ≡ Some (knowns.Param method)) params
      → list_all (λ (mention : Mention). fills method mention.role (get more mention.id)) (flat_map param_mentions params) ≡ true
  params-right own [] pass known-as = refl
  params-right own (param ∷ params) pass known-as =
      let right = λ (mention : Mention). fills method mention.role (get more mention.id) in
      list_all-append right (param_mentions param) (flat_map param_mentions params)
      ∙ and-both (list_all right (param_mentions param)) (list_all right (flat_map param_mentions params))
      (and-both (fills method a_listed_param (get more param.id)) (list_all right (type_mentions param.ty))
      (ap (fills method a_listed_param) known-as.0 ∙ id_self method) (type-right (type_mentions param.ty) pass.0.ty))
      (params-right own params pass.1 known-as.1)

-- ---- what parameters are known as

-- one of the parameters has this identity
any-param : (params : List Param) → AllByRecursion (λ (param : Param). list_any (λ (other : Param). same_id param.id other.id) params ≡ true) params
any-param params = each-param params params (λ q e. e) where
  any-later : (b c : Bool) → c ≡ true → (b || c) ≡ true
  any-later true c e = refl
  any-later false c e = e

  each-param : (all rest : List Param) → ((q : Id) → list_any (λ (other : Param). same_id q other.id) rest ≡ true → list_any (λ (other : Param). same_id q other.id) all ≡ true)
      → AllByRecursion (λ (param : Param). list_any (λ (other : Param). same_id param.id other.id) all ≡ true) rest
  each-param all [] more = tt {0}
  each-param all (param ∷ rest) more = (
    more param.id (ap (λ b. b || list_any (λ (other : Param). same_id param.id other.id) rest) (id_self param.id)),
    each-param all rest (λ q e. more q (any-later (same_id q param.id) _ e)),
  )

-- a name for each of the parameters
pub each-first : (method : Id) (params : List Param) → AllByRecursion (λ (param : Param). first_name (named_params method params) param.id ≡ Some (knowns.Param method)) params
each-first method params = through params (any-param params) where
  through : (rest : List Param) → AllByRecursion (λ (param : Param). list_any (λ (other : Param). same_id param.id other.id) params ≡ true) rest
      → AllByRecursion (λ (param : Param). first_name (named_params method params) param.id ≡ Some (knowns.Param method)) rest
  through [] all = tt {0}
  through (param ∷ rest) all = (first-params method params param.id ∙ ap (λ b. cond b (Some (knowns.Param method)) None) all.0, through rest all.1)
