-- What lists of names say, item by item.
use Rattle.std.specs.Prelude.{◌≡◌, ℕ, ◌+◌, ◌<◌, Bool, true, false, ◌||◌, cond, List, [], ◌∷◌, ◌++◌, drop, length, None, Some, is_some}
use Rattle.std.proofs.Common.{suc, refl, sym, ap, ◌∙◌, arith, get_or}
use Rattle.std.proofs.Math.Seq.{drop-cons}
use Rattle.std.specs.List.{list_any}
use Rattle.std.specs.Option.{option_or}
use Rattle.mol_base.specs.declared.ident.Id.{Id}
use Rattle.mol_table_rules.specs.Program.{same_id}
use Rattle.mol_values_types.proofs.Ties.{id_ties, any_tied}
use Rattle.mol_values_types.specs.Order.{id_eq}
use Rattle.mol_values_types.specs.declared.known.Known.{Known}
use Rattle.mol_values_types.specs.declared.known.Known.TheVariants as knowns
use Rattle.mol_values_types.specs.declared.param.Param.{Param}
use Rattle.mol_op.specs.Changes.{Name, first_name}
use Rattle.mol_op.specs.ChangeLaws.{first-append}
use Rattle.mol_op.specs.Seen.{named_params}

-- a list from a place on begins with the item at that place
pub drop-item : {A : Type 0} (xs : List A) (i : ℕ) (x : A) → i < length xs → x ≡ get_or xs i x → drop i xs ≡ x ∷ drop (i + 1) xs
drop-item xs i x within is =
    let next : suc i ≡ i + 1 = omega arith in
    drop-cons xs i x within ∙ ap (λ y. y ∷ drop (suc i) xs) (sym is) ∙ ap (λ k. x ∷ drop k xs) next

pub first-found : (names : List Name) (id : Id) (k : ℕ) (name : Name) → k < length names → name ≡ get_or names k name → id_eq id name.0 ≡ true
    → Some name.1 ≡ first_name (drop k names) id
first-found names id k name within is found =
    sym (ap (λ ns. first_name ns id) (drop-item names k name within is) ∙ ap (λ b. cond b (Some name.1) (first_name (drop (k + 1) names) id)) (sym (id_ties id name.0) ∙ found))

pub first-next : (names : List Name) (id : Id) (k : ℕ) (name : Name) → k < length names → name ≡ get_or names k name → id_eq id name.0 ≡ false
    → first_name (drop (k + 1) names) id ≡ first_name (drop k names) id
first-next names id k name within is other =
    sym (ap (λ ns. first_name ns id) (drop-item names k name within is) ∙ ap (λ b. cond b (Some name.1) (first_name (drop (k + 1) names) id)) (sym (id_ties id name.0) ∙ other))

cond-or : (a b : Bool) (what : Known) → cond a (Some what) (cond b (Some what) None) ≡ cond (a || b) (Some what) None
cond-or true b what = refl
cond-or false b what = refl

-- parameters of a method are known as its
pub first-params : (method : Id) (params : List Param) (id : Id)
    → first_name (named_params method params) id ≡ cond (list_any (λ (param : Param). same_id id param.id) params) (Some (knowns.Param method)) None
first-params method [] id = refl
first-params method (param ∷ params) id =
    ap (cond (same_id id param.id) (Some (knowns.Param method))) (first-params method params id)
    ∙ cond-or (same_id id param.id) (list_any (λ (param : Param). same_id id param.id) params) (knowns.Param method)

-- the same, as the code compares identities
pub params_known : (method : Id) (params : List Param) (id : Id)
    → first_name (named_params method params) id ≡ cond (list_any (λ (param : Param). id_eq id param.id) params) (Some (knowns.Param method)) None
params_known method params id =
    first-params method params id ∙ ap (λ b. cond b (Some (knowns.Param method)) None) (sym (any_tied (λ (param : Param). param.id) id params))

-- what is added: one of the entities, else one of the parameters
pub first-added : (entities : List Name) (method : Id) (params : List Param) (id : Id)
    → first_name (entities ++ named_params method params) id
    ≡ option_or (first_name entities id) (cond (list_any (λ (param : Param). id_eq id param.id) params) (Some (knowns.Param method)) None)
first-added entities method params id =
    first-append entities (named_params method params) id ∙ ap (option_or (first_name entities id)) (params_known method params id)

-- names that say something of an identity have it
pub some_named : (names : List Name) (id : Id) → is_some (first_name names id) ≡ list_any (λ (name : Name). id_eq id name.0) names
some_named [] id = refl
some_named (name ∷ names) id = by (same_id id name.0) (sym (id_ties id name.0)) (some_named names id) where
  by : (b : Bool) → b ≡ id_eq id name.0 → is_some (first_name names id) ≡ list_any (λ (name : Name). id_eq id name.0) names
      → is_some (cond b (Some name.1) (first_name names id)) ≡ (id_eq id name.0 || list_any (λ (name : Name). id_eq id name.0) names)
  by true t rest = ap (λ b. b || list_any (λ (name : Name). id_eq id name.0) names) t
  by false t rest = rest ∙ ap (λ b. b || list_any (λ (name : Name). id_eq id name.0) names) t
