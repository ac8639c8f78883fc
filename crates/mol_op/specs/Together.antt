-- Two operations with nothing in common.
use Rattle.std.specs.Prelude.{◌≡◌, ◌⊎◌, Bool, true, false, cond, List, [], ◌∷◌, Option, None, Some, is_some}
use Rattle.std.proofs.Common.{refl, sym, ap, ◌∙◌, true≢false}
use mathlib.Core.Logic.{inl, inr}
use Rattle.std.specs.FinMap.{get}
use Rattle.std.specs.List.{AllByRecursion}
use Rattle.std.specs.Option.{option_or}
use Rattle.mol_base.specs.declared.ident.Id.{Id}
use Rattle.mol_table_rules.specs.Program.{Program, Knowns, same_id}
use Rattle.mol_values_types.specs.declared.known.Known.{Known}
use Rattle.mol_op.specs.Changes.{Write, Name, put_all, know_all, written, last_write, first_name}
use Rattle.mol_op.specs.Operation.{StayNew, AreApart}
use Rattle.mol_op.specs.ChangeLaws.{id_self, or-none, get-know_all, get-put_all, same_known, same_cells}

pub each : {X : Type 0} (P Q : X → Type 0) → ((x : X) → P x → Q x) → (xs : List X) → AllByRecursion P xs → AllByRecursion Q xs
each P Q gives [] all = tt {0}
each P Q gives (x ∷ xs) all = (gives x all.0, each P Q gives xs all.1)

-- the names say something of each identity that they name
pub each-named : (names : List Name) → AllByRecursion (λ name. is_some (first_name names name.0) ≡ true) names
each-named [] = tt {0}
each-named (name ∷ names) = (
  ap (λ b. is_some (cond b (Some name.1) (first_name names name.0))) (id_self name.0),
  each _ _ (λ later some. earlier (same_id later.0 name.0) (first_name names later.0) some) names (each-named names),
) where
  earlier : (b : Bool) (o : Option Known) → is_some o ≡ true → is_some (cond b (Some name.1) o) ≡ true
  earlier true o some = refl
  earlier false o some = some

turned-values : {X : Type 0} (a b c : Option X) → (a ≡ None) ⊎ (b ≡ None) → option_or a (option_or b c) ≡ option_or b (option_or a c)
turned-values a b c (inl none) = ap (λ o. option_or o (option_or b c)) none ∙ sym (ap (λ o. option_or b (option_or o c)) none)
turned-values a b c (inr none) = ap (λ o. option_or a (option_or o c)) none ∙ sym (ap (λ o. option_or o (option_or a c)) none)

turned-names : {X : Type 0} (was a b : Option X) → (was ≡ None → (a ≡ None) ⊎ (b ≡ None))
    → option_or (option_or was a) b ≡ option_or (option_or was b) a
turned-names (Some x) a b apart = refl
turned-names None a b apart = by (apart refl) where
  by : (a ≡ None) ⊎ (b ≡ None) → option_or a b ≡ option_or b a
  by (inl none) = ap (λ o. option_or o b) none ∙ sym (ap (option_or b) none ∙ or-none b)
  by (inr none) = ap (option_or a) none ∙ or-none a ∙ sym (ap (λ o. option_or o a) none)

module _ (program : Program) (writes : List Write) (names : List Name) (others : List Write) (other_names : List Name)
    (apart : AreApart program.known writes names others other_names) where
  known-turned : know_all (know_all program.known names) other_names ≡ know_all (know_all program.known other_names) names
  known-turned = same_known _ _ (λ id.
      get-know_all other_names (know_all program.known names) id
      ∙ ap (λ o. option_or o (first_name other_names id)) (get-know_all names program.known id)
      ∙ turned-names (get program.known id) (first_name names id) (first_name other_names id) (apart.new id)
      ∙ sym (get-know_all names (know_all program.known other_names) id
      ∙ ap (λ o. option_or o (first_name names id)) (get-know_all other_names program.known id)))

  cells-turned : put_all (put_all program.cells writes) others ≡ put_all (put_all program.cells others) writes
  cells-turned = same_cells _ _ (λ at.
      get-put_all others (put_all program.cells writes) at
      ∙ ap (option_or (last_write others at)) (get-put_all writes program.cells at)
      ∙ sym (turned-values (last_write writes at) (last_write others at) (get program.cells at) (apart.cells at))
      ∙ sym (get-put_all writes (put_all program.cells others) at
      ∙ ap (option_or (last_write writes at)) (get-put_all others program.cells at)))

  -- they leave the same in either order
  pub either-order : written (written program writes names) others other_names ≡ written (written program others other_names) writes names
  either-order = λ i. record { cells = cells-turned i; known = known-turned i }

-- what one names as new stays new once the other's are known
pub stay-new : (known : Knowns) (names other_names : List Name)
    → ((id : Id) → get known id ≡ None → (first_name names id ≡ None) ⊎ (first_name other_names id ≡ None))
    → StayNew known (know_all known names) other_names
stay-new known names other_names apart =
    each _ _
    (λ name some none.
    get-know_all names known name.0 ∙ ap (λ o. option_or o (first_name names name.0)) none ∙ not-here name some (apart name.0 none))
    other_names (each-named other_names)
  where
    not-here : (name : Name) → is_some (first_name other_names name.0) ≡ true
        → (first_name names name.0 ≡ None) ⊎ (first_name other_names name.0 ≡ None) → first_name names name.0 ≡ None
    not-here name some (inl none) = none
    not-here name some (inr none) = absurd (true≢false (sym some ∙ ap is_some none))

-- nothing in common is nothing in common the other way round
pub apart-turned : (known : Knowns) (names other_names : List Name)
    → ((id : Id) → get known id ≡ None → (first_name names id ≡ None) ⊎ (first_name other_names id ≡ None))
    → (id : Id) → get known id ≡ None → (first_name other_names id ≡ None) ⊎ (first_name names id ≡ None)
apart-turned known names other_names apart id none = by (apart id none) where
  by : (first_name names id ≡ None) ⊎ (first_name other_names id ≡ None) → (first_name other_names id ≡ None) ⊎ (first_name names id ≡ None)
  by (inl e) = inr e
  by (inr e) = inl e
