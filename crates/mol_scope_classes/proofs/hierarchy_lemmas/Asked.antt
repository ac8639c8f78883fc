-- What places say of classes.
use Rattle.std.proofs.Common.{◌≡◌, ◌⊎◌, inl, inr, ℕ, Bool, true, false, List, [], ◌∷◌, ◌++◌, Option, Some, None, is_some, Contains, slice_get, refl, sym, ◌∙◌, ap, subst, true≢false}
use Rattle.std.specs.Prelude.{◌↔◌, IsTrue, IsSome}
use Rattle.std.specs.Bool.{Decides}
use Rattle.std.specs.FinMap.{get, get-empty}
use Rattle.std.proofs.lemmas.Bool.Decides.{same_from_decides}
use Rattle.std.proofs.lemmas.List.Elements.{Contains-push_cases}
use Rattle.jav_names.proofs.Lists.{Decides-fails}
use Rattle.mol_base.specs.Order.{id_cmp}
use Rattle.mol_base.specs.declared.ident.Id.{Id}
use Rattle.mol_table_rules.proofs.Counts.{none-some, some-same}
use Rattle.mol_table_rules.proofs.Living.{id_tied, same_id-own}
use Rattle.mol_table_rules.specs.Ancestors.{living_parent, is_on_way}
use Rattle.mol_table_rules.specs.Heights.{upward}
use Rattle.mol_table_rules.specs.Identities.{AreKnown}
use Rattle.mol_table_rules.specs.Program.{Program, value_at, parent_in, parent_at}
use Rattle.mol_table_rules.specs.Renumber.{is_class}
use Rattle.mol_table_rules.specs.Rules.{IsProgram}
use Rattle.mol_values_types.proofs.Ties.{id_ties}
use Rattle.mol_values_types.specs.Order.{id_eq}
use Rattle.mol_values_types.specs.Slots.{has_slot}
use Rattle.mol_values_types.specs.declared.cell.Slot.TheVariants as slots
use Rattle.mol_values_types.specs.declared.known.Known.{Known}
use Rattle.mol_values_types.specs.declared.known.Known.TheVariants as knowns
use Rattle.mol_values_types.specs.declared.value.Value.{Value}
use Rattle.mol_scope_classes.specs.hierarchy.Forest.{IsUp}
use Rattle.mol_scope_classes.specs.hierarchy.Placed.{number_in, ArePlaced, IsHierarchy, Keeps}
use Rattle.mol_scope_classes.specs.hierarchy.Reaching.{Reaches}
use Rattle.mol_scope_classes.specs.declared.hierarchy.place.Place.{Place}
use Rattle.mol_scope_classes.proofs.hierarchy_lemmas.Following.{itself, first-step}
use Rattle.mol_scope_classes.proofs.hierarchy_lemmas.OnWays.{on_way-decides}

-- nothing has a place at first
pub none-placed : (program : Program) (numbers : List (Id × ℕ)) (places : List Place) → numbers ≡ [] → places ≡ []
    → ArePlaced program numbers places
none-placed program numbers places no_numbers no_places = record {
  forest = λ number place there. absurd (none-some place (sym (ap (λ ps. slice_get ps number) no_places) ∙ there));
  within = λ class number is. absurd (none-some number (sym (none class) ∙ is));
  leads = λ class number is above. absurd (none-some number (sym (none class) ∙ is));
} where
  none : (class : Id) → number_in numbers class ≡ None
  none class = ap (λ ns. number_in ns class) no_numbers ∙ get-empty id_cmp class

-- ---- what extends nothing

module _ (program : Program) (rules : IsProgram program) (id : Id) where
  -- what has no such cell
  without-parent : has_slot (get program.known id) slots.Super ≡ false → parent_at program id ≡ None
  without-parent bare = ap parent_in (nothing (value_at program id slots.Super) (rules.whole id slots.Super ∙ bare)) where
    nothing : (o : Option Value) → is_some o ≡ false → o ≡ None
    nothing None is = refl
    nothing (Some value) is = absurd (true≢false is)

  -- what is no class
  pub no-class : is_class (get program.known id) ≡ false → parent_at program id ≡ None
  no-class fails = without-parent (bare (get program.known id) fails) where
    bare : (o : Option Known) → is_class o ≡ false → has_slot o slots.Super ≡ false
    bare None is = refl
    bare (Some knowns.Class) is = absurd (true≢false is)
    bare (Some (knowns.Method kind)) is = refl
    bare (Some (knowns.Decl method)) is = refl
    bare (Some knowns.Field) is = refl
    bare (Some (knowns.Param method)) is = refl

  -- what is not known
  pub unknown-alone : get program.known id ≡ None → upward program (Some id) ≡ None
  unknown-alone none = ap (living_parent program) (no-class (ap is_class none))

-- ---- classes without a place

abbrev pub IsWhole : Program → List (Id × ℕ) → List Id → Type 0
IsWhole program numbers ids = (class : Id) → Contains ids class → number_in numbers class ≡ None → upward program (Some class) ≡ None

-- one more, which has a place or extends no class that lives
pub whole-more : (program : Program) (old new : List (Id × ℕ)) (ids : List Id) (id : Id) → Keeps old new → IsWhole program old ids
    → (number_in new id ≡ None → upward program (Some id) ≡ None) → IsWhole program new (ids ++ id ∷ [])
whole-more program old new ids id kept whole own class stands none = by (Contains-push_cases ids id class stands) where
  was : (o : Option ℕ) → number_in old class ≡ o → number_in old class ≡ None
  was None is = is
  was (Some number) is =
      let some : IsSome (number_in new class) = kept class (ap is_some is) in
      absurd (true≢false (sym some ∙ ap is_some none))

  by : Contains ids class ⊎ (id ≡ class) → upward program (Some class) ≡ None
  by (inl before) = whole class before (was (number_in old class) refl)
  by (inr same) = ap (λ c. upward program (Some c)) (sym same) ∙ own (ap (number_in new) same ∙ none)

-- what is not known extends nothing
pub whole-all : (program : Program) → IsProgram program → (numbers : List (Id × ℕ)) (ids : List Id) → AreKnown program ids
    → IsWhole program numbers ids → (class : Id) → number_in numbers class ≡ None → upward program (Some class) ≡ None
whole-all program rules numbers ids known whole class none = by (get program.known class) refl where
  by : (o : Option Known) → get program.known class ≡ o → upward program (Some class) ≡ None
  by None unknown = unknown-alone program rules class unknown
  by (Some what) is = whole class ((known class).1 (ap is_some is)) none

-- ---- questions

module _ (program : Program) (numbers : List (Id × ℕ)) (places : List Place) (is : IsHierarchy program numbers places)
    (class above : Id) where
  on : Decides (is_on_way program class above) (Reaches program class above)
  on = on_way-decides program is.rules class above

  pub alone-asked : number_in numbers class ≡ None → id_eq class above ≡ is_on_way program class above
  alone-asked none = same_from_decides (id_eq class above) (is_on_way program class above) (there, back) on where
    there : id_eq class above ≡ true → Reaches program class above
    there same = subst (Reaches program class) (id_tied class above (sym (id_ties class above) ∙ same)) (itself program class)

    by : (class ≡ above) ⊎ ((next : Id) × (upward program (Some class) ≡ Some next) × Reaches program next above) → id_eq class above ≡ true
    by (inl same) = ap (id_eq class) (sym same) ∙ id_ties class class ∙ same_id-own class
    by (inr step) = absurd (none-some step.0 (sym (is.whole class none) ∙ step.1))

    back : Reaches program class above → id_eq class above ≡ true
    back reaches = by (first-step program class above reaches)

  pub placed-asked : (from to : ℕ) (answer : Bool) → number_in numbers class ≡ Some from → number_in numbers above ≡ Some to
      → IsTrue answer ↔ IsUp places from to → answer ≡ is_on_way program class above
  placed-asked from to answer own other says = same_from_decides answer (is_on_way program class above) (there, back) on where
    there : answer ≡ true → Reaches program class above
    there holds = (is.placed.leads class from own above).1 (record { own = to; is = other; leads = says.0 holds })

    back : Reaches program class above → answer ≡ true
    back reaches =
        let has = (is.placed.leads class from own above).0 reaches in
        says.1 (subst (IsUp places from) (some-same has.own to (sym has.is ∙ other)) has.leads)

  pub unplaced-asked : (from : ℕ) → number_in numbers class ≡ Some from → number_in numbers above ≡ None
      → false ≡ is_on_way program class above
  unplaced-asked from own none = sym (Decides-fails on (λ reaches.
      let has = (is.placed.leads class from own above).0 reaches in none-some has.own (sym none ∙ has.is)))
