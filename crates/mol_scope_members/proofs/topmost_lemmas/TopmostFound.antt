-- The highest declaration of a method is topmost where all others stand below it; else none is.
use Rattle.std.proofs.Common.{◌≡◌, ◌⊎◌, inl, inr, Bool, true, false, ◌&&◌, not, cond, List, ◌∷◌, Option, Some, None, Contains, refl, sym, ◌∙◌, ap, subst, true≢false, IsTrue}
use Rattle.std.specs.Prelude.{is_some}
use Rattle.std.specs.FinMap.{get}
use Rattle.std.specs.List.{find, list_any}
use Rattle.std.specs.Option.{option_or}
use Rattle.std.proofs.lemmas.List.Elements.{All-contains}
use Rattle.std.proofs.lemmas.List.Folds.{find-append}
use Rattle.jav_names.proofs.Lists.{All-from_each, find-holds_of_none, list_any-found, list_any-none}
use Rattle.mol_base.specs.declared.ident.Id.{Id}
use Rattle.mol_scope_classes.proofs.classes_lemmas.KnownIds.{ids-are}
use Rattle.mol_table_rules.proofs.Counts.{none-some}
use Rattle.mol_table_rules.proofs.Living.{id_tied, same_id-own}
use Rattle.mol_table_rules.specs.Counting.{is_of, living_as, living_of}
use Rattle.mol_table_rules.specs.Faults.{is_topmost}
use Rattle.mol_table_rules.specs.Identities.{AreKnown, IsAscending}
use Rattle.mol_table_rules.specs.Program.{Program, living_at, same_id}
use Rattle.mol_table_rules.specs.Rules.{IsProgram}
use Rattle.mol_values_types.specs.declared.known.Known.{Known}
use Rattle.mol_scope_members.specs.topmost.Highest.{top_in, is_over, declares, IsHighest, IsHighestOf, AreHighest, is_under, is_below, stands_beside, AreTopmost}
use Rattle.mol_scope_members.proofs.topmost_lemmas.HighestNoted.{in-split, over-further}
use Rattle.mol_scope_members.proofs.topmost_lemmas.TopmostDeclarations.{is-topmost, topmost-above, topmost-declares}

both-true : (a b : Bool) → a ≡ true → b ≡ true → (a && b) ≡ true
both-true a b is also = ap (λ x. x && b) is ∙ also

none-either : {X : Type 0} (b : Bool) → cond {A = Option X} b None None ≡ None
none-either true = refl
none-either false = refl

module _ (program : Program) (method : Id) where
  declares-living : (decl : Id) → declares program method decl ≡ true → living_of program decl ≡ Some method
  declares-living decl is = by (living_of program decl) is where
    by : (o : Option Id) → is_of method o ≡ true → o ≡ Some method
    by None is = absurd (true≢false (sym is))
    by (Some own) is = ap (λ m. Some m) (sym (id_tied method own is))

  living-declares : (decl : Id) → living_of program decl ≡ Some method → declares program method decl ≡ true
  living-declares decl is = ap (is_of method) is ∙ same_id-own method

  living-known : (decl : Id) → living_of program decl ≡ Some method → IsTrue (is_some (get program.known decl))
  living-known decl is = by (get program.known decl) is where
    by : (o : Option Known) → living_as o (living_at program decl) ≡ Some method → IsTrue (is_some o)
    by None is = absurd (none-some method is)
    by (Some known) is = refl

  topmost-declared : (decl : Id) → is_topmost program method decl ≡ true → declares program method decl ≡ true
  topmost-declared decl top = living-declares decl (topmost-declares program method decl top)

  topmost-over : (decl below : Id) → is_topmost program method decl ≡ true → declares program method below ≡ true
      → is_over program below decl ≡ true
  topmost-over decl below top declared = topmost-above program method decl below top (declares-living below declared)

  -- where no identity is topmost none is found
  none-found : (ids : List Id) → ((id : Id) → Contains ids id → is_topmost program method id ≡ true → ⊥)
      → find (is_topmost program method) ids ≡ None
  none-found ids none = find-holds_of_none (λ id. is_topmost program method id ≡ true) (is_topmost program method)
      (λ id. (λ yes. yes, λ yes. yes)) ids (All-from_each (λ id. ¬ (is_topmost program method id ≡ true)) ids none)

  module _ (rules : IsProgram program) (ids : List Id) (known : AreKnown program ids) (tops : List (Id × Id)) (top : Id)
      (noted : top_in tops method ≡ Some top) (is : IsHighest program ids method top) where
    -- a declaration before the highest is not topmost
    not-before : (id : Id) → Contains is.front id → is_topmost program method id ≡ true → ⊥
    not-before id stands topmost =
        true≢false (sym (topmost-over id top topmost is.declared) ∙ is.before id stands (topmost-declared id topmost))

    -- where one does not stand below the highest none is topmost
    not-any : (decl : Id) → declares program method decl ≡ true → is_over program decl top ≡ false → (id : Id) → Contains ids id
        → is_topmost program method id ≡ true → ⊥
    not-any decl declared beside id stands topmost = by (in-split ids is.front is.back top id is.split stands) where
      over : is_over program decl id ≡ true
      over = topmost-over id decl topmost declared

      by : Contains is.front id ⊎ ((top ≡ id) ⊎ Contains is.back id) → ⊥
      by (inl early) = not-before id early topmost
      by (inr (inl same)) = true≢false (sym (subst (λ x. is_over program decl x ≡ true) (sym same) over) ∙ beside)
      by (inr (inr late)) = true≢false (sym (over-further program rules decl id top over
          (is.after id late (topmost-declared id topmost) (topmost-over id top topmost is.declared))) ∙ beside)

    -- a declaration that stands beside it
    of-beside : (decl : Id) → stands_beside program tops method decl ≡ true
        → (declares program method decl ≡ true) × (is_over program decl top ≡ false)
    of-beside decl beside = by (declares program method decl) refl (is_over program decl top) refl
        (sym (ap (λ o. declares program method decl && not (is_below program decl o)) noted) ∙ beside) where
          by : (a : Bool) → declares program method decl ≡ a → (b : Bool) → is_over program decl top ≡ b → (a && not b) ≡ true
              → (declares program method decl ≡ true) × (is_over program decl top ≡ false)
          by true declared false over h = (declared, over)
          by true declared true over h = absurd (true≢false (sym h))
          by false declared b over h = absurd (true≢false (sym h))

    pub unordered-none : list_any (stands_beside program tops method) ids ≡ true → find (is_topmost program method) ids ≡ None
    unordered-none some =
        let found = list_any-found (λ id. stands_beside program tops method id ≡ true) (stands_beside program tops method)
        (λ id. (λ yes. yes, λ yes. yes)) ids some in
        let parts = of-beside found.0 found.2 in
        none-found ids (not-any found.0 parts.0 parts.1)

    -- where none stands beside it each stands below
    each-under : list_any (stands_beside program tops method) ids ≡ false → (decl : Id) → declares program method decl ≡ true
        → is_over program decl top ≡ true
    each-under none decl declared = by (is_over program decl top) refl where
      apart : ¬ (stands_beside program tops method decl ≡ true)
      apart = All-contains (λ id. ¬ (stands_beside program tops method id ≡ true)) ids decl
          (list_any-none (λ id. stands_beside program tops method id ≡ true) (stands_beside program tops method)
          (λ id. (λ yes. yes, λ yes. yes)) ids none)
          ((known decl).1 (living-known decl (declares-living decl declared)))

      by : (b : Bool) → is_over program decl top ≡ b → b ≡ true
      by true over = refl
      by false over = absurd (apart (both-true (declares program method decl) (not (is_under program tops method decl)) declared
          (ap (λ o. not (is_below program decl o)) noted ∙ ap not over)))

    pub ordered-some : list_any (stands_beside program tops method) ids ≡ false → find (is_topmost program method) ids ≡ Some top
    ordered-some none =
        ap (find (is_topmost program method)) is.split
        ∙ find-append (is_topmost program method) is.front (top ∷ is.back)
        ∙ ap (λ o. option_or o (find (is_topmost program method) (top ∷ is.back))) (none-found is.front not-before)
        ∙ ap (λ b. cond b (Some top) (find (is_topmost program method) is.back))
        (is-topmost program method top (declares-living top is.declared)
        (λ below living. each-under none below (living-declares below living)))

  -- where nothing is noted of the method
  undeclared-none : (ids : List Id) → IsHighestOf program ids method None → find (is_topmost program method) ids ≡ None
  undeclared-none ids none = none-found ids (λ id stands topmost. true≢false (sym (topmost-declared id topmost) ∙ none id stands))

module _ (program : Program) (rules : IsProgram program) (ids : List Id) (ascending : IsAscending ids) (known : AreKnown program ids)
    (tops : List (Id × Id)) (are : AreHighest program ids tops) (methods : List Id)
    (listed : (method : Id) → list_any (same_id method) methods ≡ list_any (stands_beside program tops method) ids) where
  pub topmost-found : AreTopmost program tops methods
  topmost-found method =
      ap (λ b. cond b None (top_in tops method)) (listed method)
      ∙ by (list_any (stands_beside program tops method) ids) refl (top_in tops method) refl (are method)
      ∙ ap (find (is_topmost program method)) (ids-are program ids ascending known) where
        by : (b : Bool) → list_any (stands_beside program tops method) ids ≡ b → (o : Option Id) → top_in tops method ≡ o
            → IsHighestOf program ids method o → cond b None o ≡ find (is_topmost program method) ids
        by b is None noted none = none-either b ∙ sym (undeclared-none program method ids none)
        by true is (Some top) noted highest = sym (unordered-none program method rules ids known tops top noted highest is)
        by false is (Some top) noted highest = sym (ordered-some program method rules ids known tops top noted highest is)
