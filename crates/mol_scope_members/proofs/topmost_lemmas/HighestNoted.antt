-- The highest declaration of each method, one identity after another.
use Rattle.std.proofs.Common.{◌≡◌, ◌⊎◌, inl, inr, Bool, true, false, cond, ◌&&◌, not, List, [], ◌∷◌, ◌++◌, Option, Some, None, Contains, refl, sym, ◌∙◌, ap, subst, true≢false}
use Rattle.std.proofs.lemmas.List.{append_assoc}
use Rattle.std.proofs.lemmas.List.Elements.{Contains-append_cases, Contains-push_cases}
use Rattle.jav_names.proofs.Lists.{stands_nowhere, stands_where}
use Rattle.mol_base.specs.declared.ident.Id.{Id}
use Rattle.mol_scope_classes.proofs.hierarchy_lemmas.Following.{further}
use Rattle.mol_scope_classes.proofs.hierarchy_lemmas.OnWays.{on_way-decides}
use Rattle.mol_table_rules.specs.Ancestors.{is_on_way}
use Rattle.mol_table_rules.specs.Faults.{is_above}
use Rattle.mol_table_rules.specs.Program.{Program, owner_at}
use Rattle.mol_table_rules.specs.Rules.{IsProgram}
use Rattle.mol_scope_members.specs.topmost.Highest.{top_in, is_over, first_or_higher, declares, noted_after, IsHighest, IsHighestOf, AreHighest}

-- where an identity among these stands: before the one at which they are split, at it, or after it
pub in-split : (ids front back : List Id) (top id : Id) → ids ≡ front ++ top ∷ back → Contains ids id
    → Contains front id ⊎ ((top ≡ id) ⊎ Contains back id)
in-split ids front back top id split stands = by (Contains-append_cases front (top ∷ back) id (subst (λ l. Contains l id) split stands)) where
  by : Contains front id ⊎ Contains (top ∷ back) id → Contains front id ⊎ ((top ≡ id) ⊎ Contains back id)
  by (inl early) = inl early
  by (inr late) = inr (stands_where top id back late)

module _ (program : Program) (rules : IsProgram program) where
  way-further : (class next above : Id) → is_on_way program class next ≡ true → is_on_way program next above ≡ true
      → is_on_way program class above ≡ true
  way-further class next above to on = (on_way-decides program rules class above).1
      (further program class next above ((on_way-decides program rules class next).0 to) ((on_way-decides program rules next above).0 on))

  above-further : (class next above : Option Id) → is_above program class next ≡ true → is_above program next above ≡ true
      → is_above program class above ≡ true
  above-further None next above to on = absurd (true≢false (sym to))
  above-further (Some class) None above to on = absurd (true≢false (sym to))
  above-further (Some class) (Some next) None to on = absurd (true≢false (sym on))
  above-further (Some class) (Some next) (Some above) to on = way-further class next above to on

  pub over-further : (decl next above : Id) → is_over program decl next ≡ true → is_over program next above ≡ true
      → is_over program decl above ≡ true
  over-further decl next above = above-further (owner_at program decl) (owner_at program next) (owner_at program above)

  module _ (ids : List Id) (new method : Id) where
    -- one more after those that follow the highest
    longer : (top : Id) → (tied : declares program method new ≡ true → is_over program top new ≡ true → is_over program new top ≡ true)
        → IsHighest program ids method top → IsHighest program (ids ++ new ∷ []) method top
    longer top tied is = record {
      front = is.front;
      back = is.back ++ new ∷ [];
      split = ap (λ l. l ++ new ∷ []) is.split ∙ append_assoc is.front (top ∷ is.back) (new ∷ []);
      declared = is.declared;
      before = is.before;
      after = λ decl stands. by decl (Contains-push_cases is.back new decl stands);
    } where
      by : (decl : Id) → Contains is.back decl ⊎ (new ≡ decl) → declares program method decl ≡ true → is_over program top decl ≡ true
          → is_over program decl top ≡ true
      by decl (inl old) = is.after decl old
      by decl (inr same) =
          subst (λ d. declares program method d ≡ true → is_over program top d ≡ true → is_over program d top ≡ true) same tied

    -- an identity that is no living declaration of the method
    same-top : declares program method new ≡ false → (o : Option Id) → IsHighestOf program ids method o
        → IsHighestOf program (ids ++ new ∷ []) method o
    same-top other None none = λ decl stands. by decl (Contains-push_cases ids new decl stands) where
      by : (decl : Id) → Contains ids decl ⊎ (new ≡ decl) → declares program method decl ≡ false
      by decl (inl old) = none decl old
      by decl (inr same) = subst (λ d. declares program method d ≡ false) same other
    same-top other (Some top) is = longer top (λ declared. absurd (true≢false (sym declared ∙ other))) is

    -- the last one is the highest
    own-top : declares program method new ≡ true
        → ((decl : Id) → Contains ids decl → declares program method decl ≡ true → is_over program new decl ≡ false)
        → IsHighest program (ids ++ new ∷ []) method new
    own-top declared before = record {
      front = ids;
      back = [];
      split = refl;
      declared = declared;
      before = before;
      after = λ decl stands. absurd (stands_nowhere decl stands);
    }

    -- none that was met stands as high as one that stands above the highest
    none-as-high : (top : Id) → IsHighest program ids method top → is_over program top new ≡ true → is_over program new top ≡ false
        → (decl : Id) → Contains ids decl → declares program method decl ≡ true → is_over program new decl ≡ false
    none-as-high top is up down decl stands declared =
        by (is_over program new decl) refl (in-split ids is.front is.back top decl is.split stands) where
          by : (b : Bool) → is_over program new decl ≡ b → Contains is.front decl ⊎ ((top ≡ decl) ⊎ Contains is.back decl)
              → is_over program new decl ≡ false
          by false not place = not
          by true over (inl early) =
              absurd (true≢false (sym (over-further top new decl up over) ∙ is.before decl early declared))
          by true over (inr (inl same)) =
              absurd (true≢false (sym over ∙ subst (λ d. is_over program new d ≡ false) same down))
          by true over (inr (inr late)) =
              absurd (true≢false (sym (over-further new decl top over
              (is.after decl late declared (over-further top new decl up over))) ∙ down))

    next-top : declares program method new ≡ true → (o : Option Id) → IsHighestOf program ids method o
        → IsHighest program (ids ++ new ∷ []) method (first_or_higher program o new)
    next-top declared None none = own-top declared (λ decl stands is. absurd (true≢false (sym is ∙ none decl stands)))
    next-top declared (Some top) is = by (is_over program top new) refl (is_over program new top) refl where
      by : (up : Bool) → is_over program top new ≡ up → (down : Bool) → is_over program new top ≡ down
          → IsHighest program (ids ++ new ∷ []) method (cond (up && not down) new top)
      by true up false down = own-top declared (none-as-high top is up down)
      by true up true down = longer top (λ d over. down) is
      by false up down is_down = longer top (λ d over. absurd (true≢false (sym over ∙ up))) is

  pub tops-more : (ids : List Id) (id : Id) (old new : List (Id × Id))
      → ((method : Id) → top_in new method ≡ noted_after program method (top_in old method) id)
      → AreHighest program ids old → AreHighest program (ids ++ id ∷ []) new
  tops-more ids id old new noted are method =
      subst (IsHighestOf program (ids ++ id ∷ []) method) (sym (noted method)) (by (declares program method id) refl) where
        by : (b : Bool) → declares program method id ≡ b
            → IsHighestOf program (ids ++ id ∷ []) method (cond b (Some (first_or_higher program (top_in old method) id)) (top_in old method))
        by true is = next-top ids id method is (top_in old method) (are method)
        by false is = same-top ids id method is (top_in old method) (are method)

-- at first there is none
pub tops-none : (program : Program) (tops : List (Id × Id)) → ((method : Id) → top_in tops method ≡ None) → AreHighest program [] tops
tops-none program tops none method = subst (IsHighestOf program [] method) (sym (none method))
    (λ decl stands. absurd (stands_nowhere decl stands))
