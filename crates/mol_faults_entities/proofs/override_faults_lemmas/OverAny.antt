-- The pairs of declarations, one after another.
use Rattle.std.proofs.Common.{◌≡◌, ◌⊎◌, inl, inr, ℕ, ◌+◌, ◌<◌, List, [], ◌∷◌, ◌++◌, length, get_or, take, Contains, sym, ◌∙◌, ap, subst}
use Rattle.std.specs.Prelude.{◌↔◌}
use Rattle.std.proofs.lemmas.List.{take_more}
use Rattle.jav_names.proofs.Lists.{stands_first, stands_nowhere, stands_where}
use Rattle.mol_faults_entities.specs.override_faults.Overridden.{Adds, IsOver, IsOverAny}
use Rattle.mol_faults_entities.specs.declared.override_faults.declaration.Declaration.{Declaration}
use Rattle.mol_faults_entities.specs.declared.pair_faults.pair.Pair.{Pair}
use Rattle.mol_resolve_rules.proofs.Stands.{behind, in_either, in_front}
use Rattle.mol_table_rules.specs.Program.{Program}

module _ (program : Program) (rows : List Declaration) where
  -- These are the pairs of the declarations.
  abbrev AreOver : List Declaration → List Pair → Type 0
  AreOver among pairs = (pair : Pair) → Contains pairs pair ↔ IsOverAny program rows among pair

  pub none-over_any : AreOver [] []
  none-over_any pair = (
    λ stands. absurd (stands_nowhere pair stands),
    λ (any : IsOverAny program rows [] pair). absurd (stands_nowhere any.below any.stands),
  )

  -- one more
  pub more-over_any : (i : ℕ) (row : Declaration) (before after : List Pair) → i < length rows → row ≡ get_or rows i row
      → AreOver (take i rows) before → Adds (IsOver program rows row) before after → AreOver (take (i + 1) rows) after
  more-over_any i row before after within is are adds =
      subst (λ among. AreOver among after) (sym taken) (λ pair. (to pair, from pair)) where
        taken : take (i + 1) rows ≡ take i rows ++ row ∷ []
        taken = take_more rows i row within ∙ ap (λ x. take i rows ++ x ∷ []) (sym is)

        earlier : (pair : Pair) → IsOverAny program rows (take i rows) pair → IsOverAny program rows (take i rows ++ row ∷ []) pair
        earlier pair any = record {
          below = any.below;
          stands = in_front (take i rows) (row ∷ []) any.below any.stands;
          over = any.over;
        }

        added : (pair : Pair) → Contains before pair ⊎ IsOver program rows row pair
            → IsOverAny program rows (take i rows ++ row ∷ []) pair
        added pair (inl stands) = earlier pair ((are pair).0 stands)
        added pair (inr over) = record {
          below = row;
          stands = behind (take i rows) (row ∷ []) row (stands_first row []);
          over = over;
        }

        to : (pair : Pair) → Contains after pair → IsOverAny program rows (take i rows ++ row ∷ []) pair
        to pair stands = added pair ((adds pair).0 stands)

        only : (pair : Pair) (below : Declaration) → IsOver program rows below pair → (row ≡ below) ⊎ Contains [] below
            → Contains after pair
        only pair below over (inl same) = (adds pair).1 (inr (subst (λ d. IsOver program rows d pair) (sym same) over))
        only pair below over (inr none) = absurd (stands_nowhere below none)

        by : (pair : Pair) (below : Declaration) → IsOver program rows below pair
            → Contains (take i rows) below ⊎ Contains (row ∷ []) below → Contains after pair
        by pair below over (inl stands) = (adds pair).1 (inl ((are pair).1 (record { below = below; stands = stands; over = over })))
        by pair below over (inr stands) = only pair below over (stands_where row below [] stands)

        from : (pair : Pair) → IsOverAny program rows (take i rows ++ row ∷ []) pair → Contains after pair
        from pair any = by pair any.below any.over (in_either (take i rows) (row ∷ []) any.below any.stands)
