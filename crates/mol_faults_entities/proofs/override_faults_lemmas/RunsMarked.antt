-- Runs of neighbours that declare one method.
use Rattle.std.proofs.Common.{◌≡◌, ◌⊎◌, inl, inr, ℕ, ◌+◌, ◌<◌, ◌≤◌, List, [], ◌∷◌, ◌++◌, length, length-append, get_or, Some, slice_get, sym, ◌∙◌, ap, subst, arith}
use Rattle.std.proofs.lemmas.Bool.{cases_lt}
use Rattle.std.proofs.lemmas.Option.{slice_get-get_or, slice_get_within}
use Rattle.mol_scope_classes.proofs.hierarchy_lemmas.WaysUp.{get-front, get-last}
use Rattle.mol_faults_entities.specs.override_faults.Overridden.{AreRuns, IsNext, IsRun}
use Rattle.mol_faults_entities.specs.declared.override_faults.declaration.Declaration.{Declaration}
use Rattle.mol_faults_entities.proofs.override_faults_lemmas.PairsAbove.{none-alike}
use Rattle.mol_table_rules.proofs.Counts.{some-same}

module _ (rows : List Declaration) where
  -- with one more of its method
  pub run-longer : (start place : ℕ) (first row : Declaration) → slice_get rows start ≡ Some first → slice_get rows place ≡ Some row
      → first.method ≡ row.method → IsRun rows start place → IsRun rows start (place + 1)
  run-longer start place first row is-first is-row same run at top own from before is-top is-own = by (cases_lt at place) where
    by : (at < place) ⊎ (place ≤ at) → top.method ≡ own.method
    by (inl early) = run at top own from early is-top is-own
    by (inr late) =
        let here : at ≡ place = omega (arith, late, before) in
        let top_is : top ≡ first = some-same top first (sym is-top ∙ is-first) in
        let own_is : own ≡ row = some-same own row (sym is-own ∙ ap (slice_get rows) here ∙ is-row) in
        ap (λ (d : Declaration). d.method) top_is ∙ same ∙ ap (λ (d : Declaration). d.method) (sym own_is)

  -- The starts of the first ones are known, and the run that the next one may go on.
  pub record IsMarked (runs : List ℕ) (start place : ℕ) : Type 0 where
    pub long : length runs ≡ place
    pub low : start ≤ place
    pub run : IsRun rows start place
    pub within : (last first : ℕ) → slice_get runs last ≡ Some first → first ≤ last
    pub alike : (last first : ℕ) → slice_get runs last ≡ Some first → IsRun rows first (last + 1)

  pub more-marked : (runs more : List ℕ) (start next place : ℕ) → IsMarked runs start place → next ≤ place → IsRun rows next (place + 1)
      → more ≡ runs ++ next ∷ [] → IsMarked more next (place + 1)
  more-marked runs more start next place marked low run is = record {
    long = let long = ap (λ (ns : List ℕ). length ns) is in omega (arith, long, length-append runs (next ∷ []), marked.long);
    low = omega (arith, low);
    run = run;
    within = λ last first there. by-within last first (found last first there);
    alike = λ last first there. by-alike last first (found last first there);
  } where
    found : (last first : ℕ) → slice_get more last ≡ Some first
        → (slice_get runs last ≡ Some first) ⊎ ((last ≡ place) × (next ≡ first))
    found last first there = by (cases_lt last (length runs)) where
      at : slice_get (runs ++ next ∷ []) last ≡ Some first
      at = ap (λ (ns : List ℕ). slice_get ns last) (sym is) ∙ there

      by : (last < length runs) ⊎ (length runs ≤ last) → (slice_get runs last ≡ Some first) ⊎ ((last ≡ place) × (next ≡ first))
      by (inl early) = inl (sym (get-front runs (next ∷ []) last early) ∙ at)
      by (inr late) =
          let most = slice_get_within (runs ++ next ∷ []) last first at in
          let ends : last ≡ length runs = omega (arith, late, most, length-append runs (next ∷ [])) in
          inr (
            omega (arith, ends, marked.long),
            some-same next first (sym (get-last runs next) ∙ ap (slice_get (runs ++ next ∷ [])) (sym ends) ∙ at),
          )

    by-within : (last first : ℕ) → (slice_get runs last ≡ Some first) ⊎ ((last ≡ place) × (next ≡ first))
        → first ≤ last
    by-within last first (inl was) = marked.within last first was
    by-within last first (inr new) = omega (arith, new.0, new.1, low)

    by-alike : (last first : ℕ) → (slice_get runs last ≡ Some first) ⊎ ((last ≡ place) × (next ≡ first))
        → IsRun rows first (last + 1)
    by-alike last first (inl was) = marked.alike last first was
    by-alike last first (inr new) =
        subst (λ n. IsRun rows n (last + 1)) new.1 (subst (λ n. IsRun rows next (n + 1)) (sym new.0) run)

  -- ---- what is passed

  pub run-passed : (runs : List ℕ) → AreRuns rows runs → (row ending : Declaration) (last next : ℕ) → slice_get runs last ≡ Some next
      → slice_get rows last ≡ Some ending → ending.method ≡ row.method → IsNext rows row last next
  run-passed runs are row ending last next there is-ending same = record {
    within = are.within last next there;
    passed = λ place above from before is-above. none-alike row above
        (sym same ∙ sym (run last (get_or rows next row) ending (are.within last next there) (omega arith) is-first is-ending)
        ∙ run place (get_or rows next row) above from (omega (arith, before)) is-first is-above);
  } where
    is-first : slice_get rows next ≡ Some (get_or rows next row)
    is-first = slice_get-get_or rows next row
        (omega (arith, are.within last next there, slice_get_within rows last ending is-ending))

    run : IsRun rows next (last + 1)
    run = are.alike last next there
