-- Two names clash where one of them is not the import that is found of its simple name.
use Rattle.std.proofs.Common.{◌≡◌, ◌≢◌, Bool, true, false, not, ◌&&◌, ◌∷◌, Option, Some, None, Contains, refl, sym, ◌∙◌, ap, true≢false}
use Rattle.std.specs.Bool.{Decides}
use Rattle.std.specs.List.{list_any}
use Rattle.std.specs.Str.{bytes_eq}
use Rattle.std.proofs.lemmas.Bool.Decides.{same_from_decides}
use Rattle.std.proofs.lemmas.List.Elements.{All-contains}
use Rattle.std.proofs.lemmas.Slice.Eq.{bytes_eq-Decides}
use Rattle.jav_names.proofs.Lists.{stands_later, Decides-not, Decides-fails, list_any-decides, find-found, find-none}
use Rattle.jav_names.specs.DottedNames.{Name, Names, simple_name}
use Rattle.jav_names.specs.LookUps.{import_of}
use Rattle.mol_resolve_classes.specs.headers.Clashes.{is_another, differs}
use Rattle.mol_resolve_rules.specs.FaultLists.{do_clash}

abbrev Clash : Name → Name → Type 0
Clash first second = (first ≢ second) × (simple_name first ≡ simple_name second)

test-clash : (first second : Name) → Decides (do_clash first second) (Clash first second)
test-clash first second =
    by (bytes_eq first second) (bytes_eq (simple_name first) (simple_name second)) (bytes_eq-Decides first second)
    (bytes_eq-Decides (simple_name first) (simple_name second)) where
      by : (same alike : Bool) → Decides same (first ≡ second) → Decides alike (simple_name first ≡ simple_name second)
          → Decides (not same && alike) (Clash first second)
      by true alike one two = (λ is. absurd (true≢false (sym is)), λ clash. absurd (clash.0 (one.0 refl)))
      by false true one two = (λ is. (Decides-not one refl, two.0 refl), λ clash. refl)
      by false false one two = (λ is. absurd (true≢false (sym is)), λ clash. absurd (Decides-not two refl clash.1))

module _ (own : Name) (imports : Names) where
  abbrev Another : Name → Type 0
  Another full = (import : Name) × ((import_of imports (simple_name full) ≡ Some import) × (import ≢ full))

  test-another : (full : Name) → Decides (differs imports full) (Another full)
  test-another full = (λ is. to (import_of imports (simple_name full)) refl is, from) where
    to : (found : Option Name) → import_of imports (simple_name full) ≡ found → is_another found full ≡ true → Another full
    to None at is = absurd (true≢false (sym is))
    to (Some import) at is = (import, (at, by (bytes_eq import full) refl is)) where
      by : (same : Bool) → bytes_eq import full ≡ same → not same ≡ true → import ≢ full
      by true same fails = absurd (true≢false (sym fails))
      by false same holds = Decides-not (bytes_eq-Decides import full) same

    from : Another full → differs imports full ≡ true
    from (import, (at, apart)) =
        ap (λ (found : Option Name). is_another found full) at ∙ ap not (Decides-fails (bytes_eq-Decides import full) apart)

  abbrev Clashes : Type 0
  Clashes = (import : Name) × Contains imports import × ((full : Name) × Contains (own ∷ imports) full × Clash import full)

  abbrev Others : Type 0
  Others = (full : Name) × Contains (own ∷ imports) full × Another full

  clashes-decide : Decides (list_any (λ import. list_any (do_clash import) (own ∷ imports)) imports) Clashes
  clashes-decide = list_any-decides (λ import. (full : Name) × Contains (own ∷ imports) full × Clash import full)
      (λ import. list_any (do_clash import) (own ∷ imports))
      (λ import. list_any-decides (Clash import) (do_clash import) (test-clash import) (own ∷ imports)) imports

  others-decide : Decides (list_any (differs imports) (own ∷ imports)) Others
  others-decide = list_any-decides Another (differs imports) test-another (own ∷ imports)

  found-clash : (import : Name) → Contains imports import → (full : Name) → Contains (own ∷ imports) full → Clash import full → Others
  found-clash import at full there clash = by (import_of imports (simple_name full)) refl where
    by : (found : Option Name) → import_of imports (simple_name full) ≡ found → Others
    by None none = absurd (All-contains (λ i. ¬ (simple_name i ≡ simple_name full)) imports import
        (find-none (λ i. simple_name i ≡ simple_name full) (λ i. bytes_eq (simple_name i) (simple_name full))
        (λ i. bytes_eq-Decides (simple_name i) (simple_name full)) imports none) at clash.1)
    by (Some found) is = which (bytes_eq found full) refl where
      which : (same : Bool) → bytes_eq found full ≡ same → Others
      which true same =
          let one : found ≡ full = (bytes_eq-Decides found full).0 same in (
            import,
            stands_later own import imports at,
            (
              full,
              (ap (λ (name : Name). import_of imports name) clash.1 ∙ is ∙ ap (λ (name : Name). Some name) one, λ back. clash.0 (sym back)),
            ),
          )
      which false differs = (full, there, (found, (is, Decides-not (bytes_eq-Decides found full) differs)))

  to : Clashes → Others
  to clashes = found-clash clashes.0 clashes.1 clashes.2.0 clashes.2.1 clashes.2.2

  from : Others → Clashes
  from others =
      let found = find-found (λ i. simple_name i ≡ simple_name others.0) (λ i. bytes_eq (simple_name i) (simple_name others.0))
      (λ i. bytes_eq-Decides (simple_name i) (simple_name others.0)) imports others.2.0 others.2.1.0 in
      (others.2.0, found.0, (others.0, others.1, (others.2.1.1, found.1)))

  pub clash-is : list_any (λ import. list_any (do_clash import) (own ∷ imports)) imports ≡ list_any (differs imports) (own ∷ imports)
  clash-is = same_from_decides (list_any (λ import. list_any (do_clash import) (own ∷ imports)) imports)
      (list_any (differs imports) (own ∷ imports)) clashes-decide
      (λ is. from (others-decide.0 is), λ clashes. others-decide.1 (to clashes))
