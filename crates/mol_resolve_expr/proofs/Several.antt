-- Several things that are read one after the other.
use Rattle.std.proofs.Common.{◌≡◌, ℕ, suc, List, [], ◌∷◌, ◌++◌, length, Option, Some, None, option_map, append_assoc, refl, sym, ap, ◌∙◌}
use Rattle.std.specs.Option.{option_zip}
use Rattle.std.proofs.lemmas.List.{append-nil}
use Rattle.mol_resolve_rules.specs.Outcomes.{Outcome, mapped, both, all, put_first}

-- one more at the end
abbrev pub put_last : {A : Type 0} → List A × A → List A
put_last parts = parts.0 ++ parts.1 ∷ []

module _ {A : Type 0} where
  pub last_alone : (value : Option A) → option_map put_first (option_zip value (Some [])) ≡ option_map put_last (option_zip (Some []) value)
  last_alone None = refl
  last_alone (Some a) = refl

  pub last_further : (first : Option A) (rest : Option (List A)) (last : Option A)
      → option_map put_first (option_zip first (option_map put_last (option_zip rest last)))
      ≡ option_map put_last (option_zip (option_map put_first (option_zip first rest)) last)
  last_further None rest last = refl
  last_further (Some a) None last = refl
  last_further (Some a) (Some further) None = refl
  last_further (Some a) (Some further) (Some b) = refl

  pub all_more : (parts : List (Outcome A)) (next : Outcome A) → all (parts ++ next ∷ []) ≡ mapped put_last (both (all parts) next)
  all_more [] next = λ i. record { value = last_alone next.value i; faults = append-nil next.faults i }
  all_more (part ∷ parts) next =
      ap (λ (rest : Outcome (List A)). mapped put_first (both part rest)) (all_more parts next)
      ∙ (λ i. record {
        value = last_further part.value (all parts).value next.value i;
        faults = sym (append_assoc part.faults (all parts).faults next.faults) i;
      })

  -- as many values as there are parts
  length_by : (first : Option A) (rest : Option (List A)) (count : ℕ) (values : List A)
      → ((further : List A) → rest ≡ Some further → length further ≡ count)
      → option_map put_first (option_zip first rest) ≡ Some values → length values ≡ suc count
  length_by None rest count values more is = absurd cc
  length_by (Some a) None count values more is = absurd cc
  length_by (Some a) (Some further) count values more is =
      let same : values ≡ a ∷ further = cc in ap length same ∙ ap (λ count. suc count) (more further refl)

  pub all-length : (parts : List (Outcome A)) (values : List A) → (all parts).value ≡ Some values → length values ≡ length parts
  all-length [] values is = let same : values ≡ [] = cc in ap length same
  all-length (part ∷ parts) values is =
      length_by part.value (all parts).value (length parts) values (λ further. all-length parts further) is
