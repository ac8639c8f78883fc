-- A list of texts, one after the other.
use Rattle.std.proofs.Common.{◌≡◌, ℕ, List, [], ◌∷◌, ◌++◌, length, Option, Some, None, option_map, option_and_then, refl, arith, sym, ap, ◌∙◌, append_assoc, append-nil}
use Rattle.serde_json.specs.Data.{Data, Items, no_items, item}
use Rattle.serde_json.specs.Find.{as_str}
use Rattle.mol_log_rows.specs.lines.Reader.{texts_in, text_before}

module _ (done : List (List ℕ)) where
  -- the texts of further items, after these
  abbrev onto : Option (List (List ℕ)) → Option (List (List ℕ))
  onto more = option_map (λ texts. done ++ texts) more

pub texts_start : (done : List (List ℕ)) → done ≡ [] → (o : Option (List (List ℕ))) → o ≡ onto done o
texts_start done none None = refl
texts_start done none (Some texts) = ap (λ front. Some (front ++ texts)) (sym none)

module _ (done : List (List ℕ)) (d : Data) (ds : Items) where
  pub texts_more : (text : List ℕ) → as_str d ≡ Some text → onto done (texts_in (item d ds)) ≡ onto (done ++ text ∷ []) (texts_in ds)
  unfolding texts_in
  texts_more text is = ap (λ o. onto done (option_and_then (λ t. text_before t (texts_in ds)) o)) is ∙ by (texts_in ds) where
    by : (o : Option (List (List ℕ))) → onto done (text_before text o) ≡ onto (done ++ text ∷ []) o
    by None = refl
    by (Some more) = ap Some (sym (append_assoc done (text ∷ []) more))

  pub texts_stop : as_str d ≡ None → onto done (texts_in (item d ds)) ≡ None
  unfolding texts_in
  texts_stop is = ap (λ o. onto done (option_and_then (λ t. text_before t (texts_in ds)) o)) is

pub texts_end : (done : List (List ℕ)) → onto done (texts_in no_items) ≡ Some done
unfolding texts_in
texts_end done = ap Some (append-nil done)

pub nothing_left : {A : Type 0} (xs : List A) → length xs ≡ 0 → xs ≡ []
nothing_left [] e = refl
nothing_left (x ∷ xs) e = absurd (omega (arith, e))
