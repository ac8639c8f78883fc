-- A tag looked for among tags that ascend, and the first of one list that is in another.
use Rattle.std.proofs.Common.{◌≡◌, ◌∙◌, ◌<◌, ℕ, zero, suc, refl, sym, ap, List, [], ◌∷◌, length, get_or, Bool, true, false, Option, None, Some, cond, Result, is_ok, arith}
use Rattle.std.specs.Prelude.{◌&&◌, Ok, Err}
use Rattle.std.specs.List.{find, list_all, list_any}
use Rattle.std.specs.List.Sorted.{IsBinarySearchResult, IsSearchInRange}
use Rattle.std.specs.Str.{bytes_eq}
use Rattle.mol_base.proofs.Tags.{both_true}
use Rattle.mol_base.specs.Order.{tag_cmp}
use Rattle.mol_base.specs.declared.ident.Stamp.{Stamp}
use Rattle.mol_log.specs.declared.log.Log.{Log}
use Rattle.mol_log_rows.proofs.lines_lemmas.LastOfTags.{follows_at, foreign}
use Rattle.mol_log_rows.specs.lines.Headers.{ascend, some_tags}
use Rattle.mol_merge_laws.proofs.Tags.{tags-right}

and-true : (b : Bool) → (b && true) ≡ b
and-true true = refl
and-true false = refl

-- the tags of a log
pub tags-ascend : (log : Log) → ascend log.tags ≡ true
tags-ascend log = (both_true (some_tags log.tags && list_all _ log.tags) (ascend log.tags) (tags-right log)).1

-- what a search tells
pub searched : (tags : List (List ℕ)) → ascend tags ≡ true → (tag : List ℕ) (r : Result ℕ ℕ) → IsSearchInRange r (length tags)
    → IsBinarySearchResult (λ y. tag_cmp y tag) tags r → is_ok r ≡ list_any (bytes_eq tag) tags
searched tags up tag (Ok place) low at =
    follows_at tags up [] [] (λ k within. refl) (record { tag = tag; seq = 1 }) place low at ∙ and-true (list_any (bytes_eq tag) tags)
searched tags up tag (Err place) low parts =
    foreign tags up [] [] (λ k within. refl) (record { tag = tag; seq = 1 }) place parts ∙ and-true (list_any (bytes_eq tag) tags)

module _ {X : Type 0} (p : X → Bool) (d : X) where
  -- where none before a place passes, and that one does, it is the first
  pub first-at : (xs : List X) (i : ℕ) → i < length xs → ((k : ℕ) → k < i → p (get_or xs k d) ≡ false) → p (get_or xs i d) ≡ true
      → find p xs ≡ Some (get_or xs i d)
  first-at [] i low none is = absurd (omega (arith, low))
  first-at (x ∷ xs) zero low none is = ap (λ b. cond b (Some x) (find p xs)) is
  first-at (x ∷ xs) (suc i) low none is =
      ap (λ b. cond b (Some x) (find p xs)) (none 0 (omega arith))
      ∙ first-at xs i (omega (arith, low)) (λ k before. none (suc k) (omega (arith, before))) is

  -- where none passes, there is none
  pub none-at : (xs : List X) → ((k : ℕ) → k < length xs → p (get_or xs k d) ≡ false) → find p xs ≡ None
  none-at [] none = refl
  none-at (x ∷ xs) none =
      ap (λ b. cond b (Some x) (find p xs)) (none 0 (omega arith)) ∙ none-at xs (λ k low. none (suc k) (omega (arith, low)))
