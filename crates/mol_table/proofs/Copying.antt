-- A map into which the entries of another are put one key after another.
use Rattle.std.specs.Prelude.{◌≡◌, ℕ, ◌+◌, ◌<◌, Bool, true, false, cond, ◌||◌, List, [], ◌∷◌, ◌++◌, map, take, length, Option, None, Some, is_some, option_map}
use Rattle.std.proofs.Common.{suc, refl, sym, ap, ◌∙◌, arith, get_or}
use Rattle.std.proofs.Math.Seq.{take-suc}
use Rattle.std.proofs.lemmas.List.Folds.{list_any-append}
use Rattle.std.specs.List.{list_any}
use Rattle.std.specs.Cmp.{IsTotalOrder}
use Rattle.std.specs.Ordering.{eq_by_cmp}
use Rattle.std.specs.declared.cmp.Ordering.{Ordering}
use Rattle.std.specs.FinMap.{FinMap, IsAntisymmetric, get, from_entries, get-from_entries, find, same_map}
use Rattle.mol_table_rules.proofs.Counts.{tied}

-- a list up to the next place ends in the item at that place
pub take-item : {A : Type 0} (xs : List A) (i : ℕ) (x : A) → i < length xs → x ≡ get_or xs i x → take (i + 1) xs ≡ take i xs ++ x ∷ []
take-item xs i x within is =
    let next : i + 1 ≡ suc i = omega arith in
    ap (λ k. take k xs) next ∙ take-suc xs i x within ∙ ap (λ y. take i xs ++ y ∷ []) (sym is)

-- the copy has the values at these keys, and no others
module _ {K X : Type 0} {R : K → K → Ordering} where
  abbrev pub HasAt : FinMap R X → FinMap R X → List K → Type 0
  HasAt full copy ks = (q : K) → get copy q ≡ cond (list_any (eq_by_cmp R q) ks) (get full q) None

module _ {K X : Type 0} {R : K → K → Ordering} (total : IsTotalOrder R) (same : IsAntisymmetric R) where
  pub has-none : (full copy : FinMap R X) → ((q : K) → get copy q ≡ None) → HasAt full copy []
  has-none full copy none q = none q

  pub has-more : (full old : FinMap R X) (ks : List K) (k : K) (o : Option X) → get full k ≡ o → (new : FinMap R X)
      → ((q : K) → get new q ≡ cond (eq_by_cmp R q k) o (get old q)) → HasAt full old ks → HasAt full new (ks ++ k ∷ [])
  has-more full old ks k o is new put has q =
      put q ∙ at (eq_by_cmp R q k) refl
      ∙ ap (λ b. cond b (get full q) None) (sym (list_any-append (eq_by_cmp R q) ks (k ∷ [])))
    where
      or_true : (a : Bool) → (a || (true || false)) ≡ true
      or_true true = refl
      or_true false = refl

      or_false : (a : Bool) → (a || (false || false)) ≡ a
      or_false true = refl
      or_false false = refl

      at : (b : Bool) → eq_by_cmp R q k ≡ b → cond b o (get old q) ≡ cond (list_any (eq_by_cmp R q) ks || (eq_by_cmp R q k || false)) (get full q) None
      at true e =
          sym (ap (λ b. cond (list_any (eq_by_cmp R q) ks || (b || false)) (get full q) None) e
          ∙ ap (λ b. cond b (get full q) None) (or_true (list_any (eq_by_cmp R q) ks))
          ∙ ap (get full) (same q k (tied _ e)) ∙ is)
      at false e =
          has q ∙ ap (λ b. cond b (get full q) None) (sym (or_false (list_any (eq_by_cmp R q) ks)))
          ∙ ap (λ b. cond (list_any (eq_by_cmp R q) ks || (b || false)) (get full q) None) (sym e)

  -- a key that the map does not have adds nothing
  pub has-same : (full copy : FinMap R X) (ks : List K) (k : K) → get full k ≡ None → HasAt full copy ks → HasAt full copy (ks ++ k ∷ [])
  has-same full copy ks k none has = has-more full copy ks k None none copy (λ q. put q (eq_by_cmp R q k) refl) has where
    nothing : (a : Bool) → let none : Option X = None in cond a none none ≡ none
    nothing true = refl
    nothing false = refl

    put : (q : K) (b : Bool) → eq_by_cmp R q k ≡ b → get copy q ≡ cond (eq_by_cmp R q k) None (get copy q)
    put q true e =
        has q ∙ ap (λ o. cond (list_any (eq_by_cmp R q) ks) o None) (ap (get full) (same q k (tied _ e)) ∙ none)
        ∙ nothing (list_any (eq_by_cmp R q) ks) ∙ ap (λ b. cond b None (get copy q)) (sym e)
    put q false e = ap (λ b. cond b None (get copy q)) (sym e)

  any-find : (q : K) (es : List (K × X)) → list_any (eq_by_cmp R q) (map (λ e. e.0) es) ≡ is_some (find R q es)
  any-find q [] = refl
  any-find q (e ∷ es) = any-next (eq_by_cmp R q e.0) _ e.1 (find R q es) (any-find q es) where
    any-next : (b any : Bool) (x : X) (o : Option X) → any ≡ is_some o → (b || any) ≡ is_some (cond b (Some x) o)
    any-next true any x o e = refl
    any-next false any x o e = e

  some-or : (o : Option X) → cond (is_some o) o None ≡ o
  some-or None = refl
  some-or (Some x) = refl

  -- with all keys it is the map itself
  pub has-all : (es : List (K × X)) (copy : FinMap R X) → HasAt (from_entries es) copy (map (λ e. e.0) es) → copy ≡ from_entries es
  has-all es copy has =
      let full : FinMap R X = from_entries es in
      same_map total same copy full (λ q.
      has q ∙ ap (λ b. cond b (get full q) None) (any-find q es ∙ ap is_some (sym (get-from_entries {R = R} total es q)))
      ∙ some-or (get full q))

  -- with all keys of a map, it is the map with each value changed
  pub has-mapped : (f : X → X) (es : List (K × X)) (full : FinMap R X) → ((q : K) → get full q ≡ option_map f (get (from_entries {R = R} es) q))
      → (copy : FinMap R X) → HasAt full copy (map (λ e. e.0) es) → copy ≡ full
  has-mapped f es full mapped copy has =
      same_map total same copy full (λ q.
      has q ∙ ap (λ b. cond b (get full q) None) (any-find q es ∙ ap is_some (sym (get-from_entries {R = R} total es q)) ∙ sym (kept (get (from_entries {R = R} es) q)) ∙ ap is_some (sym (mapped q)))
      ∙ some-or (get full q))
    where
      kept : (o : Option X) → is_some (option_map f o) ≡ is_some o
      kept None = refl
      kept (Some x) = refl
