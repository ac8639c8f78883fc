-- How many entries of a finite map pass a test.
use Rattle.std.specs.Prelude.{◌≡◌, ◌≢◌, ℕ, ◌+◌, ◌≤◌, Bool, true, false, cond, ◌==◌, ◌&&◌, ◌||◌, not, List, [], ◌∷◌, length, Option, None, Some, is_some, T}
use Rattle.std.proofs.Common.{refl, sym, ap, ◌∙◌, arith}
use Rattle.std.proofs.lemmas.Bool.{ne_eqb}
use Rattle.std.specs.List.{AllByRecursion, list_any}
use Rattle.std.specs.Ordering.{eq_by_cmp, is_eq, is_lt, ordering_reverse}
use Rattle.std.specs.Cmp.{IsTotalOrder, eq_by_cmp_equiv}
use Rattle.std.specs.declared.cmp.Ordering.{Ordering}
use Rattle.std.specs.declared.cmp.Ordering.TheVariants.{Less, Equal, Greater}
use Rattle.std.specs.FinMap.{FinMap, IsAntisymmetric, entries, entries_sorted, get, get-entries, insert, remove, get-insert, get-remove, entries-insert, find, put, is_sorted, same_map, from_entries, len, len-empty, len-insert, len-entries}
use Rattle.std.specs.FinMap.Entries.{below_all, by_order}
use Rattle.mol_table_rules.specs.Counting.{one_if, passing, count}

pub tied : (o : Ordering) → is_eq o ≡ true → o ≡ Equal
tied Less e = absurd cc
tied Equal e = refl
tied Greater e = absurd cc

pub none-some : {X : Type 0} (x : X) → None ≡ Some x → ⊥
none-some x e = cc

pub some-same : {X : Type 0} (x y : X) → Some x ≡ Some y → x ≡ y
some-same x y e = cc

both : (a b : Bool) → T (a && b) → T a × T b
both true b h = (tt, h)
both false b h = absurd h

not_tied : (o : Ordering) → T (is_lt o) → is_eq (ordering_reverse o) ≡ false
not_tied Less h = refl
not_tied Equal h = absurd h
not_tied Greater h = absurd h

pub same_count : {X : Type 0} (p q : X → Bool) (xs : List X) → AllByRecursion (λ x. p x ≡ q x) xs → passing p xs ≡ passing q xs
same_count p q [] all = refl
same_count p q (x ∷ xs) all = (λ i. one_if (all.0 i) + same_count p q xs all.1 i)

not_none : (n : ℕ) → (1 + n == 0) ≡ false
not_none n = ne_eqb (1 + n) 0 (λ e. omega (arith, e))

any-more : (b any : Bool) (n : ℕ) → any ≡ not (n == 0) → (b || any) ≡ not ((one_if b + n) == 0)
any-more true any n e = sym (ap not (not_none n))
any-more false any n e = e ∙ ap (λ k. not (k == 0)) (omega arith)

-- some item passes exactly where the number is not 0
pub any-passing : {X : Type 0} (p : X → Bool) (xs : List X) → list_any p xs ≡ not (passing p xs == 0)
any-passing p [] = refl
any-passing p (x ∷ xs) = any-more (p x) (list_any p xs) (passing p xs) (any-passing p xs)

-- what an absent or present value adds
abbrev pub part : {K X : Type 0} → (K × X → Bool) → K → Option X → ℕ
part test key None = 0
part test key (Some value) = one_if (test (key, value))

module _ {K X : Type 0} {R : K → K → Ordering} (total : IsTotalOrder R) (same : IsAntisymmetric R) where
  after : (key : K) (value : X) (es part : List (K × X)) → T (below_all R key part) → AllByRecursion (λ e. find R e.0 es ≡ Some e.1) part
      → AllByRecursion (λ e. find R e.0 ((key, value) ∷ es) ≡ Some e.1) part
  after key value es [] below all = tt {0}
  after key value es (e ∷ part) below all =
      let h = both _ _ below in (
        ap (λ b. cond b (Some value) (find R e.0 es)) (ap is_eq (total.antisymm e.0 key) ∙ not_tied (R key e.0) h.0) ∙ all.0,
        after key value es part h.1 all.1,
      )

  found : (es : List (K × X)) → T (is_sorted R es) → AllByRecursion (λ e. find R e.0 es ≡ Some e.1) es
  found [] h = tt {0}
  found (e ∷ es) h = (
    ap (λ b. cond b (Some e.1) (find R e.0 es)) ((eq_by_cmp_equiv total).refl e.0),
    after e.0 e.1 es es (both _ _ h).0 (found es (both _ _ h).1),
  )

  -- each entry is what the map has at its key
  pub each_found : (map : FinMap R X) → AllByRecursion (λ e. get map e.0 ≡ Some e.1) (entries map)
  each_found map = at (entries map) (found (entries map) (entries_sorted map)) where
    at : (part : List (K × X)) → AllByRecursion (λ e. find R e.0 (entries map) ≡ Some e.1) part → AllByRecursion (λ e. get map e.0 ≡ Some e.1) part
    at [] all = tt {0}
    at (e ∷ part) all = (get-entries map e.0 ∙ all.0, at part all.1)

  -- tests that agree on what a map has count the same
  pub count-same : (test other : K × X → Bool) (map : FinMap R X) → ((key : K) (value : X) → get map key ≡ Some value → test (key, value) ≡ other (key, value)) → count test map ≡ count other map
  count-same test other map agree = same_count _ _ (entries map) (at (entries map) (each_found map)) where
    at : (part : List (K × X)) → AllByRecursion (λ e. get map e.0 ≡ Some e.1) part → AllByRecursion (λ e. test e ≡ other e) part
    at [] all = tt {0}
    at (e ∷ part) all = (agree e.0 e.1 all.0, at part all.1)

  passing-put : (p : K × X → Bool) (key : K) (value : X) (es : List (K × X)) → find R key es ≡ None → passing p (put R key value es) ≡ passing p es + one_if (p (key, value))
  passing-put p key value [] none = omega arith
  passing-put p key value (e ∷ es) none = by (passing-put p key value es) (R key e.0) refl where
    by : (find R key es ≡ None → passing p (put R key value es) ≡ passing p es + one_if (p (key, value))) → (o : Ordering) → R key e.0 ≡ o
        → passing p (by_order (R key e.0) ((key, value) ∷ e ∷ es) ((e.0, value) ∷ es) (e ∷ put R key value es)) ≡ (one_if (p e) + passing p es) + one_if (p (key, value))
    by rest Less is = ap (λ o. passing p (by_order o ((key, value) ∷ e ∷ es) ((e.0, value) ∷ es) (e ∷ put R key value es))) is ∙ omega arith
    by rest Equal is = absurd (none-some e.1 (sym none ∙ ap (λ o. cond (is_eq o) (Some e.1) (find R key es)) is))
    by rest Greater is =
        let more = rest (ap (λ o. cond (is_eq o) (Some e.1) (find R key es)) (sym is) ∙ none) in
        ap (λ o. passing p (by_order o ((key, value) ∷ e ∷ es) ((e.0, value) ∷ es) (e ∷ put R key value es))) is ∙ omega (arith, more)

  -- a new entry counts where it passes
  count-new : (test : K × X → Bool) (map : FinMap R X) (key : K) (value : X) → get map key ≡ None → count test (insert map key value) ≡ count test map + one_if (test (key, value))
  count-new test map key value none =
      ap (passing test) (entries-insert total map key value)
      ∙ passing-put test key value (entries map) (sym (get-entries map key) ∙ none)

  gone : (map : FinMap R X) (key : K) → get (remove map key) key ≡ None
  gone map key = get-remove total map key key ∙ ap (λ b. cond b None (get map key)) ((eq_by_cmp_equiv total).refl key)

  -- a map with an entry is what is left without it, and the entry
  again : (map : FinMap R X) (key : K) (value : X) → insert (remove map key) key value ≡ insert map key value
  again map key value = same_map total same (insert (remove map key) key value) (insert map key value) (λ q.
      get-insert total (remove map key) key value q ∙ ap (cond (eq_by_cmp R q key) (Some value)) (get-remove total map key q)
      ∙ by q (eq_by_cmp R q key) ∙ sym (get-insert total map key value q))
    where
      by : (q : K) (b : Bool) → cond b (Some value) (cond b None (get map q)) ≡ cond b (Some value) (get map q)
      by q true = refl
      by q false = refl

  pub insert-same : (map : FinMap R X) (key : K) (value : X) → get map key ≡ Some value → insert map key value ≡ map
  insert-same map key value is = same_map total same (insert map key value) map (λ q. get-insert total map key value q ∙ by q (eq_by_cmp R q key) refl) where
    by : (q : K) (b : Bool) → eq_by_cmp R q key ≡ b → cond b (Some value) (get map q) ≡ get map q
    by q true e = sym (ap (get map) (same q key (tied _ e)) ∙ is)
    by q false e = refl

  count-kept : (test : K × X → Bool) (map : FinMap R X) (key : K) (o : Option X) → get map key ≡ o → count test map ≡ count test (remove map key) + part test key o
  count-kept test map key None is = ap (count test) (same_map total same map (remove map key) (λ q. sym (get-remove total map key q ∙ by q (eq_by_cmp R q key) refl))) ∙ omega arith where
    by : (q : K) (b : Bool) → eq_by_cmp R q key ≡ b → cond b None (get map q) ≡ get map q
    by q true e = sym (ap (get map) (same q key (tied _ e)) ∙ is)
    by q false e = refl
  count-kept test map key (Some value) is =
      ap (count test) (sym (again map key value ∙ insert-same map key value is))
      ∙ count-new test (remove map key) key value (gone map key)

  -- what is at a key is counted
  pub part-le : (test : K × X → Bool) (map : FinMap R X) (key : K) → part test key (get map key) ≤ count test map
  part-le test map key = let kept = count-kept test map key (get map key) refl in omega (arith, kept)

  -- an entry counts in place of what was at its key
  pub count-insert : (test : K × X → Bool) (map : FinMap R X) (key : K) (value : X)
      → count test (insert map key value) + part test key (get map key) ≡ count test map + one_if (test (key, value))
  count-insert test map key value =
      let one = ap (count test) (sym (again map key value)) ∙ count-new test (remove map key) key value (gone map key) in
      let two = count-kept test map key (get map key) refl in
      omega (arith, one, two)

  apart : (map : FinMap R X) (key q : K) (w : X) → get (remove map key) q ≡ Some w → q ≢ key
  apart map key q w at e = none-some w (sym (gone map key) ∙ ap (get (remove map key)) (sym e) ∙ at)

  -- tests that agree but at one key
  pub count-change : (test other : K × X → Bool) (map : FinMap R X) (key : K) → ((q : K) (w : X) → q ≢ key → test (q, w) ≡ other (q, w))
      → count other map + part test key (get map key) ≡ count test map + part other key (get map key)
  count-change test other map key agree =
      let one = count-kept test map key (get map key) refl in
      let two = count-kept other map key (get map key) refl in
      let rest = count-same test other (remove map key) (λ q w at. agree q w (apart map key q w at)) in
      omega (arith, one, two, rest)

-- ---- a number of entries is at most that of all

passing-more : {X : Type 0} (p : X → Bool) (x : X) (xs : List X) → passing p xs ≤ length xs → (b : Bool) → one_if b + passing p xs ≤ length (x ∷ xs)
passing-more p x xs rest true = omega (arith, rest)
passing-more p x xs rest false = omega (arith, rest)

passing-le : {X : Type 0} (p : X → Bool) (xs : List X) → passing p xs ≤ length xs
passing-le p [] = omega arith
passing-le p (x ∷ xs) = passing-more p x xs (passing-le p xs) (p x)

module _ {K X : Type 0} {R : K → K → Ordering} (total : IsTotalOrder R) where
  len-more : (m : FinMap R X) (k : K) (x : X) (n : ℕ) → len m ≤ n → (b : Bool) → len (insert m k x) ≡ cond b (len m) (len m + 1) → len (insert m k x) ≤ n + 1
  len-more m k x n rest true is = omega (arith, rest, is)
  len-more m k x n rest false is = omega (arith, rest, is)

  pub len-le : (es : List (K × X)) → len (from_entries {R = R} es) ≤ length es
  len-le [] = omega (arith, len-empty R X)
  len-le (e ∷ es) =
      let more = len-more (from_entries {R = R} es) e.0 e.1 (length es) (len-le es) (is_some (get (from_entries {R = R} es) e.0)) (len-insert total (from_entries {R = R} es) e.0 e.1) in
      omega (arith, more)

  pub count-le : (test : K × X → Bool) (es : List (K × X)) → count test (from_entries {R = R} es) ≤ length es
  count-le test es = omega (arith, passing-le test (entries (from_entries {R = R} es)), len-entries (from_entries {R = R} es), len-le es)

-- ---- what passes one test passes another

pub passing-fewer : {X : Type 0} (p q : X → Bool) → ((x : X) → p x ≡ true → q x ≡ true) → (xs : List X) → passing p xs ≤ passing q xs
passing-fewer p q step [] = omega arith
passing-fewer p q step (x ∷ xs) = at (p x) refl (passing-fewer p q step xs) where
  at : (b : Bool) → p x ≡ b → passing p xs ≤ passing q xs → (one_if (p x) + passing p xs) ≤ (one_if (q x) + passing q xs)
  at true e rest =
      let one : one_if (p x) ≡ 1 = ap one_if e in
      let other : one_if (q x) ≡ 1 = ap one_if (step x e) in
      omega (arith, one, other, rest)
  at false e rest = let one : one_if (p x) ≡ 0 = ap one_if e in omega (arith, one, rest)
