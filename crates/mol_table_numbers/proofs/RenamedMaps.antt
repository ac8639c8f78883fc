-- Maps with other keys: what is alive, each key renamed by a function that keeps these apart, and each value changed.
use Rattle.std.specs.Prelude.{◌≡◌, ◌+◌, Bool, true, false, cond, ◌&&◌, ◌||◌, List, [], ◌∷◌, ◌++◌, Option, None, Some, is_some, option_map, T}
use Rattle.std.proofs.Common.{refl, sym, ap, ◌∙◌, arith, true≢false}
use Rattle.std.proofs.lemmas.List.Folds.{list_any-append}
use Rattle.std.specs.Cmp.{IsTotalOrder, eq_by_cmp_equiv}
use Rattle.std.specs.List.{cons_option, filter_map, list_any}
use Rattle.std.specs.Ordering.{eq_by_cmp, is_eq, is_lt}
use Rattle.std.specs.declared.cmp.Ordering.{Ordering}
use Rattle.std.specs.declared.cmp.Ordering.TheVariants.{Less, Equal, Greater}
use Rattle.std.specs.FinMap.{FinMap, IsAntisymmetric, entries, entries_sorted, find, from_entries, get, get-entries, get-from_entries, is_sorted, same_map}
use Rattle.std.specs.FinMap.Entries.{below_all}
use Rattle.mol_table_rules.specs.Counting.{one_if, passing, count}
use Rattle.mol_table_rules.proofs.Programs.{no_entries}
use Rattle.mol_table_rules.proofs.Counts.{none-some, tied, part, count-insert}

module _ {K X : Type 0} (alive : K → Bool) (g : K → K) (h : X → X) where
  -- an entry with its new key and value, where the key is alive
  abbrev pub renamed_entry : K × X → Option (K × X)
  renamed_entry e = cond (alive e.0) (Some (g e.0, h e.1)) None

module _ {K X : Type 0} {R : K → K → Ordering} (alive : K → Bool) (g : K → K) (h : X → X) where
  -- the new map has the changed value of each living key at its new key, and nothing else
  pub record IsRenamed (old new : FinMap R X) : Type 0 where
    pub has : (k : K) → alive k ≡ true → get new (g k) ≡ option_map h (get old k)
    pub only : (q : K) (w : X) → get new q ≡ Some w → (k : K) × (alive k ≡ true) × (g k ≡ q)

  -- it has those of these keys
  pub record IsTaken (old new : FinMap R X) (ks : List K) : Type 0 where
    pub has : (k : K) → alive k ≡ true → list_any (eq_by_cmp R k) ks ≡ true → get new (g k) ≡ option_map h (get old k)
    pub only : (q : K) (w : X) → get new q ≡ Some w → (k : K) × (alive k ≡ true) × (g k ≡ q) × (list_any (eq_by_cmp R k) ks ≡ true)

module _ {K X : Type 0} {R : K → K → Ordering} (total : IsTotalOrder R) (same : IsAntisymmetric R) (alive : K → Bool) (g : K → K) (h : X → X)
    (apart : (a b : K) → alive a ≡ true → alive b ≡ true → g a ≡ g b → a ≡ b) where
  abbrev Renamed : FinMap R X → FinMap R X → Type 0
  Renamed = IsRenamed alive g h

  abbrev Taken : FinMap R X → FinMap R X → List K → Type 0
  Taken = IsTaken alive g h

  abbrev entry : K × X → Option (K × X)
  entry = renamed_entry alive g h

  own : (k : K) → eq_by_cmp R k k ≡ true
  own = (eq_by_cmp_equiv total).refl

  tied-keys : (a b : K) → eq_by_cmp R a b ≡ true → a ≡ b
  tied-keys a b e = same a b (tied _ e)

  -- two such maps are one
  pub renamed-same : (old new other : FinMap R X) → Renamed old new → Renamed old other → new ≡ other
  renamed-same old new other one two = same_map total same new other (λ q. at q (get new q) refl (get other q) refl) where
    by : (q : K) (k : K) → alive k ≡ true → g k ≡ q → get new q ≡ get other q
    by q k lives is = ap (get new) (sym is) ∙ one.has k lives ∙ sym (two.has k lives) ∙ ap (get other) is

    at : (q : K) (o : Option X) → get new q ≡ o → (p : Option X) → get other q ≡ p → get new q ≡ get other q
    at q (Some w) e p f = let k = one.only q w e in by q k.0 k.1 k.2
    at q None e None f = e ∙ sym f
    at q None e (Some w) f = let k = two.only q w f in by q k.0 k.1 k.2

  find-renamed : (k : K) → alive k ≡ true → (es : List (K × X)) → find R (g k) (filter_map entry es) ≡ option_map h (find R k es)
  find-renamed k lives [] = refl
  find-renamed k lives (e ∷ es) = at (alive e.0) refl (eq_by_cmp R k e.0) refl (find-renamed k lives es) where
    new-apart : alive e.0 ≡ true → eq_by_cmp R k e.0 ≡ false → (b : Bool) → eq_by_cmp R (g k) (g e.0) ≡ b → eq_by_cmp R (g k) (g e.0) ≡ false
    new-apart other differ true is = absurd (true≢false (sym (own k) ∙ ap (eq_by_cmp R k) (apart k e.0 lives other (tied-keys (g k) (g e.0) is)) ∙ differ))
    new-apart other differ false is = is

    at : (b : Bool) → alive e.0 ≡ b → (s : Bool) → eq_by_cmp R k e.0 ≡ s → find R (g k) (filter_map entry es) ≡ option_map h (find R k es)
        → find R (g k) (filter_map entry (e ∷ es)) ≡ option_map h (cond s (Some e.1) (find R k es))
    at true is true eq rest =
        ap (λ b. find R (g k) (cons_option (cond b (Some (g e.0, h e.1)) None) (filter_map entry es))) is
        ∙ ap (λ b. cond b (Some (h e.1)) (find R (g k) (filter_map entry es))) (ap (λ x. eq_by_cmp R (g x) (g e.0)) (tied-keys k e.0 eq) ∙ own (g e.0))
    at true is false eq rest =
        ap (λ b. find R (g k) (cons_option (cond b (Some (g e.0, h e.1)) None) (filter_map entry es))) is
        ∙ ap (λ b. cond b (Some (h e.1)) (find R (g k) (filter_map entry es))) (new-apart is eq _ refl) ∙ rest
    at false is true eq rest = absurd (true≢false (sym lives ∙ ap alive (tied-keys k e.0 eq) ∙ is))
    at false is false eq rest = ap (λ b. find R (g k) (cons_option (cond b (Some (g e.0, h e.1)) None) (filter_map entry es))) is ∙ rest

  find-came : (q : K) (w : X) (es : List (K × X)) → find R q (filter_map entry es) ≡ Some w → (k : K) × (alive k ≡ true) × (g k ≡ q)
  find-came q w [] is = absurd (none-some w is)
  find-came q w (e ∷ es) is = at (alive e.0) refl (find-came q w es) where
    at : (b : Bool) → alive e.0 ≡ b → (find R q (filter_map entry es) ≡ Some w → (k : K) × (alive k ≡ true) × (g k ≡ q)) → (k : K) × (alive k ≡ true) × (g k ≡ q)
    at true lives rest = by (eq_by_cmp R q (g e.0)) refl where
      by : (s : Bool) → eq_by_cmp R q (g e.0) ≡ s → (k : K) × (alive k ≡ true) × (g k ≡ q)
      by true eq = (e.0, lives, sym (tied-keys q (g e.0) eq))
      by false eq = rest
          (sym (ap (λ b. find R q (cons_option (cond b (Some (g e.0, h e.1)) None) (filter_map entry es))) lives
          ∙ ap (λ b. cond b (Some (h e.1)) (find R q (filter_map entry es))) eq) ∙ is)
    at false dead rest = rest (sym (ap (λ b. find R q (cons_option (cond b (Some (g e.0, h e.1)) None) (filter_map entry es))) dead) ∙ is)

  pub renamed-entries : (m : FinMap R X) → Renamed m (from_entries {R = R} (filter_map entry (entries m)))
  renamed-entries m = record {
    has = λ k lives. get-from_entries {R = R} total (filter_map entry (entries m)) (g k) ∙ find-renamed k lives (entries m) ∙ ap (option_map h) (sym (get-entries m k));
    only = λ q w is. find-came q w (entries m) (sym (get-from_entries {R = R} total (filter_map entry (entries m)) q) ∙ is);
  }

  -- ---- one key after another

  or-last : (k : K) (ks : List K) (x : K) → list_any (eq_by_cmp R k) (ks ++ x ∷ []) ≡ (list_any (eq_by_cmp R k) ks || eq_by_cmp R k x)
  or-last k ks x = list_any-append (eq_by_cmp R k) ks (x ∷ []) ∙ ap (λ b. list_any (eq_by_cmp R k) ks || b) (or-false (eq_by_cmp R k x)) where
    or-false : (b : Bool) → (b || false) ≡ b
    or-false true = refl
    or-false false = refl

  or-left : (a b : Bool) → a ≡ true → (a || b) ≡ true
  or-left true b e = refl
  or-left false b e = absurd (true≢false (sym e))

  or-right : (a b : Bool) → b ≡ true → (a || b) ≡ true
  or-right true b e = refl
  or-right false b e = e

  or-other : (a b : Bool) → b ≡ false → (a || b) ≡ true → a ≡ true
  or-other true b e k = refl
  or-other false b e k = absurd (true≢false (sym k ∙ e))

  pub taken-none : (old new : FinMap R X) → ((q : K) → get new q ≡ None) → Taken old new []
  taken-none old new none = record {
    has = λ k lives among. absurd (true≢false (sym among));
    only = λ q w is. absurd (none-some w (sym (none q) ∙ is));
  }

  later : (old new : FinMap R X) (ks : List K) (x q : K) (w : X) → Taken old new ks → get new q ≡ Some w
      → (k : K) × (alive k ≡ true) × (g k ≡ q) × (list_any (eq_by_cmp R k) (ks ++ x ∷ []) ≡ true)
  later old new ks x q w taken is = let k = taken.only q w is in (k.0, k.1, k.2, or-last k.0 ks x ∙ or-left _ _ k.3)

  -- a living key with its value
  pub taken-more : (old was new : FinMap R X) (ks : List K) (x : K) (v : X) → alive x ≡ true → get old x ≡ Some v
      → ((q : K) → get new q ≡ cond (eq_by_cmp R q (g x)) (Some (h v)) (get was q)) → Taken old was ks → Taken old new (ks ++ x ∷ [])
  taken-more old was new ks x v lives is put taken = record {
    has = λ k live among. has k live among (eq_by_cmp R k x) refl;
    only = λ q w at. only q w at (eq_by_cmp R q (g x)) refl;
  } where
    new-apart : (k : K) → alive k ≡ true → eq_by_cmp R k x ≡ false → (b : Bool) → eq_by_cmp R (g k) (g x) ≡ b → eq_by_cmp R (g k) (g x) ≡ false
    new-apart k live differ true eq = absurd (true≢false (sym (own k) ∙ ap (eq_by_cmp R k) (apart k x live lives (tied-keys (g k) (g x) eq)) ∙ differ))
    new-apart k live differ false eq = eq

    has : (k : K) → alive k ≡ true → list_any (eq_by_cmp R k) (ks ++ x ∷ []) ≡ true → (b : Bool) → eq_by_cmp R k x ≡ b → get new (g k) ≡ option_map h (get old k)
    has k live among true eq =
        let one = tied-keys k x eq in
        put (g k) ∙ ap (λ b. cond b (Some (h v)) (get was (g k))) (ap (λ y. eq_by_cmp R (g y) (g x)) one ∙ own (g x)) ∙ ap (option_map h) (sym (ap (get old) one ∙ is))
    has k live among false eq =
        put (g k) ∙ ap (λ b. cond b (Some (h v)) (get was (g k))) (new-apart k live eq _ refl)
        ∙ taken.has k live (or-other _ _ eq (sym (or-last k ks x) ∙ among))

    only : (q : K) (w : X) → get new q ≡ Some w → (b : Bool) → eq_by_cmp R q (g x) ≡ b → (k : K) × (alive k ≡ true) × (g k ≡ q) × (list_any (eq_by_cmp R k) (ks ++ x ∷ []) ≡ true)
    only q w at true eq = (x, lives, sym (tied-keys q (g x) eq), or-last x ks x ∙ or-right _ _ (own x))
    only q w at false eq = later old was ks x q w taken (sym (put q ∙ ap (λ b. cond b (Some (h v)) (get was q)) eq) ∙ at)

  -- a key that is not alive
  pub taken-dead : (old new : FinMap R X) (ks : List K) (x : K) → alive x ≡ false → Taken old new ks → Taken old new (ks ++ x ∷ [])
  taken-dead old new ks x dead taken = record {
    has = λ k live among. has k live among (eq_by_cmp R k x) refl;
    only = λ q w at. later old new ks x q w taken at;
  } where
    has : (k : K) → alive k ≡ true → list_any (eq_by_cmp R k) (ks ++ x ∷ []) ≡ true → (b : Bool) → eq_by_cmp R k x ≡ b → get new (g k) ≡ option_map h (get old k)
    has k live among true eq = absurd (true≢false (sym live ∙ ap alive (tied-keys k x eq) ∙ dead))
    has k live among false eq = taken.has k live (or-other _ _ eq (sym (or-last k ks x) ∙ among))

  absent-at : (old new : FinMap R X) (ks : List K) (k : K) → alive k ≡ true → list_any (eq_by_cmp R k) ks ≡ false → Taken old new ks → get new (g k) ≡ None
  absent-at old new ks k live absent taken = at (get new (g k)) refl where
    at : (o : Option X) → get new (g k) ≡ o → get new (g k) ≡ None
    at None e = e
    at (Some w) e =
        let came = taken.only (g k) w e in
        absurd (true≢false (sym came.3 ∙ ap (λ y. list_any (eq_by_cmp R y) ks) (apart came.0 k came.1 live came.2) ∙ absent))

  -- a key that the map does not have
  pub taken-absent : (old new : FinMap R X) (ks : List K) (x : K) → get old x ≡ None → Taken old new ks → Taken old new (ks ++ x ∷ [])
  taken-absent old new ks x absent taken = record {
    has = λ k live among. has k live among (list_any (eq_by_cmp R k) ks) refl;
    only = λ q w at. later old new ks x q w taken at;
  } where
    has : (k : K) → alive k ≡ true → list_any (eq_by_cmp R k) (ks ++ x ∷ []) ≡ true → (b : Bool) → list_any (eq_by_cmp R k) ks ≡ b → get new (g k) ≡ option_map h (get old k)
    has k live among true old-one = taken.has k live old-one
    has k live among false none =
        let eq : eq_by_cmp R k x ≡ true = sym (ap (λ b. b || eq_by_cmp R k x) none) ∙ sym (or-last k ks x) ∙ among in
        absent-at old new ks k live none taken ∙ ap (option_map h) (sym (ap (get old) (tied-keys k x eq) ∙ absent))

  -- all living keys that the map has
  pub taken-all : (old new : FinMap R X) (ks : List K) → ((k : K) → alive k ≡ true → is_some (get old k) ≡ true → list_any (eq_by_cmp R k) ks ≡ true) → Taken old new ks → Renamed old new
  taken-all old new ks all taken = record {
    has = λ k live. has k live (get old k) refl (list_any (eq_by_cmp R k) ks) refl;
    only = λ q w at. let came = taken.only q w at in (came.0, came.1, came.2);
  } where
    has : (k : K) → alive k ≡ true → (o : Option X) → get old k ≡ o → (b : Bool) → list_any (eq_by_cmp R k) ks ≡ b → get new (g k) ≡ option_map h (get old k)
    has k live o e true among = taken.has k live among
    has k live (Some v) e false none = absurd (true≢false (sym (all k live (ap is_some e)) ∙ none))
    has k live None e false none = absent-at old new ks k live none taken ∙ ap (option_map h) (sym e)

  -- ---- counts

  both : (a b : Bool) → T (a && b) → T a × T b
  both true b t = (tt, t)
  both false b t = absurd t

  below-none : (k : K) (es : List (K × X)) → T (below_all R k es) → find R k es ≡ None
  below-none k [] t = refl
  below-none k (e ∷ es) t = let parts = both _ _ t in ap (λ b. cond b (Some e.1) (find R k es)) (less (R k e.0) parts.0) ∙ below-none k es parts.1 where
    less : (o : Ordering) → T (is_lt o) → is_eq o ≡ false
    less Less t = refl
    less Equal t = absurd t
    less Greater t = refl

  -- entries of the new map pass a test where those of living keys do, renamed
  count-list : (test : K × X → Bool) (es : List (K × X)) → T (is_sorted R es)
      → count test (from_entries {R = R} (filter_map entry es)) ≡ passing (λ e. alive e.0 && test (g e.0, h e.1)) es
  count-list test [] sorted = ap (passing test) (no_entries {X = X} R)
  count-list test (e ∷ es) sorted = at (alive e.0) refl (count-list test es parts.1) where
    parts : T (below_all R e.0 es) × T (is_sorted R es)
    parts = both _ _ sorted

    at : (b : Bool) → alive e.0 ≡ b → count test (from_entries {R = R} (filter_map entry es)) ≡ passing (λ e. alive e.0 && test (g e.0, h e.1)) es
        → count test (from_entries {R = R} (filter_map entry (e ∷ es))) ≡ (one_if (alive e.0 && test (g e.0, h e.1)) + passing (λ e. alive e.0 && test (g e.0, h e.1)) es)
    at true lives rest =
        let map : FinMap R X = from_entries {R = R} (filter_map entry es) in
        let none : get map (g e.0) ≡ None = get-from_entries {R = R} total (filter_map entry es) (g e.0) ∙ find-renamed e.0 lives es ∙ ap (option_map h) (below-none e.0 es parts.0) in
        let more = count-insert total same test map (g e.0) (h e.1) in
        let zero : part test (g e.0) (get map (g e.0)) ≡ 0 = ap (part test (g e.0)) none in
        ap (λ b. count test (from_entries {R = R} (cons_option (cond b (Some (g e.0, h e.1)) None) (filter_map entry es)))) lives
        ∙ omega (arith, more, zero, rest)
        ∙ ap (λ b. one_if (b && test (g e.0, h e.1)) + passing (λ e. alive e.0 && test (g e.0, h e.1)) es) (sym lives)
    at false dead rest =
        ap (λ b. count test (from_entries {R = R} (cons_option (cond b (Some (g e.0, h e.1)) None) (filter_map entry es)))) dead
        ∙ omega (arith, rest) ∙ ap (λ b. one_if (b && test (g e.0, h e.1)) + passing (λ e. alive e.0 && test (g e.0, h e.1)) es) (sym dead)

  pub count-renamed : (test : K × X → Bool) (m : FinMap R X)
      → count test (from_entries {R = R} (filter_map entry (entries m))) ≡ count (λ e. alive e.0 && test (g e.0, h e.1)) m
  count-renamed test m = count-list test (entries m) (entries_sorted m)
