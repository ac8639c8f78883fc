-- Spans of a buffer that grows, and files in their places.
use Rattle.std.proofs.Common.{◌≡◌, ℕ, zero, suc, ◌+◌, ◌-◌, ◌<◌, ◌≤◌, List, [], ◌∷◌, ◌++◌, length, get_or, take, drop, Option, sym, ◌∙◌, ap, refl, subst, arith, add-one, append_assoc, length-append, length-drop}
use Rattle.std.specs.Prelude.{Bool, true, false, T, ◌&&◌, None, Some, slice_get, slice_range, IfSome, IsSomeAnd}
use Rattle.std.proofs.Math.ListN.{set}
use Rattle.std.proofs.Math.Seq.{drop-append_seam}
use Rattle.std.proofs.lemmas.List.{take-append-le, drop-append-le, map-set, map-append, length-map, take-map, drop-map}
use Rattle.std.proofs.lemmas.Option.{same_Some}
use Rattle.std.specs.Ordering.{nat_cmp, is_lt, ordering_reverse}
use Rattle.std.specs.declared.cmp.Ordering.{Ordering}
use Rattle.std.specs.declared.cmp.Ordering.TheVariants.{Less, Equal, Greater}
use Rattle.std.specs.Cmp.Lexicographic.{slice_cmp, nat_list_cmp_total}
use Rattle.std.specs.FinMap.{put, nat_cmp-IsAntisymmetric, slice_cmp-IsAntisymmetric}
use Rattle.std.specs.FinMap.Entries.{below_all}
use Rattle.mol_outside.specs.declared.span.Span.{Span}
use Rattle.mol_outside.specs.Stored.{StoredFile, stored, all_stored, IsWithin, AreWithin, Ascend, ComeBefore}

-- # Places

pub within_at : (len : ℕ) (spans : List Span) (i : ℕ) (s : Span) → slice_get spans i ≡ Some s → AreWithin len spans → IsWithin len s
within_at len [] i s at within = absurd cc
within_at len (x ∷ xs) zero s at within = subst (IsWithin len) (same_Some x s at) within.0
within_at len (x ∷ xs) (suc i) s at within = within_at len xs i s at within.1

pub before_more : (path : List ℕ) (files : List StoredFile) (i : ℕ) (f : StoredFile) → ComeBefore path (take i files) → slice_get files i ≡ Some f → slice_cmp nat_cmp path f.0 ≡ Greater
    → ComeBefore path (take (suc i) files)
before_more path [] i f before at greater = absurd cc
before_more path (x ∷ xs) zero f before at greater = (ap (λ (g : StoredFile). slice_cmp nat_cmp path g.0) (same_Some x f at) ∙ greater, tt)
before_more path (x ∷ xs) (suc i) f before at greater = (before.0, before_more path xs i f before.1 at greater)

-- # Searching by halves

pub and_first : (a b : Bool) → T (a && b) → T a
and_first true b h = tt
and_first false b h = h

pub and_second : (a b : Bool) → T (a && b) → T b
and_second true b h = h
and_second false b h = absurd h

pub lt_less : (o : Ordering) → T (is_lt o) → o ≡ Less
lt_less Less h = refl
lt_less Equal h = absurd h
lt_less Greater h = absurd h

greater : (p q : List ℕ) → slice_cmp nat_cmp q p ≡ Less → slice_cmp nat_cmp p q ≡ Greater
greater p q e = nat_list_cmp_total.antisymm p q ∙ ap ordering_reverse e

less : (p q : List ℕ) → slice_cmp nat_cmp p q ≡ Greater → slice_cmp nat_cmp q p ≡ Less
less p q e = nat_list_cmp_total.antisymm q p ∙ ap ordering_reverse e

below_at : (p : List ℕ) (files : List StoredFile) (i : ℕ) (f : StoredFile) → T (below_all (slice_cmp nat_cmp) p files) → slice_get files i ≡ Some f → slice_cmp nat_cmp p f.0 ≡ Less
below_at p [] i f h at = absurd cc
below_at p (x ∷ xs) zero f h at = ap (λ (g : StoredFile). slice_cmp nat_cmp p g.0) (sym (same_Some x f at)) ∙ lt_less _ (and_first (is_lt (slice_cmp nat_cmp p x.0)) _ h)
below_at p (x ∷ xs) (suc i) f h at = below_at p xs i f (and_second (is_lt (slice_cmp nat_cmp p x.0)) _ h) at

-- among files that ascend, those before a file come before its path
before_at : (files : List StoredFile) (i : ℕ) (f : StoredFile) → Ascend files → slice_get files i ≡ Some f → ComeBefore f.0 (take i files)
before_at [] i f h at = absurd cc
before_at (x ∷ xs) zero f h at = tt
before_at (x ∷ xs) (suc i) f h at =
    (greater f.0 x.0 (below_at x.0 xs i f (and_first (below_all (slice_cmp nat_cmp) x.0 xs) _ h) at), before_at xs i f (and_second (below_all (slice_cmp nat_cmp) x.0 xs) _ h) at)

before_greater : (path q : List ℕ) (files : List StoredFile) → slice_cmp nat_cmp path q ≡ Greater → ComeBefore q files → ComeBefore path files
before_greater path q [] g before = tt
before_greater path q (x ∷ xs) g before =
    (greater path x.0 (nat_list_cmp_total.trans x.0 q path (less q x.0 before.0) (less path q g)), before_greater path q xs g before.1)

pub before_found : (path : List ℕ) (files : List StoredFile) (i : ℕ) (f : StoredFile) → Ascend files → slice_get files i ≡ Some f → slice_cmp nat_cmp path f.0 ≡ Equal → ComeBefore path (take i files)
before_found path files i f h at equal =
    subst (λ p. ComeBefore p (take i files)) (sym (slice_cmp-IsAntisymmetric nat_cmp-IsAntisymmetric path f.0 equal)) (before_at files i f h at)

pub before_past : (path : List ℕ) (files : List StoredFile) (i : ℕ) (f : StoredFile) → Ascend files → slice_get files i ≡ Some f → slice_cmp nat_cmp path f.0 ≡ Greater → ComeBefore path (take (i + 1) files)
before_past path files i f h at g = rw add-one (before_more path files i f (before_greater path f.0 (take i files) g (before_at files i f h at)) at g)

-- # A put at a place

pub put_found : (path bytes : List ℕ) (files : List StoredFile) (i : ℕ) (f : StoredFile) → ComeBefore path (take i files) → slice_get files i ≡ Some f → slice_cmp nat_cmp path f.0 ≡ Equal
    → put (slice_cmp nat_cmp) path bytes files ≡ set files i (path, bytes)
put_found path bytes [] i f before at equal = absurd cc
put_found path bytes (x ∷ xs) zero f before at equal =
    let tie : slice_cmp nat_cmp path x.0 ≡ Equal = ap (λ (g : StoredFile). slice_cmp nat_cmp path g.0) (same_Some x f at) ∙ equal in
    rw tie (ap (λ p. (p, bytes) ∷ xs) (sym (slice_cmp-IsAntisymmetric nat_cmp-IsAntisymmetric path x.0 tie)))
put_found path bytes (x ∷ xs) (suc i) f before at equal = rw before.0 (ap (λ l. x ∷ l) (put_found path bytes xs i f before.1 at equal))

pub put_absent : (path bytes : List ℕ) (files : List StoredFile) (i : ℕ) → i ≤ length files → ComeBefore path (take i files) → IfSome (slice_get files i) (λ f. slice_cmp nat_cmp path f.0 ≡ Less)
    → put (slice_cmp nat_cmp) path bytes files ≡ take i files ++ (path, bytes) ∷ drop i files
put_absent path bytes [] zero low before less = refl
put_absent path bytes [] (suc i) low before less = absurd (omega arith)
put_absent path bytes (x ∷ xs) zero low before less = rw less refl
put_absent path bytes (x ∷ xs) (suc i) low before less = rw before.0 (ap (λ l. x ∷ l) (put_absent path bytes xs i (omega arith) before.1 less))

-- # A buffer that grows

keeps_range : (xs ys : List ℕ) (a b : ℕ) → a ≤ b → b ≤ length xs → slice_range (xs ++ ys) a b ≡ slice_range xs a b
keeps_range xs ys a b low high =
    ap (take (b - a)) (drop-append-le a xs ys (omega arith)) ∙ take-append-le (b - a) (drop a xs) ys (omega (arith, length-drop a xs))

pub all_stored-append : (xs ys : List ℕ) (spans : List Span) → AreWithin (length xs) spans → all_stored (xs ++ ys) spans ≡ all_stored xs spans
all_stored-append xs ys [] within = refl
all_stored-append xs ys (s ∷ spans) within =
    (λ i. (keeps_range xs ys s.start s.mid within.0.0 (omega (arith, within.0.1, within.0.2)) i, keeps_range xs ys s.mid s.end within.0.1 within.0.2 i) ∷ all_stored-append xs ys spans within.1 i)

back : (a b : ℕ) → (a + b) - a ≡ b
back a b = omega arith

-- what was appended last
pub last_range : (xs ys : List ℕ) (a b : ℕ) → a ≡ length xs → b ≡ length xs + length ys → slice_range (xs ++ ys) a b ≡ ys
last_range xs ys a b is ends =
    rw (is, ends, back (length xs) (length ys), drop-append_seam xs ys) (ap (take (length ys)) refl ∙ whole ys) where
      whole : (zs : List ℕ) → take (length zs) zs ≡ zs
      whole [] = refl
      whole (z ∷ zs) = ap (λ l. z ∷ l) (whole zs)

pub stored_last : (xs path bytes : List ℕ) (s : Span) → s.start ≡ length xs → s.mid ≡ length xs + length path → s.end ≡ length xs + length path + length bytes
    → stored ((xs ++ path) ++ bytes) s ≡ (path, bytes)
stored_last xs path bytes s start mid end =
    let first : slice_range ((xs ++ path) ++ bytes) s.start s.mid ≡ path = keeps_range (xs ++ path) bytes s.start s.mid (omega arith) (omega (arith, length-append xs path)) ∙ last_range xs path s.start s.mid start mid in
    let second : slice_range ((xs ++ path) ++ bytes) s.mid s.end ≡ bytes = last_range (xs ++ path) bytes s.mid s.end (omega (arith, length-append xs path)) (omega (arith, length-append xs path)) in
    λ i. (first i, second i)

-- # Within

pub wider : (a b : ℕ) (spans : List Span) → a ≤ b → AreWithin a spans → AreWithin b spans
wider a b [] le within = tt
wider a b (s ∷ spans) le within = ((within.0.0, within.0.1, omega (arith, within.0.2)), wider a b spans le within.1)

pub within_set : (len : ℕ) (spans : List Span) (i : ℕ) (s : Span) → AreWithin len spans → IsWithin len s → AreWithin len (set spans i s)
within_set len [] i s within one = tt
within_set len (x ∷ xs) zero s within one = (one, within.1)
within_set len (x ∷ xs) (suc i) s within one = (within.0, within_set len xs i s within.1 one)

pub within_insert : (len : ℕ) (spans : List Span) (i : ℕ) (s : Span) → AreWithin len spans → IsWithin len s → AreWithin len (take i spans ++ s ∷ drop i spans)
within_insert len spans zero s within one = (one, within)
within_insert len [] (suc i) s within one = (one, tt)
within_insert len (x ∷ xs) (suc i) s within one = (within.0, within_insert len xs i s within.1 one)

pub within_get : (len : ℕ) (spans : List Span) (i : ℕ) (d : Span) → i < length spans → AreWithin len spans → IsWithin len (get_or spans i d)
within_get len [] i d low within = absurd (omega arith)
within_get len (x ∷ xs) zero d low within = within.0
within_get len (x ∷ xs) (suc i) d low within = within_get len xs i d (omega arith) within.1

pub none_past : {X : Type 0} (xs : List X) (n : ℕ) → n ≡ length xs → slice_get xs n ≡ None
none_past [] n e = refl
none_past (x ∷ xs) zero e = absurd (omega arith)
none_past (x ∷ xs) (suc n) e = none_past xs n (omega arith)

-- # A put, whole

some_at : {X : Type 0} (o : Option X) (P : X → Type 0) → IsSomeAnd o P → (x : X) × (o ≡ Some x) × P x
some_at None P h = absurd h
some_at (Some x) P h = (x, refl, h)

module _ (buffer path bytes : List ℕ) (spans : List Span) (i : ℕ) (s : Span) (within : AreWithin (length buffer) spans)
    (start : s.start ≡ length buffer) (mid : s.mid ≡ length buffer + length path) (end : s.end ≡ length buffer + length path + length bytes) where
  kept : all_stored ((buffer ++ path) ++ bytes) spans ≡ all_stored buffer spans
  kept = ap (λ b. all_stored b spans) (append_assoc buffer path bytes) ∙ all_stored-append buffer (path ++ bytes) spans within

  pub put_over : ComeBefore path (take i (all_stored buffer spans)) → IsSomeAnd (slice_get (all_stored buffer spans) i) (λ f. slice_cmp nat_cmp path f.0 ≡ Equal)
      → all_stored ((buffer ++ path) ++ bytes) (set spans i s) ≡ put (slice_cmp nat_cmp) path bytes (all_stored buffer spans)
  put_over before at =
      let f = some_at _ (λ (f : StoredFile). slice_cmp nat_cmp path f.0 ≡ Equal) at in
      map-set (stored ((buffer ++ path) ++ bytes)) spans i s ∙ rw (kept, stored_last buffer path bytes s start mid end) (sym (put_found path bytes (all_stored buffer spans) i f.0 before f.1 f.2))

  pub put_new : i ≤ length spans → ComeBefore path (take i (all_stored buffer spans)) → IfSome (slice_get (all_stored buffer spans) i) (λ f. slice_cmp nat_cmp path f.0 ≡ Less)
      → all_stored ((buffer ++ path) ++ bytes) (take i spans ++ s ∷ drop i spans) ≡ put (slice_cmp nat_cmp) path bytes (all_stored buffer spans)
  put_new low before at =
      let B : List ℕ = (buffer ++ path) ++ bytes in
      map-append (stored B) (take i spans) (s ∷ drop i spans) ∙ rw (← take-map (stored B) i spans, ← drop-map (stored B) i spans, kept, stored_last buffer path bytes s start mid end)
      (sym (put_absent path bytes (all_stored buffer spans) i (rw (length-map spans (stored buffer)) low) before at))

  pub within_last : IsWithin (length buffer + length path + length bytes) s
  within_last = (omega arith, omega arith, omega arith)

pub slice_get_at : {X : Type 0} (xs : List X) (i : ℕ) (d : X) → i < length xs → slice_get xs i ≡ Some (get_or xs i d)
slice_get_at [] i d low = absurd (omega arith)
slice_get_at (x ∷ xs) zero d low = refl
slice_get_at (x ∷ xs) (suc i) d low = slice_get_at xs i d (omega arith)
