-- The modifiers that a tree keeps are allowed where those of the source are, and stand in their order.
use Rattle.std.proofs.Common.{◌≡◌, ℕ, zero, suc, ◌+◌, ◌≤◌, ◌<◌, Bool, true, false, ◌&&◌, ◌||◌, cond, List, [], ◌∷◌, ◌++◌, map, filter, codes, refl, sym, ap, ◌∙◌, arith}
use Prim.Native.String.{String}
use Rattle.std.specs.Prelude.{not, nat_le, nat_lt}
use Rattle.std.specs.List.{list_all, list_any}
use Rattle.std.specs.Str.{bytes_eq}
use Rattle.std.proofs.lemmas.Bool.{and_parts, and_from, le-leb, leb-true, lt-ltb, ltb-true}
use Rattle.std.proofs.lemmas.List.Sums.{sum_by-cons}
use Rattle.std.proofs.lemmas.Slice.Eq.{bytes_eq-Decides}
use Rattle.mol_base.specs.Among.{among}
use Rattle.mol_base.specs.Modifiers.{all_words, times, has, in_order, kept_of_method, AllowedWords, AreInOrder, MethodWords, AbstractWords, method_words, abstract_words}

abbrev stands_in : List (List ℕ) → List ℕ → Bool
stands_in words word = list_any (bytes_eq word) words

abbrev all_texts : List (List ℕ)
all_texts = map codes all_words

equal_bytes : (x y : List ℕ) → bytes_eq x y ≡ true → x ≡ y
equal_bytes x y h = (bytes_eq-Decides x y).0 h

same_bytes : (x : List ℕ) → bytes_eq x x ≡ true
same_bytes x = (bytes_eq-Decides x x).1 refl

-- # How often a text stands

times-cons : (y : List ℕ) (ys : List (List ℕ)) (x : List ℕ) → times (y ∷ ys) x ≡ cond (bytes_eq x y) 1 0 + times ys x
times-cons y ys x = sum_by-cons (λ z. cond (bytes_eq x z) 1 0) y ys

stands-times : (xs : List (List ℕ)) (x : List ℕ) → stands_in xs x ≡ nat_lt 0 (times xs x)
stands-times [] x = refl
stands-times (y ∷ ys) x = by (bytes_eq x y) (times-cons y ys x) (stands-times ys x) where
  by : (b : Bool) → times (y ∷ ys) x ≡ cond b 1 0 + times ys x → stands_in ys x ≡ nat_lt 0 (times ys x) → (b || stands_in ys x) ≡ nat_lt 0 (times (y ∷ ys) x)
  by true e rest = sym (lt-ltb 0 _ (omega arith))
  by false e rest = rest ∙ ap (nat_lt 0) (let same : times ys x ≡ times (y ∷ ys) x = omega arith in same)

times-filter : (p : List ℕ → Bool) (xs : List (List ℕ)) (x : List ℕ) → times (filter p xs) x ≡ cond (p x) (times xs x) 0
times-filter p [] x = by (p x) where
  by : (b : Bool) → times [] x ≡ cond b (times [] x) 0
  by true = refl
  by false = refl
times-filter p (y ∷ ys) x = by (p y) (p x) (bytes_eq x y) refl refl refl (times-filter p ys x) where
  by : (b c e : Bool) → p y ≡ b → p x ≡ c → bytes_eq x y ≡ e → times (filter p ys) x ≡ cond (p x) (times ys x) 0
      → times (cond b (y ∷ filter p ys) (filter p ys)) x ≡ cond c (times (y ∷ ys) x) 0
  by true true e f g h rest = let r : times (filter p ys) x ≡ times ys x = rw g at rest in times-cons y (filter p ys) x ∙ ap (λ (n : ℕ). cond (bytes_eq x y) 1 0 + n) r ∙ sym (times-cons y ys x)
  by true false true f g h rest = let s = equal_bytes x y h in let t : p x ≡ p y = ap p s in absurd cc
  by true false false f g h rest = let r : times (filter p ys) x ≡ 0 = rw g at rest in times-cons y (filter p ys) x ∙ rw (h, r) refl
  by false true true f g h rest = let s = equal_bytes x y h in let t : p x ≡ p y = ap p s in absurd cc
  by false true false f g h rest = let r : times (filter p ys) x ≡ times ys x = rw g at rest in r ∙ sym (times-cons y ys x ∙ rw h (omega arith))
  by false false e f g h rest = rw g at rest

stands-filter : (p : List ℕ → Bool) (xs : List (List ℕ)) (x : List ℕ) → stands_in (filter p xs) x ≡ (p x && stands_in xs x)
stands-filter p xs x = stands-times (filter p xs) x ∙ ap (nat_lt 0) (times-filter p xs x) ∙ by (p x) where
  by : (b : Bool) → nat_lt 0 (cond b (times xs x) 0) ≡ (b && stands_in xs x)
  by true = sym (stands-times xs x)
  by false = refl

-- # What is allowed stays allowed where less stands

-- each text at most as often as in other words
abbrev Fewer : List (List ℕ) → List (List ℕ) → Type 0
Fewer some words = (x : List ℕ) → times some x ≤ times words x

holds-stands : (p : List ℕ → Bool) (xs : List (List ℕ)) (x : List ℕ) → list_all p xs ≡ true → 1 ≤ times xs x → p x ≡ true
holds-stands p [] x all there = absurd (omega arith)
holds-stands p (y ∷ ys) x all there =
    let parts = and_parts (p y) (list_all p ys) all in
    by (bytes_eq x y) refl (times-cons y ys x) parts.0 (holds-stands p ys x parts.1)
  where
    by : (b : Bool) → bytes_eq x y ≡ b → times (y ∷ ys) x ≡ cond b 1 0 + times ys x → p y ≡ true → (1 ≤ times ys x → p x ≡ true) → p x ≡ true
    by true is e here rest = let same = equal_bytes x y is in rw same here
    by false is e here rest = rest (omega arith)

all-stand : (p : List ℕ → Bool) (xs : List (List ℕ)) → ((x : List ℕ) → 1 ≤ times xs x → p x ≡ true) → list_all p xs ≡ true
all-stand p [] gives = refl
all-stand p (y ∷ ys) gives =
    let here : times (y ∷ ys) y ≡ 1 + times ys y = times-cons y ys y ∙ rw (same_bytes y) refl in
    and_from (p y) (list_all p ys) (gives y (omega arith)) (all-stand p ys (λ x there. gives x (omega (arith, times-cons y ys x))))

once-fewer : (allowed : List String) (some words : List (List ℕ)) → Fewer some words → list_all (λ word. nat_le (times words (codes word)) 1) allowed ≡ true
    → list_all (λ word. nat_le (times some (codes word)) 1) allowed ≡ true
once-fewer [] some words fewer once = refl
once-fewer (s ∷ rest) some words fewer once =
    let parts = and_parts (nat_le (times words (codes s)) 1) (list_all (λ word. nat_le (times words (codes word)) 1) rest) once in
    let few = leb-true _ 1 parts.0 in
    let less = fewer (codes s) in
    and_from _ _ (le-leb (times some (codes s)) 1 (omega arith)) (once-fewer rest some words fewer parts.1)

allowed-fewer : (allowed : List String) (some words : List (List ℕ)) → Fewer some words → AllowedWords allowed words → AllowedWords allowed some
allowed-fewer allowed some words fewer is = record {
  known = all-stand (among allowed) some (λ x there. let less = fewer x in holds-stands (among allowed) words x is.known (omega arith));
  once = once-fewer allowed some words fewer is.once;
  one_access = let few : times words (codes "public") + times words (codes "protected") + times words (codes "private") ≤ 1 = leb-true _ 1 is.one_access in
      let a = fewer (codes "public") in
      let b = fewer (codes "protected") in
      let c = fewer (codes "private") in
      le-leb _ 1 (omega arith);
}

-- # In order

-- none stands twice
abbrev Distinct : List (List ℕ) → Type 0
Distinct [] = Unit {0}
Distinct (x ∷ xs) = (stands_in xs x ≡ false) × Distinct xs

none-times : (xs : List (List ℕ)) (x : List ℕ) → stands_in xs x ≡ false → times xs x ≡ 0
none-times xs x none = by (times xs x) (sym (stands-times xs x) ∙ none) where
  by : (n : ℕ) → nat_lt 0 n ≡ false → n ≡ 0
  by zero h = refl
  by (suc n) h = let some : nat_lt 0 (suc n) ≡ true = lt-ltb 0 (suc n) (omega arith) in absurd cc

distinct-once : (xs : List (List ℕ)) (x : List ℕ) → Distinct xs → times xs x ≤ 1
distinct-once [] x distinct = omega arith
distinct-once (y ∷ ys) x distinct = by (bytes_eq x y) refl (times-cons y ys x) (distinct-once ys x distinct.1) where
  by : (b : Bool) → bytes_eq x y ≡ b → times (y ∷ ys) x ≡ cond b 1 0 + times ys x → times ys x ≤ 1 → times (y ∷ ys) x ≤ 1
  by true is e rest = let same = equal_bytes x y is in let none : times ys x ≡ 0 = rw same (none-times ys y distinct.0) in omega arith
  by false is e rest = omega arith

-- of texts that differ, those that stand among words
selected-fewer : (words texts : List (List ℕ)) → Distinct texts → Fewer (filter (stands_in words) texts) words
selected-fewer words texts distinct x = by (times words x) (times-filter (stands_in words) texts x ∙ ap (λ b. cond b (times texts x) 0) (stands-times words x)) where
  by : (n : ℕ) → times (filter (stands_in words) texts) x ≡ cond (nat_lt 0 n) (times texts x) 0 → times (filter (stands_in words) texts) x ≤ n
  by zero e = omega arith
  by (suc n) e =
      let some : nat_lt 0 (suc n) ≡ true = lt-ltb 0 (suc n) (omega arith) in
      let all : times (filter (stands_in words) texts) x ≡ times texts x = rw some at e in
      omega (arith, distinct-once texts x distinct)

in_order-fewer : (words : List (List ℕ)) → Fewer (in_order words) words
in_order-fewer words = selected-fewer words all_texts (refl, (refl, (refl, (refl, (refl, (refl, (refl, (refl, (refl, tt)))))))))

pub allowed-in_order : (allowed : List String) (words : List (List ℕ)) → AllowedWords allowed words → AllowedWords allowed (in_order words)
allowed-in_order allowed words is = allowed-fewer allowed (in_order words) words (in_order-fewer words) is

-- what holds of each text
abbrev ForEach : (List ℕ → Type 0) → List (List ℕ) → Type 0
ForEach P [] = Unit {0}
ForEach P (x ∷ xs) = P x × ForEach P xs

filter-same : (p q : List ℕ → Bool) (xs : List (List ℕ)) → ForEach (λ x. p x ≡ q x) xs → filter p xs ≡ filter q xs
filter-same p q [] each = refl
filter-same p q (x ∷ xs) each = ap (λ b. cond b (x ∷ filter p xs) (filter p xs)) each.0 ∙ ap (λ ys. cond (q x) (x ∷ ys) ys) (filter-same p q xs each.1)

and_true : (b : Bool) → (b && true) ≡ b
and_true true = refl
and_true false = refl

stands-selected : (p : List ℕ → Bool) (texts : List (List ℕ)) (x : List ℕ) → stands_in texts x ≡ true → stands_in (filter p texts) x ≡ p x
stands-selected p texts x known = stands-filter p texts x ∙ rw known (and_true (p x))

pub in_order-twice : (words : List (List ℕ)) → AreInOrder (in_order words)
in_order-twice words =
    let stands = stands-selected (stands_in words) all_texts in
    filter-same (stands_in (in_order words)) (stands_in words) all_texts (
      stands (codes "@Override") refl,
      (
        stands (codes "public") refl,
        (
          stands (codes "protected") refl,
          (
            stands (codes "private") refl,
            (
              stands (codes "abstract") refl,
              (stands (codes "static") refl, (stands (codes "final") refl, (stands (codes "transient") refl, (stands (codes "volatile") refl, tt)))),
            ),
          ),
        ),
      ),
    )

-- # What a method keeps elsewhere

abbrev is_kept : List ℕ → Bool
is_kept word = not (among ("static" ∷ "abstract" ∷ []) word)

filter-fewer : (p : List ℕ → Bool) (some words : List (List ℕ)) → Fewer some words → Fewer (filter p some) words
filter-fewer p some words fewer x = by (p x) (times-filter p some x) (fewer x) where
  by : (b : Bool) → times (filter p some) x ≡ cond b (times some x) 0 → times some x ≤ times words x → times (filter p some) x ≤ times words x
  by true e few = omega arith
  by false e few = omega arith

kept-fewer : (words : List (List ℕ)) → Fewer (kept_of_method words) words
kept-fewer words = filter-fewer is_kept (in_order words) words (in_order-fewer words)

-- a word that stands there, before those that a test passes, which it fails
before-fewer : (p : List ℕ → Bool) (s : List ℕ) (some words : List (List ℕ)) → stands_in words s ≡ true → p s ≡ false → Fewer (filter p some) words → Fewer (s ∷ filter p some) words
before-fewer p s some words there fails fewer x = by (bytes_eq x s) refl (times-cons s (filter p some) x) (fewer x) where
  by : (b : Bool) → bytes_eq x s ≡ b → times (s ∷ filter p some) x ≡ cond b 1 0 + times (filter p some) x → times (filter p some) x ≤ times words x → times (s ∷ filter p some) x ≤ times words x
  by false is e few = omega arith
  by true is e few =
      let same = equal_bytes x s is in
      let left_out : p x ≡ false = rw same fails in
      let none : times (filter p some) x ≡ 0 = times-filter p some x ∙ ap (λ b. cond b (times some x) 0) left_out in
      let some : nat_lt 0 (times words x) ≡ true = sym (stands-times words x) ∙ rw same there in
      let there' : 0 < times words x = ltb-true 0 _ some in
      omega arith

filter-filter : (p q : List ℕ → Bool) (xs : List (List ℕ)) → filter p (filter q xs) ≡ filter (λ x. p x && q x) xs
filter-filter p q [] = refl
filter-filter p q (x ∷ xs) = by (q x) (p x) refl (filter-filter p q xs) where
  by : (b c : Bool) → p x ≡ c → filter p (filter q xs) ≡ filter (λ y. p y && q y) xs → filter p (cond b (x ∷ filter q xs) (filter q xs)) ≡ cond (c && b) (x ∷ filter (λ y. p y && q y) xs) (filter (λ y. p y && q y) xs)
  by true true e rest = rw (e, rest) refl
  by true false e rest = rw (e, rest) refl
  by false true e rest = rest
  by false false e rest = rest

-- the same is kept of texts where the same of those that are kept stand
kept-same : (p q r : List ℕ → Bool) (texts : List (List ℕ)) → ForEach (λ x. (r x && p x) ≡ (r x && q x)) texts → filter r (filter p texts) ≡ filter r (filter q texts)
kept-same p q r texts same = filter-filter r p texts ∙ filter-same (λ x. r x && p x) (λ x. r x && q x) texts same ∙ sym (filter-filter r q texts)

stands-kept : (p q : List ℕ → Bool) (texts : List (List ℕ)) (x : List ℕ) → stands_in texts x ≡ true → p x ≡ true → stands_in (filter p (filter q texts)) x ≡ q x
stands-kept p q texts x known passes = stands-filter p (filter q texts) x ∙ rw passes (stands-selected q texts x known)

stands-append : (xs ys : List (List ℕ)) (x : List ℕ) → stands_in xs x ≡ false → stands_in (xs ++ ys) x ≡ stands_in ys x
stands-append [] ys x none = refl
stands-append (y ∷ xs) ys x none = by (bytes_eq x y) none (stands-append xs ys x) where
  by : (b : Bool) → (b || stands_in xs x) ≡ false → (stands_in xs x ≡ false → stands_in (xs ++ ys) x ≡ stands_in ys x) → (b || stands_in (xs ++ ys) x) ≡ stands_in ys x
  by true h rest = absurd cc
  by false h rest = rest h

stands-behind : (p q : List ℕ → Bool) (before texts : List (List ℕ)) (x : List ℕ) → stands_in before x ≡ false → stands_in texts x ≡ true → p x ≡ true → stands_in (before ++ filter p (filter q texts)) x ≡ q x
stands-behind p q before texts x none known passes = stands-append before (filter p (filter q texts)) x none ∙ stands-kept p q texts x known passes

-- Words that are not kept, before those that are, make no difference to those that are.
kept-behind : (before words : List (List ℕ)) → ForEach (λ x. is_kept x ≡ true → stands_in before x ≡ false) all_texts → kept_of_method (before ++ kept_of_method words) ≡ kept_of_method words
kept-behind before words none =
    let behind = stands-behind is_kept (stands_in words) before all_texts in
    kept-same (stands_in (before ++ kept_of_method words)) (stands_in words) is_kept all_texts (
      behind (codes "@Override") (none.0 refl) refl refl,
      (
        behind (codes "public") (none.1.0 refl) refl refl,
        (
          behind (codes "protected") (none.1.1.0 refl) refl refl,
          (
            behind (codes "private") (none.1.1.1.0 refl) refl refl,
            (
              refl,
              (
                refl,
                (
                  behind (codes "final") (none.1.1.1.1.1.1.0 refl) refl refl,
                  (
                    behind (codes "transient") (none.1.1.1.1.1.1.1.0 refl) refl refl,
                    (behind (codes "volatile") (none.1.1.1.1.1.1.1.1.0 refl) refl refl, tt),
                  ),
                ),
              ),
            ),
          ),
        ),
      ),
    )

-- The modifiers of a method with a block, from what its tree keeps of them.
pub static-kept : (words : List (List ℕ)) → MethodWords words → MethodWords (cond (has words "static") (codes "static" ∷ []) [] ++ kept_of_method words)
    × (kept_of_method (cond (has words "static") (codes "static" ∷ []) [] ++ kept_of_method words) ≡ kept_of_method words)
static-kept words allowed = by (has words "static") refl where
  by : (b : Bool) → has words "static" ≡ b → MethodWords (cond b (codes "static" ∷ []) [] ++ kept_of_method words) × (kept_of_method (cond b (codes "static" ∷ []) [] ++ kept_of_method words) ≡ kept_of_method words)
  by true there = (
    allowed-fewer method_words (codes "static" ∷ kept_of_method words) words (before-fewer is_kept (codes "static") (in_order words) words there refl (kept-fewer words)) allowed,
    kept-behind (codes "static" ∷ []) words (λ h. refl, (λ h. refl, (λ h. refl, (λ h. refl, (λ h. absurd cc, (λ h. absurd cc, (λ h. refl, (λ h. refl, (λ h. refl, tt))))))))),
  )
  by false none = (
    allowed-fewer method_words (kept_of_method words) words (kept-fewer words) allowed,
    kept-behind [] words (λ h. refl, (λ h. refl, (λ h. refl, (λ h. refl, (λ h. refl, (λ h. refl, (λ h. refl, (λ h. refl, (λ h. refl, tt))))))))),
  )

-- The modifiers of an abstract method, likewise.
pub abstract-kept : (words : List (List ℕ)) → AbstractWords words → AbstractWords (codes "abstract" ∷ kept_of_method words) × (kept_of_method (codes "abstract" ∷ kept_of_method words) ≡ kept_of_method words)
abstract-kept words allowed = (
  (allowed-fewer abstract_words (codes "abstract" ∷ kept_of_method words) words (before-fewer is_kept (codes "abstract") (in_order words) words allowed.1 refl (kept-fewer words)) allowed.0, refl),
  kept-behind (codes "abstract" ∷ []) words (λ h. refl, (λ h. refl, (λ h. refl, (λ h. refl, (λ h. absurd cc, (λ h. absurd cc, (λ h. refl, (λ h. refl, (λ h. refl, tt))))))))),
)
