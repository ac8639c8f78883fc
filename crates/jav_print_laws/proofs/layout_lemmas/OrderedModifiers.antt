-- The modifiers of a list in the order in which they are printed: which they are, and that they are allowed where those are.
use Rattle.std.proofs.Common.{◌≡◌, inl, inr, ℕ, ◌+◌, ◌≤◌, Bool, true, false, ◌&&◌, ◌||◌, cond, List, [], ◌∷◌, map, filter, codes, refl, sym, ap, ◌∙◌, arith}
use Prim.Native.String.{String}
use Rattle.std.specs.Prelude.{not, nat_le, count_by}
use Rattle.std.specs.List.{list_all, list_any}
use Rattle.std.specs.Str.{bytes_eq}
use Rattle.std.proofs.lemmas.Bool.{and_parts, or_cases, le-leb, leb-true}
use Rattle.std.proofs.lemmas.List.Sums.{sum_by-cons}
use Rattle.std.proofs.lemmas.Slice.Eq.{bytes_eq-Decides}
use Rattle.mol_base.specs.Among.{among}
use Rattle.mol_base.specs.Modifiers.{all_words, times, in_order, kept_of_method, AllowedWords, has_one_access, class_words, field_words, constructor_words, method_words, abstract_words}
use Rattle.jav_print_laws.proofs.layout_lemmas.Each.{among-each}
use Rattle.jav_print_laws.proofs.layout_lemmas.Lists.{ForEach}

abbrev pub stands_in : List (List ℕ) → List ℕ → Bool
stands_in words word = list_any (bytes_eq word) words

abbrev pub all_texts : List (List ℕ)
all_texts = map codes all_words

equal_bytes : (x y : List ℕ) → bytes_eq x y ≡ true → x ≡ y
equal_bytes x y h = (bytes_eq-Decides x y).0 h

same_bytes : (x : List ℕ) → bytes_eq x x ≡ true
same_bytes x = (bytes_eq-Decides x x).1 refl

-- # What passes a test

stands-filter : (p : List ℕ → Bool) (xs : List (List ℕ)) (x : List ℕ) → stands_in (filter p xs) x ≡ (p x && stands_in xs x)
stands-filter p [] x = by (p x) where
  by : (b : Bool) → false ≡ (b && false)
  by true = refl
  by false = refl
stands-filter p (y ∷ ys) x = by (p y) (p x) (bytes_eq x y) refl refl refl (stands-filter p ys x) where
  by : (b c e : Bool) → p y ≡ b → p x ≡ c → bytes_eq x y ≡ e → stands_in (filter p ys) x ≡ (p x && stands_in ys x)
      → stands_in (cond b (y ∷ filter p ys) (filter p ys)) x ≡ (c && (e || stands_in ys x))
  by true true true f g h rest = rw h refl
  by true false true f g h rest = let s = equal_bytes x y h in let t : p x ≡ p y = ap p s in absurd cc
  by false true true f g h rest = let s = equal_bytes x y h in let t : p x ≡ p y = ap p s in absurd cc
  by false false true f g h rest = rw rest (rw g refl)
  by true true false f g h rest = rw (h, rest) (rw g refl)
  by true false false f g h rest = rw (h, rest) (rw g refl)
  by false true false f g h rest = rw rest (rw g refl)
  by false false false f g h rest = rw rest (rw g refl)

filter-same : (p q : List ℕ → Bool) (xs : List (List ℕ)) → ForEach (λ x. p x ≡ q x) xs → filter p xs ≡ filter q xs
filter-same p q [] each = refl
filter-same p q (x ∷ xs) each = ap (λ b. cond b (x ∷ filter p xs) (filter p xs)) each.0 ∙ ap (λ ys. cond (q x) (x ∷ ys) ys) (filter-same p q xs each.1)

count-filter : (p : List ℕ → Bool) (xs : List (List ℕ)) (x : List ℕ) → count_by (bytes_eq x) (filter p xs) ≡ cond (p x) (count_by (bytes_eq x) xs) 0
count-filter p [] x = by (p x) where
  by : (b : Bool) → count_by (bytes_eq x) [] ≡ cond b 0 0
  by true = refl
  by false = refl
count-filter p (y ∷ ys) x = by (p y) (p x) (bytes_eq x y) refl refl refl (count-filter p ys x) where
  counted : (zs : List (List ℕ)) → count_by (bytes_eq x) (y ∷ zs) ≡ cond (bytes_eq x y) 1 0 + count_by (bytes_eq x) zs
  counted zs = sum_by-cons (λ z. cond (bytes_eq x z) 1 0) y zs

  by : (b c e : Bool) → p y ≡ b → p x ≡ c → bytes_eq x y ≡ e → count_by (bytes_eq x) (filter p ys) ≡ cond (p x) (count_by (bytes_eq x) ys) 0
      → count_by (bytes_eq x) (cond b (y ∷ filter p ys) (filter p ys)) ≡ cond c (count_by (bytes_eq x) (y ∷ ys)) 0
  by true true e f g h rest = let r : count_by (bytes_eq x) (filter p ys) ≡ count_by (bytes_eq x) ys = rw g at rest in counted (filter p ys) ∙ ap (λ (n : ℕ). cond (bytes_eq x y) 1 0 + n) r ∙ sym (counted ys)
  by true false true f g h rest = let s = equal_bytes x y h in let t : p x ≡ p y = ap p s in absurd cc
  by true false false f g h rest = let r : count_by (bytes_eq x) (filter p ys) ≡ 0 = rw g at rest in counted (filter p ys) ∙ rw (h, r) refl
  by false true true f g h rest = let s = equal_bytes x y h in let t : p x ≡ p y = ap p s in absurd cc
  by false true false f g h rest = let r : count_by (bytes_eq x) (filter p ys) ≡ count_by (bytes_eq x) ys = rw g at rest in r ∙ sym (counted ys ∙ rw h (omega arith))
  by false false e f g h rest = rw g at rest

one_stands : (xs : List (List ℕ)) (x : List ℕ) → stands_in xs x ≡ true → 1 ≤ count_by (bytes_eq x) xs
one_stands [] x h = absurd cc
one_stands (y ∷ ys) x h =
    let counted = sum_by-cons (λ z. cond (bytes_eq x z) 1 0) y ys in
    elim (or_cases (bytes_eq x y) (stands_in ys x) h) [
      | inl same ↦ (let e : ◌≡◌ {A = ℕ} (cond (bytes_eq x y) 1 0) 1 = rw same refl in omega (arith, counted, e))
      | inr more ↦ (let r = one_stands ys x more in omega (arith, counted, r))
    ]

-- # In order

and_true : (b : Bool) → (b && true) ≡ b
and_true true = refl
and_true false = refl

pub stands-in_order : (words : List (List ℕ)) (x : List ℕ) → stands_in all_texts x ≡ true → stands_in (in_order words) x ≡ stands_in words x
stands-in_order words x known = stands-filter (stands_in words) all_texts x ∙ rw known (and_true (stands_in words x))

pub in_order-twice : (words : List (List ℕ)) → in_order (in_order words) ≡ in_order words
in_order-twice words = filter-same (stands_in (in_order words)) (stands_in words) all_texts (
  stands-in_order words (codes "@Override") refl,
  (
    stands-in_order words (codes "public") refl,
    (
      stands-in_order words (codes "protected") refl,
      (
        stands-in_order words (codes "private") refl,
        (
          stands-in_order words (codes "abstract") refl,
          (
            stands-in_order words (codes "static") refl,
            (
              stands-in_order words (codes "final") refl,
              (
                stands-in_order words (codes "transient") refl,
                (stands-in_order words (codes "volatile") refl, tt),
              ),
            ),
          ),
        ),
      ),
    ),
  ),
)

pub kept-in_order : (words : List (List ℕ)) → kept_of_method (in_order words) ≡ kept_of_method words
kept-in_order words = ap (filter (λ word. not (among ("static" ∷ "abstract" ∷ []) word))) (in_order-twice words)

-- what holds of each that stands in a list
all-stands : (p : List ℕ → Bool) (xs : List (List ℕ)) (x : List ℕ) → list_all p xs ≡ true → stands_in xs x ≡ true → p x ≡ true
all-stands p [] x all h = absurd cc
all-stands p (y ∷ ys) x all h = let parts = and_parts (p y) (list_all p ys) all in elim (or_cases (bytes_eq x y) (stands_in ys x) h) [
  | inl same ↦ (let e = equal_bytes x y same in rw e parts.0)
  | inr more ↦ all-stands p ys x parts.1 more
]

all-filter : (p q : List ℕ → Bool) (xs : List (List ℕ)) → ((x : List ℕ) → p x ≡ true → q x ≡ true) → list_all q (filter p xs) ≡ true
all-filter p q [] gives = refl
all-filter p q (x ∷ xs) gives = by (p x) refl (all-filter p q xs gives) where
  by : (b : Bool) → p x ≡ b → list_all q (filter p xs) ≡ true → list_all q (cond b (x ∷ filter p xs) (filter p xs)) ≡ true
  by true h rest = rw (gives x h) rest
  by false h rest = rest

-- a modifier stands once at most, and not more often than it stood
times-once : (words : List (List ℕ)) (x : List ℕ) → count_by (bytes_eq x) all_texts ≡ 1 → times (in_order words) x ≤ 1
times-once words x single = by (stands_in words x) (count-filter (stands_in words) all_texts x) where
  by : (b : Bool) → times (in_order words) x ≡ cond b (count_by (bytes_eq x) all_texts) 0 → times (in_order words) x ≤ 1
  by true e = omega arith
  by false e = omega arith

times-fewer : (words : List (List ℕ)) (x : List ℕ) → count_by (bytes_eq x) all_texts ≡ 1 → times (in_order words) x ≤ times words x
times-fewer words x single = by (stands_in words x) refl (count-filter (stands_in words) all_texts x) where
  by : (b : Bool) → stands_in words x ≡ b → times (in_order words) x ≡ cond b (count_by (bytes_eq x) all_texts) 0 → times (in_order words) x ≤ times words x
  by true h e = let some = one_stands words x h in omega arith
  by false h e = omega arith

access-fewer : (words : List (List ℕ)) → has_one_access words ≡ true → has_one_access (in_order words) ≡ true
access-fewer words single =
    let few : times words (codes "public") + times words (codes "protected") + times words (codes "private") ≤ 1 = leb-true _ 1 single in
    let a = times-fewer words (codes "public") refl in
    let b = times-fewer words (codes "protected") refl in
    let c = times-fewer words (codes "private") refl in
    le-leb _ 1 (omega arith)

-- each is a modifier
abbrev Known : String → Type 0
Known s = count_by (bytes_eq (codes s)) all_texts ≡ 1

abbrev AllKnown : List String → Type 0
AllKnown [] = Unit {0}
AllKnown (s ∷ ss) = Known s × AllKnown ss

once-in_order : (words : List (List ℕ)) (allowed : List String) → AllKnown allowed → list_all (λ word. nat_le (times (in_order words) (codes word)) 1) allowed ≡ true
once-in_order words [] known = refl
once-in_order words (s ∷ ss) known = let e : nat_le (times (in_order words) (codes s)) 1 ≡ true = le-leb _ 1 (times-once words (codes s) known.0) in rw e (once-in_order words ss known.1)

allowed-in_order : (allowed : List String) (words : List (List ℕ)) → AllKnown allowed → AllowedWords allowed words → AllowedWords allowed (in_order words)
allowed-in_order allowed words known is = record {
  known = all-filter (stands_in words) (among allowed) all_texts (λ x h. all-stands (among allowed) words x is.known h);
  once = once-in_order words allowed known;
  one_access = access-fewer words is.one_access;
}

pub method_words-in_order : (words : List (List ℕ)) → AllowedWords method_words words → AllowedWords method_words (in_order words)
method_words-in_order words is = allowed-in_order method_words words (refl, (refl, (refl, (refl, (refl, (refl, tt)))))) is

pub abstract_words-in_order : (words : List (List ℕ)) → AllowedWords abstract_words words → AllowedWords abstract_words (in_order words)
abstract_words-in_order words is = allowed-in_order abstract_words words (refl, (refl, (refl, (refl, (refl, (refl, tt)))))) is

-- # Without `@Override`

abbrev pub line_words : List String
line_words = "public" ∷ "protected" ∷ "private" ∷ "abstract" ∷ "static" ∷ "final" ∷ "transient" ∷ "volatile" ∷ []

abbrev pub is_line_word : List ℕ → Bool
is_line_word word = not (bytes_eq word (codes "@Override"))

-- where all are others, none is left out
pub filter-all : (p : List ℕ → Bool) (xs : List (List ℕ)) → list_all p xs ≡ true → filter p xs ≡ xs
filter-all p [] all = refl
filter-all p (x ∷ xs) all = let parts = and_parts (p x) (list_all p xs) all in ap (λ b. cond b (x ∷ filter p xs) (filter p xs)) parts.0 ∙ ap (λ ys. x ∷ ys) (filter-all p xs parts.1)

all-imply : (p q : List ℕ → Bool) (xs : List (List ℕ)) → ((x : List ℕ) → p x ≡ true → q x ≡ true) → list_all p xs ≡ true → list_all q xs ≡ true
all-imply p q [] gives all = refl
all-imply p q (x ∷ xs) gives all = let parts = and_parts (p x) (list_all p xs) all in rw (gives x parts.0) (all-imply p q xs gives parts.1)

line_word-is : (x : List ℕ) → among line_words x ≡ true → is_line_word x ≡ true
line_word-is x h = among-each (λ y. is_line_word y ≡ true) line_words x (refl, (refl, (refl, (refl, (refl, (refl, (refl, (refl, tt)))))))) h

pub none_left_out : (words : List (List ℕ)) → list_all (among line_words) words ≡ true → filter is_line_word words ≡ words
none_left_out words all = filter-all is_line_word words (all-imply (among line_words) is_line_word words line_word-is all)

pub class_line_words : (words : List (List ℕ)) → list_all (among class_words) words ≡ true → list_all (among line_words) words ≡ true
class_line_words words all = all-imply (among class_words) (among line_words) words (λ x h. among-each (λ y. among line_words y ≡ true) class_words x (refl, (refl, (refl, tt))) h) all

pub field_line_words : (words : List (List ℕ)) → list_all (among field_words) words ≡ true → list_all (among line_words) words ≡ true
field_line_words words all = all-imply (among field_words) (among line_words) words (λ x h. among-each (λ y. among line_words y ≡ true) field_words x (refl, (refl, (refl, (refl, (refl, (refl, (refl, tt))))))) h) all

pub constructor_line_words : (words : List (List ℕ)) → list_all (among constructor_words) words ≡ true → list_all (among line_words) words ≡ true
constructor_line_words words all = all-imply (among constructor_words) (among line_words) words (λ x h. among-each (λ y. among line_words y ≡ true) constructor_words x (refl, (refl, (refl, tt))) h) all

-- The words of a list in order: `@Override`, where it stands there, and the others.
abbrev pub others : List (List ℕ) → List (List ℕ)
others words = filter (stands_in words) (map codes line_words)

pub in_order-others : (words : List (List ℕ)) → in_order words ≡ cond (stands_in words (codes "@Override")) (codes "@Override" ∷ others words) (others words)
in_order-others words = refl

filter-subset : (p : List ℕ → Bool) (xs : List (List ℕ)) → list_all (among line_words) xs ≡ true → list_all (among line_words) (filter p xs) ≡ true
filter-subset p [] all = refl
filter-subset p (x ∷ xs) all = let parts = and_parts (among line_words x) (list_all (among line_words) xs) all in by (p x) parts.0 (filter-subset p xs parts.1) where
  by : (b : Bool) → among line_words x ≡ true → list_all (among line_words) (filter p xs) ≡ true → list_all (among line_words) (cond b (x ∷ filter p xs) (filter p xs)) ≡ true
  by true h rest = rw h rest
  by false h rest = rest

pub others_are_line_words : (words : List (List ℕ)) → list_all (among line_words) (others words) ≡ true
others_are_line_words words = filter-subset (stands_in words) (map codes line_words) refl

pub in_order-line : (words : List (List ℕ)) → filter is_line_word (in_order words) ≡ others words
in_order-line words = by (stands_in words (codes "@Override")) where
  by : (b : Bool) → filter is_line_word (cond b (codes "@Override" ∷ others words) (others words)) ≡ others words
  by true = none_left_out (others words) (others_are_line_words words)
  by false = none_left_out (others words) (others_are_line_words words)

-- # What a method keeps elsewhere

pub kept_no_static : (words : List (List ℕ)) → stands_in (kept_of_method words) (codes "static") ≡ false
kept_no_static words = stands-filter (λ word. not (among ("static" ∷ "abstract" ∷ []) word)) (in_order words) (codes "static")

pub not_abstract_static : (words : List (List ℕ)) → list_all (among abstract_words) (codes "static" ∷ words) ≡ true → ⊥
not_abstract_static words all = let parts = and_parts (among abstract_words (codes "static")) (list_all (among abstract_words) words) all in absurd cc
