-- The modifiers of classes and members that are printable are those that a program may hold.
use Rattle.std.proofs.Common.{◌≡◌, ℕ, ◌+◌, ◌≤◌, Bool, true, false, cond, ◌&&◌, ◌||◌, List, [], ◌∷◌, ◌++◌, map, filter, codes, Option, Some, None, refl, sym, ◌∙◌, ap, subst, arith, true≢false}
use Rattle.std.proofs.lemmas.Bool.{and_from, and_parts, le-leb, leb-true}
use Prim.Native.String.{String}
use Rattle.std.specs.Prelude.{not}
use Rattle.std.specs.List.{list_all, list_any}
use Rattle.std.specs.Str.{bytes_eq}
use Rattle.std.specs.Cmp.Lexicographic.{pointwise}
use Rattle.std.proofs.lemmas.List.Sums.{sum_by-cons}
use Rattle.std.proofs.lemmas.Slice.Eq.{bytes_eq-Decides}
use Rattle.jav_tree.specs.Layout.{method_words}
use Rattle.jav_tree.specs.Printable.{AllowedOfMethod}
use Rattle.jav_tree.specs.declared.stmt.Block.{Block}
use Rattle.jav_tree.specs.declared.unit.Method.{Method}
use Rattle.jav_names.specs.DottedNames.{Name}
use Rattle.mol_base.specs.Among.{among}
use Rattle.mol_base.specs.Modifiers as modifiers
use Rattle.mol_base.specs.Modifiers.{all_words, constructor_words, abstract_words, kept_words, times, in_order, kept_of_method, has_one_access, AllowedWords}
use Rattle.mol_values_types.specs.Words.{are_words}

abbrev Texts : Type 0
Texts = List Name

same-bytes : (x : Name) → bytes_eq x x ≡ true
same-bytes x = (bytes_eq-Decides x x).1 refl

same-texts : (xs : Texts) → pointwise bytes_eq xs xs ≡ true
same-texts [] = refl
same-texts (x ∷ xs) = and_from _ _ (same-bytes x) (same-texts xs)

-- words that are allowed, in the order in which they are printed
pub words-right : (allowed : List String) (words : Texts) → AllowedWords allowed words → in_order words ≡ words
    → are_words allowed words ≡ true
words-right allowed words are ordered = and_from _ _
    (and_from _ _ are.known (ap (λ (ws : Texts). pointwise bytes_eq ws words) ordered ∙ same-texts words)) are.one_access

-- ---- all of a list

all-both : (p q r : Name → Bool) → ((x : Name) → p x ≡ true → q x ≡ true → r x ≡ true) → (xs : Texts) → list_all p xs ≡ true
    → list_all q xs ≡ true → list_all r xs ≡ true
all-both p q r holds [] first second = refl
all-both p q r holds (x ∷ xs) first second =
    let here = and_parts (p x) (list_all p xs) first in
    let there = and_parts (q x) (list_all q xs) second in
    and_from _ _ (holds x here.0 there.0) (all-both p q r holds xs here.1 there.1)

all-last : (p : Name → Bool) (front back : Texts) → list_all p (front ++ back) ≡ true → list_all p back ≡ true
all-last p [] back all = all
all-last p (x ∷ front) back all = all-last p front back (and_parts (p x) (list_all p (front ++ back)) all).1

all-kept : (p : Name → Bool) (xs : Texts) → list_all p (filter p xs) ≡ true
all-kept p [] = refl
all-kept p (x ∷ xs) = by (p x) refl (all-kept p xs) where
  by : (b : Bool) → p x ≡ b → list_all p (filter p xs) ≡ true → list_all p (cond b (x ∷ filter p xs) (filter p xs)) ≡ true
  by true is rest = and_from _ _ is rest
  by false is rest = rest

-- ---- what a method keeps

-- whether a word is neither `static` nor `abstract`
abbrev is_kept : Name → Bool
is_kept word = not (among ("static" ∷ "abstract" ∷ []) word)

-- Without `static`, the words before a block are those that are kept.
of-method : (o p r v s f a : Bool) → (o || (p || (r || (v || (s || (f || false)))))) ≡ true → not (s || (a || false)) ≡ true
    → (o || (p || (r || (v || (f || false))))) ≡ true
of-method true p r v s f a is kept = refl
of-method false true r v s f a is kept = refl
of-method false false true v s f a is kept = refl
of-method false false false true s f a is kept = refl
of-method false false false false true f a is kept = absurd (true≢false (sym kept))
of-method false false false false false f a is kept = is

of-abstract : (o p r v a f s : Bool) → (o || (p || (r || (v || (a || (f || false)))))) ≡ true → not (s || (a || false)) ≡ true
    → (o || (p || (r || (v || (f || false))))) ≡ true
of-abstract true p r v a f s is kept = refl
of-abstract false true r v a f s is kept = refl
of-abstract false false true v a f s is kept = refl
of-abstract false false false true a f s is kept = refl
of-abstract false false false false true f true is kept = absurd (true≢false (sym kept))
of-abstract false false false false true f false is kept = absurd (true≢false (sym kept))
of-abstract false false false false false f s is kept = is

method-kept : (x : Name) → among modifiers.method_words x ≡ true → is_kept x ≡ true → among kept_words x ≡ true
method-kept x = of-method (bytes_eq x (codes "@Override")) (bytes_eq x (codes "public")) (bytes_eq x (codes "protected"))
    (bytes_eq x (codes "private")) (bytes_eq x (codes "static")) (bytes_eq x (codes "final")) (bytes_eq x (codes "abstract"))

abstract-kept : (x : Name) → among abstract_words x ≡ true → is_kept x ≡ true → among kept_words x ≡ true
abstract-kept x = of-abstract (bytes_eq x (codes "@Override")) (bytes_eq x (codes "public")) (bytes_eq x (codes "protected"))
    (bytes_eq x (codes "private")) (bytes_eq x (codes "abstract")) (bytes_eq x (codes "final")) (bytes_eq x (codes "static"))

-- ---- their order

abbrev stands : Texts → Name → Bool
stands words word = list_any (bytes_eq word) words

-- a word does not stand among words all of which are kept, or are not, other than it
never-among : (p : Name → Bool) (w : Name) → p w ≡ false → (xs : Texts) → list_all p xs ≡ true → stands xs w ≡ false
never-among p w is [] all = refl
never-among p w is (x ∷ xs) all =
    let parts = and_parts (p x) (list_all p xs) all in
    by (bytes_eq w x) refl parts.0 (never-among p w is xs parts.1) where
      by : (b : Bool) → bytes_eq w x ≡ b → p x ≡ true → stands xs w ≡ false → (b || stands xs w) ≡ false
      by true same here rest = absurd (true≢false (sym here ∙ ap p (sym ((bytes_eq-Decides w x).0 same)) ∙ is))
      by false same here rest = rest

stands-behind : (front back : Texts) (w : Name) → stands front w ≡ false → stands (front ++ back) w ≡ stands back w
stands-behind [] back w none = refl
stands-behind (x ∷ front) back w none = by (bytes_eq w x) none (stands-behind front back w) where
  by : (b : Bool) → (b || stands front w) ≡ false → (stands front w ≡ false → stands (front ++ back) w ≡ stands back w)
      → (b || stands (front ++ back) w) ≡ stands back w
  by true none more = absurd (true≢false none)
  by false none more = more none

-- filtering twice, and by tests that agree
filter-twice : (p q : Name → Bool) (xs : Texts) → filter p (filter q xs) ≡ filter (λ x. q x && p x) xs
filter-twice p q [] = refl
filter-twice p q (x ∷ xs) = by (q x) (filter-twice p q xs) where
  by : (b : Bool) → filter p (filter q xs) ≡ filter (λ x. q x && p x) xs
      → filter p (cond b (x ∷ filter q xs) (filter q xs)) ≡ cond (b && p x) (x ∷ filter (λ x. q x && p x) xs) (filter (λ x. q x && p x) xs)
  by true rest = ap (λ (ys : Texts). cond (p x) (x ∷ ys) ys) rest
  by false rest = rest

filter-agree : (p q : Name → Bool) → ((x : Name) → p x ≡ q x) → (xs : Texts) → filter p xs ≡ filter q xs
filter-agree p q agree [] = refl
filter-agree p q agree (x ∷ xs) = λ i. cond (agree x i) (x ∷ filter-agree p q agree xs i) (filter-agree p q agree xs i)

abbrev nine : Texts
nine = map codes all_words

-- Words behind others that are not kept stand in their order, where they are what is kept of all.
kept-ordered : (front words : Texts) → list_all (λ x. not (is_kept x)) front ≡ true → kept_of_method (front ++ words) ≡ words
    → in_order words ≡ words
kept-ordered front words none is =
    filter-agree (stands words) (λ w. stands (front ++ words) w && is_kept w) (λ w. sym (by w (is_kept w) refl)) nine
    ∙ sym (filter-twice is_kept (stands (front ++ words)) nine) ∙ is where
      all : list_all is_kept words ≡ true
      all = subst (λ (ws : Texts). list_all is_kept ws ≡ true) is (all-kept is_kept (filter (stands (front ++ words)) nine))

      and-false : (a : Bool) → (a && false) ≡ false
      and-false true = refl
      and-false false = refl

      and-true : (a : Bool) → (a && true) ≡ a
      and-true true = refl
      and-true false = refl

      by : (w : Name) (b : Bool) → is_kept w ≡ b → (stands (front ++ words) w && is_kept w) ≡ stands words w
      by w true kept = ap (λ b. stands (front ++ words) w && b) kept ∙ and-true (stands (front ++ words) w)
          ∙ stands-behind front words w (never-among (λ x. not (is_kept x)) w (ap not kept) front none)
      by w false kept = ap (λ b. stands (front ++ words) w && b) kept ∙ and-false (stands (front ++ words) w)
          ∙ sym (never-among is_kept w kept words all)

-- ---- at most one says who has access

abbrev accesses : Texts → ℕ
accesses words = times words (codes "public") + times words (codes "protected") + times words (codes "private")

more-times : (x : Name) (words : Texts) (w : Name) → times words w ≤ times (x ∷ words) w
more-times x words w = let is = sum_by-cons (λ y. cond (bytes_eq w y) 1 0) x words in omega (arith, is)

access-last : (front words : Texts) → has_one_access (front ++ words) ≡ true → has_one_access words ≡ true
access-last [] words is = is
access-last (x ∷ front) words is = access-last front words (le-leb (accesses (front ++ words)) 1
    (let one : accesses (x ∷ front ++ words) ≤ 1 = leb-true (accesses (x ∷ front ++ words)) 1 is in
    let first = more-times x (front ++ words) (codes "public") in
    let second = more-times x (front ++ words) (codes "protected") in
    let third = more-times x (front ++ words) (codes "private") in
    omega (arith, one, first, second, third)))

-- ---- the words of methods

kept-right : (allowed : List String) (front words : Texts)
    → ((x : Name) → among allowed x ≡ true → is_kept x ≡ true → among kept_words x ≡ true)
    → AllowedWords allowed (front ++ words) → list_all (λ x. not (is_kept x)) front ≡ true → kept_of_method (front ++ words) ≡ words
    → are_words kept_words words ≡ true
kept-right allowed front words kept are none is =
    and_from _ _ (and_from _ _
    (all-both (among allowed) is_kept (among kept_words) kept words (all-last (among allowed) front words are.known)
    (subst (λ (ws : Texts). list_all is_kept ws ≡ true) is (all-kept is_kept (filter (stands (front ++ words)) nine))))
    (ap (λ (ws : Texts). pointwise bytes_eq ws words) (kept-ordered front words none is) ∙ same-texts words))
    (access-last front words are.one_access)

pub method-words-right : (m : Method) → AllowedOfMethod (method_words m) m.block → kept_of_method (method_words m) ≡ m.words
    → are_words kept_words m.words ≡ true
method-words-right m allowed ordered = by m.block m.is_static refl refl where
  by : (block : Option Block) (static : Bool) → m.block ≡ block → m.is_static ≡ static → are_words kept_words m.words ≡ true
  by (Some b) true block static = kept-right modifiers.method_words (codes "static" ∷ []) m.words method-kept
      (subst (AllowedWords modifiers.method_words) (words-are b true block static)
      (subst (AllowedOfMethod (method_words m)) block allowed)) refl
      (ap kept_of_method (sym (words-are b true block static)) ∙ ordered) where
        words-are : (b : Block) (s : Bool) → m.block ≡ Some b → m.is_static ≡ true → method_words m ≡ codes "static" ∷ m.words
        words-are b s block static = rw (block, static) refl
  by (Some b) false block static = kept-right modifiers.method_words [] m.words method-kept
      (subst (AllowedWords modifiers.method_words) (words-are b block static)
      (subst (AllowedOfMethod (method_words m)) block allowed)) refl
      (ap kept_of_method (sym (words-are b block static)) ∙ ordered) where
        words-are : (b : Block) → m.block ≡ Some b → m.is_static ≡ false → method_words m ≡ m.words
        words-are b block static = rw (block, static) refl
  by None true block static = kept-right abstract_words (codes "static" ∷ codes "abstract" ∷ []) m.words abstract-kept
      (subst (AllowedWords abstract_words) (words-are block static) (subst (AllowedOfMethod (method_words m)) block allowed).0) refl
      (ap kept_of_method (sym (words-are block static)) ∙ ordered) where
        words-are : m.block ≡ None → m.is_static ≡ true → method_words m ≡ codes "static" ∷ codes "abstract" ∷ m.words
        words-are block static = rw (block, static) refl
  by None false block static = kept-right abstract_words (codes "abstract" ∷ []) m.words abstract-kept
      (subst (AllowedWords abstract_words) (words-are block static) (subst (AllowedOfMethod (method_words m)) block allowed).0) refl
      (ap kept_of_method (sym (words-are block static)) ∙ ordered) where
        words-are : m.block ≡ None → m.is_static ≡ false → method_words m ≡ codes "abstract" ∷ m.words
        words-are block static = rw (block, static) refl

-- a static method has a block
pub static-has-block : (m : Method) → AllowedOfMethod (method_words m) m.block → m.is_static ≡ true → (b : Block) × (m.block ≡ Some b)
static-has-block m allowed static = by m.block refl where
  by : (block : Option Block) → m.block ≡ block → (b : Block) × (m.block ≡ Some b)
  by (Some b) is = (b, is)
  by None is =
      let words : method_words m ≡ codes "static" ∷ codes "abstract" ∷ m.words = rw (is, static) refl in
      let are = subst (AllowedWords abstract_words) words (subst (AllowedOfMethod (method_words m)) is allowed).0 in
      absurd (true≢false (sym (and_parts (among abstract_words (codes "static"))
      (list_all (among abstract_words) (codes "abstract" ∷ m.words)) are.known).0))

-- ---- the words of constructors

of-constructor : (o p r v f : Bool) → (p || (r || (v || false))) ≡ true → (o || (p || (r || (v || (f || false))))) ≡ true
of-constructor true p r v f is = refl
of-constructor false true r v f is = refl
of-constructor false false true v f is = refl
of-constructor false false false true f is = refl
of-constructor false false false false f is = absurd (true≢false (sym is))

constructor-kept : (x : Name) → among constructor_words x ≡ true → among kept_words x ≡ true
constructor-kept x = of-constructor (bytes_eq x (codes "@Override")) (bytes_eq x (codes "public")) (bytes_eq x (codes "protected"))
    (bytes_eq x (codes "private")) (bytes_eq x (codes "final"))

pub constructor-words-right : (words : Texts) → AllowedWords constructor_words words → in_order words ≡ words
    → are_words kept_words words ≡ true
constructor-words-right words are ordered = and_from _ _
    (and_from _ _ (all-both (among constructor_words) (among constructor_words) (among kept_words)
    (λ x is more. constructor-kept x is) words
    are.known are.known) (ap (λ (ws : Texts). pointwise bytes_eq ws words) ordered ∙ same-texts words)) are.one_access
