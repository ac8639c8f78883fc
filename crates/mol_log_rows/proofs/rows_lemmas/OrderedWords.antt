-- Modifiers that stand in the order in which they are printed stand there once, so the two tests of the code are the form.
use Rattle.std.proofs.Common.{◌≡◌, ◌≢◌, ℕ, ◌+◌, ◌≤◌, List, [], ◌∷◌, Bool, true, false, cond, refl, sym, ap, ◌∙◌, arith, codes, map, count_by, subst}
use Rattle.std.specs.Prelude.{◌&&◌, ◌↔◌, IsTrue, nat_le}
use Prim.Native.String.{String}
use Rattle.std.specs.List.{list_all, list_any, filter}
use Rattle.std.specs.Str.{bytes_eq}
use Rattle.std.specs.Cmp.Lexicographic.{pointwise, pointwise_decides, bytes_decides, same_text}
use Rattle.std.proofs.lemmas.Bool.Decides.{nat_tests}
use Rattle.std.proofs.lemmas.List.Sums.{sum_by-cons}
use Rattle.std.proofs.lemmas.Slice.Eq.{bytes_eq-Decides}
use Rattle.mol_base.specs.Among.{among}
use Rattle.mol_base.specs.Modifiers.{all_words, class_words, field_words, method_words, kept_words, constructor_words, times, in_order, has_one_access, AllowedWords, AreAllowed, AreInOrder}
use Rattle.mol_base.specs.declared.modifier.Modified.{Modified}
use Rattle.mol_base.specs.declared.modifier.Modified.TheVariants as of
use Rattle.mol_base.proofs.Tags.{both_true}
use Rattle.mol_values_types.specs.Words.{are_words}
use Rattle.mol_log_rows.specs.rows.RowForms.{words_before}

-- ---- lists of texts that are equal

equal_texts : (xs ys : List (List ℕ)) → pointwise bytes_eq xs ys ≡ true → xs ≡ ys
equal_texts [] [] e = refl
equal_texts [] (y ∷ ys) e = absurd cc
equal_texts (x ∷ xs) [] e = absurd cc
equal_texts (x ∷ xs) (y ∷ ys) e =
    let both = both_true (bytes_eq x y) (pointwise bytes_eq xs ys) e in
    let first = same_text x y (sym both.0) in
    let rest = equal_texts xs ys both.1 in
    λ i. first i ∷ rest i

same_texts : (xs : List (List ℕ)) → pointwise bytes_eq xs xs ≡ true
same_texts [] = refl
same_texts (x ∷ xs) = ap (λ b. b && pointwise bytes_eq xs xs) ((bytes_eq-Decides x x).1 refl) ∙ same_texts xs

-- ---- how often a word stands there

counted : (test : List ℕ → Bool) (x : List ℕ) (xs : List (List ℕ)) → count_by test (x ∷ xs) ≡ cond (test x) 1 0 + count_by test xs
counted test x xs = sum_by-cons (λ y. cond (test y) 1 0) x xs

fewer_more : (test : List ℕ → Bool) (x : List ℕ) (xs kept : List (List ℕ)) (b : Bool) → count_by test kept ≤ count_by test xs
    → count_by test (cond b (x ∷ kept) kept) ≤ count_by test (x ∷ xs)
fewer_more test x xs kept true rest =
    let more : count_by test (x ∷ kept) ≤ count_by test (x ∷ xs) = omega (arith, rest, counted test x kept, counted test x xs) in
    more
fewer_more test x xs kept false rest =
    let fewer : count_by test kept ≤ count_by test (x ∷ xs) = omega (arith, rest, counted test x xs) in
    fewer

fewer : (test keeps : List ℕ → Bool) (xs : List (List ℕ)) → count_by test (filter keeps xs) ≤ count_by test xs
fewer test keeps [] = omega arith
fewer test keeps (x ∷ xs) = fewer_more test x xs (filter keeps xs) (keeps x) (fewer test keeps xs)

-- no more often than among all modifiers
as_among_all : (words : List (List ℕ)) → in_order words ≡ words → (word : List ℕ) → times words word ≤ times (map codes all_words) word
as_among_all words ordered word = subst (λ ws. times ws word ≤ times (map codes all_words) word) ordered
    (fewer (bytes_eq word) (λ w. list_any (bytes_eq w) words) (map codes all_words))

once : (words : List (List ℕ)) → in_order words ≡ words → (allowed : List String)
    → list_all (λ word. nat_le (times (map codes all_words) (codes word)) 1) allowed ≡ true
    → list_all (λ word. nat_le (times words (codes word)) 1) allowed ≡ true
once words ordered [] all = refl
once words ordered (word ∷ allowed) all =
    let tests = both_true (nat_le (times (map codes all_words) (codes word)) 1)
    (list_all (λ word. nat_le (times (map codes all_words) (codes word)) 1) allowed) all in
    let most = as_among_all words ordered (codes word) in
    let here : nat_le (times words (codes word)) 1 ≡ true = at_most (times words (codes word))
    (times (map codes all_words) (codes word)) most tests.0 in
    ap (λ b. b && list_all (λ word. nat_le (times words (codes word)) 1) allowed) here ∙ once words ordered allowed tests.1 where
      at_most : (a b : ℕ) → a ≤ b → nat_le b 1 ≡ true → nat_le a 1 ≡ true
      at_most a b less low = grind (arith, nat_tests, less, low)

-- ---- the form

form_from : (allowed : List String) (words : List (List ℕ)) → AllowedWords allowed words → in_order words ≡ words
    → are_words allowed words ≡ true
form_from allowed words are ordered =
    let order : pointwise bytes_eq (in_order words) words ≡ true = ap (λ ws. pointwise bytes_eq ws words) ordered ∙ same_texts words in
    ap (λ b. b && pointwise bytes_eq (in_order words) words && has_one_access words) are.known
    ∙ ap (λ b. b && has_one_access words) order ∙ are.one_access

to_form : (allowed : List String) → list_all (λ word. nat_le (times (map codes all_words) (codes word)) 1) allowed ≡ true
    → (words : List (List ℕ)) → are_words allowed words ≡ true
    → AllowedWords allowed words × (in_order words ≡ words)
to_form allowed single words form =
    let outer = both_true (list_all (among allowed) words && pointwise bytes_eq (in_order words) words) (has_one_access words) form in
    let inner = both_true (list_all (among allowed) words) (pointwise bytes_eq (in_order words) words) outer.0 in
    let ordered = equal_texts (in_order words) words inner.1 in
    (record { known = inner.0; once = once words ordered allowed single; one_access = outer.1 }, ordered)

both : (a b c : Bool) → (a ≡ true → b ≡ true → c ≡ true) → (c ≡ true → (a ≡ true) × (b ≡ true)) → (a && b) ≡ c
both true true c there back = sym (there refl refl)
both true false true there back = absurd (let clash = (back refl).1 in cc)
both true false false there back = refl
both false b true there back = absurd (let clash = (back refl).0 in cc)
both false b false there back = refl

module _ (words : List (List ℕ)) (allowed ordered : Bool) (known : List String)
    (single : list_all (λ word. nat_le (times (map codes all_words) (codes word)) 1) known ≡ true) where
  tested : IsTrue allowed ↔ AllowedWords known words → IsTrue ordered ↔ AreInOrder words → (allowed && ordered) ≡ are_words known words
  tested are order =
      both allowed ordered (are_words known words)
      (λ a o. form_from known words (are.0 a) (order.0 o))
      (λ form. let is = to_form known single words form in (are.1 is.0, order.1 is.1))

-- what the two tests of the code say
pub words_tested : (kind : Modified) (words : List (List ℕ)) (allowed ordered : Bool) → kind ≢ of.AbstractMethod
    → IsTrue allowed ↔ AreAllowed kind words → IsTrue ordered ↔ AreInOrder words
    → (allowed && ordered) ≡ are_words (words_before kind) words
words_tested of.Class words allowed ordered not are order = tested words allowed ordered class_words refl are order
words_tested of.Field words allowed ordered not are order = tested words allowed ordered field_words refl are order
words_tested of.Method words allowed ordered not are order = tested words allowed ordered method_words refl are order
words_tested of.AbstractMethod words allowed ordered not are order = absurd (not refl)
words_tested of.KeptMethod words allowed ordered not are order = tested words allowed ordered kept_words refl are order
words_tested of.Constructor words allowed ordered not are order = tested words allowed ordered constructor_words refl are order

-- where the first test fails
pub words_refused : (kind : Modified) (words : List (List ℕ)) (allowed : Bool) → kind ≢ of.AbstractMethod
    → IsTrue allowed ↔ AreAllowed kind words → allowed ≡ false
    → allowed ≡ are_words (words_before kind) words
words_refused kind words allowed not are fails =
    let decides = pointwise_decides bytes_decides (in_order words) words in
    fails ∙ ap (λ b. b && pointwise bytes_eq (in_order words) words) (sym fails)
    ∙ words_tested kind words allowed (pointwise bytes_eq (in_order words) words) not are decides
