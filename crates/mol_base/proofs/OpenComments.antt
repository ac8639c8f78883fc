-- Comments that never end, and text blocks, as the scan finds them.
use Rattle.std.proofs.Common.{◌≡◌, ℕ, suc, ◌+◌, ◌<◌, ◌≤◌, Bool, true, false, ◌&&◌, List, [], ◌∷◌, ◌++◌, drop, length, refl, sym, ◌∙◌, ap, subst, arith, cond, nat_eq, length-append}
use Rattle.std.specs.Prelude.{codes, nat_lt}
use Rattle.std.proofs.lemmas.Bool.{and_parts, cond_both, eqb-true, ltb-true, ltb-false, false_from_ne_true}
use Rattle.mol_base.specs.Lexical.Characters.{first, second, third}
use Rattle.mol_base.specs.Lexical.Comments.{before_close, block_comment}
use Rattle.mol_base.specs.Lexical.Flaws.{IsOpenComment, IsTextBlock}
use Rattle.mol_base.specs.Lexical.Front.{front}
use Rattle.mol_base.specs.declared.lexical.front.Front.TheVariants.{Wrong}
use Rattle.mol_base.specs.declared.lexical.front.Flaw.TheVariants.{OpenComment, TextBlock}

-- bytes that begin with these bytes
pub begins_two : (r : List ℕ) (a b : ℕ) → 0 < b → first r ≡ a → second r ≡ b → r ≡ a ∷ b ∷ drop 2 r
begins_two [] a b some one two = absurd (omega (arith, some, two))
begins_two (x ∷ []) a b some one two = absurd (omega (arith, some, two))
begins_two (x ∷ y ∷ r) a b some one two = cc

pub begins_three : (r : List ℕ) (a b c : ℕ) → 0 < b → 0 < c → first r ≡ a → second r ≡ b → third r ≡ c → r ≡ a ∷ b ∷ c ∷ drop 3 r
begins_three [] a b c some some' one two three = absurd (omega (arith, some, two))
begins_three (x ∷ []) a b c some some' one two three = absurd (omega (arith, some, two))
begins_three (x ∷ y ∷ []) a b c some some' one two three = absurd (omega (arith, some', three))
begins_three (x ∷ y ∷ z ∷ r) a b c some some' one two three = cc

-- the scan for `*/` goes no further than one that is there
before_close-early : (body rest : List ℕ) → before_close (body ++ codes "*/" ++ rest) ≤ length body
before_close-early [] rest = omega arith
before_close-early (b ∷ body) rest =
    cond_both (nat_eq b 42 && nat_eq (first (body ++ codes "*/" ++ rest)) 47) 0 (1 + before_close (body ++ codes "*/" ++ rest)) (λ n. n ≤ suc (length body))
    (λ _. omega arith) (λ _. omega (arith, before_close-early body rest))

length-closed : (body rest : List ℕ) → length (body ++ codes "*/" ++ rest) ≡ length body + 2 + length rest
length-closed body rest = length-append (body ++ codes "*/") rest ∙ ap (λ (n : ℕ). n + length rest) (length-append body (codes "*/"))

-- where it stops before the end it has found one
record IsSplit (r : List ℕ) : Type 0 where
  body : List ℕ
  rest : List ℕ
  spelled : r ≡ body ++ codes "*/" ++ rest

before_close-found : (r : List ℕ) → before_close r < length r → IsSplit r
before_close-found [] less = absurd (omega arith)
before_close-found (b ∷ []) less = by_test (nat_eq b 42 && false) refl less where
  by_test : (t : Bool) → (nat_eq b 42 && false) ≡ t → cond t 0 (1 + 0) < 1 → IsSplit (b ∷ [])
  by_test true is less' = absurd (never (nat_eq b 42) is) where
    never : (t : Bool) → (t && false) ≡ true → ⊥
    never true h = absurd cc
    never false h = absurd cc
  by_test false is less' = absurd (omega arith)
before_close-found (b ∷ c ∷ cs) less = by_test (nat_eq b 42 && nat_eq c 47) refl less (λ fewer. before_close-found (c ∷ cs) fewer) where
  by_test : (t : Bool) → (nat_eq b 42 && nat_eq c 47) ≡ t → cond t 0 (1 + before_close (c ∷ cs)) < suc (suc (length cs)) → (before_close (c ∷ cs) < suc (length cs) → IsSplit (c ∷ cs)) → IsSplit (b ∷ c ∷ cs)
  by_test true is less' rest =
      let both = and_parts (nat_eq b 42) (nat_eq c 47) is in
      let star : b ≡ 42 = eqb-true b 42 both.0 in
      let slash : c ≡ 47 = eqb-true c 47 both.1 in
      record { body = []; rest = cs; spelled = cc }
  by_test false is less' rest = let further = rest (omega arith) in record { body = b ∷ further.body; rest = further.rest; spelled = ap (λ (xs : List ℕ). b ∷ xs) further.spelled }

-- an open comment
pub front-open_comment : (r : List ℕ) → IsOpenComment r → front r ≡ Wrong OpenComment 0
unfolding front block_comment
front-open_comment r is =
    let P : List ℕ → Type 0 = λ xs. front xs ≡ Wrong OpenComment 0 in
    let unclosed : nat_lt (before_close is.after) (length is.after) ≡ false =
    false_from_ne_true _ (λ less. let found = before_close-found is.after (ltb-true _ _ less) in is.never_ends found.body found.rest found.spelled) in
    subst P (sym is.spelled) (rw unclosed refl)

pub IsOpenComment-open : (r : List ℕ) → first r ≡ 47 → second r ≡ 42 → nat_lt (before_close (drop 2 r)) (length (drop 2 r)) ≡ false → IsOpenComment r
IsOpenComment-open r slash star unclosed = record {
  after = drop 2 r;
  spelled = begins_two r 47 42 (omega arith) slash star;
  never_ends = λ body rest e.
      let high : length (drop 2 r) ≤ before_close (drop 2 r) = ltb-false _ _ unclosed in
      let early : before_close (drop 2 r) ≤ length body = rw e (before_close-early body rest) in
      let len : length (drop 2 r) ≡ length body + 2 + length rest = ap (λ (xs : List ℕ). length xs) e ∙ length-closed body rest in
      omega arith;
}

-- a text block
pub front-text_block : (r : List ℕ) → IsTextBlock r → front r ≡ Wrong TextBlock 0
unfolding front
front-text_block r is = let P : List ℕ → Type 0 = λ xs. front xs ≡ Wrong TextBlock 0 in subst P (sym is.spelled) refl

pub three_quotes-IsTextBlock : (r : List ℕ) → IsTextBlock r → (nat_eq (first r) 34 && nat_eq (second r) 34 && nat_eq (third r) 34) ≡ true
three_quotes-IsTextBlock r is = let P : List ℕ → Type 0 = λ xs. (nat_eq (first xs) 34 && nat_eq (second xs) 34 && nat_eq (third xs) 34) ≡ true in subst P (sym is.spelled) refl

pub IsTextBlock-three_quotes : (r : List ℕ) → (nat_eq (first r) 34 && nat_eq (second r) 34 && nat_eq (third r) 34) ≡ true → IsTextBlock r
IsTextBlock-three_quotes r is =
    let both = and_parts (nat_eq (first r) 34 && nat_eq (second r) 34) (nat_eq (third r) 34) is in
    let two = and_parts (nat_eq (first r) 34) (nat_eq (second r) 34) both.0 in
    record { after = drop 3 r; spelled = begins_three r 34 34 34 (omega arith) (omega arith) (eqb-true _ _ two.0) (eqb-true _ _ two.1) (eqb-true _ _ both.1) }
