-- The list of symbols, and the longest symbol at the front.
use Rattle.std.proofs.Common.{◌≡◌, inl, inr, ℕ, Bool, true, false, ◌&&◌, ◌||◌, List, [], ◌∷◌, length, get_or, Contains, refl, sym, ◌∙◌, ap, subst, nat_eq}
use Rattle.std.specs.Prelude.{codes}
use Rattle.std.specs.List.{list_all}
use Rattle.std.proofs.lemmas.Bool.{and_parts, or_cases, cond_both, eqb-true}
use Rattle.mol_base.specs.Lexical.Characters.{first, second, third}
use Rattle.mol_base.specs.Lexical.Symbols.{symbol, is_symbol_1, is_symbol_2, is_symbol_3, is_symbol_4, takes_equals, comes_twice}
use Rattle.mol_base.specs.Lexical.Tokens.{symbols}
use Rattle.mol_base.specs.Lexical.Front.{IsWhole}
use Rattle.mol_base.specs.declared.token_kind.TokenKind.{TokenKind}
use Rattle.mol_base.specs.declared.token_kind.TokenKind.TheVariants.{Word, Keyword, Literal, Symbol, Comment}
use Rattle.mol_base.specs.declared.lexical.front.Front.{Front}
use Rattle.mol_base.specs.declared.lexical.front.Front.TheVariants.{Space, Taken, Wrong}
use Rattle.mol_base.specs.declared.lexical.front.Flaw.TheVariants.{BadChar}
use Rattle.mol_base.proofs.Fronts.{is_other, front-symbol}
use Rattle.mol_base.proofs.Members.{is_among, is_among-Contains, Contains-is_among, all_among, all_bytes, bytes_1, bytes_2, bytes_3, bytes_4}

-- a symbol of so many bytes is taken
abbrev takes_symbol : Front → ℕ → Bool
takes_symbol Space n = false
takes_symbol (Taken Word m) n = false
takes_symbol (Taken Keyword m) n = false
takes_symbol (Taken Literal m) n = false
takes_symbol (Taken Symbol m) n = nat_eq m n
takes_symbol (Taken Comment m) n = false
takes_symbol (Wrong flaw at) n = false

taken_symbol : (f : Front) (n : ℕ) → takes_symbol f n ≡ true → f ≡ Taken Symbol n
taken_symbol Space n h = absurd cc
taken_symbol (Taken Word m) n h = absurd cc
taken_symbol (Taken Keyword m) n h = absurd cc
taken_symbol (Taken Literal m) n h = absurd cc
taken_symbol (Taken Symbol m) n h = ap (λ (x : ℕ). Taken Symbol x) (eqb-true m n h)
taken_symbol (Taken Comment m) n h = absurd cc
taken_symbol (Wrong flaw at) n h = absurd cc

all_taken : list_all (λ text. is_other text && takes_symbol (symbol text) (length text)) symbols ≡ true
unfolding symbols symbol
all_taken = refl

pub IsWhole-symbol : (bytes : List ℕ) → Contains symbols bytes → IsWhole Symbol bytes
IsWhole-symbol bytes is =
    let checked = all_among (λ text. is_other text && takes_symbol (symbol text) (length text)) symbols bytes all_taken (is_among-Contains symbols bytes is) in
    let parts = and_parts (is_other bytes) (takes_symbol (symbol bytes) (length bytes)) checked in
    front-symbol bytes parts.0 ∙ taken_symbol (symbol bytes) (length bytes) parts.1

-- by their bytes: of one, two, three and four
symbol_1-among : (a : ℕ) → is_symbol_1 a ≡ true → is_among symbols (a ∷ []) ≡ true
unfolding symbols
symbol_1-among a h = all_bytes (λ x. is_among symbols (x ∷ [])) (codes "(){}[];,.@=><!~?:+-*/&|^%") a refl h

symbol_2-among : (a b : ℕ) → is_symbol_2 a b ≡ true → is_among symbols (a ∷ b ∷ []) ≡ true
unfolding symbols
symbol_2-among a b h =
    elim (or_cases ((nat_eq b 61 && takes_equals a) || (nat_eq a b && comes_twice a)) (nat_eq a 45 && nat_eq b 62) h) [
      | inl either ↦ elim (or_cases (nat_eq b 61 && takes_equals a) (nat_eq a b && comes_twice a) either) [
        | inl equals ↦
            let parts = and_parts (nat_eq b 61) (takes_equals a) equals in
            let same : b ≡ 61 = eqb-true b 61 parts.0 in
            let P : ℕ → Type 0 = λ x. is_among symbols (a ∷ x ∷ []) ≡ true in
            subst P (sym same) (all_bytes (λ x. is_among symbols (x ∷ 61 ∷ [])) (codes "=><!+-*/&|^%") a refl parts.1)
        | inr twice ↦
            let parts = and_parts (nat_eq a b) (comes_twice a) twice in
            let same : a ≡ b = eqb-true a b parts.0 in
            let P : ℕ → Type 0 = λ x. is_among symbols (a ∷ x ∷ []) ≡ true in
            subst P same (all_bytes (λ x. is_among symbols (x ∷ x ∷ [])) (codes ":&|+-<>") a refl parts.1)
      ]
      | inr arrow ↦
          let parts = and_parts (nat_eq a 45) (nat_eq b 62) arrow in
          rw (eqb-true a 45 parts.0, eqb-true b 62 parts.1) refl
    ]

symbol_3-among : (a b c : ℕ) → is_symbol_3 a b c ≡ true → is_among symbols (a ∷ b ∷ c ∷ []) ≡ true
unfolding symbols
symbol_3-among a b c h =
    let dots = nat_eq a 46 && nat_eq c 46 in let shift = nat_eq a 62 && nat_eq c 62 in let left = nat_eq a 60 && nat_eq c 61 in let right = nat_eq a 62 && nat_eq c 61 in
    let parts = and_parts (nat_eq a b) (dots || shift || left || right) h in
    let same : a ≡ b = eqb-true a b parts.0 in
    let P : ℕ → Type 0 = λ x. is_among symbols (a ∷ x ∷ c ∷ []) ≡ true in
    subst P same (elim (or_cases (dots || shift || left) right parts.1) [
      | inl first ↦ elim (or_cases (dots || shift) left first) [
        | inl either ↦ elim (or_cases dots shift either) [
          | inl is ↦ by_bytes 46 46 is refl
          | inr is ↦ by_bytes 62 62 is refl
        ]
        | inr is ↦ by_bytes 60 61 is refl
      ]
      | inr is ↦ by_bytes 62 61 is refl
    ])
  where
    by_bytes : (x y : ℕ) → (nat_eq a x && nat_eq c y) ≡ true → is_among symbols (x ∷ x ∷ y ∷ []) ≡ true → is_among symbols (a ∷ a ∷ c ∷ []) ≡ true
    by_bytes x y is among = let both = and_parts (nat_eq a x) (nat_eq c y) is in rw (eqb-true a x both.0, eqb-true c y both.1) among

symbol_4-among : (a b c d : ℕ) → is_symbol_4 a b c d ≡ true → is_among symbols (a ∷ b ∷ c ∷ d ∷ []) ≡ true
unfolding symbols
symbol_4-among a b c d h =
    let last = and_parts (nat_eq a 62 && nat_eq b 62 && nat_eq c 62) (nat_eq d 61) h in
    let third = and_parts (nat_eq a 62 && nat_eq b 62) (nat_eq c 62) last.0 in
    let two = and_parts (nat_eq a 62) (nat_eq b 62) third.0 in
    rw (eqb-true a 62 two.0, eqb-true b 62 two.1, eqb-true c 62 third.1, eqb-true d 61 last.1) refl

pub Contains-symbol : (r : List ℕ) (kind : TokenKind) → symbol r ≡ Taken kind (length r) → (kind ≡ Symbol) × Contains symbols r
unfolding symbol
Contains-symbol r kind =
    let a = first r in let b = second r in let c = third r in let d = get_or r 3 0 in
    let Wanted : Front → Type 0 = λ f. f ≡ Taken kind (length r) → (kind ≡ Symbol) × Contains symbols r in
    let P : List ℕ → Type 0 = λ xs. is_among symbols xs ≡ true in
    cond_both (is_symbol_4 a b c d) (Taken Symbol 4) _ Wanted (λ is t. (cc, Contains-is_among symbols r (subst P (sym (bytes_4 r cc)) (symbol_4-among a b c d is))))
    (λ _. cond_both (is_symbol_3 a b c) (Taken Symbol 3) _ Wanted (λ is t. (cc, Contains-is_among symbols r (subst P (sym (bytes_3 r cc)) (symbol_3-among a b c is))))
    (λ _. cond_both (is_symbol_2 a b) (Taken Symbol 2) _ Wanted (λ is t. (cc, Contains-is_among symbols r (subst P (sym (bytes_2 r cc)) (symbol_2-among a b is))))
    (λ _. cond_both (is_symbol_1 a) (Taken Symbol 1) (Wrong BadChar 0) Wanted (λ is t. (cc, Contains-is_among symbols r (subst P (sym (bytes_1 r cc)) (symbol_1-among a is))))
    (λ _ t. absurd cc))))
