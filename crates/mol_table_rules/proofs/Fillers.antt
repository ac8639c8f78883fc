-- A filler as an expression has the form of one.
use Rattle.std.specs.Prelude.{slice_get, ◌≡◌, ℕ, ◌==◌, Bool, true, false, ◌&&◌, ◌||◌, List, [], ◌∷◌, drop, length, T, Some, None, if◌then◌else◌}
use Rattle.std.proofs.Common.{refl, sym, ap, subst, ◌∙◌, true≢false, arith}
use Rattle.std.proofs.Math.Facts.{eqb_yes}
use Rattle.std.proofs.lemmas.Str.{IsUtf8-from_is_utf8}
use Rattle.std.specs.Option.{option_map_or}
use Rattle.std.specs.Str.{chars, is_utf8}
use Rattle.mol_base.proofs.FirstChar.{first_char-is}
use Rattle.mol_base.specs.Lexical.Characters.{first, second, third, first_char}
use Rattle.mol_base.specs.Lexical.Front.{front, whole, is_clean, token_kind}
use Rattle.mol_base.specs.Lexical.Names.{starts_name, is_start, name}
use Rattle.mol_base.specs.Lexical.Symbols.{symbol, is_symbol_1, is_symbol_2, is_symbol_3, is_symbol_4}
use Rattle.unicode_ident.proofs.IdentLemmas.{is_xid_start-ascii}
use Rattle.mol_base.specs.declared.token_kind.TokenKind.TheVariants.{Symbol}
use Rattle.mol_base.specs.declared.lexical.front.Front.TheVariants.{Taken, Wrong}
use Rattle.mol_base.specs.declared.lexical.front.Flaw.TheVariants.{BadChar}
use Rattle.mol_values_types.specs.TokenForms.{is_literal_kind, is_literal, is_number, is_filler}

-- no identifier begins with `-`
no-part : is_start 45 ≡ false
unfolding is_start
no-part = ap (λ b. b || (45 == 95) || (45 == 36)) (is_xid_start-ascii 45 (omega arith))

dash-text : is_utf8 (45 ∷ []) ≡ true
unfolding is_utf8 chars lib.Utf8.encode
dash-text = refl

dash-char : chars (45 ∷ []) ≡ 45 ∷ []
unfolding chars
dash-char = refl

first-dash : (rest : List ℕ) → first_char (45 ∷ rest) ≡ Some 45
first-dash rest = first_char-is (45 ∷ rest) (omega arith) (IsUtf8-from_is_utf8 (45 ∷ []) dash-text) ∙ ap (λ list. slice_get list 0) dash-char

no-start : (rest : List ℕ) → starts_name (45 ∷ rest) ≡ false
unfolding starts_name
no-start rest = ap (λ char. option_map_or is_start char false) (first-dash rest) ∙ no-part

no-literal-at : (n m : ℕ) → is_literal_kind (whole n (Taken Symbol m)) ≡ false
no-literal-at n m = elim (m == n) as (λ b. is_literal_kind (if b then Some Symbol else None) ≡ false) [ true ↦ refl | false ↦ refl ]

-- a symbol is no literal
no-literal-symbol : (n : ℕ) (bytes : List ℕ) → is_literal_kind (whole n (symbol bytes)) ≡ false
unfolding symbol
no-literal-symbol n bytes =
    at (is_symbol_4 (first bytes) (second bytes) (third bytes) _) (is_symbol_3 (first bytes) (second bytes) (third bytes)) (is_symbol_2 (first bytes) (second bytes)) (is_symbol_1 (first bytes)) where
      at : (four three two one : Bool)
          → is_literal_kind (whole n (if four then Taken Symbol 4 else (if three then Taken Symbol 3 else (if two then Taken Symbol 2 else (if one then Taken Symbol 1 else Wrong BadChar 0))))) ≡ false
      at true three two one = no-literal-at n 4
      at false true two one = no-literal-at n 3
      at false false true one = no-literal-at n 2
      at false false false true = no-literal-at n 1
      at false false false false = refl

front-dash : (rest : List ℕ) → front (45 ∷ rest) ≡ symbol (45 ∷ rest)
unfolding front
front-dash rest = ap (λ b. if b then name (45 ∷ rest) else symbol (45 ∷ rest)) (no-start rest)

no-literal-dash : (rest : List ℕ) → is_literal (45 ∷ rest) ≡ false
unfolding token_kind
no-literal-dash rest =
    elim (is_clean (45 ∷ rest)) as (λ b. is_literal_kind (if b then whole (length (45 ∷ rest)) (front (45 ∷ rest)) else None) ≡ false) [
      | true ↦ ap (λ at. is_literal_kind (whole (length (45 ∷ rest)) at)) (front-dash rest) ∙ no-literal-symbol (length (45 ∷ rest)) (45 ∷ rest)
      | false ↦ refl
    ]

-- what begins with `-` is no literal
pub no-literal : (text : List ℕ) → (first text == 45) ≡ true → is_literal text ≡ false
no-literal [] is = absurd (true≢false (sym is))
no-literal (a ∷ rest) is = ap (λ b. is_literal (b ∷ rest)) (eqb_yes (subst T (sym is) tt)) ∙ no-literal-dash rest

and-left : (a b : Bool) → (a && b) ≡ true → a ≡ true
and-left true b e = refl
and-left false b e = absurd (true≢false (sym e))

-- a filler that begins with `-` goes on with a literal
pub filler-number : (text : List ℕ) → is_filler text ≡ true → (first text == 45) ≡ true → is_literal (drop 1 text) ≡ true
filler-number text is dash =
    and-left _ _ (sym (ap (λ b. b || ((first text == 45) && is_number (drop 1 text))) (no-literal text dash) ∙ ap (λ b. b && is_number (drop 1 text)) dash) ∙ is)

-- any other filler is a literal
pub filler-literal : (text : List ℕ) → is_filler text ≡ true → (first text == 45) ≡ false → is_literal text ≡ true
filler-literal text is plain = or-left (is_literal text) (sym (ap (λ b. is_literal text || (b && is_number (drop 1 text))) plain) ∙ is) where
  or-left : (a : Bool) → (a || false) ≡ true → a ≡ true
  or-left true e = refl
  or-left false e = absurd (true≢false (sym e))
