-- The symbols of the language as phrases, and which bytes may follow each.
use Rattle.std.proofs.Common.{◌≡◌, ◌⊎◌, inl, inr, ℕ, Bool, true, false, ◌&&◌, ◌||◌, refl, codes, List, [], ◌∷◌, Some, nat_eq, cond, sym, ◌∙◌, arith}
use Rattle.std.specs.Str.{is_utf8, chars}
use Rattle.std.proofs.lemmas.Bool.{cases_Bool, eqb-true}
use Rattle.std.proofs.lemmas.Bool.Decides.{nat_tests}
use Rattle.ucd_derived.specs.Binary.{is_xid_start}
use Rattle.ucd_derived.specs.XidStartRanges.{xid_start_ranges}
use Rattle.ucd_table.specs.Rows.{in_ranges}
use Rattle.mol_base.specs.Lexical.Characters.{first, first_char, is_space, is_digit}
use Rattle.mol_base.specs.Lexical.Names.{is_start, starts_name}
use Rattle.mol_base.specs.Lexical.Symbols.{is_symbol_2, takes_equals, comes_twice}
use Rattle.mol_base.specs.Lexical.Symbols as lexical
use Rattle.mol_base.specs.Lexical.Front.{front, is_clean, token_kind}
use Rattle.mol_base.specs.Lexical.Numbers.{number}
use Rattle.mol_base.specs.declared.token_kind.TokenKind.{TokenKind}
use Rattle.mol_base.specs.declared.token_kind.TokenKind.TheVariants as kind
use Rattle.mol_base.specs.declared.lexical.front.Front.TheVariants.{Taken, Wrong}
use Rattle.mol_base.specs.declared.lexical.front.Flaw.TheVariants.{FloatLiteral}
use Rattle.jav_print_laws.specs.pieces.Pieces.{may_follow}
use Rattle.jav_print_laws.proofs.pieces_lemmas.Cut.{ascii_char}
use Rattle.jav_print_laws.proofs.pieces_lemmas.Followed.{number-literal}
use Rattle.jav_print_laws.proofs.pieces_lemmas.Signs.{symbol-kind}
use Rattle.jav_print_laws.proofs.pieces_lemmas.Tiled.{token_is}
use Rattle.jav_tree.specs.Tokens.{IsSymbol}
use Rattle.jav_print_laws.proofs.layout_lemmas.Bytes.{opens}
use Rattle.jav_print_laws.proofs.layout_lemmas.Each.{Each}
use Rattle.jav_print_laws.proofs.layout_lemmas.Phrases.{Phrase, Alone, Any, symbol, narrow}

abbrev pub IsSign : List ℕ → Type 0
IsSign op = token_kind op ≡ Some kind.Symbol

pub separators : Each IsSign ("(" ∷ ")" ∷ "{" ∷ "}" ∷ "[" ∷ "]" ∷ ";" ∷ "," ∷ "." ∷ "@" ∷ ":" ∷ "?" ∷ "=" ∷ [])
unfolding token_kind is_clean is_utf8 chars front lexical.symbol starts_name first_char is_start is_xid_start in_ranges xid_start_ranges lib.Utf8.encode
separators = (refl, (refl, (refl, (refl, (refl, (refl, (refl, (refl, (refl, (refl, (refl, (refl, (refl, tt)))))))))))))

-- a sign of one byte that no byte goes on with
pub one_may : (a b : ℕ) → is_symbol_2 a b ≡ false → nat_eq a 46 ≡ false → nat_eq a 47 ≡ false → nat_eq a 92 ≡ false → may_follow kind.Symbol (a ∷ []) b ≡ true
unfolding may_follow
one_may a b two dot slash back = rw (two, dot, slash, back) refl

pub lone : (a b : ℕ) → takes_equals a ≡ false → comes_twice a ≡ false → nat_eq a 45 ≡ false → is_symbol_2 a b ≡ false
lone a b e f g = rw (e, f, g) (by (nat_eq b 61) (nat_eq a b)) where
  by : (x y : Bool) → (x && false || (y && false) || false) ≡ false
  by true true = refl
  by true false = refl
  by false true = refl
  by false false = refl

pub lone_may : (a b : ℕ) → takes_equals a ≡ false → comes_twice a ≡ false → nat_eq a 45 ≡ false → nat_eq a 46 ≡ false → nat_eq a 47 ≡ false → nat_eq a 92 ≡ false → may_follow kind.Symbol (a ∷ []) b ≡ true
lone_may a b e f g dot slash back = one_may a b (lone a b e f g) dot slash back

abbrev pub left_paren : Phrase (Alone (IsSymbol "(")) Any (codes "(")
left_paren = narrow (symbol "(" separators.0) (λ b ok. lone_may 40 b refl refl refl refl refl refl)

abbrev pub right_paren : Phrase (Alone (IsSymbol ")")) Any (codes ")")
right_paren = narrow (symbol ")" separators.1.0) (λ b ok. lone_may 41 b refl refl refl refl refl refl)

abbrev pub left_brace : Phrase (Alone (IsSymbol "{")) Any (codes "{")
left_brace = narrow (symbol "{" separators.1.1.0) (λ b ok. lone_may 123 b refl refl refl refl refl refl)

abbrev pub right_brace : Phrase (Alone (IsSymbol "}")) Any (codes "}")
right_brace = narrow (symbol "}" separators.1.1.1.0) (λ b ok. lone_may 125 b refl refl refl refl refl refl)

abbrev pub left_bracket : Phrase (Alone (IsSymbol "[")) Any (codes "[")
left_bracket = narrow (symbol "[" separators.1.1.1.1.0) (λ b ok. lone_may 91 b refl refl refl refl refl refl)

abbrev pub right_bracket : Phrase (Alone (IsSymbol "]")) Any (codes "]")
right_bracket = narrow (symbol "]" separators.1.1.1.1.1.0) (λ b ok. lone_may 93 b refl refl refl refl refl refl)

abbrev pub semicolon : Phrase (Alone (IsSymbol ";")) Any (codes ";")
semicolon = narrow (symbol ";" separators.1.1.1.1.1.1.0) (λ b ok. lone_may 59 b refl refl refl refl refl refl)

abbrev pub comma : Phrase (Alone (IsSymbol ",")) Any (codes ",")
comma = narrow (symbol "," separators.1.1.1.1.1.1.1.0) (λ b ok. lone_may 44 b refl refl refl refl refl refl)

abbrev pub dot : Phrase (Alone (IsSymbol ".")) (λ b. may_follow kind.Symbol (codes ".") b ≡ true) (codes ".")
dot = symbol "." separators.1.1.1.1.1.1.1.1.0

abbrev pub at_sign : Phrase (Alone (IsSymbol "@")) Any (codes "@")
at_sign = narrow (symbol "@" separators.1.1.1.1.1.1.1.1.1.0) (λ b ok. lone_may 64 b refl refl refl refl refl refl)

-- signs that stand between spaces
abbrev pub Spaced : ℕ → Type 0
Spaced b = b ≡ 32

pub spaced_signs : (may_follow kind.Symbol (codes ":") 32 ≡ true) × (may_follow kind.Symbol (codes "?") 32 ≡ true) × (may_follow kind.Symbol (codes "=") 32 ≡ true)
unfolding may_follow
spaced_signs = (refl, refl, refl)

abbrev pub colon : Phrase (Alone (IsSymbol ":")) Spaced (codes ":")
colon = narrow (symbol ":" separators.1.1.1.1.1.1.1.1.1.1.0) (λ b ok. rw ok spaced_signs.0)

abbrev pub question : Phrase (Alone (IsSymbol "?")) Spaced (codes "?")
question = narrow (symbol "?" separators.1.1.1.1.1.1.1.1.1.1.1.0) (λ b ok. rw ok spaced_signs.1)

abbrev pub equals : Phrase (Alone (IsSymbol "=")) Spaced (codes "=")
equals = narrow (symbol "=" separators.1.1.1.1.1.1.1.1.1.1.1.1.0) (λ b ok. rw ok spaced_signs.2)

-- a token that is no symbol begins so
equals_starts_none : is_start 61 ≡ false
unfolding is_start is_xid_start in_ranges xid_start_ranges
equals_starts_none = refl

greater_starts_none : is_start 62 ≡ false
unfolding is_start is_xid_start in_ranges xid_start_ranges
greater_starts_none = refl

equals_symbol : (bs : List ℕ) (k : TokenKind) (n : ℕ) → front (61 ∷ bs) ≡ Taken k n → kind.Symbol ≡ k
unfolding front starts_name
equals_symbol bs k n is = symbol-kind (61 ∷ bs) k n (rw (ascii_char 61 bs (omega arith), equals_starts_none) at is)

greater_symbol : (bs : List ℕ) (k : TokenKind) (n : ℕ) → front (62 ∷ bs) ≡ Taken k n → kind.Symbol ≡ k
unfolding front starts_name
greater_symbol bs k n is = symbol-kind (62 ∷ bs) k n (rw (ascii_char 62 bs (omega arith), greater_starts_none) at is)

pub token-opens : (text : List ℕ) (k : TokenKind) → token_kind text ≡ Some k → (kind.Symbol ≡ k → ⊥) → opens (first text) ≡ true
token-opens text k is differs = by_text text (token_is text k is).taken where
  by_text : (t : List ℕ) {n : ℕ} → front t ≡ Taken k n → opens (first t) ≡ true
  by_text [] taken = refl
  by_text (b ∷ bs) {n} taken = by_byte (cases_Bool (nat_eq b 61)) (cases_Bool (nat_eq b 62)) where
    by_byte : ((nat_eq b 61 ≡ true) ⊎ (nat_eq b 61 ≡ false)) → ((nat_eq b 62 ≡ true) ⊎ (nat_eq b 62 ≡ false)) → opens b ≡ true
    by_byte (inl x) y = let e : b ≡ 61 = eqb-true b 61 x in absurd (differs (equals_symbol bs k n (rw e at taken)))
    by_byte (inr x) (inl y) = let e : b ≡ 62 = eqb-true b 62 y in absurd (differs (greater_symbol bs k n (rw e at taken)))
    by_byte (inr x) (inr y) = rw (x, y) refl

-- a name follows a dot: its first byte is no dot and no digit
digit_number : (b : ℕ) (bs : List ℕ) → is_digit b ≡ true → front (b ∷ bs) ≡ number (b ∷ bs)
unfolding front
digit_number b bs h =
    let space : is_space b ≡ false = grind (arith, nat_tests, h) in
    let slash : nat_eq b 47 ≡ false = grind (arith, nat_tests, h) in
    let quote : nat_eq b 34 ≡ false = grind (arith, nat_tests, h) in
    let tick : nat_eq b 39 ≡ false = grind (arith, nat_tests, h) in
    rw (space, slash, quote, tick, h) refl

dot_starts_none : is_start 46 ≡ false
unfolding is_start is_xid_start in_ranges xid_start_ranges
dot_starts_none = refl

dot_symbol : (bs : List ℕ) (k : TokenKind) (n : ℕ) → front (46 ∷ bs) ≡ Taken k n → kind.Symbol ≡ k
unfolding front starts_name
dot_symbol bs k n is = by (is_digit (first bs)) (rw (ascii_char 46 bs (omega arith), dot_starts_none) at is) where
  by : (d : Bool) → cond d (Wrong FloatLiteral 0) (lexical.symbol (46 ∷ bs)) ≡ Taken k n → kind.Symbol ≡ k
  by true wrong = absurd cc
  by false taken = symbol-kind (46 ∷ bs) k n taken

dot_byte : (b : ℕ) → nat_eq b 46 ≡ false → is_digit b ≡ false → may_follow kind.Symbol (codes ".") b ≡ true
unfolding may_follow
dot_byte b differs digit = rw (lone 46 b refl refl refl, differs, digit) refl

dot_then : (b : ℕ) → b ≡ 0 → may_follow kind.Symbol (codes ".") b ≡ true
dot_then b e = rw e (dot_byte 0 refl refl)

pub dot_may : (b : ℕ) (name : List ℕ) → token_kind name ≡ Some kind.Word → first name ≡ b → may_follow kind.Symbol (codes ".") b ≡ true
dot_may b name is e = by_text name (token_is name kind.Word is).taken e where
  by_text : (t : List ℕ) {n : ℕ} → front t ≡ Taken kind.Word n → first t ≡ b → may_follow kind.Symbol (codes ".") b ≡ true
  by_text [] taken e = dot_then b (omega arith)
  by_text (c ∷ bs) {n} taken e = dot_byte b (by_byte (cases_Bool (nat_eq b 46))) (by_digit (cases_Bool (is_digit b))) where
    here : front (b ∷ bs) ≡ Taken kind.Word n
    here = let e' : b ≡ c = sym e in rw e' taken

    by_byte : ((nat_eq b 46 ≡ true) ⊎ (nat_eq b 46 ≡ false)) → nat_eq b 46 ≡ false
    by_byte (inr x) = x
    by_byte (inl x) = let e' : b ≡ 46 = eqb-true b 46 x in let s = dot_symbol bs kind.Word n (rw e' at here) in absurd cc

    by_digit : ((is_digit b ≡ true) ⊎ (is_digit b ≡ false)) → is_digit b ≡ false
    by_digit (inr x) = x
    by_digit (inl x) = let l = number-literal (b ∷ bs) n kind.Word (sym (digit_number b bs x) ∙ here) in absurd cc
