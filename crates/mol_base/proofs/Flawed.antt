-- The law of flaws: a flaw begins the bytes by its form exactly where the scan finds it.
use Rattle.std.proofs.Common.{◌≡◌, ◌⊎◌, inl, inr, ℕ, zero, suc, ◌+◌, ◌<◌, ◌≤◌, true, false, ◌&&◌, ◌||◌, List, [], take, drop, length, refl, sym, ◌∙◌, ap, subst, arith, nat_eq}
use Rattle.std.specs.Prelude.{nat_lt}
use Rattle.std.proofs.lemmas.Bool.{and_parts, or_parts, or_cases, cond_both, eqb-true, ltb-true}
use Rattle.mol_base.specs.Lexical.Characters.{is_space, is_digit, first, second, third}
use Rattle.mol_base.specs.Lexical.Comments.{before_close, line_comment, block_comment}
use Rattle.mol_base.specs.Lexical.Flaws.{IsQuote, IsFormedFlaw, IsBadChar, IsFlaw, FindsFlaws}
use Rattle.mol_base.specs.Lexical.Front.{front, IsWithin, TakesLongest}
use Rattle.mol_base.specs.Lexical.Names.{name_len, name, starts_name, word_kind}
use Rattle.mol_base.specs.Lexical.Numbers.{run_len, number, is_integer, without_suffix}
use Rattle.mol_base.specs.Lexical.Quoted.{quoted}
use Rattle.mol_base.specs.Lexical.Symbols.{symbol, is_symbol_1, is_symbol_2, is_symbol_3, is_symbol_4}
use Rattle.mol_base.specs.Lexical.Tokens.{IsToken}
use Rattle.mol_base.specs.declared.token_kind.TokenKind.{TokenKind}
use Rattle.mol_base.specs.declared.token_kind.TokenKind.TheVariants.{Literal, Symbol, Comment}
use Rattle.mol_base.specs.declared.lexical.front.Flaw.{Flaw}
use Rattle.mol_base.specs.declared.lexical.front.Flaw.TheVariants.{BadChar, OpenString, OpenComment, BadEscape, FloatLiteral, BadNumber, TextBlock, NameTooLong}
use Rattle.mol_base.specs.declared.lexical.front.Front.{Front}
use Rattle.mol_base.specs.declared.lexical.front.Front.TheVariants.{Space, Taken, Wrong}
use Rattle.mol_base.proofs.BadCharacters.{BeginsNothing, front-nothing-take, front-underscore-take}
use Rattle.mol_base.proofs.Ends.{front-within}
use Rattle.mol_base.proofs.Longest.{front-longest}
use Rattle.mol_base.proofs.NameFlaws.{front-long_name, IsLongName-name}
use Rattle.mol_base.proofs.NumberFlaws.{refuses_float, IsFloatLiteral-refuses_float, front-float, IsFloatLiteral-dot, front-bad_number, IsBadNumber-number}
use Rattle.mol_base.proofs.OpenComments.{front-open_comment, IsOpenComment-open, front-text_block, IsTextBlock-three_quotes}
use Rattle.mol_base.proofs.QuotedFlaws.{three_quotes, front-nil, front-bad_escape, IsOpenString-quoted, QuotedCase, open_string, bad_escape, literal, quoted-cases, front-open_string}
use Rattle.mol_base.proofs.Whole.{IsWhole-token}

-- flaws that have a form of their own are found
front-formed : (r : List ℕ) (flaw : Flaw) (offset : ℕ) → 0 < length r → IsFormedFlaw flaw offset r → front r ≡ Wrong flaw offset
front-formed r BadChar offset some is = absurd is
front-formed r OpenString offset some is = front-open_string r some is.1 ∙ ap (λ (k : ℕ). Wrong OpenString k) (sym is.0)
front-formed r OpenComment offset some is = front-open_comment r is.1 ∙ ap (λ (k : ℕ). Wrong OpenComment k) (sym is.0)
front-formed r BadEscape offset some is = front-bad_escape offset r is
front-formed r FloatLiteral offset some is = front-float r is.1 ∙ ap (λ (k : ℕ). Wrong FloatLiteral k) (sym is.0)
front-formed r BadNumber offset some is = front-bad_number r is.1 ∙ ap (λ (k : ℕ). Wrong BadNumber k) (sym is.0)
front-formed r TextBlock offset some is = front-text_block r is.1 ∙ ap (λ (k : ℕ). Wrong TextBlock k) (sym is.0)
front-formed r NameTooLong offset some is = front-long_name r is.1 ∙ ap (λ (k : ℕ). Wrong NameTooLong k) (sym is.0)

-- what the scan finds is a flaw by its form
Says : List ℕ → Front → Type 0
Says r Space = Unit {0}
Says r (Taken kind n) = Unit {0}
Says r (Wrong flaw offset) = IsFlaw flaw offset r

-- a character with which neither the bytes nor a front of them begin a token
IsBadChar-from : (r : List ℕ) → 0 < length r → is_space (first r) ≡ false → front r ≡ Wrong BadChar 0 → ((n : ℕ) → 0 < n → n ≤ length r → front (take n r) ≡ Wrong BadChar 0) → IsBadChar r
IsBadChar-from r some space found fronts = record { some = some; no_space = space; no_token = no_token; no_other = no_other } where
  no_token : (kind : TokenKind) (n : ℕ) → n ≤ length r → IsToken kind (take n r) → ⊥
  no_token kind zero room token = let whole = IsWhole-token kind [] token in let nothing = front-nil in absurd cc
  no_token kind (suc n) room token = let whole = IsWhole-token kind (take (suc n) r) token in let wrong = fronts (suc n) (omega arith) room in absurd cc

  no_other : (flaw : Flaw) (offset : ℕ) → IsFormedFlaw flaw offset r → ⊥
  no_other BadChar offset is = is
  no_other OpenString offset is = let wrong = front-formed r OpenString offset some is in absurd cc
  no_other OpenComment offset is = let wrong = front-formed r OpenComment offset some is in absurd cc
  no_other BadEscape offset is = let wrong = front-formed r BadEscape offset some is in absurd cc
  no_other FloatLiteral offset is = let wrong = front-formed r FloatLiteral offset some is in absurd cc
  no_other BadNumber offset is = let wrong = front-formed r BadNumber offset some is in absurd cc
  no_other TextBlock offset is = let wrong = front-formed r TextBlock offset some is in absurd cc
  no_other NameTooLong offset is = let wrong = front-formed r NameTooLong offset some is in absurd cc

says-line : (r : List ℕ) → Says r (line_comment r)
unfolding line_comment Says
says-line r = tt

says-block : (r : List ℕ) → (nat_eq (first r) 47 && nat_eq (second r) 42) ≡ true → Says r (block_comment r)
unfolding block_comment Says
says-block r is =
    let both = and_parts (nat_eq (first r) 47) (nat_eq (second r) 42) is in
    cond_both (nat_lt (before_close (drop 2 r)) (length (drop 2 r))) (Taken Comment (2 + before_close (drop 2 r) + 2)) (Wrong OpenComment 0) (Says r)
    (λ _. tt) (λ unclosed. (refl, IsOpenComment-open r (eqb-true _ _ both.0) (eqb-true _ _ both.1) unclosed))

quote_of : (q : ℕ) → (nat_eq q 34 || nat_eq q 39) ≡ true → IsQuote q
quote_of q is = by_quote (or_cases (nat_eq q 34) (nat_eq q 39) is) where
  by_quote : ((nat_eq q 34 ≡ true) ⊎ (nat_eq q 39 ≡ true)) → IsQuote q
  by_quote (inl double) = inl (eqb-true q 34 double)
  by_quote (inr single) = inr (eqb-true q 39 single)

says-quoted : (r : List ℕ) → 0 < length r → IsQuote (first r) → three_quotes r ≡ false → Says r (quoted (first r) r)
unfolding Says
says-quoted r some is no_block = by_case (quoted-cases r some is) where
  P : Front → Type 0
  P = Says r

  by_case : QuotedCase r → Says r (quoted (first r) r)
  by_case (open_string e) = subst P (sym e) (refl, IsOpenString-quoted r is no_block e)
  by_case (bad_escape offset e bad) = subst P (sym e) bad
  by_case (literal n e) = subst P (sym e) tt

says-number : (r : List ℕ) → is_digit (first r) ≡ true → Says r (number r)
unfolding number Says
says-number r digit =
    cond_both (refuses_float r) (Wrong FloatLiteral 0) _ (Says r) (λ is. (refl, IsFloatLiteral-refuses_float r digit is))
    (λ no_float. cond_both (is_integer (without_suffix (take (run_len r) r))) (Taken Literal (run_len r)) (Wrong BadNumber 0) (Says r) (λ _. tt) (λ no_integer. (refl, IsBadNumber-number r digit no_float no_integer)))

says-name : (r : List ℕ) → 0 < length r → is_space (first r) ≡ false → starts_name r ≡ true → front r ≡ name r → Says r (name r)
unfolding name Says
says-name r some space starts chosen =
    let n = name_len 0 r in
    let Found : Front → Type 0 = λ f. front r ≡ f → Says r f in
    cond_both (nat_lt 255 n) (Wrong NameTooLong 0) _ Found (λ long _. (refl, IsLongName-name r starts (ltb-true 255 n long)))
    (λ _. cond_both (nat_eq n 1 && nat_eq (first r) 95) (Wrong BadChar 0) (Taken (word_kind (take n r)) n) Found
    (λ alone e.
    let both = and_parts (nat_eq n 1) (nat_eq (first r) 95) alone in
    (refl, IsBadChar-from r some space e (front-underscore-take r starts (eqb-true n 1 both.0) (eqb-true (first r) 95 both.1))))
    (λ _ _. tt)) chosen

says-symbol : (r : List ℕ) → 0 < length r → (is_symbol_1 (first r) ≡ false → BeginsNothing r) → front r ≡ symbol r → Says r (symbol r)
unfolding symbol Says
says-symbol r some nothing chosen =
    let a = first r in let b = second r in let c = third r in
    let Found : Front → Type 0 = λ f. front r ≡ f → Says r f in
    cond_both (is_symbol_4 a b c _) (Taken Symbol 4) _ Found (λ _ _. tt)
    (λ _. cond_both (is_symbol_3 a b c) (Taken Symbol 3) _ Found (λ _ _. tt)
    (λ _. cond_both (is_symbol_2 a b) (Taken Symbol 2) _ Found (λ _ _. tt)
    (λ _. cond_both (is_symbol_1 a) (Taken Symbol 1) (Wrong BadChar 0) Found (λ _ _. tt)
    (λ fails e. let is = nothing fails in (refl, IsBadChar-from r some is.space e (front-nothing-take r is)))))) chosen

front-says : (r : List ℕ) → 0 < length r → Says r (front r)
unfolding front Says
front-says r some =
    let a = first r in let b = second r in
    let Found : Front → Type 0 = λ f. front r ≡ f → Says r f in
    cond_both (is_space a) Space _ Found (λ _ _. tt)
    (λ space. cond_both (nat_eq a 47 && nat_eq b 47) (line_comment r) _ Found (λ _ _. says-line r)
    (λ _. cond_both (nat_eq a 47 && nat_eq b 42) (block_comment r) _ Found (λ is _. says-block r is)
    (λ _. cond_both (three_quotes r) (Wrong TextBlock 0) _ Found (λ is _. (refl, IsTextBlock-three_quotes r is))
    (λ no_block. cond_both (nat_eq a 34 || nat_eq a 39) (quoted a r) _ Found (λ is _. says-quoted r some (quote_of a is) no_block)
    (λ no_quote. cond_both (is_digit a) (number r) _ Found (λ is _. says-number r is)
    (λ no_digit. cond_both (nat_eq a 46 && is_digit b) (Wrong FloatLiteral 0) _ Found
    (λ is _. let both = and_parts (nat_eq a 46) (is_digit b) is in (refl, IsFloatLiteral-dot r (eqb-true a 46 both.0) both.1))
    (λ _. cond_both (starts_name r) (name r) (symbol r) Found (λ starts e. says-name r some space starts e)
    (λ no_name e.
    let quotes = or_parts (nat_eq a 34) (nat_eq a 39) no_quote in
    says-symbol r some (λ fails. record { space = space; double = quotes.0; single = quotes.1; digit = no_digit; name = no_name; symbol = fails }) e)))))))) refl

-- the law, both ways
pub IsFlaw-front : (bytes : List ℕ) (flaw : Flaw) (offset : ℕ) → 0 < length bytes → front bytes ≡ Wrong flaw offset → IsFlaw flaw offset bytes
unfolding Says
IsFlaw-front bytes flaw offset some is = let P : Front → Type 0 = Says bytes in subst P is (front-says bytes some)

front-IsBadChar : (r : List ℕ) → IsBadChar r → front r ≡ Wrong BadChar 0
front-IsBadChar r is = by_front (front r) refl (front-within r is.some) (front-longest r is.some) where
  by_flaw : (flaw : Flaw) (offset : ℕ) → IsFlaw flaw offset r → Wrong flaw offset ≡ Wrong BadChar 0
  by_flaw BadChar offset found = ap (λ (k : ℕ). Wrong BadChar k) found.0
  by_flaw OpenString offset found = absurd (is.no_other OpenString offset found)
  by_flaw OpenComment offset found = absurd (is.no_other OpenComment offset found)
  by_flaw BadEscape offset found = absurd (is.no_other BadEscape offset found)
  by_flaw FloatLiteral offset found = absurd (is.no_other FloatLiteral offset found)
  by_flaw BadNumber offset found = absurd (is.no_other BadNumber offset found)
  by_flaw TextBlock offset found = absurd (is.no_other TextBlock offset found)
  by_flaw NameTooLong offset found = absurd (is.no_other NameTooLong offset found)

  by_front : (f : Front) → front r ≡ f → IsWithin r f → TakesLongest r f → f ≡ Wrong BadChar 0
  by_front Space e within longest = let space = is.no_space in absurd cc
  by_front (Taken kind n) e within longest = absurd (is.no_token kind n within.1 longest.token)
  by_front (Wrong flaw offset) e within longest = by_flaw flaw offset (IsFlaw-front r flaw offset is.some e)

pub front-IsFlaw : (bytes : List ℕ) (flaw : Flaw) (offset : ℕ) → 0 < length bytes → IsFlaw flaw offset bytes → front bytes ≡ Wrong flaw offset
front-IsFlaw bytes BadChar offset some is = front-IsBadChar bytes is.1 ∙ ap (λ (k : ℕ). Wrong BadChar k) (sym is.0)
front-IsFlaw bytes OpenString offset some is = front-formed bytes OpenString offset some is
front-IsFlaw bytes OpenComment offset some is = front-formed bytes OpenComment offset some is
front-IsFlaw bytes BadEscape offset some is = front-formed bytes BadEscape offset some is
front-IsFlaw bytes FloatLiteral offset some is = front-formed bytes FloatLiteral offset some is
front-IsFlaw bytes BadNumber offset some is = front-formed bytes BadNumber offset some is
front-IsFlaw bytes TextBlock offset some is = front-formed bytes TextBlock offset some is
front-IsFlaw bytes NameTooLong offset some is = front-formed bytes NameTooLong offset some is

pub front-FindsFlaws : (bytes : List ℕ) → 0 < length bytes → FindsFlaws bytes (front bytes)
front-FindsFlaws bytes some flaw offset = (front-IsFlaw bytes flaw offset some, IsFlaw-front bytes flaw offset some)
