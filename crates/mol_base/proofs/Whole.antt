-- The law of tokens: bytes are one token by its form exactly where all of them are taken as that.
use Rattle.std.proofs.Common.{◌≡◌, ◌⊎◌, inl, inr, ℕ, true, ◌&&◌, ◌||◌, List, length, sym, ◌∙◌, ap, subst, nat_eq}
use Rattle.std.proofs.lemmas.Bool.{and_parts, or_cases, cond_both, eqb-true}
use Rattle.mol_base.specs.Lexical.Characters.{is_space, is_digit, first, second, third}
use Rattle.mol_base.specs.Lexical.Comments.{line_comment, block_comment}
use Rattle.mol_base.specs.Lexical.Names.{name, starts_name}
use Rattle.mol_base.specs.Lexical.Numbers.{number}
use Rattle.mol_base.specs.Lexical.Quoted.{quoted}
use Rattle.mol_base.specs.Lexical.Symbols.{symbol}
use Rattle.mol_base.specs.Lexical.Tokens.{IsToken, IsLiteral, word, number as number_literal, string, character}
use Rattle.mol_base.specs.Lexical.Front.{front, IsWhole}
use Rattle.mol_base.specs.declared.token_kind.TokenKind.{TokenKind}
use Rattle.mol_base.specs.declared.token_kind.TokenKind.TheVariants.{Word, Keyword, Literal, Symbol, Comment}
use Rattle.mol_base.specs.declared.lexical.front.Front.{Front}
use Rattle.mol_base.specs.declared.lexical.front.Front.TheVariants.{Space, Taken, Wrong}
use Rattle.mol_base.specs.declared.lexical.front.Flaw.TheVariants.{FloatLiteral, TextBlock}
use Rattle.mol_base.proofs.Comments.{IsWhole-comment, IsComment-line, IsComment-block}
use Rattle.mol_base.proofs.Numerals.{IsWhole-number, IsNumber-number}
use Rattle.mol_base.proofs.Quotes.{IsWhole-string, IsWhole-character, IsString-quoted, IsCharacter-quoted}
use Rattle.mol_base.proofs.Symbols.{IsWhole-symbol, Contains-symbol}
use Rattle.mol_base.proofs.Words.{IsWhole-word, IsWhole-keyword, IsWhole-word_literal, IsToken-name}

IsWhole-literal : (bytes : List ℕ) → IsLiteral bytes → IsWhole Literal bytes
IsWhole-literal bytes (word is) = IsWhole-word_literal bytes is
IsWhole-literal bytes (number_literal is) = IsWhole-number bytes is
IsWhole-literal bytes (string is) = IsWhole-string bytes is
IsWhole-literal bytes (character is) = IsWhole-character bytes is

pub IsWhole-token : (kind : TokenKind) (bytes : List ℕ) → IsToken kind bytes → IsWhole kind bytes
IsWhole-token Word bytes is = IsWhole-word bytes is
IsWhole-token Keyword bytes is = IsWhole-keyword bytes is
IsWhole-token Literal bytes is = IsWhole-literal bytes is
IsWhole-token Symbol bytes is = IsWhole-symbol bytes is
IsWhole-token Comment bytes is = IsWhole-comment bytes is

of_kind : (r : List ℕ) (kind same : TokenKind) → kind ≡ same → IsToken same r → IsToken kind r
of_kind r kind same e is = let P : TokenKind → Type 0 = λ k. IsToken k r in subst P (sym e) is

IsToken-quoted : (r : List ℕ) (kind : TokenKind) → ((nat_eq (first r) 34 ≡ true) ⊎ (nat_eq (first r) 39 ≡ true)) → quoted (first r) r ≡ Taken kind (length r) → IsToken kind r
IsToken-quoted r kind (inl is) t =
    let same : first r ≡ 34 = eqb-true (first r) 34 is in
    let got = IsString-quoted r kind same (ap (λ (q : ℕ). quoted q r) (sym same) ∙ t) in
    of_kind r kind Literal got.0 (string got.1)
IsToken-quoted r kind (inr is) t =
    let same : first r ≡ 39 = eqb-true (first r) 39 is in
    let got = IsCharacter-quoted r kind same (ap (λ (q : ℕ). quoted q r) (sym same) ∙ t) in
    of_kind r kind Literal got.0 (character got.1)

pub IsToken-whole : (kind : TokenKind) (r : List ℕ) → IsWhole kind r → IsToken kind r
unfolding front
IsToken-whole kind r =
    let a = first r in let b = second r in
    let Wanted : Front → Type 0 = λ f. f ≡ Taken kind (length r) → IsToken kind r in
    cond_both (is_space a) Space _ Wanted (λ _ t. absurd cc)
    (λ _. cond_both (nat_eq a 47 && nat_eq b 47) (line_comment r) _ Wanted
    (λ is t. let both = and_parts (nat_eq a 47) (nat_eq b 47) is in let got = IsComment-line r kind (eqb-true a 47 both.0) (eqb-true b 47 both.1) t in of_kind r kind Comment got.0 got.1)
    (λ _. cond_both (nat_eq a 47 && nat_eq b 42) (block_comment r) _ Wanted
    (λ is t. let both = and_parts (nat_eq a 47) (nat_eq b 42) is in let got = IsComment-block r kind (eqb-true a 47 both.0) (eqb-true b 42 both.1) t in of_kind r kind Comment got.0 got.1)
    (λ _. cond_both (nat_eq a 34 && nat_eq b 34 && nat_eq (third r) 34) (Wrong TextBlock 0) _ Wanted (λ _ t. absurd cc)
    (λ _. cond_both (nat_eq a 34 || nat_eq a 39) (quoted a r) _ Wanted (λ is t. IsToken-quoted r kind (or_cases (nat_eq a 34) (nat_eq a 39) is) t)
    (λ _. cond_both (is_digit a) (number r) _ Wanted (λ _ t. let got = IsNumber-number r kind t in of_kind r kind Literal got.0 (number_literal got.1))
    (λ _. cond_both (nat_eq a 46 && is_digit b) (Wrong FloatLiteral 0) _ Wanted (λ _ t. absurd cc)
    (λ _. cond_both (starts_name r) (name r) (symbol r) Wanted (λ starts t. IsToken-name r kind starts t)
    (λ _ t. let got = Contains-symbol r kind t in of_kind r kind Symbol got.0 got.1))))))))

-- so bytes are a token of one kind at most
pub IsToken-unique : (one two : TokenKind) (bytes : List ℕ) → IsToken one bytes → IsToken two bytes → one ≡ two
IsToken-unique one two bytes is also = let first-is = IsWhole-token one bytes is in let second-is = IsWhole-token two bytes also in cc
