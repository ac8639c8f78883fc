-- Names, and names with dots, as phrases.
use Rattle.std.proofs.Common.{◌≡◌, ℕ, ◌+◌, length, arith, true, List, [], ◌∷◌, ◌++◌, codes, Option, Some, None, refl, sym, ap, ◌∙◌, subst, append_assoc, append-nil, nat_eq}
use Rattle.std.specs.List.{list_all, slice_split, join_with_byte}
use Rattle.std.proofs.lemmas.Bool.{and_parts}
use Rattle.std.proofs.lemmas.List.Splits.{join_with_byte-slice_split, length-slice_split}
use Rattle.mol_base.specs.Token.{Token}
use Rattle.mol_base.specs.Lexical.Characters.{first}
use Rattle.mol_base.specs.Lexical.Front.{token_kind}
use Rattle.mol_base.specs.declared.token_kind.TokenKind.{TokenKind}
use Rattle.mol_base.specs.declared.token_kind.TokenKind.TheVariants as kind
use Rattle.jav_tree.specs.Tokens.{IsSymbol}
use Rattle.jav_tree.specs.TokenTexts.{is_word_kind, is_literal_kind, is_comment_kind, is_name, is_dotted_name}
use Rattle.jav_tree.specs.Types.{Qualified}
use Rattle.jav_tree.specs.Types as types
use Rattle.jav_print_laws.proofs.layout_lemmas.Bytes.{dot_breaks}
use Rattle.jav_print_laws.proofs.layout_lemmas.Keywords.{word_may}
use Rattle.jav_print_laws.proofs.layout_lemmas.Phrases.{Phrase, Breaks, Alone, alone, Then, both, OneOf, one_of, token, narrow, makes, then}
use Rattle.jav_print_laws.proofs.layout_lemmas.Signs.{dot, dot_may}

pub word_kind_is : (o : Option TokenKind) → is_word_kind o ≡ true → o ≡ Some kind.Word
word_kind_is None h = absurd cc
word_kind_is (Some kind.Word) h = refl
word_kind_is (Some kind.Keyword) h = absurd cc
word_kind_is (Some kind.Literal) h = absurd cc
word_kind_is (Some kind.Symbol) h = absurd cc
word_kind_is (Some kind.Comment) h = absurd cc

pub literal_kind_is : (o : Option TokenKind) → is_literal_kind o ≡ true → o ≡ Some kind.Literal
literal_kind_is None h = absurd cc
literal_kind_is (Some kind.Literal) h = refl
literal_kind_is (Some kind.Keyword) h = absurd cc
literal_kind_is (Some kind.Word) h = absurd cc
literal_kind_is (Some kind.Symbol) h = absurd cc
literal_kind_is (Some kind.Comment) h = absurd cc

pub comment_kind_is : (o : Option TokenKind) → is_comment_kind o ≡ true → o ≡ Some kind.Comment
comment_kind_is None h = absurd cc
comment_kind_is (Some kind.Comment) h = refl
comment_kind_is (Some kind.Keyword) h = absurd cc
comment_kind_is (Some kind.Word) h = absurd cc
comment_kind_is (Some kind.Symbol) h = absurd cc
comment_kind_is (Some kind.Literal) h = absurd cc

abbrev pub name : (text : List ℕ) → is_name text ≡ true → Phrase (OneOf kind.Word text) Breaks text
name text known = narrow (token kind.Word text (word_kind_is (token_kind text) known)) (λ b ok. word_may text b ok)

-- a dot and a name
abbrev pub dot_name : (text : List ℕ) → is_name text ≡ true → Phrase (Then (Alone (IsSymbol ".")) (OneOf kind.Word text)) Breaks (codes "." ++ text)
dot_name text known = then dot (name text known) (λ n ok. dot_may (first text) text (word_kind_is (token_kind text) known) refl)

longer : (q text : List ℕ) (ts : List Token) → Then (Qualified q) (Then (Alone (IsSymbol ".")) (OneOf kind.Word text)) ts → Qualified (q ++ codes "." ++ text) ts
longer q _ _ (both ts _ x (both _ _ (alone d is) (one_of t word))) = types.dotted x is (record { word = word })

one_name : (text : List ℕ) (ts : List Token) → OneOf kind.Word text ts → Qualified text ts
one_name _ _ (one_of t word) = types.name (record { word = word })

-- the further parts of a name, each behind a dot
abbrev joined : List (List ℕ) → List ℕ
joined [] = []
joined (p ∷ rest) = 46 ∷ (p ++ joined rest)

grown : (q : List ℕ) (rest : List (List ℕ)) → Phrase (Qualified q) Breaks q → list_all is_name rest ≡ true → Phrase (Qualified (q ++ joined rest)) Breaks (q ++ joined rest)
grown q [] p all = rw (append-nil q) p
grown q (n ∷ rest) p all =
    let both_parts = and_parts (is_name n) (list_all is_name rest) all in
    let further = makes (then p (dot_name n both_parts.0) (λ b ok. dot_breaks)) (sym (append_assoc q (codes ".") n)) (longer q n) in
    let e : q ++ codes "." ++ n ++ joined rest ≡ q ++ (46 ∷ (n ++ joined rest)) = simp append_assoc refl in
    rw e at (grown (q ++ codes "." ++ n) rest further both_parts.1)

joined_is : (p : List ℕ) (rest : List (List ℕ)) → join_with_byte 46 (p ∷ rest) ≡ p ++ joined rest
joined_is p [] = sym (append-nil p)
joined_is p (n ∷ rest) = ap (λ bs. p ++ (46 ∷ bs)) (joined_is n rest)

pub qualified : (q : List ℕ) → is_dotted_name q ≡ true → Phrase (Qualified q) Breaks q
qualified q known = by (slice_split (λ c. nat_eq c 46) q) _ (join_with_byte-slice_split 46 q) (length-slice_split (λ c. nat_eq c 46) q) known where
  by : (parts : List (List ℕ)) (n : ℕ) → join_with_byte 46 parts ≡ q → length parts ≡ n + 1 → list_all is_name parts ≡ true → Phrase (Qualified q) Breaks q
  by [] n is some all = absurd (omega arith)
  by (p ∷ rest) n is some all =
      let both_parts = and_parts (is_name p) (list_all is_name rest) all in
      let P : List ℕ → Type 0 = λ text. Phrase (Qualified text) Breaks text in
      subst P (sym (joined_is p rest) ∙ is) (grown p rest (makes (name p both_parts.0) refl (one_name p)) both_parts.1)
