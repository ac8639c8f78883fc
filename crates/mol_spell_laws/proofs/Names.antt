-- Names, and names with dots between them, as texts.
use Rattle.std.proofs.Common.{◌≡◌, Bool, true, false, cond, ◌==◌, List, [], ◌∷◌, ◌++◌, Option, None, Some, ℕ, zero, suc, ◌<◌, refl, sym, ap, ◌∙◌, arith, true≢false}
use Rattle.std.specs.Prelude.{◌||◌, IsTrue, slice_index}
use Rattle.std.specs.List.{list_all, slice_split, onto_first}
use Rattle.std.proofs.lemmas.Bool.{and_from, and_parts, or_right}
use Rattle.std.proofs.lemmas.List.Elements.{All-nil, All-cons}
use Rattle.std.proofs.lemmas.List.Folds.{list_all-append}
use Rattle.std.proofs.lemmas.Str.{IsUtf8-from_ascii, chars-IsAscii}
use Rattle.std.proofs.lemmas.Str.Ascii.{IsAscii-from_all}
use Rattle.mol_base.proofs.Members.{is_among, is_among-Contains}
use Rattle.mol_base.proofs.OneToken.{token_kind-IsOneToken}
use Rattle.mol_base.specs.Lexical.Forms.Name.{IsName, IsIdentifier, IsWord}
use Rattle.mol_base.specs.Lexical.Front.{token_kind}
use Rattle.mol_base.specs.Lexical.Names.{is_start, is_part, keywords, word_literals}
use Rattle.mol_base.specs.Lexical.Tokens.{IsOneToken}
use Rattle.mol_base.specs.Token.{Token}
use Rattle.mol_base.specs.declared.token_kind.TokenKind.{TokenKind}
use Rattle.mol_base.specs.declared.token_kind.TokenKind.TheVariants as kind
use Rattle.jav_print_laws.proofs.printable_lemmas.Names.{dotted_is}
use Rattle.jav_tree.specs.TokenTexts.{is_word_kind, is_name, is_dotted_name}
use Rattle.jav_tree.specs.Types as types
use Rattle.jav_names.proofs.CutNames.{names_cut}
use Rattle.jav_names.specs.DottedNames.{Name, Names, dot, Dotted, cut, last_of, simple_name}
use Rattle.jav_names.specs.TypeTexts.{imported_text}
use Rattle.mol_spell_rules.specs.SpelledExpressions.{no_name}
use Rattle.mol_spell_rules.specs.Writers.{text_of}
use Rattle.mol_values_types.specs.TokenForms.{is_empty}

-- ---- one name

-- a name is a text of names, of one
pub name-dotted : (name : Name) → is_name name ≡ true → is_dotted_name name ≡ true
name-dotted name is = by (token_kind name) refl is where
  by : (kind : Option TokenKind) → token_kind name ≡ kind → is_word_kind kind ≡ true → is_dotted_name name ≡ true
  by None same word = absurd cc
  by (Some kind.Keyword) same word = absurd cc
  by (Some kind.Literal) same word = absurd cc
  by (Some kind.Symbol) same word = absurd cc
  by (Some kind.Comment) same word = absurd cc
  by (Some kind.Word) same word =
      let token : Token = record { kind = kind.Word; text = name; start = 0; end = 0 } in
      dotted_is (types.name {t = token} (record { word = refl })) (same, tt)

-- ---- what is printed where there is no name

dollar : IsName (36 ∷ [])
unfolding is_start
dollar = let ascii = IsAscii-from_all (36 ∷ []) (All-cons (λ b. b < 128) 36 [] (omega arith) (All-nil (λ b. b < 128))) in record {
  utf8 = IsUtf8-from_ascii (36 ∷ []) ascii;
  first = 36;
  others = [];
  characters = chars-IsAscii (36 ∷ []) ascii;
  starts = or_right _ true refl;
  goes_on = All-nil (λ c. IsTrue (is_part c));
}

among-keywords : is_among keywords (36 ∷ []) ≡ false
unfolding keywords
among-keywords = refl

among-literals : is_among word_literals (36 ∷ []) ≡ false
unfolding word_literals
among-literals = refl

-- no byte is a backslash
no-escape : (bytes : List ℕ) → list_all (λ b. b == 36) bytes ≡ true → (place : ℕ) → slice_index bytes place ≡ 92 → ⊥
no-escape [] all place same = absurd cc
no-escape (b ∷ bytes) all zero same =
    true≢false (sym (and_parts (b == 36) (list_all (λ b. b == 36) bytes) all).0 ∙ ap (λ (c : ℕ). c == 36) same)
no-escape (b ∷ bytes) all (suc place) same =
    no-escape bytes (and_parts (b == 36) (list_all (λ b. b == 36) bytes) all).1 place same

dollar-identifier : IsIdentifier (36 ∷ [])
dollar-identifier = record {
  name = dollar;
  short = omega arith;
  no_underscore = λ same. true≢false (ap (λ (text : Name). slice_index text 0 == 36) same);
}

dollar-word : IsWord (36 ∷ [])
dollar-word = record {
  identifier = dollar-identifier;
  no_keyword = λ is. true≢false (sym (is_among-Contains keywords (36 ∷ []) is) ∙ among-keywords);
  no_literal = λ is. true≢false (sym (is_among-Contains word_literals (36 ∷ []) is) ∙ among-literals);
}

dollar-token : IsOneToken kind.Word (36 ∷ [])
dollar-token = record { utf8 = dollar.utf8; escapes = λ place escape. no-escape (36 ∷ []) refl place escape.backslash; token = dollar-word }

pub no-name-is : is_name no_name ≡ true
no-name-is = ap is_word_kind (token_kind-IsOneToken kind.Word (36 ∷ []) dollar-token)

-- ---- names with dots

abbrev pub names_of : Dotted → Names
names_of text = text.first ∷ text.rest

abbrev pub are_names : Names → Bool
are_names names = list_all is_name names

-- a text is split into the names that it is cut into
split-cut : (text : Name) → slice_split (λ byte. byte == 46) text ≡ names_of (cut text)
split-cut [] = refl
split-cut (byte ∷ text) = by (byte == 46) (cut text) (split-cut text) where
  by : (b : Bool) (c : Dotted) → slice_split (λ byte. byte == 46) text ≡ names_of c
      → cond b ([] ∷ slice_split (λ byte. byte == 46) text) (onto_first byte (slice_split (λ byte. byte == 46) text))
      ≡ names_of (cond {A = Dotted} b (record { first = []; rest = c.first ∷ c.rest }) (record { first = byte ∷ c.first; rest = c.rest }))
  by true c is = ap (λ (l : Names). [] ∷ l) is
  by false c is = ap (onto_first byte) is

pub dotted-cut : (text : Name) → is_dotted_name text ≡ are_names (names_of (cut text))
dotted-cut text = ap are_names (split-cut text)

-- what is behind a dot is cut by itself
cut-behind : (text more : Name) → names_of (cut (text ++ dot ∷ more)) ≡ names_of (cut text) ++ names_of (cut more)
cut-behind [] more = refl
cut-behind (byte ∷ text) more = by (byte == dot) (cut (text ++ dot ∷ more)) (cut text) (cut-behind text more) where
  by : (b : Bool) (c d : Dotted) → names_of c ≡ names_of d ++ names_of (cut more)
      → names_of (cond {A = Dotted} b (record { first = []; rest = c.first ∷ c.rest }) (record { first = byte ∷ c.first; rest = c.rest }))
      ≡ names_of (cond {A = Dotted} b (record { first = []; rest = d.first ∷ d.rest }) (record { first = byte ∷ d.first; rest = d.rest }))
      ++ names_of (cut more)
  by true c d is = ap (λ (l : Names). [] ∷ l) is
  by false c d is = ap (onto_first byte) is

pub dotted-behind : (text more : Name) → is_dotted_name text ≡ true → is_dotted_name more ≡ true
    → is_dotted_name (text ++ dot ∷ more) ≡ true
dotted-behind text more front behind =
    dotted-cut (text ++ dot ∷ more) ∙ ap are_names (cut-behind text more) ∙ list_all-append is_name (names_of (cut text))
    (names_of (cut more))
    ∙ and_from _ _ (sym (dotted-cut text) ∙ front) (sym (dotted-cut more) ∙ behind)

-- an imported name, and what follows it
pub dotted-imported : (import rest : Name) → is_dotted_name import ≡ true → (is_empty rest || is_dotted_name rest) ≡ true
    → is_dotted_name (imported_text import rest) ≡ true
dotted-imported import [] front may = front
dotted-imported import (byte ∷ rest) front may = dotted-behind import (byte ∷ rest) front may

last-name : (first : Name) (rest : Names) → are_names (first ∷ rest) ≡ true → is_name (last_of first rest) ≡ true
last-name first [] are = (and_parts (is_name first) true are).0
last-name first (next ∷ rest) are = last-name next rest (and_parts (is_name first) (are_names (next ∷ rest)) are).1

pub simple-name-is : (text : Name) → is_dotted_name text ≡ true → is_name (simple_name text) ≡ true
simple-name-is text dotted = last-name (cut text).first (cut text).rest (sym (dotted-cut text) ∙ dotted)

-- ---- names that are printed

-- names, and names with dots as one text
pub record AreNames (names : Dotted) : Type 0 where
  pub each : are_names (names_of names) ≡ true
  pub joined : is_dotted_name (text_of names) ≡ true

pub one-name : (name : Name) → is_name name ≡ true → AreNames (record { first = name; rest = [] })
one-name name is = record { each = and_from (is_name name) true is refl; joined = name-dotted name is }

pub cut-names : (text : Name) → is_dotted_name text ≡ true → AreNames (cut text)
cut-names text dotted = record { each = sym (dotted-cut text) ∙ dotted; joined = ap is_dotted_name (names_cut.whole text) ∙ dotted }
