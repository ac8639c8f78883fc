-- A letter and then letters and digits, all ASCII, are a name where they are no reserved word.
use Rattle.std.proofs.Common.{◌≡◌, ℕ, zero, suc, ◌<◌, ◌≤◌, ◌==◌, Bool, true, false, ◌||◌, ◌&&◌, List, [], ◌∷◌, length, refl, sym, ap, ◌∙◌, arith, true≢false}
use Rattle.std.specs.Prelude.{All, IsTrue, slice_index}
use Rattle.std.specs.Char.{is_ascii_alphabetic, is_ascii_alphanumeric}
use Rattle.std.specs.List.{list_all}
use Rattle.std.proofs.lemmas.Bool.{and_parts, or_left}
use Rattle.std.proofs.lemmas.Bool.Decides.{nat_tests}
use Rattle.std.proofs.lemmas.List.Elements.{All-nil, All-cons}
use Rattle.std.proofs.lemmas.List.Folds.{list_any-append}
use Rattle.std.proofs.lemmas.Str.{IsUtf8-from_ascii, chars-IsAscii}
use Rattle.std.proofs.lemmas.Str.Ascii.{IsAscii-from_all}
use Rattle.std.specs.Str.{bytes_eq}
use Rattle.mol_base.proofs.Members.{is_among, is_among-Contains}
use Rattle.mol_base.proofs.OneToken.{token_kind-IsOneToken}
use Rattle.mol_base.specs.Lexical.Forms.Name.{IsName, IsIdentifier, IsWord}
use Rattle.mol_base.specs.Lexical.Names.{is_start, is_part, keywords, word_literals}
use Rattle.mol_base.specs.Lexical.Tokens.{IsOneToken}
use Rattle.mol_base.specs.ReservedWords.{is_reserved}
use Rattle.mol_base.specs.declared.token_kind.TokenKind.TheVariants.{Word}
use Rattle.mol_values_types.specs.TokenForms.{is_word_kind, is_name}
use Rattle.unicode_ident.specs.Ident.{is_xid_start}
use Rattle.unicode_ident.proofs.IdentLemmas.{is_xid_start-ascii, is_xid_continue-ascii}

below : (b : ℕ) → is_ascii_alphanumeric b ≡ true → b < 128
below b is = grind (arith, nat_tests, is)

no-backslash : (b : ℕ) → is_ascii_alphanumeric b ≡ true → b ≡ 92 → ⊥
no-backslash b is e = true≢false (sym is ∙ ap is_ascii_alphanumeric e)

letter-number : (b : ℕ) → is_ascii_alphabetic b ≡ true → is_ascii_alphanumeric b ≡ true
letter-number b is = grind (arith, nat_tests, is)

starts : (b : ℕ) → is_ascii_alphabetic b ≡ true → is_start b ≡ true
unfolding is_start
starts b is = or_left (is_xid_start b || (b == 95)) _ (or_left (is_xid_start b) _ (is_xid_start-ascii b (below b (letter-number b is)) ∙ is))

goes-on : (b : ℕ) → is_ascii_alphanumeric b ≡ true → is_part b ≡ true
unfolding is_part
goes-on b is = or-right (is_start b) _ (is_xid_continue-ascii b (below b is) ∙ or_left (is_ascii_alphanumeric b) _ is) where
  or-right : (a b : Bool) → b ≡ true → (a || b) ≡ true
  or-right true b e = refl
  or-right false b e = e

all-below : (bs : List ℕ) → list_all is_ascii_alphanumeric bs ≡ true → All (λ b. b < 128) bs
all-below [] all = All-nil (λ b. b < 128)
all-below (b ∷ bs) all =
    let both = and_parts (is_ascii_alphanumeric b) (list_all is_ascii_alphanumeric bs) all in
    All-cons (λ b. b < 128) b bs (below b both.0) (all-below bs both.1)

all-parts : (bs : List ℕ) → list_all is_ascii_alphanumeric bs ≡ true → All (λ c. IsTrue (is_part c)) bs
all-parts [] all = All-nil (λ c. IsTrue (is_part c))
all-parts (b ∷ bs) all =
    let both = and_parts (is_ascii_alphanumeric b) (list_all is_ascii_alphanumeric bs) all in
    All-cons (λ c. IsTrue (is_part c)) b bs (goes-on b both.0) (all-parts bs both.1)

no-escape-at : (bs : List ℕ) → list_all is_ascii_alphanumeric bs ≡ true → (place : ℕ) → slice_index bs place ≡ 92 → ⊥
no-escape-at [] all place e = absurd cc
no-escape-at (b ∷ bs) all zero e = no-backslash b (and_parts (is_ascii_alphanumeric b) (list_all is_ascii_alphanumeric bs) all).0 e
no-escape-at (b ∷ bs) all (suc place) e = no-escape-at bs (and_parts (is_ascii_alphanumeric b) (list_all is_ascii_alphanumeric bs) all).1 place e

module _ (b : ℕ) (bs : List ℕ) (letter : is_ascii_alphabetic b ≡ true) (others : list_all is_ascii_alphanumeric bs ≡ true) where
  all : list_all is_ascii_alphanumeric (b ∷ bs) ≡ true
  all = ap (λ t. t && list_all is_ascii_alphanumeric bs) (letter-number b letter) ∙ others

  name : IsName (b ∷ bs)
  name =
      let ascii = IsAscii-from_all (b ∷ bs) (all-below (b ∷ bs) all) in record {
        utf8 = IsUtf8-from_ascii (b ∷ bs) ascii;
        first = b;
        others = bs;
        characters = chars-IsAscii (b ∷ bs) ascii;
        starts = starts b letter;
        goes_on = all-parts bs others;
      }

  identifier : length (b ∷ bs) ≤ 255 → IsIdentifier (b ∷ bs)
  identifier short = record {
    name = name;
    short = short;
    no_underscore = λ e. true≢false (sym letter ∙ ap (λ text. is_ascii_alphabetic (slice_index text 0)) e);
  }

  word : length (b ∷ bs) ≤ 255 → is_reserved (b ∷ bs) ≡ false → IsWord (b ∷ bs)
  word short free =
      let parts = neither (is_among keywords (b ∷ bs)) (is_among word_literals (b ∷ bs)) (sym (list_any-append (λ word. bytes_eq word (b ∷ bs)) keywords word_literals) ∙ free) in record {
        identifier = identifier short;
        no_keyword = λ is. true≢false (sym (is_among-Contains keywords (b ∷ bs) is) ∙ parts.0);
        no_literal = λ is. true≢false (sym (is_among-Contains word_literals (b ∷ bs) is) ∙ parts.1);
      }
    where
      neither : (x y : Bool) → (x || y) ≡ false → (x ≡ false) × (y ≡ false)
      neither true y e = absurd (true≢false e)
      neither false y e = (refl, e)

  pub ascii-name : length (b ∷ bs) ≤ 255 → is_reserved (b ∷ bs) ≡ false → is_name (b ∷ bs) ≡ true
  ascii-name short free =
      let token : IsOneToken Word (b ∷ bs) = record { utf8 = name.utf8; escapes = λ place escape. no-escape-at (b ∷ bs) all place escape.backslash; token = word short free } in
      ap is_word_kind (token_kind-IsOneToken Word (b ∷ bs) token)
