-- Reading one token of a sort, and what the grammar says of it.
use Rattle.std.proofs.Common.{◌≡◌, ◌∷◌, codes, refl}
use Prim.Native.String.{String}
use Rattle.mol_base.specs.Token.{Token}
use Rattle.mol_base.specs.declared.token_kind.TokenKind.TheVariants as kind
use Rattle.jav_tree.specs.Tokens.{IsSymbol, IsKeyword, IsName}
use Rattle.jav_parse_cursor.specs.declared.sort.Sort.{Sort}
use Rattle.jav_parse_cursor.specs.declared.sort.Sort.TheVariants as sort
use Rattle.jav_parse_cursor.specs.Sorts.{sort_of}
use Rattle.jav_parse_cursor.specs.Reading.{Parser, ◌>>=◌, expect}
use Rattle.jav_parse.proofs.Meets.{Spelling, ReadsAt, Reads, reads_expect}
use Rattle.jav_parse.proofs.TokenSorts as token

-- tokens that complete what was read
pub a_word : Token
a_word = record { kind = kind.Word; text = codes "a"; start = 0; end = 0 }

pub a_word_is : sort_of a_word ≡ sort.Name
unfolding a_word sort_of
a_word_is = refl

pub word_is_name : IsName a_word
word_is_name = token.name_is a_word a_word_is

pub symbol : String → Token
symbol text = record { kind = kind.Symbol; text = codes text; start = 0; end = 0 }

pub keyword : String → Token
keyword text = record { kind = kind.Keyword; text = codes text; start = 0; end = 0 }

open_sort : sort_of (symbol "(") ≡ sort.Open
unfolding symbol sort_of
open_sort = refl

close_sort : sort_of (symbol ")") ≡ sort.Close
unfolding symbol sort_of
close_sort = refl

begin_sort : sort_of (symbol "{") ≡ sort.Begin
unfolding symbol sort_of
begin_sort = refl

semi_sort : sort_of (symbol ";") ≡ sort.Semi
unfolding symbol sort_of
semi_sort = refl

colon_sort : sort_of (symbol ":") ≡ sort.Colon
unfolding symbol sort_of
colon_sort = refl

class_sort : sort_of (keyword "class") ≡ sort.Class
unfolding keyword sort_of
class_sort = refl

package_sort : sort_of (keyword "package") ≡ sort.Package
unfolding keyword sort_of
package_sort = refl

pub if_sort : sort_of (keyword "if") ≡ sort.If
unfolding keyword sort_of
if_sort = refl

pub a_symbol : (text : String) → IsSymbol text (symbol text)
unfolding symbol
a_symbol text = record { symbol = refl; written = refl }

pub a_keyword : (text : String) → IsKeyword text (keyword text)
unfolding keyword
a_keyword text = record { keyword = refl; written = refl }

module _ {B : Type 0} {S : Spelling B} {P : Sort → Type 0} {f : Token → Parser B} where
  pub expect_name : ((t : Token) → IsName t → Reads (λ y vs. S y (t ∷ vs)) (f t)) → ReadsAt S P (expect sort.Name >>= f)
  expect_name k = reads_expect (record { token = a_word; is = a_word_is; not_end = λ z. cc }) (λ t h. k t (token.name_is t h))

  pub expect_open : ((t : Token) → IsSymbol "(" t → Reads (λ y vs. S y (t ∷ vs)) (f t)) → ReadsAt S P (expect sort.Open >>= f)
  expect_open k = reads_expect (record { token = (symbol "("); is = open_sort; not_end = λ z. cc }) (λ t h. k t (token.open_is t h))

  pub expect_close : ((t : Token) → IsSymbol ")" t → Reads (λ y vs. S y (t ∷ vs)) (f t)) → ReadsAt S P (expect sort.Close >>= f)
  expect_close k = reads_expect (record { token = (symbol ")"); is = close_sort; not_end = λ z. cc }) (λ t h. k t (token.close_is t h))

  pub expect_begin : ((t : Token) → IsSymbol "{" t → Reads (λ y vs. S y (t ∷ vs)) (f t)) → ReadsAt S P (expect sort.Begin >>= f)
  expect_begin k = reads_expect (record { token = (symbol "{"); is = begin_sort; not_end = λ z. cc }) (λ t h. k t (token.begin_is t h))

  pub expect_semi : ((t : Token) → IsSymbol ";" t → Reads (λ y vs. S y (t ∷ vs)) (f t)) → ReadsAt S P (expect sort.Semi >>= f)
  expect_semi k = reads_expect (record { token = (symbol ";"); is = semi_sort; not_end = λ z. cc }) (λ t h. k t (token.semi_is t h))

  pub expect_colon : ((t : Token) → IsSymbol ":" t → Reads (λ y vs. S y (t ∷ vs)) (f t)) → ReadsAt S P (expect sort.Colon >>= f)
  expect_colon k = reads_expect (record { token = (symbol ":"); is = colon_sort; not_end = λ z. cc }) (λ t h. k t (token.colon_is t h))

  pub expect_class : ((t : Token) → IsKeyword "class" t → Reads (λ y vs. S y (t ∷ vs)) (f t)) → ReadsAt S P (expect sort.Class >>= f)
  expect_class k = reads_expect (record { token = (keyword "class"); is = class_sort; not_end = λ z. cc }) (λ t h. k t (token.class_is t h))

  pub expect_package : ((t : Token) → IsKeyword "package" t → Reads (λ y vs. S y (t ∷ vs)) (f t)) → ReadsAt S P (expect sort.Package >>= f)
  expect_package k = reads_expect (record { token = (keyword "package"); is = package_sort; not_end = λ z. cc }) (λ t h. k t (token.package_is t h))
