-- Identifiers, and the words that are none (JLS 3.8, 3.9, 3.10.3, 3.10.7).
use Rattle.std.specs.Prelude.{◌≡◌, ◌≢◌, ℕ, ◌≤◌, List, ◌∷◌, length, All, Contains, IsTrue, codes}
use Rattle.std.specs.Str.{IsUtf8, chars}
use Rattle.mol_base.specs.Lexical.Names.{is_start, is_part, keywords, word_literals}

-- characters of which the first may begin an identifier and the others may go on with one
pub record IsName (bytes : List ℕ) : Type 0 where
  pub utf8 : IsUtf8 bytes
  pub first : ℕ
  pub others : List ℕ
  pub characters : chars bytes ≡ first ∷ others
  pub starts : IsTrue (is_start first)
  pub goes_on : All (λ character. IsTrue (is_part character)) others

-- such characters in at most 255 bytes, and not `_` alone
pub record IsIdentifier (bytes : List ℕ) : Type 0 where
  pub name : IsName bytes
  pub short : length bytes ≤ 255
  pub no_underscore : bytes ≢ codes "_"

-- an identifier that is no keyword and no literal
pub record IsWord (bytes : List ℕ) : Type 0 where
  pub identifier : IsIdentifier bytes
  pub no_keyword : ¬ (Contains keywords bytes)
  pub no_literal : ¬ (Contains word_literals bytes)
