-- Parsers as functions: each reads from the front and stops at the first bad token.
use Rattle.std.specs.Prelude.{ℕ, zero, suc, ◌+◌, ◌-◌, Bool, if◌then◌else◌, List, [], ◌∷◌, ◌++◌, ◌&&◌, false, codes, Result, Ok, Err}
use Rattle.std.specs.Str.{bytes_eq}
use Rattle.mol_base.specs.Token.{Token}
use Rattle.jav_tree.specs.Tokens.{start_of}
use Rattle.jav_parse_cursor.specs.declared.sort.Sort.{Sort}
use Rattle.jav_parse_cursor.specs.declared.sort.Sort.TheVariants.{End, Comment, Name}
use Rattle.jav_parse_cursor.specs.Sorts.{sort_of, same_sort}

-- what was read with the tokens after it, or the tokens from the bad one on
abbrev pub Outcome : Type 0 → Type 0
Outcome A = Result (A × List Token) (List Token)

abbrev pub Parser : Type 0 → Type 0
Parser A = List Token → Outcome A

abbrev pub and_then : {A B : Type 0} → Outcome A → (A → Parser B) → Outcome B
and_then (Ok p) f = f p.0 p.1
and_then (Err bad) f = Err bad

infixl 10 ◌>>=◌
abbrev pub ◌>>=◌ : {A B : Type 0} → Parser A → (A → Parser B) → Parser B
p >>= f = λ ts. and_then (p ts) f

infixl 10 ◌>>◌
abbrev pub ◌>>◌ : {A B : Type 0} → Parser A → Parser B → Parser B
p >> q = p >>= (λ _. q)

abbrev pub pure : {A : Type 0} → A → Parser A
pure a = λ ts. Ok (a, ts)

abbrev pub refuse : {A : Type 0} → Parser A
refuse = λ ts. Err ts

-- the sort of the next token
unfoldable pub sort : List Token → Sort
sort [] = End
sort (t ∷ ts) = sort_of t

abbrev pub peek : Parser Sort
peek = λ ts. Ok (sort ts, ts)

-- where the next token starts
abbrev pub place : Parser ℕ
place = λ ts. Ok (start_of ts, ts)

unfoldable pub take_token : Parser Token
take_token [] = Err []
take_token (t ∷ ts) = Ok (t, ts)

-- the next token, which must be of this sort
unfoldable pub expect : Sort → Parser Token
expect s = do
  u ← peek
  if same_sort u s then take_token else refuse

-- p where the next token is of this sort, else q
abbrev pub when_next : {A : Type 0} → Sort → Parser A → Parser A → Parser A
when_next s p q = peek >>= (λ u. if same_sort u s then p else q)

-- the comments that stand here, after those that are given
unfoldable pub comments : ℕ → List (List ℕ) → Parser (List (List ℕ))
comments zero notes = refuse
comments (suc n) notes = do
  s ← peek
  if same_sort s Comment then (do
    t ← take_token
    comments n (notes ++ t.text ∷ [])) else pure notes

-- whether a token is the name `Override`
abbrev pub is_override : Token → Bool
is_override t = same_sort (sort_of t) Name && bytes_eq t.text (codes "Override")

-- whether the next token is
abbrev pub begins_override : List Token → Bool
begins_override [] = false
begins_override (t ∷ ts) = is_override t

-- the name `Override`
unfoldable pub expect_override : Parser Token
expect_override [] = Err []
expect_override (t ∷ ts) = if is_override t then Ok (t, ts) else Err (t ∷ ts)
