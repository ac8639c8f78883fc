-- How arguments, items in braces and the sizes of arrays are read.
use Rattle.std.proofs.Common.{◌≡◌, ℕ, zero, suc, ◌+◌, ◌-◌, ◌<◌, ◌≤◌, max, true, List, ◌∷◌, ◌++◌, Ok, Err, refl, sym, ap, ◌∙◌, arith}
use Rattle.mol_base.specs.Token.{Token}
use Rattle.jav_tree.specs.declared.types.TypeName.{TypeName}
use Rattle.jav_tree.specs.declared.expr.Expr.{Expr}
use Rattle.jav_tree.specs.Types.{Brackets, none, pair, array_of}
use Rattle.jav_parse_cursor.specs.declared.limits.Limits.{Limits}
use Rattle.jav_parse_expr.specs.declared.primary.Goal.TheVariants.{Level, Init}
use Rattle.jav_parse_expr.specs.declared.primary.Rooms.{Rooms}
use Rattle.jav_parse_cursor.specs.declared.sort.Sort.TheVariants as sort
use Rattle.jav_parse_cursor.specs.declared.tall.Tall.{Tall}
use Rattle.jav_parse_cursor.specs.declared.tall.Listed.{Listed}
use Rattle.jav_parse_expr.specs.ExprRules.{expr, inside}
use Rattle.jav_parse_cursor.specs.Nodes as made
use Rattle.jav_parse_expr.specs.PrimaryRules.{further_arguments, some_arguments, arguments_after, arguments, further_items, some_items, items_after, items, filled, empty_pairs, further_sizes, sized, array}
use Rattle.jav_parse_cursor.specs.Reading.{Outcome, Parser, and_then, ◌>>=◌, ◌>>◌, pure, sort as next, take_token, expect}
use Rattle.jav_parse_cursor.specs.Sorts.{same_sort, sort_of}
use Rattle.jav_parse_cursor.specs.TypeRules.{brackets}
use Rattle.jav_parse.proofs.CompleteTypes.{brackets_read, array_built}
use Rattle.jav_parse.proofs.ReadingSteps.{IsNot, is_not, expect_goes, same_self, le_false, eq_false}
use Rattle.jav_parse.proofs.SortsOfTokens.{left_sort, right_sort}

pub listed_same : {a b : List Expr} {h k : ℕ} → a ≡ b → h ≡ k → ◌≡◌ {A = Listed} (record { exprs = a; height = h }) (record { exprs = b; height = k })
listed_same p q = λ i. record { exprs = p i; height = q i }

-- the second step of three joined to the first
pub and_assoc : {A B C : Type 0} (o : Outcome A) (f : A → Parser B) (g : B → Parser C) → and_then o (λ x. f x >>= g) ≡ and_then (and_then o f) g
and_assoc (Ok p) f g = refl
and_assoc (Err bad) f g = refl

-- these expressions after those
abbrev pub joined : Listed → List Expr → ℕ → Listed
joined all es h = record { exprs = all.exprs ++ es; height = max all.height h }

-- ---- arguments

module _ (p : Parser Tall) where
  abbrev pub first_argument : ℕ → Listed → Parser Listed
  first_argument n all = p >>= (λ x. further_arguments p n (made.with all x))

  pub argument_goes : (n : ℕ) (all : Listed) (comma : Token) (ts : List Token) → sort_of comma ≡ sort.Comma → further_arguments p (suc n) all (comma ∷ ts) ≡ first_argument n all ts
  unfolding further_arguments next take_token
  argument_goes n all comma ts h = rw (h, same_self sort.Comma) refl

  pub arguments_end : (n : ℕ) (all : Listed) (ts : List Token) → IsNot sort.Comma ts → further_arguments p n all ts ≡ Ok (all, ts)
  unfolding further_arguments
  arguments_end zero all ts h = refl
  arguments_end (suc n) all ts h = rw h refl

  some_go : (most n : ℕ) (ts : List Token) (all : Listed) (close : Token) (rest : List Token) → sort_of close ≡ sort.Close
      → first_argument (most - 1) made.no_exprs ts ≡ further_arguments p n all (close ∷ rest) → some_arguments most p ts ≡ Ok (all, rest)
  unfolding some_arguments same_sort
  some_go most n ts all close rest hc h =
      and_assoc (p ts) (λ x. further_arguments p (most - 1) (made.with made.no_exprs x)) (λ all. expect sort.Close >> pure all)
      ∙ ap (λ o. and_then o (λ all. expect sort.Close >> pure all)) (h ∙ arguments_end n all (close ∷ rest) (is_not sort.Comma sort.Close close rest hc refl))
      ∙ rw (expect_goes close rest hc) refl

  pub no_arguments_read : (most room : ℕ) (left right : Token) (rest : List Token) → sort_of left ≡ sort.Open → sort_of right ≡ sort.Close
      → arguments most room p (left ∷ right ∷ rest) ≡ Ok (made.no_exprs, rest)
  unfolding arguments arguments_after next take_token
  no_arguments_read most room left right rest hl hr = rw (expect_goes left (right ∷ rest) hl, hr, same_self sort.Close) refl

  pub arguments_read : (most room n : ℕ) (left : Token) (ts : List Token) (all : Listed) (close : Token) (rest : List Token) → sort_of left ≡ sort.Open → IsNot sort.Close ts → 1 < room → sort_of close ≡ sort.Close
      → first_argument (most - 1) made.no_exprs ts ≡ further_arguments p n all (close ∷ rest) → arguments most room p (left ∷ ts) ≡ Ok (all, rest)
  unfolding arguments arguments_after
  arguments_read most room n left ts all close rest hl c low hc h =
      rw (expect_goes left ts hl, c, le_false room 1 low) (some_go most n ts all close rest hc h)

-- ---- items in braces

module _ (p : Parser Tall) where
  abbrev pub first_item : ℕ → Listed → Parser Listed
  first_item n all = p >>= (λ x. further_items p n (made.with all x))

  pub item_goes : (n : ℕ) (all : Listed) (comma : Token) (ts : List Token) → sort_of comma ≡ sort.Comma → IsNot sort.Finish ts → further_items p (suc n) all (comma ∷ ts) ≡ first_item n all ts
  unfolding further_items next take_token
  item_goes n all comma ts h f = rw (h, same_self sort.Comma, f) refl

  pub last_comma : (n : ℕ) (all : Listed) (comma finish : Token) (rest : List Token) → sort_of comma ≡ sort.Comma → sort_of finish ≡ sort.Finish
      → further_items p (suc n) all (comma ∷ finish ∷ rest) ≡ Ok (all, finish ∷ rest)
  unfolding further_items next take_token
  last_comma n all comma finish rest h f = rw (h, same_self sort.Comma, f, same_self sort.Finish) refl

  pub items_end : (n : ℕ) (all : Listed) (ts : List Token) → IsNot sort.Comma ts → further_items p n all ts ≡ Ok (all, ts)
  unfolding further_items
  items_end zero all ts h = refl
  items_end (suc n) all ts h = rw h refl

  some_items_go : (turns : ℕ) (ts : List Token) (all : Listed) (finish : Token) (rest : List Token) → sort_of finish ≡ sort.Finish
      → first_item turns made.no_exprs ts ≡ Ok (all, finish ∷ rest) → some_items turns p ts ≡ Ok (all, rest)
  unfolding some_items
  some_items_go turns ts all finish rest hc h =
      and_assoc (p ts) (λ x. further_items p turns (made.with made.no_exprs x)) (λ all. expect sort.Finish >> pure all)
      ∙ ap (λ o. and_then o (λ all. expect sort.Finish >> pure all)) h
      ∙ rw (expect_goes finish rest hc) refl

  pub no_items_read : (turns room : ℕ) (left right : Token) (rest : List Token) → sort_of left ≡ sort.Begin → sort_of right ≡ sort.Finish
      → items turns room p (left ∷ right ∷ rest) ≡ Ok (made.no_exprs, rest)
  unfolding items items_after next take_token
  no_items_read turns room left right rest hl hr = rw (expect_goes left (right ∷ rest) hl, hr, same_self sort.Finish) refl

  pub items_read : (turns room : ℕ) (left : Token) (ts : List Token) (all : Listed) (finish : Token) (rest : List Token) → sort_of left ≡ sort.Begin → IsNot sort.Finish ts → 1 < room → sort_of finish ≡ sort.Finish
      → first_item turns made.no_exprs ts ≡ Ok (all, finish ∷ rest) → items turns room p (left ∷ ts) ≡ Ok (all, rest)
  unfolding items items_after
  items_read turns room left ts all finish rest hl c low hc h =
      rw (expect_goes left ts hl, c, le_false room 1 low) (some_items_go turns ts all finish rest hc h)

-- ---- array creations

module _ (l : Limits) (top : ℕ) (rooms : Rooms) where
  -- a size and what follows it
  abbrev size_then : ℕ → TypeName → ℕ → ℕ → Listed → Parser Tall
  size_then at base n k all = expr l (rooms.rest - 1) (Level 1) >>= (λ x. expect sort.Right >>= (λ _. further_sizes l top rooms (inside l rooms) at base n k (made.with all x)))

  size_opens : (at : ℕ) (base : TypeName) (n k : ℕ) (all : Listed) (left : Token) (ts : List Token) → sort_of left ≡ sort.Left → IsNot sort.Right ts
      → further_sizes l top rooms (inside l rooms) at base (suc n) k all (left ∷ ts) ≡ size_then at base n (k + 1) all ts
  unfolding further_sizes next take_token
  size_opens at base n k all left ts hl r = rw (hl, same_self sort.Left, r) refl

  size_then_goes : (at : ℕ) (base : TypeName) (n k : ℕ) (all : Listed) (ts : List Token) (x : Tall) (right : Token) (rest : List Token) → sort_of right ≡ sort.Right
      → expr l (rooms.rest - 1) (Level 1) ts ≡ Ok (x, right ∷ rest) → size_then at base n k all ts ≡ further_sizes l top rooms (inside l rooms) at base n k (made.with all x) rest
  size_then_goes at base n k all ts x right rest hr h = rw (h, expect_goes right rest hr) refl

  pub size_goes : (at : ℕ) (base : TypeName) (n k : ℕ) (all : Listed) (left : Token) (ts : List Token) (x : Tall) (right : Token) (rest : List Token) → sort_of left ≡ sort.Left → IsNot sort.Right ts
      → sort_of right ≡ sort.Right → expr l (rooms.rest - 1) (Level 1) ts ≡ Ok (x, right ∷ rest)
      → further_sizes l top rooms (inside l rooms) at base (suc n) k all (left ∷ ts) ≡ further_sizes l top rooms (inside l rooms) at base n (k + 1) (made.with all x) rest
  size_goes at base n k all left ts x right rest hl r hr h = size_opens at base n k all left ts hl r ∙ size_then_goes at base n (k + 1) all ts x right rest hr h

  sized_is : (at : ℕ) (base : TypeName) (ts : List Token) → sized l top rooms (inside l rooms) at base ts ≡ size_then at base (l.most - 1) 1 made.no_exprs ts
  unfolding sized
  sized_is at base ts = refl

  array_opens : (at : ℕ) (base : TypeName) (left : Token) (ts : List Token) → sort_of left ≡ sort.Left → IsNot sort.Right ts → 1 < rooms.rest
      → array l top rooms (inside l rooms) at base (left ∷ ts) ≡ sized l top rooms (inside l rooms) at base ts
  unfolding array
  array_opens at base left ts hl r low = rw (eq_false rooms.rest 0 (omega arith), expect_goes left ts hl, r, eq_false rooms.rest 1 low) refl

  -- the first size is read as the further ones
  pub array_sized : (at : ℕ) (base : TypeName) (left : Token) (ts : List Token) → sort_of left ≡ sort.Left → IsNot sort.Right ts → 1 < rooms.rest
      → array l top rooms (inside l rooms) at base (left ∷ ts) ≡ further_sizes l top rooms (inside l rooms) at base (suc (l.most - 1)) 0 made.no_exprs (left ∷ ts)
  array_sized at base left ts hl r low =
      array_opens at base left ts hl r low ∙ sized_is at base ts ∙ sym (size_opens at base (l.most - 1) 0 made.no_exprs left ts hl r)

  sizes_stop : (at : ℕ) (base : TypeName) (n k : ℕ) (all : Listed) (rest : List Token) → IsNot sort.Left rest
      → further_sizes l top rooms (inside l rooms) at base n k all rest ≡ Ok (made.sized at base all 0, rest)
  unfolding further_sizes
  sizes_stop at base zero k all rest h = refl
  sizes_stop at base (suc n) k all rest h = rw h refl

  empty_goes : (at : ℕ) (base : TypeName) (all : Listed) (k : ℕ) (right : Token) (ts : List Token) (pairs : ℕ) (rest : List Token) → sort_of right ≡ sort.Right
      → brackets (l.most - (k + 1)) (k + 1) ts ≡ Ok (pairs, rest) → empty_pairs l top rooms (inside l rooms) at base all k (right ∷ ts) ≡ Ok (made.sized at base all (pairs - k), rest)
  unfolding empty_pairs
  empty_goes at base all k right ts pairs rest hr h = rw (expect_goes right ts hr, h) refl

  pairs_open : (at : ℕ) (base : TypeName) (n k : ℕ) (all : Listed) (left right : Token) (ts : List Token) → sort_of left ≡ sort.Left → sort_of right ≡ sort.Right
      → further_sizes l top rooms (inside l rooms) at base (suc n) k all (left ∷ right ∷ ts) ≡ empty_pairs l top rooms (inside l rooms) at base all k (right ∷ ts)
  unfolding further_sizes next take_token
  pairs_open at base n k all left right ts hl hr = rw (hl, same_self sort.Left, hr, same_self sort.Right) refl

  -- empty brackets after k sizes, and then no bracket
  pub pairs_read : {c : ℕ} {ts : List Token} → Brackets c ts → (at : ℕ) (base : TypeName) (n k : ℕ) (all : Listed) → k + c ≤ l.most → c ≤ n → (rest : List Token) → IsNot sort.Left rest
      → further_sizes l top rooms (inside l rooms) at base n k all (ts ++ rest) ≡ Ok (made.sized at base all c, rest)
  pairs_read none at base n k all fits few rest h = sizes_stop at base n k all rest h
  pairs_read (pair hl hr b) at base zero k all fits few rest h = absurd (omega arith)
  pairs_read (pair {left = left} {right = right} {n = c} {ts = ts} hl hr b) at base (suc n) k all fits few rest h =
      pairs_open at base n k all left right (ts ++ rest) (left_sort hl) (right_sort hr)
      ∙ empty_goes at base all k right (ts ++ rest) (k + 1 + c) rest (right_sort hr) (brackets_read b (l.most - (k + 1)) (k + 1) (omega arith) rest h)
      ∙ ap (λ m. Ok (made.sized at base all m, rest)) (count_is c k)
    where
      count_is : (c k : ℕ) → k + 1 + c - k ≡ suc c
      count_is c k = omega arith

  filled_goes : (at : ℕ) (base to : TypeName) (right : Token) (ts mid : List Token) (n : ℕ) (all : Listed) (rest : List Token) → sort_of right ≡ sort.Right
      → brackets (l.most - 1) 1 ts ≡ Ok (n, mid) → items l.turns rooms.rest (expr l (rooms.rest - 1) Init) mid ≡ Ok (all, rest)
      → filled l top rooms (inside l rooms) at base (right ∷ ts) ≡ Ok (made.filled at (made.array_type l.builds n base) all, rest)
  unfolding filled
  filled_goes at base to right ts mid n all rest hr h q = rw (expect_goes right ts hr, h, q) refl

  array_filled : (at : ℕ) (base : TypeName) (left right : Token) (ts : List Token) → sort_of left ≡ sort.Left → sort_of right ≡ sort.Right → 1 ≤ rooms.rest
      → array l top rooms (inside l rooms) at base (left ∷ right ∷ ts) ≡ filled l top rooms (inside l rooms) at base (right ∷ ts)
  unfolding array next
  array_filled at base left right ts hl hr low = rw (eq_false rooms.rest 0 low, expect_goes left (right ∷ ts) hl, hr, same_self sort.Right) refl

  -- the pairs of brackets of the whole type, and the items
  pub filled_read : {c : ℕ} {ts : List Token} → Brackets (suc c) ts → l.builds ≡ true → suc c ≤ l.most → 1 ≤ rooms.rest → (at : ℕ) (base : TypeName) (us : List Token) (all : Listed) (rest : List Token) → IsNot sort.Left us
      → items l.turns rooms.rest (expr l (rooms.rest - 1) Init) us ≡ Ok (all, rest) → array l top rooms (inside l rooms) at base (ts ++ us) ≡ Ok (made.filled at (array_of (suc c) base) all, rest)
  filled_read (pair {left = left} {right = right} {n = c} {ts = ts} hl hr b) built few low at base us all rest h q =
      array_filled at base left right (ts ++ us) (left_sort hl) (right_sort hr) low
      ∙ filled_goes at base (array_of (suc c) base) right (ts ++ us) us (1 + c) all rest (right_sort hr) (brackets_read b (l.most - 1) 1 (omega arith) us h) q
      ∙ ap (λ to. Ok (made.filled at to all, rest)) (array_built l.builds (1 + c) base built ∙ ap (λ m. array_of m base) (one_more c))
    where
      one_more : (c : ℕ) → 1 + c ≡ suc c
      one_more c = omega arith
