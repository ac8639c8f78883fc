-- How the steps of reading go on tokens whose next one is known.
use Rattle.std.proofs.Common.{◌≡◌, ℕ, ◌+◌, ◌<◌, ◌≤◌, Bool, true, false, List, ◌∷◌, ◌++◌, length, Ok, Err, refl, ap, ◌∙◌, nat_lt, nat_le, nat_eq, le_refl, arith}
use Rattle.std.proofs.lemmas.Bool.Decides.{nat_tests}
use Rattle.std.proofs.lemmas.List.{length-append}
use denote.Enum.Bare.{true_same}
use Rattle.mol_base.specs.Token.{Token}
use Rattle.jav_parse_cursor.specs.contracts.sort.Sort.{the_type}
use Rattle.jav_parse_cursor.specs.declared.sort.Sort.{Sort}
use Rattle.jav_parse_cursor.specs.declared.sort.Sort.TheVariants as sort
use Rattle.jav_parse_expr.specs.ExprRules.{level_of, begins_operand}
use Rattle.jav_parse_expr.specs.PrimaryRules.{is_link}
use Rattle.jav_parse_cursor.specs.Reading.{Parser, sort, take_token, expect, when_next}
use Rattle.jav_parse_cursor.specs.Sorts.{same_sort, sort_of}
use Rattle.jav_parse.proofs.Written.{is_same}

pub same_self : (s : Sort) → same_sort s s ≡ true
unfolding same_sort
same_self s = true_same the_type s s refl

pub sort_at : (c : Token) (rest : List Token) → sort (c ∷ rest) ≡ sort_of c
unfolding sort
sort_at c rest = refl

-- the next token is not of this sort
abbrev pub IsNot : Sort → List Token → Type 0
IsNot s ts = same_sort (sort ts) s ≡ false

pub is_not : (s u : Sort) (c : Token) (rest : List Token) → sort_of c ≡ u → same_sort u s ≡ false → IsNot s (c ∷ rest)
unfolding sort
is_not s u c rest h q = ap (λ v. same_sort v s) h ∙ q

pub take_goes : (c : Token) (rest : List Token) → take_token (c ∷ rest) ≡ Ok (c, rest)
unfolding take_token
take_goes c rest = refl

pub expect_goes : {s : Sort} (c : Token) (rest : List Token) → sort_of c ≡ s → expect s (c ∷ rest) ≡ Ok (c, rest)
unfolding expect sort take_token
expect_goes {s} c rest h = rw (h, same_self s) refl

pub expect_not : (s : Sort) (ts : List Token) → IsNot s ts → expect s ts ≡ Err ts
unfolding expect
expect_not s ts h = rw h refl

pub when_yes : {A : Type 0} (p q : Parser A) (s : Sort) (c : Token) (rest : List Token) → sort_of c ≡ s → when_next s p q (c ∷ rest) ≡ p (c ∷ rest)
unfolding sort
when_yes p q s c rest h = rw (h, same_self s) refl

pub when_no : {A : Type 0} (p q : Parser A) (s : Sort) (ts : List Token) → IsNot s ts → when_next s p q ts ≡ q ts
when_no p q s ts h = rw h refl

pub tokens_append : (xs ys : List Token) → length (xs ++ ys) ≡ length xs + length ys
tokens_append xs ys = length-append xs ys

-- tests of heights
pub lt_true : (a b : ℕ) → a < b → nat_lt a b ≡ true
lt_true a b h = grind (arith, nat_tests)

pub lt_false : (a b : ℕ) → b ≤ a → nat_lt a b ≡ false
lt_false a b h = grind (arith, nat_tests)

pub le_true : (a b : ℕ) → a ≤ b → nat_le a b ≡ true
le_true a b h = grind (arith, nat_tests)

pub le_false : (a b : ℕ) → b < a → nat_le a b ≡ false
le_false a b h = grind (arith, nat_tests)

pub eq_false : (a b : ℕ) → b < a → nat_eq a b ≡ false
eq_false a b h = grind (arith, nat_tests)

-- the sorts with which a part begins
abbrev pub BeginsPart : Sort → Type 0
BeginsPart sort.Name = Unit {0}
BeginsPart sort.Literal = Unit {0}
BeginsPart sort.This = Unit {0}
BeginsPart sort.Super = Unit {0}
BeginsPart sort.New = Unit {0}
BeginsPart sort.Open = Unit {0}
BeginsPart _ = ⊥

-- How tightly a token goes on from an expression before it: 15 after a part, 14 for `++`, the level of an operator, 0 where it never does.
abbrev pub binds : Sort → ℕ
binds sort.Dot = 15
binds sort.Left = 15
binds sort.Name = 15
binds sort.Literal = 15
binds sort.This = 15
binds sort.Super = 15
binds sort.New = 15
binds sort.Open = 15
binds sort.Not = 15
binds sort.Step = 14
binds sort.Question = 2
binds sort.Equals = 1
binds sort.Compound = 1
binds s = level_of s

-- no token here goes on at this level or a tighter one
abbrev pub Ends : ℕ → List Token → Type 0
Ends level ts = binds (sort ts) < level

pub ends_at : (s : Sort) (level : ℕ) (c : Token) (rest : List Token) → sort_of c ≡ s → binds s < level → Ends level (c ∷ rest)
unfolding sort
ends_at s level c rest h q = rw h q

no_link_by : (s : Sort) → binds s < 15 → is_link s ≡ false
no_link_by sort.Dot h = absurd (omega arith)
no_link_by sort.Left h = absurd (omega arith)
no_link_by s h = refl

pub no_link : (ts : List Token) → Ends 15 ts → is_link (sort ts) ≡ false
no_link ts h = no_link_by (sort ts) h

no_operand_by : (s : Sort) → binds s < 15 → begins_operand s ≡ false
no_operand_by sort.Name h = absurd (omega arith)
no_operand_by sort.Literal h = absurd (omega arith)
no_operand_by sort.This h = absurd (omega arith)
no_operand_by sort.Super h = absurd (omega arith)
no_operand_by sort.New h = absurd (omega arith)
no_operand_by sort.Open h = absurd (omega arith)
no_operand_by sort.Not h = absurd (omega arith)
no_operand_by s h = refl

pub no_operand : (ts : List Token) → Ends 15 ts → begins_operand (sort ts) ≡ false
no_operand ts h = no_operand_by (sort ts) h

-- a token that goes on less tightly is not of a sort that goes on more tightly
not_by : (s u : Sort) (level : ℕ) → binds s < level → level ≤ binds u → (same : Bool) → (same ≡ true → s ≡ u) → same ≡ false
not_by s u level h k true e = absurd (let z = ap binds (e refl) in omega arith)
not_by s u level h k false e = refl

pub ends_not : (s : Sort) (level : ℕ) (ts : List Token) → Ends level ts → level ≤ binds s → IsNot s ts
ends_not s level ts h k = not_by (sort ts) s level h k (same_sort (sort ts) s) (is_same (sort ts) s)

level_below : (s : Sort) → level_of s ≤ binds s
level_below sort.Dot = omega arith
level_below sort.Left = omega arith
level_below sort.Name = omega arith
level_below sort.Literal = omega arith
level_below sort.This = omega arith
level_below sort.Super = omega arith
level_below sort.New = omega arith
level_below sort.Open = omega arith
level_below sort.Not = omega arith
level_below sort.Step = omega arith
level_below sort.Question = omega arith
level_below sort.Equals = omega arith
level_below sort.Compound = omega arith
level_below s = le_refl (level_of s)

pub ends_level : (level : ℕ) (ts : List Token) → Ends level ts → level_of (sort ts) < level
ends_level level ts h = let z = level_below (sort ts) in omega arith

pub checked : ℕ
checked = 1
