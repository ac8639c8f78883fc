-- The trees of names with dots, made from the tokens at once or from left to right.
use Rattle.std.proofs.Common.{◌≡◌, ◌+◌, ◌-◌, ◌/◌, ◌≤◌, true, List, [], ◌∷◌, ◌++◌, length, take, refl, ap, ◌∙◌, arith}
use Rattle.std.proofs.lemmas.Grind.{common_steps}
use Rattle.std.proofs.lemmas.List.{length-append}
use Rattle.mol_base.specs.Token.{Token}
use Rattle.jav_parse_cursor.specs.declared.tall.Shape.TheVariants.{Target}
use Rattle.jav_parse_cursor.specs.declared.tall.Tall.{Tall}
use Rattle.jav_parse_cursor.specs.declared.tall.Listed.{Listed}
use Rattle.jav_parse_cursor.specs.Nodes as made
use Rattle.jav_parse_cursor.specs.Nodes.{dotted, dotted_by, named, named_call, called_on, called, count_of, last_of}
use Rattle.jav_parse.proofs.ReadingSteps.{le_true}

-- dots and names, in turn
pub data Pairs : List Token → Type 0 where
  none : Pairs []
  pair : {dot t : Token} {ts : List Token} → Pairs ts → Pairs (dot ∷ t ∷ ts)

pub one_more : {ts : List Token} (dot t : Token) → Pairs ts → Pairs (ts ++ dot ∷ t ∷ [])
one_more dot t none = pair none
one_more dot t (pair p) = pair (one_more dot t p)

dotted_last : {ts : List Token} → Pairs ts → (x : Tall) (dot t : Token) → dotted_by x (ts ++ dot ∷ t ∷ []) ≡ dotted (dotted_by x ts) t
unfolding dotted_by
dotted_last none x dot t = refl
dotted_last (pair {dot = d} {t = u} p) x dot t = dotted_last p (dotted x u) dot t

pub named_last : {ts : List Token} → Pairs ts → (first dot t : Token) → named true (first ∷ ts ++ dot ∷ t ∷ []) ≡ dotted (named true (first ∷ ts)) t
unfolding named
named_last p first dot t = dotted_last p (made.name first) dot t

dotted_height : {ts : List Token} → Pairs ts → (x : Tall) → (dotted_by x ts).height ≡ x.height + length ts / 2
unfolding dotted_by
dotted_height none x = omega arith
dotted_height (pair {t = u} p) x = dotted_height p (dotted x u) ∙ omega arith

pub named_height : {ts : List Token} → Pairs ts → (first : Token) → (named true (first ∷ ts)).height ≡ count_of (first ∷ ts)
unfolding named
named_height p first = dotted_height p (made.name first) ∙ omega arith

dotted_shape : {ts : List Token} → Pairs ts → (x : Tall) → x.shape ≡ Target → (dotted_by x ts).shape ≡ Target
unfolding dotted_by
dotted_shape none x h = h
dotted_shape (pair {t = u} p) x h = dotted_shape p (dotted x u) refl

pub named_shape : {ts : List Token} → Pairs ts → (first : Token) → (named true (first ∷ ts)).shape ≡ Target
unfolding named
named_shape p first = dotted_shape p (made.name first) refl

pub count_more : (first dot t : Token) (ts : List Token) → count_of (first ∷ ts ++ dot ∷ t ∷ []) ≡ count_of (first ∷ ts) + 1
count_more first dot t ts = let z = length-append ts (dot ∷ t ∷ []) in omega arith

last_is : (first dot t : Token) (ts : List Token) → last_of first (ts ++ dot ∷ t ∷ []) ≡ t
last_is first dot t [] = refl
last_is first dot t (u ∷ ts) = last_is u dot t ts

front_is : (dot t : Token) (ts : List Token) → take (length (ts ++ dot ∷ t ∷ []) - 2) (ts ++ dot ∷ t ∷ []) ≡ ts
front_is dot t ts =
    let z = length-append ts (dot ∷ t ∷ []) in
    let n : length (ts ++ dot ∷ t ∷ []) - 2 ≡ length ts = omega arith in
    ap (λ k. take k (ts ++ dot ∷ t ∷ [])) n ∙ grind (arith, common_steps)

pub call_last : (first dot t : Token) (ts : List Token) (args : Listed) → named_call true (first ∷ ts ++ dot ∷ t ∷ []) args ≡ called_on (named true (first ∷ ts)) t args
unfolding named_call
call_last first dot t ts args =
    let z = length-append ts (dot ∷ t ∷ []) in
    let n : 2 ≤ length (ts ++ dot ∷ t ∷ []) = omega arith in
    rw (le_true 2 (length (ts ++ dot ∷ t ∷ [])) n, front_is dot t ts, last_is first dot t ts) refl

pub call_one : (first : Token) (args : Listed) → named_call true (first ∷ []) args ≡ called first args
unfolding named_call
call_one first args = refl
