-- Names with dots as variables and fields, and calls of them.
use Rattle.std.proofs.Common.{◌≡◌, ℕ, ◌+◌, ◌-◌, ◌/◌, ◌≤◌, max, Bool, true, List, [], ◌∷◌, ◌++◌, length, take, nat_le, refl, sym, ap, ◌∙◌, subst, append_assoc, arith}
use Rattle.std.proofs.Math.Numerals.{add-one}
use Rattle.std.proofs.Math.Seq.{take-append_seam}
use Rattle.std.proofs.lemmas.Bool.Decides.{nat_tests}
use Rattle.std.proofs.lemmas.List.{append-nil, length-append}
use Rattle.mol_base.specs.Token.{Token}
use Rattle.jav_tree.specs.Tokens.{IsSymbol, IsName}
use Rattle.jav_tree.specs.Expressions as tree
use Rattle.jav_tree.specs.Expressions.{Primary}
use Rattle.jav_parse_cursor.specs.declared.limits.Limits.{Limits}
use Rattle.jav_parse_expr.specs.declared.primary.Rooms.{Rooms}
use Rattle.jav_parse_cursor.specs.declared.tall.Shape.TheVariants.{Target}
use Rattle.jav_parse_cursor.specs.declared.tall.Tall.{Tall}
use Rattle.jav_parse_cursor.specs.declared.tall.Listed.{Listed}
use Rattle.jav_parse_cursor.specs.Nodes as made
use Rattle.jav_parse_cursor.specs.Nodes.{count_of, dotted_by, last_of, named, named_call}
use Rattle.jav_parse.proofs.SoundTypes.{Dots, IsNames}
use Rattle.jav_parse.proofs.SoundTypes as types
use Rattle.jav_parse.proofs.Within.{AreArguments, IsPart, Shaped, room}

-- a name or field that is n high
pub record IsNamed (m n : ℕ) (y : Tall) (ts : List Token) : Type 0 where
  pub primary : Primary m tree.target y.height y.expr ts
  pub height : y.height ≡ n
  pub shape : y.shape ≡ Target

dotted_named : (m n : ℕ) (x : Tall) (front rest : List Token) → IsNamed m n x front → Dots rest → IsNamed m (n + length rest / 2) (dotted_by x rest) (front ++ rest)
unfolding dotted_by
dotted_named m n x front rest p types.none =
    record { primary = subst (λ r. Primary m tree.target x.height x.expr r) (sym (append-nil front)) p.primary; height = let e = p.height in omega arith; shape = p.shape }
dotted_named m n x front rest p (types.more {dot} {t} {ts} hd ht k) =
    let one : IsNamed m (n + 1) (made.dotted x t) (front ++ dot ∷ t ∷ []) =
    record { primary = rw add-one (tree.field (tree.primary_before_dot p.primary) hd ht); height = let e = p.height in omega arith; shape = refl } in
    let go = dotted_named m (n + 1) (made.dotted x t) (front ++ dot ∷ t ∷ []) ts one k in
    let e : n + 1 + length ts / 2 ≡ n + length (dot ∷ t ∷ ts) / 2 = omega arith in
    subst (λ h. IsNamed m h (dotted_by (made.dotted x t) ts) (front ++ dot ∷ t ∷ ts)) e
    (subst (λ r. IsNamed m (n + 1 + length ts / 2) (dotted_by (made.dotted x t) ts) r) (append_assoc front (dot ∷ t ∷ []) ts) go)

-- names with dots are a name or a field
pub named_is : (l : Limits) → l.builds ≡ true → (names : List Token) → IsNames names → IsNamed l.most (count_of names) (named l.builds names) names
unfolding named
named_is l h [] k = absurd k
named_is l h (t ∷ rest) k =
    let e : 1 + length rest / 2 ≡ length rest / 2 + 1 = omega arith in
    let one : IsNamed l.most 1 (made.name t) (t ∷ []) = record { primary = tree.name k.0; height = refl; shape = refl } in
    rw h (subst (λ n. IsNamed l.most n (dotted_by (made.name t) rest) (t ∷ rest)) e (dotted_named l.most 1 (made.name t) (t ∷ []) rest one k.1))

-- a part with this shape
pub target_part : (l : Limits) (rooms : Rooms) (n : ℕ) (y : Tall) (ts : List Token) → IsNamed l.most n y ts → n ≤ rooms.target → IsPart l rooms y ts
target_part l rooms n y ts k low = subst (λ s. Shaped l.most s y.height y.expr ts × (y.height ≤ room rooms s)) (sym k.shape) (k.primary, let e = k.height in omega arith)

-- ---- calls

record EndsInName (ts : List Token) : Type 0 where
  front : List Token
  dot : Token
  last : Token
  tokens : ts ≡ front ++ dot ∷ last ∷ []
  before : Dots front
  is_dot : IsSymbol "." dot
  is_name : IsName last

ends_in_name : (dot t : Token) (ts : List Token) → IsSymbol "." dot → IsName t → Dots ts → EndsInName (dot ∷ t ∷ ts)
ends_in_name dot t ts hd ht types.none = record { front = []; dot = dot; last = t; tokens = refl; before = types.none; is_dot = hd; is_name = ht }
ends_in_name dot t ts hd ht (types.more {dot = d} {t = u} {ts = us} gd gt k) =
    let r = ends_in_name d u us gd gt k in
    record { front = dot ∷ t ∷ r.front; dot = r.dot; last = r.last; tokens = ap (λ x. dot ∷ t ∷ x) r.tokens; before = types.more hd ht r.before; is_dot = r.is_dot; is_name = r.is_name }

last_is : (first : Token) (front : List Token) (dot t : Token) → last_of first (front ++ dot ∷ t ∷ []) ≡ t
last_is first [] dot t = refl
last_is first (x ∷ xs) dot t = last_is x xs dot t

pub called_part : (l : Limits) (rooms : Rooms) (t : Token) → IsName t → (args : Listed) (vs : List Token) → AreArguments l rooms.invocation args vs → IsPart l rooms (made.called t args) (t ∷ vs)
called_part l rooms t ht args vs ha = (rw add-one (tree.call ht ha.0), ha.1)

call_is : (builds : Bool) (t : Token) (front : List Token) (dot last : Token) (args : Listed)
    → named_call builds (t ∷ (front ++ dot ∷ last ∷ [])) args ≡ made.called_on (named builds (t ∷ front)) last args
unfolding named_call
call_is builds t front dot last args =
    let m : length (front ++ dot ∷ last ∷ []) ≡ length front + 2 = length-append front (dot ∷ last ∷ []) in
    let long : 2 ≤ length (front ++ dot ∷ last ∷ []) = omega arith in
    let n : length (front ++ dot ∷ last ∷ []) - 2 ≡ length front = omega arith in
    let yes : nat_le 2 (length (front ++ dot ∷ last ∷ [])) ≡ true = grind (arith, nat_tests) in
    let before = ap (λ k. take k (front ++ dot ∷ last ∷ [])) n ∙ take-append_seam front (dot ∷ last ∷ []) in
    rw (yes, before, last_is t front dot last) refl

call_of : (l : Limits) → l.builds ≡ true → (rooms : Rooms) (t : Token) → IsName t → (rest : List Token) → EndsInName rest → count_of (t ∷ rest) ≤ rooms.invocation
    → (args : Listed) (vs : List Token) → AreArguments l rooms.invocation args vs → IsPart l rooms (named_call l.builds (t ∷ rest) args) (t ∷ rest ++ vs)
call_of l h rooms t ht rest k low args vs ha =
    let x = named_is l h (t ∷ k.front) (ht, k.before) in
    let long : length rest ≡ length k.front + 2 = ap length k.tokens ∙ length-append k.front (k.dot ∷ k.last ∷ []) in
    let tall : max (named l.builds (t ∷ k.front)).height args.height + 1 ≤ rooms.invocation = let e = x.height in let a = ha.1 in omega arith in
    let call : IsPart l rooms (made.called_on (named l.builds (t ∷ k.front)) k.last args) (t ∷ k.front ++ k.dot ∷ k.last ∷ vs) =
    (rw add-one (tree.call_on (tree.primary_before_dot x.primary) k.is_dot k.is_name ha.0), tall) in
    subst (λ r. IsPart l rooms (named_call l.builds (t ∷ r) args) (t ∷ r ++ vs)) (sym k.tokens)
    (subst (λ y. IsPart l rooms y (t ∷ (k.front ++ k.dot ∷ k.last ∷ []) ++ vs)) (sym (call_is l.builds t k.front k.dot k.last args))
    (subst (λ r. IsPart l rooms (made.called_on (named l.builds (t ∷ k.front)) k.last args) r) (sym (append_assoc (t ∷ k.front) (k.dot ∷ k.last ∷ []) vs)) call))

call_by : (l : Limits) → l.builds ≡ true → (rooms : Rooms) (t : Token) → IsName t → (rest : List Token) → Dots rest → count_of (t ∷ rest) ≤ rooms.invocation
    → (args : Listed) (vs : List Token) → AreArguments l rooms.invocation args vs → IsPart l rooms (named_call l.builds (t ∷ rest) args) (t ∷ rest ++ vs)
unfolding named_call
call_by l h rooms t ht rest types.none low args vs ha = called_part l rooms t ht args vs ha
call_by l h rooms t ht rest (types.more {dot = d} {t = u} {ts = us} gd gt k) low args vs ha = call_of l h rooms t ht (d ∷ u ∷ us) (ends_in_name d u us gd gt k) low args vs ha

-- a call of the method of these names
pub named_call_part : (l : Limits) → l.builds ≡ true → (rooms : Rooms) (names : List Token) → IsNames names → count_of names ≤ rooms.invocation
    → (args : Listed) (vs : List Token) → AreArguments l rooms.invocation args vs → IsPart l rooms (named_call l.builds names args) (names ++ vs)
named_call_part l h rooms [] k low args vs ha = absurd k
named_call_part l h rooms (t ∷ rest) k low args vs ha = call_by l h rooms t k.0 rest k.1 low args vs ha
