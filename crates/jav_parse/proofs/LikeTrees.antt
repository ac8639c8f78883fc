-- Trees of the same height that the same may follow; among them names that are built, and names that are not.
use Rattle.std.proofs.Common.{◌≡◌, ◌+◌, ◌-◌, ◌/◌, ◌≤◌, max, nat_le, Bool, true, false, if◌then◌else◌, List, [], ◌∷◌, length, take, refl, sym, ap, ◌∙◌, arith}
use Rattle.std.proofs.lemmas.List.{length-take-le}
use Rattle.std.proofs.lemmas.Bool.Decides.{nat_tests}
use Rattle.mol_base.specs.Token.{Token}
use Rattle.jav_parse_cursor.specs.declared.tall.Shape.TheVariants.{Target}
use Rattle.jav_parse_cursor.specs.declared.tall.Tall.{Tall}
use Rattle.jav_parse_cursor.specs.declared.tall.Listed.{Listed}
use Rattle.jav_parse_cursor.specs.Nodes.{name, dotted_by, dotted, named, named_call, called, called_on, count_of, last_of}

pub record LikeTall (x y : Tall) : Type 0 where
  pub height : x.height ≡ y.height
  pub shape : x.shape ≡ y.shape

pub record LikeListed (x y : Listed) : Type 0 where
  pub height : x.height ≡ y.height

pub like_self : (x : Tall) → LikeTall x x
like_self x = record { height = refl; shape = refl }

dotted_high : (x : Tall) (ts : List Token) → (dotted_by x ts).height ≡ x.height + length ts / 2
unfolding dotted_by
dotted_high x [] = omega arith
dotted_high x (dot ∷ []) = omega arith
dotted_high x (dot ∷ t ∷ rest) = let h = dotted_high (dotted x t) rest in omega arith

dotted_shape : (x : Tall) (ts : List Token) → x.shape ≡ Target → (dotted_by x ts).shape ≡ Target
unfolding dotted_by
dotted_shape x [] h = h
dotted_shape x (dot ∷ []) h = h
dotted_shape x (dot ∷ t ∷ rest) h = dotted_shape (dotted x t) rest refl

pub named_high : (builds : Bool) (names : List Token) → (named builds names).height ≡ count_of names
unfolding named
named_high builds [] = refl
named_high true (t ∷ rest) = dotted_high (name t) rest ∙ omega arith
named_high false (t ∷ rest) = refl

named_shape : (builds : Bool) (names : List Token) → (named builds names).shape ≡ Target
unfolding named
named_shape builds [] = refl
named_shape true (t ∷ rest) = dotted_shape (name t) rest refl
named_shape false (t ∷ rest) = refl

pub like_named : (b c : Bool) (names : List Token) → LikeTall (named b names) (named c names)
like_named b c names = record { height = named_high b names ∙ sym (named_high c names); shape = named_shape b names ∙ sym (named_shape c names) }

pub count_low : (names : List Token) → count_of names ≤ length names
count_low [] = omega arith
count_low (t ∷ rest) = omega arith

like_choice : (b c k : Bool) (t : Token) (rest : List Token) (x y : Listed) → LikeListed x y → k ≡ nat_le 2 (length rest)
    → LikeTall (if k then called_on (named b (t ∷ take (length rest - 2) rest)) (last_of t rest) x else called t x) (if k then called_on (named c (t ∷ take (length rest - 2) rest)) (last_of t rest) y else called t y)
like_choice b c true t rest x y l e =
    let h = (like_named b c (t ∷ take (length rest - 2) rest)).height in
    let k = l.height in
    record { height = omega arith; shape = refl }
like_choice b c false t rest x y l e = let k = l.height in record { height = omega arith; shape = refl }

pub like_call : (b c : Bool) (names : List Token) (x y : Listed) → LikeListed x y → LikeTall (named_call b names x) (named_call c names y)
unfolding named_call
like_call b c [] x y l = like_named b c []
like_call b c (t ∷ rest) x y l = like_choice b c (nat_le 2 (length rest)) t rest x y l refl

low_choice : (b k : Bool) (t : Token) (rest : List Token) (x : Listed) → k ≡ nat_le 2 (length rest)
    → (if k then called_on (named b (t ∷ take (length rest - 2) rest)) (last_of t rest) x else called t x).height ≤ max (length rest / 2 + 1) (x.height + 1)
low_choice b true t rest x e =
    let two : 2 ≤ length rest = grind (arith, nat_tests) in
    let h = named_high b (t ∷ take (length rest - 2) rest) in
    let l = length-take-le (length rest - 2) rest (omega arith) in
    let m : (length rest - 2) / 2 + 1 ≤ length rest / 2 = omega arith in
    let k : (named b (t ∷ take (length rest - 2) rest)).height ≡ (length rest - 2) / 2 + 1 = h ∙ ap (λ z. z / 2 + 1) l in
    omega arith
low_choice b false t rest x e = omega arith

pub call_low : (b : Bool) (names : List Token) (x : Listed) → (named_call b names x).height ≤ max (count_of names) (x.height + 1)
unfolding named_call named
call_low b [] x = omega arith
call_low b (t ∷ rest) x = low_choice b (nat_le 2 (length rest)) t rest x refl
