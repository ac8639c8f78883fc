-- Names with dots as slices of tokens.
use Rattle.std.proofs.Common.{◌≡◌, ℕ, zero, suc, ◌+◌, ◌-◌, ◌≤◌, Bool, true, List, [], ◌∷◌, length, take, drop, get_or, nat_le, refl, sym, ap, ◌∙◌, arith}
use Rattle.std.proofs.lemmas.Grind.{common_steps}
use Rattle.std.proofs.lemmas.List.{take-map, length-map}
use Rattle.std.proofs.lemmas.Bool.Decides.{nat_tests}
use Rattle.mol_base.specs.Token.{Token}
use Rattle.jav_lex.specs.Token.{seen, all_seen}
use Rattle.jav_lex.specs.declared.token.Token as code
use Rattle.jav_parse_cursor.specs.declared.tall.Tall.{Tall}
use Rattle.jav_parse_cursor.specs.declared.tall.Listed.{Listed}
use Rattle.jav_parse_cursor.specs.Nodes.{dotted, dotted_by, named, named_call, called, called_on, last_of}

pub two_off : (after : List code.Token) → 2 ≤ length after → length (take (length after - 2) (drop 2 after)) + 2 ≡ length after
two_off [] h = absurd (omega arith)
two_off (a ∷ []) h = absurd (omega arith)
two_off (a ∷ b ∷ rest) h = let s : take (length (a ∷ b ∷ rest) - 2) (drop 2 (a ∷ b ∷ rest)) ≡ rest = grind (arith, common_steps) in rw s (omega arith)

-- a dot and a name more
pub dots : (x : Tall) (after : List code.Token) (t : code.Token) → 2 ≤ length after → t ≡ get_or after 1 t
    → dotted_by x (all_seen after) ≡ dotted_by (dotted x (seen t)) (all_seen (take (length after - 2) (drop 2 after)))
unfolding dotted_by
dots x [] t h e = absurd (omega arith)
dots x (a ∷ []) t h e = absurd (omega arith)
dots x (a ∷ b ∷ rest) t h e =
    let s : take (length (a ∷ b ∷ rest) - 2) (drop 2 (a ∷ b ∷ rest)) ≡ rest = grind (arith, common_steps) in
    let same : t ≡ b = e in
    rw (s, same) refl

last_is : (first : Token) (after : List code.Token) (x : code.Token) → 1 ≤ length after → x ≡ get_or after (length after - 1) x → last_of first (all_seen after) ≡ seen x
last_is first [] x h e = absurd (omega arith)
last_is first (a ∷ []) x h e = sym (ap seen e)
last_is first (a ∷ b ∷ rest) x h e =
    let n : length (a ∷ b ∷ rest) - 1 ≡ suc (length (b ∷ rest) - 1) = omega arith in
    let f : x ≡ get_or (b ∷ rest) (length (b ∷ rest) - 1) x = e ∙ ap (λ k. get_or (a ∷ b ∷ rest) k x) n in
    last_is (seen a) (b ∷ rest) x (omega arith) f

-- a call on the names before the last dot
pub call_on_is : (builds : Bool) (first : Token) (after : List code.Token) (x : code.Token) (args : Listed) → 2 ≤ length after → x ≡ get_or after (length after - 1) x
    → named_call builds (first ∷ all_seen after) args ≡ called_on (named builds (first ∷ all_seen (take (length after - 2) after))) (seen x) args
unfolding named_call
call_on_is builds first after x args h e =
    let m : length (all_seen after) ≡ length after = length-map after seen in
    let yes : nat_le 2 (length (all_seen after)) ≡ true = grind (arith, nat_tests) in
    let l = last_is first after x (omega arith) e in
    let t : take (length (all_seen after) - 2) (all_seen after) ≡ all_seen (take (length after - 2) after) = ap (λ k. take (k - 2) (all_seen after)) m ∙ take-map seen (length after - 2) after in
    rw (yes, l, t) refl

-- a call of one name
pub call_is : (builds : Bool) (first : Token) (after : List code.Token) (args : Listed) → length after ≤ 1 → named_call builds (first ∷ all_seen after) args ≡ called first args
unfolding named_call
call_is builds first [] args h = refl
call_is builds first (a ∷ []) args h = refl
call_is builds first (a ∷ b ∷ rest) args h = absurd (omega arith)
