-- Allowed modifiers by three tests.
use Rattle.std.specs.Prelude.{◌≡◌, ◌↔◌, ℕ, Bool, true, false, ◌&&◌, nat_le, IsTrue, List, codes, refl}
use Prim.Native.String.{String}
use Rattle.std.specs.List.{list_all}
use Rattle.std.proofs.Common.{sym, ap, ◌∙◌}
use Rattle.mol_base.specs.Among.{among}
use Rattle.mol_base.specs.Modifiers.{times, has_one_access, AllowedWords}

left_of : (a b : Bool) → (a && b) ≡ true → a ≡ true
left_of true b e = refl
left_of false b e = e

right_of : (a b : Bool) → (a && b) ≡ true → b ≡ true
right_of true b e = e
right_of false b e = absurd cc

both_of : (a b : Bool) → a ≡ true → b ≡ true → (a && b) ≡ true
both_of a b x y = ap (λ c. c && b) x ∙ y

pub AllowedWords-test : (allowed : List String) (words : List (List ℕ)) (answer : Bool)
    → answer ≡ (list_all (among allowed) words && (list_all (λ word. nat_le (times words (codes word)) 1) allowed && has_one_access words))
    → IsTrue answer ↔ AllowedWords allowed words
AllowedWords-test allowed words answer is =
    let known : Bool = list_all (among allowed) words in
    let once : Bool = list_all (λ word. nat_le (times words (codes word)) 1) allowed in
    let access : Bool = has_one_access words in (
      λ yes. record {
        known = left_of known (once && access) (sym is ∙ yes);
        once = left_of once access (right_of known (once && access) (sym is ∙ yes));
        one_access = right_of once access (right_of known (once && access) (sym is ∙ yes));
      },
      λ w. is ∙ both_of known (once && access) w.known (both_of once access w.once w.one_access),
    )
