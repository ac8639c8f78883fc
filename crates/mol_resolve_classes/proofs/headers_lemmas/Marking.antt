-- Marks, one more of the list further.
use Rattle.std.proofs.Common.{◌≡◌, ℕ, ◌<◌, ◌==◌, Bool, true, false, ◌&&◌, ◌||◌, not, List, [], ◌∷◌, ◌++◌, length, get_or, set, replicate, refl, sym, ◌∙◌, ap, subst, arith, true≢false, eqb-true, eq-eqb}
use Rattle.std.specs.List.{list_any}
use Rattle.std.proofs.lemmas.Bool.Decides.{Decides-eqb}
use Rattle.std.proofs.lemmas.List.Folds.{list_any-append}
use Rattle.std.proofs.lemmas.List.{get_or-replicate, get_or-set_other, get_or-set_same, length-replicate, length-set}
use Rattle.jav_names.proofs.Lists.{Decides-fails}
use Rattle.mol_resolve_classes.specs.headers.Marks.{Marked}

or-false : (b : Bool) → (b || false) ≡ b
or-false true = refl
or-false false = refl

or-true : (b : Bool) → (b || true) ≡ true
or-true true = refl
or-true false = refl

or-again : (a b c : Bool) → ((a || b) || c) ≡ (a || (b || c))
or-again true b c = refl
or-again false b c = refl

list_any-push : {X : Type 0} (test : X → Bool) (xs : List X) (x : X) → list_any test (xs ++ x ∷ []) ≡ (list_any test xs || test x)
list_any-push test xs x = list_any-append test xs (x ∷ []) ∙ ap (λ b. list_any test xs || b) (or-false (test x))

-- one mark more
mark-set : (marks : List Bool) (place number : ℕ) → place < length marks
    → get_or (set marks place true) number false ≡ (get_or marks number false || place == number)
mark-set marks place number below = by (place == number) refl where
  by : (b : Bool) → (place == number) ≡ b → get_or (set marks place true) number false ≡ (get_or marks number false || b)
  by true is = subst (λ k. get_or (set marks place true) k false ≡ true) (eqb-true place number is)
      (get_or-set_same marks place true false below) ∙ sym (or-true (get_or marks number false))
  by false is = get_or-set_other marks place number true false (λ same. true≢false (sym (eq-eqb place number (sym same)) ∙ is))
      ∙ sym (or-false (get_or marks number false))

-- two marks more, at places that differ
pub marks-set : (marks : List Bool) (first place number : ℕ) → first < length marks → place < length marks → ¬ (first ≡ place)
    → get_or (set (set marks first true) place true) number false
    ≡ (get_or marks number false || not (first == place) && (first == number || place == number))
marks-set marks first place number first_below place_below apart =
    mark-set (set marks first true) place number (omega (arith, place_below, length-set marks first true))
    ∙ ap (λ b. b || place == number) (mark-set marks first number first_below)
    ∙ or-again (get_or marks number false) (first == number) (place == number)
    ∙ sym (ap (λ b. get_or marks number false || not b && (first == number || place == number))
    (Decides-fails (Decides-eqb first place) apart))

pub no_marks : (marks : List Bool) (first place number : ℕ) → first ≡ place
    → get_or marks number false ≡ (get_or marks number false || not (first == place) && (first == number || place == number))
no_marks marks first place number same =
    sym (ap (λ b. get_or marks number false || not b && (first == number || place == number)) (eq-eqb first place same)
    ∙ or-false (get_or marks number false))

module _ {X : Type 0} (test : ℕ → X → Bool) where
  pub none-marked : (marks : List Bool) (n : ℕ) → marks ≡ replicate n false → Marked test [] marks
  none-marked marks n is place below =
      ap (λ (all : List Bool). get_or all place false) is
      ∙ get_or-replicate n place false false (omega (arith, ap length is, length-replicate n false, below))

  pub marked-more : (xs all : List X) (x : X) (old new : List Bool) → Marked test xs old → all ≡ xs ++ x ∷ [] → length new ≡ length old
      → ((number : ℕ) → number < length old → get_or new number false ≡ (get_or old number false || test number x))
      → Marked test all new
  marked-more xs all x old new marked more size now place below =
      let inside : place < length old = omega (arith, below, size) in
      now place inside ∙ ap (λ b. b || test place x) (marked place inside) ∙ sym (list_any-push (test place) xs x)
      ∙ ap (list_any (test place)) (sym more)
