-- Lists as phrases: between commas, and each item by itself.
use Rattle.std.proofs.Common.{ℕ, max, List, [], ◌∷◌, ◌++◌, map, codes, refl, sym, ap, append_assoc}
use Rattle.mol_base.specs.Token.{Token}
use Rattle.jav_tree.specs.Lines.{listed}
use Rattle.jav_tree.specs.Tokens.{IsSymbol}
use Rattle.jav_print_laws.proofs.layout_lemmas.Derivations.{Made}
use Rattle.jav_print_laws.proofs.layout_lemmas.Phrases.{Phrase, Alone, alone, Then, both, makes, then, next_to, space}
use Rattle.jav_print_laws.proofs.layout_lemmas.Signs.{comma}

-- what holds of each item
abbrev pub ForEach : {X : Type 0} → (X → Type 0) → List X → Type 0
ForEach P [] = Unit {0}
ForEach P (x ∷ xs) = P x × ForEach P xs

-- Items, their trees but for what `plain` takes away, and their texts.
module _ {I X Y : Type 0} (plain : X → Y) (R : ℕ → X → List Token → Type 0) (L : ℕ → List X → List Token → Type 0)
    (last : (h : ℕ) (x : X) (ts : List Token) → R h x ts → L h (x ∷ []) ts)
    (more : (h k : ℕ) (comma_token : Token) (x : X) (xs : List X) (ts us : List Token) → R h x ts → IsSymbol "," comma_token → L k xs us → L (max h k) (x ∷ xs) (ts ++ comma_token ∷ us))
    (meant : I → Y) where
  only : (i : I) (ts : List Token) → Made plain R (meant i) ts → Made (map plain) L (meant i ∷ []) ts
  only i ts d = record { height = d.height; tree = d.tree ∷ []; derived = last _ _ _ d.derived; same = ap (λ y. y ∷ []) d.same }

  further : (i : I) (ys : List Y) (ts : List Token) → Then (Made plain R (meant i)) (Then (Alone (IsSymbol ",")) (Made (map plain) L ys)) ts → Made (map plain) L (meant i ∷ ys) ts
  further i ys _ (both _ _ d (both _ _ (alone t is) ds)) =
      record { height = max d.height ds.height; tree = d.tree ∷ ds.tree; derived = more _ _ _ _ _ _ _ d.derived is ds.derived; same = let a = d.same in let b = ds.same in cc }

  pub list_phrase : {May : ℕ → Type 0} (text : I → List ℕ) (i : I) (is : List I) → May 44 → ForEach (λ j. Phrase (Made plain R (meant j)) May (text j)) (i ∷ is)
      → Phrase (Made (map plain) L (map meant (i ∷ is))) May (listed (map text (i ∷ is)))
  list_phrase text i [] before_comma ps = makes ps.0 refl (only i)
  list_phrase text i (j ∷ is) before_comma ps =
      makes (then ps.0 (next_to comma (space (list_phrase text j is before_comma ps.1))) (λ n ok. before_comma)) (sym (append_assoc (text i) (codes ", ") (listed (map text (j ∷ is))))) (further i (map meant (j ∷ is)))
