-- Cutting a text at its dots, and joining names by dots.
use Rattle.std.proofs.Common.{◌≡◌, ℕ, Bool, true, false, ◌==◌, [], ◌∷◌, ◌++◌, All, Contains, refl, sym, ◌∙◌, ap, eqb-true, ne_eqb, append-nil}
use Rattle.std.proofs.lemmas.List.Elements.{All-head, All-tail}
use Rattle.jav_names.specs.DottedNames.{Name, Names, dot, HasNoDot, joined, Dotted, put_before, cut}
use Rattle.jav_names.specs.Laws.{NamesCut}
use Rattle.jav_names.proofs.Lists.{stands_first, stands_later}

-- one more byte goes to the first name
joined-byte : (byte : ℕ) (first : Name) (rest : Names) → joined (byte ∷ first) rest ≡ byte ∷ joined first rest
joined-byte byte first [] = refl
joined-byte byte first (next ∷ rest) = refl

whole : (text : Name) → joined (cut text).first (cut text).rest ≡ text
whole [] = refl
whole (byte ∷ text) = by_test (byte == dot) refl (cut text) (whole text) where
  by_test : (b : Bool) → (byte == dot) ≡ b → (c : Dotted) → joined c.first c.rest ≡ text
      → joined (put_before byte c).first (put_before byte c).rest ≡ byte ∷ text
  by_test true is c same = rw is (ap (λ t. dot ∷ t) same ∙ ap (λ x. x ∷ text) (sym (eqb-true byte dot is)))
  by_test false is c same = rw is (joined-byte byte c.first c.rest ∙ ap (λ t. byte ∷ t) same)

-- bytes that are no dots go to the first name of what follows them
cut-name : (name text : Name) → HasNoDot name → cut (name ++ text) ≡ record { first = name ++ (cut text).first; rest = (cut text).rest }
cut-name [] text none = refl
cut-name (byte ∷ name) text none =
    let differs : (byte == dot) ≡ false = ne_eqb byte dot (λ same. none (stood same)) in
    rw (cut-name name text (λ h. none (stands_later byte dot name h)), differs) refl where
      stood : byte ≡ dot → Contains (byte ∷ name) dot
      stood same = rw (sym same) (stands_first byte name)

parts : (first : Name) (rest : Names) → HasNoDot first → All HasNoDot rest → cut (joined first rest) ≡ record { first = first; rest = rest }
parts first [] none each = ap cut (sym (append-nil first)) ∙ cut-name first [] none
    ∙ ap (λ (name : Name). record { first = name; rest = [] }) (append-nil first)
parts first (next ∷ rest) none each =
    cut-name first (dot ∷ joined next rest) none
    ∙ (rw (parts next rest (All-head HasNoDot next rest each) (All-tail HasNoDot next rest each), append-nil first) refl)

pub names_cut : NamesCut
names_cut = record { whole = whole; parts = parts }
