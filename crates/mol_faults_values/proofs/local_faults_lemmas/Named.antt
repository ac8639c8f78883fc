-- Whether a name is among others.
use Rattle.std.proofs.Common.{◌≡◌, ℕ, suc, Bool, true, false, ◌||◌, if◌then◌else◌, List, [], ◌∷◌, ◌++◌, Option, Some, None, Contains, is_some, option_map, refl, sym, ap, ◌∙◌, subst, bytes_eq, append-nil}
use Rattle.std.specs.Bool.{Decides}
use Rattle.std.specs.List.{list_any}
use Rattle.std.specs.Option.{option_or}
use Rattle.std.proofs.lemmas.Bool.Decides.{same_from_decides, Decides-like}
use Rattle.std.proofs.lemmas.Slice.Eq.{bytes_eq-Decides}
use Rattle.jav_names.proofs.Lists.{list_any-decides}
use Rattle.jav_names.specs.DottedNames.{Name, Names}
use Rattle.jav_names.specs.LookUps.{last_place}
use Rattle.mol_spell_rules.specs.LocalClashes.{Scoped, declaring, then_next}

turned : (first second : Name) → bytes_eq first second ≡ bytes_eq second first
turned first second =
    same_from_decides (bytes_eq first second) (bytes_eq second first) (bytes_eq-Decides first second)
    (Decides-like (bytes_eq second first) (λ e. sym e) (λ e. sym e) (bytes_eq-Decides second first))

place-step : (further : Option ℕ) (here : Bool)
    → is_some (option_or (option_map (λ k. suc k) further) (if here then Some 0 else None)) ≡ (here || is_some further)
place-step None true = refl
place-step None false = refl
place-step (Some k) true = refl
place-step (Some k) false = refl

-- a name has a place where it is among the names
pub has-place : (name : Name) (names : Names) → is_some (last_place name names) ≡ list_any (bytes_eq name) names
has-place name [] = refl
has-place name (next ∷ names) =
    place-step (last_place name names) (bytes_eq next name) ∙ (λ i. turned next name i || has-place name names i)

pub among-decides : (name : Name) (names : Names) → Decides (list_any (bytes_eq name) names) (Contains names name)
among-decides name names =
    let tests = list_any-decides (λ (own : Name). name ≡ own) (bytes_eq name) (bytes_eq-Decides name) names in (
      λ is. let found = tests.0 is in subst (Contains names) (sym found.2) found.1,
      λ stands. tests.1 (name, stands, refl),
    )

-- ---- a name is declared

module _ (before : Scoped) (name : Name) (in_scope clashes : Names) (entered : in_scope ≡ before.in_scope ++ name ∷ []) where
  after : (b : Bool) → list_any (bytes_eq name) before.in_scope ≡ b
      → clashes ≡ before.clashes ++ (if b then name ∷ [] else [])
      → record { in_scope = in_scope; clashes = clashes } ≡ then_next before (declaring name)
  after b is noted = λ i. record {
    in_scope = entered i;
    clashes = (noted ∙ ap (λ (b : Bool). before.clashes ++ (if b then name ∷ [] else [])) (sym is)) i;
  }

  pub declared-again : list_any (bytes_eq name) before.in_scope ≡ true → clashes ≡ before.clashes ++ name ∷ []
      → record { in_scope = in_scope; clashes = clashes } ≡ then_next before (declaring name)
  declared-again is noted = after true is noted

  pub declared-once : list_any (bytes_eq name) before.in_scope ≡ false → clashes ≡ before.clashes
      → record { in_scope = in_scope; clashes = clashes } ≡ then_next before (declaring name)
  declared-once is noted = after false is (noted ∙ sym (append-nil before.clashes))
