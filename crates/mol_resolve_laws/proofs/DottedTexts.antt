-- Names with dots between them, as texts that are split and as texts that are cut.
use Rattle.std.proofs.Common.{◌≡◌, ◌⊎◌, inl, inr, Bool, true, false, cond, ◌==◌, List, [], ◌∷◌, All, Contains, refl, sym, ◌∙◌, ap, subst, true≢false, eq-eqb}
use Rattle.std.specs.List.{list_all, slice_split, onto_first}
use Rattle.std.proofs.lemmas.List.Elements.{All-nil, All-cons, All-head, All-tail}
use Rattle.jav_names.proofs.CutNames.{names_cut}
use Rattle.jav_names.proofs.Lists.{stands_where, stands_nowhere}
use Rattle.jav_names.specs.DottedNames.{Name, Names, dot, HasNoDot, joined, Dotted, cut}
use Rattle.mol_values_types.specs.TokenForms.{is_name, is_dotted}
use Rattle.mol_resolve_laws.proofs.Tests.{last-of}

-- a text is split into the names that it is cut into
pub split-cut : (text : Name) → slice_split (λ byte. byte == 46) text ≡ (cut text).first ∷ (cut text).rest
split-cut [] = refl
split-cut (byte ∷ text) = by (byte == 46) (cut text) (split-cut text) where
  by : (b : Bool) (c : Dotted) → slice_split (λ byte. byte == 46) text ≡ c.first ∷ c.rest
      → cond b ([] ∷ slice_split (λ byte. byte == 46) text) (onto_first byte (slice_split (λ byte. byte == 46) text))
      ≡ (cond {A = Dotted} b (record { first = []; rest = c.first ∷ c.rest }) (record { first = byte ∷ c.first; rest = c.rest })).first
      ∷ (cond {A = Dotted} b (record { first = []; rest = c.first ∷ c.rest }) (record { first = byte ∷ c.first; rest = c.rest })).rest
  by true c is = ap (λ (l : List Name). [] ∷ l) is
  by false c is = ap (onto_first byte) is

-- none of these has a dot
no_dots : (text : Name) → HasNoDot (cut text).first × All HasNoDot (cut text).rest
no_dots [] = (λ h. stands_nowhere dot h, All-nil HasNoDot)
no_dots (byte ∷ text) = by (byte == dot) refl (cut text) (no_dots text) where
  apart : (byte == dot) ≡ false → (c : Dotted) → HasNoDot c.first → HasNoDot (byte ∷ c.first)
  apart differs c none h = at (stands_where byte dot c.first h) where
    at : (byte ≡ dot) ⊎ Contains c.first dot → ⊥
    at (inl same) = true≢false (sym (eq-eqb byte dot same) ∙ differs)
    at (inr later) = none later

  by : (b : Bool) → (byte == dot) ≡ b → (c : Dotted) → HasNoDot c.first × All HasNoDot c.rest
      → HasNoDot (cond {A = Dotted} b (record { first = []; rest = c.first ∷ c.rest })
      (record { first = byte ∷ c.first; rest = c.rest })).first
      × All HasNoDot (cond {A = Dotted} b (record { first = []; rest = c.first ∷ c.rest })
      (record { first = byte ∷ c.first; rest = c.rest })).rest
  by true is c none = (λ h. stands_nowhere dot h, All-cons HasNoDot c.first c.rest none.0 none.1)
  by false is c none = (apart is c none.0, none.1)

pub dotted-pieces : (text : Name) → is_dotted text ≡ list_all is_name ((cut text).first ∷ (cut text).rest)
dotted-pieces text = ap (list_all is_name) (split-cut text)

-- what follows the first dot of names with dots is names with dots
pub dotted-rest : (text next : Name) (rest : Names) → is_dotted text ≡ true → (cut text).rest ≡ next ∷ rest
    → is_dotted (joined next rest) ≡ true
dotted-rest text next rest dotted is =
    let names : list_all is_name (next ∷ rest) ≡ true
    = ap (list_all is_name) (sym is) ∙ last-of (is_name (cut text).first) (list_all is_name (cut text).rest)
    (sym (dotted-pieces text) ∙ dotted) in
    let none : All HasNoDot (next ∷ rest) = subst (All HasNoDot) is (no_dots text).1 in
    let pieces = names_cut.parts next rest (All-head HasNoDot next rest none) (All-tail HasNoDot next rest none) in
    dotted-pieces (joined next rest) ∙ ap (λ (c : Dotted). list_all is_name (c.first ∷ c.rest)) pieces ∙ names
