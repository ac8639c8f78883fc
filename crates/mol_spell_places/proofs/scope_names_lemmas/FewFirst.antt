-- Names that are gone through, and those that follow them.
use Rattle.std.proofs.Common.{◌≡◌, ℕ, zero, suc, ◌+◌, ◌-◌, ◌<◌, ◌≤◌, Bool, true, false, if◌then◌else◌, List, [], ◌∷◌, ◌++◌, length, take, get_or, Option, Some, None, option_map, refl, sym, ◌∙◌, ap, arith, bytes_eq}
use Rattle.std.specs.Borrow.{Bor}
use Rattle.std.specs.Option.{option_or, IfSome}
use Rattle.std.proofs.lemmas.List.{length-map, length-take-le, map_push, take_more, take-map}
use Rattle.std.proofs.lemmas.Option.{none-some, same_Some}
use Rattle.jav_names.specs.DottedNames.{Name, Names}
use Rattle.jav_names.specs.LookUps.{last_place}
use Rattle.mol_spell_places.specs.scope_names.Few.{names_of}
use Rattle.mol_spell_places.proofs.scope_names_lemmas.PlacesPushed.{last_place-push}

-- ---- the last place of a name among names that follow others

later-step : (many : ℕ) (later before here : Option ℕ)
    → option_or (option_map (λ k. suc k) (option_or (option_map (λ k. many + k) later) before)) here
    ≡ option_or (option_map (λ k. suc many + k) later) (option_or (option_map (λ k. suc k) before) here)
later-step many (Some k) before here = ap (λ n. Some n) (omega arith)
later-step many None before here = refl

last-later : (name : Name) (former latter : Names) → last_place name (former ++ latter)
    ≡ option_or (option_map (λ k. length former + k) (last_place name latter)) (last_place name former)
last-later name [] latter = by (last_place name latter) where
  by : (o : Option ℕ) → o ≡ option_or (option_map (λ k. 0 + k) o) None
  by None = refl
  by (Some k) = ap (λ n. Some n) (omega arith)
last-later name (first ∷ former) latter =
    ap (λ (o : Option ℕ). option_or (option_map (λ k. suc k) o) (if bytes_eq first name then Some 0 else None))
    (last-later name former latter)
    ∙ later-step (length former) (last_place name latter) (last_place name former) (if bytes_eq first name then Some 0 else None)

module _ (few : List (Bor Name)) (more : Names) (name : Name) where
  many : length (names_of few) ≡ length few
  many = length-map few (λ (known : Bor Name). known.now)

  -- one that follows
  pub last-in-more : (place : ℕ) → last_place name more ≡ Some place → Some (length few + place) ≡ last_place name (names_of few ++ more)
  last-in-more place is = sym (last-later name (names_of few) more
      ∙ (λ i. option_or (option_map (λ k. many i + k) (is i)) (last_place name (names_of few))))

  -- none follows
  pub last-in-few : last_place name more ≡ None → last_place name (names_of few) ≡ last_place name (names_of few ++ more)
  last-in-few none = sym (last-later name (names_of few) more
      ∙ ap (λ (o : Option ℕ). option_or (option_map (λ k. length (names_of few) + k) o) (last_place name (names_of few))) none)

-- ---- the first names of all

take-both : {X : Type 0} (n : ℕ) (former latter : List X)
    → take n former ++ take (n - length former) latter ≡ take n (former ++ latter)
take-both zero [] latter = let same : zero - zero ≡ zero = omega arith in ap (λ k. take k latter) same
take-both (suc n) [] latter = let same : suc n - zero ≡ suc n = omega arith in ap (λ k. take k latter) same
take-both zero (x ∷ former) latter = let none : zero - suc (length former) ≡ zero = omega arith in ap (λ k. take k latter) none
take-both (suc n) (x ∷ former) latter =
    let less : suc n - suc (length former) ≡ n - length former = omega arith in
    ap (λ rest. x ∷ rest) (ap (λ k. take n former ++ take k latter) less ∙ take-both n former latter)

pub taken : (few : List (Bor Name)) (more : Names) (mark : ℕ)
    → names_of (take mark few) ++ take (mark - length few) more ≡ take mark (names_of few ++ more)
taken few more mark =
    (λ i. sym (take-map (λ (known : Bor Name). known.now) mark few) i
    ++ take (mark - sym (length-map few (λ (known : Bor Name). known.now)) i) more)
    ∙ take-both mark (names_of few) more

-- ---- one name further

module _ (names : List (Bor Name)) (place : ℕ) (within : place < length names) (default : Bor Name) where
  abbrev known : Bor Name
  known = get_or names place default

  so-many : length (names_of (take place names)) ≡ place
  so-many = length-map (take place names) (λ (name : Bor Name). name.now) ∙ length-take-le place names (omega (arith, within))

  names-more : names_of (take (place + 1) names) ≡ names_of (take place names) ++ known.now ∷ []
  names-more = ap names_of (take_more names place default within)
      ∙ map_push (λ (name : Bor Name). name.now) (take place names) known

  pub one-more : (name : Name) → last_place name (names_of (take (place + 1) names))
      ≡ (if bytes_eq known.now name then Some place else last_place name (names_of (take place names)))
  one-more name = ap (last_place name) names-more ∙ last_place-push name (names_of (take place names)) known.now
      ∙ ap (λ n. if bytes_eq known.now name then Some n else last_place name (names_of (take place names))) so-many

-- ---- how far a place may be

last-inside : (name : Name) (names : Names) (place : ℕ) → last_place name names ≡ Some place → place < length names
last-inside name [] place is = absurd (none-some place is)
last-inside name (next ∷ rest) place is = by (last_place name rest) (bytes_eq next name) is (last-inside name rest) where
  by : (later : Option ℕ) (here : Bool)
      → option_or (option_map (λ k. suc k) later) (if here then Some 0 else None) ≡ Some place
      → ((k : ℕ) → later ≡ Some k → k < length rest) → place < suc (length rest)
  by (Some k) here is inside = omega (arith, inside k refl, same_Some (suc k) place is)
  by None true is inside = omega (arith, same_Some 0 place is)
  by None false is inside = absurd (none-some place is)

pub last-small : (name : Name) (names : Names) (found : Option ℕ) (many : ℕ) → found ≡ last_place name names → length names ≤ many
    → IfSome found (λ place. place < many)
last-small name names None many is within = tt
last-small name names (Some place) many is within = omega (arith, last-inside name names place (sym is))
