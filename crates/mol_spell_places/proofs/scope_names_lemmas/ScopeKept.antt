-- What is kept beside the names in scope stands after each step.
use Rattle.std.proofs.Common.{◌≡◌, ◌⊎◌, inl, inr, ℕ, zero, suc, ◌-◌, ◌<◌, ◌≤◌, Bool, true, false, if◌then◌else◌, List, [], ◌∷◌, ◌++◌, length, take, Option, Some, None, IsSome, slice_get, refl, sym, ◌∙◌, ap, subst, arith, bytes_eq}
use Rattle.std.specs.Borrow.{Bor}
use Rattle.std.specs.Option.{option_flatten}
use Rattle.std.proofs.lemmas.Bool.{cases_lt}
use Rattle.std.proofs.lemmas.List.{length-map, length_push, map_push, take_at, take-append-le}
use Rattle.std.proofs.lemmas.Option.{none-some, same_Some, slice_get_within}
use Rattle.std.proofs.lemmas.Slice.Eq.{bytes_eq-Decides}
use Rattle.jav_names.specs.DottedNames.{Name, Names}
use Rattle.jav_names.specs.LookUps.{last_place}
use Rattle.mol_spell_places.specs.scope_names.Places.{entry_at, found_at}
use Rattle.mol_spell_places.specs.scope_names.Scopes.{names_in, AreNearest}
use Rattle.mol_spell_places.specs.declared.scope_names.scope.InScope.{InScope}
use Rattle.mol_spell_places.proofs.scope_names_lemmas.PlacesPushed.{last_place-push}

-- ---- places in lists

got-left : {X : Type 0} (xs : List X) (x : X) (k : ℕ) → k < length xs → slice_get (xs ++ x ∷ []) k ≡ slice_get xs k
got-left [] x k inside = absurd (omega arith)
got-left (y ∷ ys) x zero inside = refl
got-left (y ∷ ys) x (suc k) inside = got-left ys x k (omega arith)

got-last : {X : Type 0} (xs : List X) (x : X) → slice_get (xs ++ x ∷ []) (length xs) ≡ Some x
got-last [] x = refl
got-last (y ∷ ys) x = got-last ys x

-- ---- no name

pub nothing-nearest : AreNearest [] []
nothing-nearest = record { hidden = λ place local at. absurd (none-some local at); found = λ name. refl }

-- ---- one name further

module _ (in_scope : List InScope) (local : InScope) where
  abbrev more : List InScope
  more = in_scope ++ local ∷ []

  pub names-more : names_in more ≡ names_in in_scope ++ local.name.now ∷ []
  names-more = map_push (λ (l : InScope). l.name.now) in_scope local

  -- the last of them, or one before it
  last-more : (name : Name) → last_place name (names_in more)
      ≡ (if bytes_eq local.name.now name then Some (length in_scope) else last_place name (names_in in_scope))
  last-more name = ap (last_place name) names-more ∙ last_place-push name (names_in in_scope) local.name.now
      ∙ ap (λ n. if bytes_eq local.name.now name then Some n else last_place name (names_in in_scope))
      (length-map in_scope (λ (l : InScope). l.name.now))

  module _ (nearest newer : List (Bor Name × Option ℕ)) where
    abbrev Hid : ℕ → InScope → Type 0
    Hid place l = l.hidden ≡ last_place l.name.now (names_in (take place more))

    pub entered : AreNearest in_scope nearest → local.hidden ≡ found_at nearest local.name.now
        → ((name : Name) → found_at newer name ≡ (if bytes_eq local.name.now name then Some (length in_scope) else found_at nearest name))
        → AreNearest more newer
    entered old was now = record {
      hidden = λ place l at. hid place l at (cases_lt place (length in_scope));
      found = λ name. now name
          ∙ ap (λ (o : Option ℕ). if bytes_eq local.name.now name then Some (length in_scope) else o) (old.found name)
          ∙ sym (last-more name);
    } where
      hid : (place : ℕ) (l : InScope) → slice_get more place ≡ Some l → (place < length in_scope) ⊎ (length in_scope ≤ place)
          → Hid place l
      hid place l at (inl before) =
          old.hidden place l (sym (got-left in_scope local place before) ∙ at)
          ∙ ap (λ (front : List InScope). last_place l.name.now (names_in front))
          (sym (take-append-le place in_scope (local ∷ []) (omega arith)))
      hid place l at (inr last) =
          let is : place ≡ length in_scope = omega (arith, slice_get_within more place l at, length_push in_scope local) in
          let same : local ≡ l = same_Some local l (sym (got-last in_scope local) ∙ ap (λ k. slice_get more k) (sym is) ∙ at) in
          subst (λ (l : InScope). Hid place l) same
          (subst (λ k. Hid k local) (sym is)
          (was ∙ old.found local.name.now
          ∙ ap (λ (front : List InScope). last_place local.name.now (names_in front))
          (sym (take_at in_scope (local ∷ []) (length in_scope) refl))))

  -- ---- the last of them less

  module _ (nearest : List (Bor Name × Option ℕ)) (old : AreNearest more nearest) where
    abbrev name : Name
    name = local.name.now

    last-hidden : local.hidden ≡ last_place name (names_in in_scope)
    last-hidden = old.hidden (length in_scope) local (got-last in_scope local)
        ∙ ap (λ (front : List InScope). last_place name (names_in front)) (take_at in_scope (local ∷ []) (length in_scope) refl)

    pub last-known : IsSome (entry_at nearest name)
    last-known = by (entry_at nearest name) refl where
      same : bytes_eq name name ≡ true
      same = (bytes_eq-Decides name name).1 refl

      by : (found : Option (Option ℕ)) → entry_at nearest name ≡ found → IsSome found
      by None none = absurd (none-some (length in_scope) (sym (ap (λ (o : Option (Option ℕ)). option_flatten o) none)
          ∙ old.found name ∙ last-more name
          ∙ ap (λ (b : Bool). if b then Some (length in_scope) else last_place name (names_in in_scope)) same))
      by (Some found) there = refl

    pub left : (newer : List (Bor Name × Option ℕ))
        → ((asked : Name) → found_at newer asked ≡ (if bytes_eq name asked then local.hidden else found_at nearest asked))
        → AreNearest in_scope newer
    left newer now = record {
      hidden = λ place l at.
          let inside : place < length in_scope = slice_get_within in_scope place l at in
          old.hidden place l (got-left in_scope local place inside ∙ at)
          ∙ ap (λ (front : List InScope). last_place l.name.now (names_in front))
          (take-append-le place in_scope (local ∷ []) (omega arith));
      found = λ asked. now asked ∙ by asked (bytes_eq name asked) refl;
    } where
      by : (asked : Name) (b : Bool) → bytes_eq name asked ≡ b
          → (if b then local.hidden else found_at nearest asked) ≡ last_place asked (names_in in_scope)
      by asked true is = last-hidden
          ∙ ap (λ (known : Name). last_place known (names_in in_scope)) ((bytes_eq-Decides name asked).0 is)
      by asked false is = old.found asked ∙ last-more asked
          ∙ ap (λ (b : Bool). if b then Some (length in_scope) else last_place asked (names_in in_scope)) is

-- ---- the steps of the code, with what each knows

module _ (before after : List InScope) (nearest newer : List (Bor Name × Option ℕ)) where
  pub unchanged : AreNearest before nearest → after ≡ before → ((name : Name) → found_at newer name ≡ found_at nearest name)
      → AreNearest after newer
  unchanged old same now =
      subst (λ (scope : List InScope). AreNearest scope newer) (sym same)
      (record { hidden = old.hidden; found = λ name. now name ∙ old.found name })

  module _ (name : Bor Name) (hidden : Option ℕ) (pushed : after ≡ before ++ record { name = name; hidden = hidden } ∷ []) where
    abbrev local : InScope
    local = record { name = name; hidden = hidden }

    pub entered_names : names_in after ≡ names_in before ++ name.now ∷ []
    entered_names = ap names_in pushed ∙ names-more before local

    pub entered_stands : (place : ℕ) → AreNearest before nearest → place ≡ length before → hidden ≡ found_at nearest name.now
        → ((asked : Name) → found_at newer asked ≡ (if bytes_eq name.now asked then Some place else found_at nearest asked))
        → AreNearest after newer
    entered_stands place old next was now =
        subst (λ (scope : List InScope). AreNearest scope newer) (sym pushed)
        (entered before local nearest newer old was (λ asked. now asked
        ∙ ap (λ n. if bytes_eq name.now asked then Some n else found_at nearest asked) next))

module _ (before after : List InScope) (local : InScope) (nearest : List (Bor Name × Option ℕ))
    (old : AreNearest before nearest) (popped : before ≡ after ++ local ∷ []) where
  last : AreNearest (after ++ local ∷ []) nearest
  last = subst (λ (scope : List InScope). AreNearest scope nearest) popped old

  pub left_known : IsSome (entry_at nearest local.name.now)
  left_known = last-known after local nearest last

  pub left_stands : (newer : List (Bor Name × Option ℕ))
      → ((asked : Name) → found_at newer asked ≡ (if bytes_eq local.name.now asked then local.hidden else found_at nearest asked))
      → AreNearest after newer
  left_stands newer now = left after local nearest last newer now

  pub left_front : after ≡ take (length before - 1) before
  left_front =
      let shorter : length after ≡ length before - 1 = omega (arith, length_push after local, ap length popped) in
      sym (ap (take (length before - 1)) popped ∙ take_at after (local ∷ []) (length before - 1) shorter)

-- ---- as the list of names is seen

module _ (before after : List InScope) (seen : Names) (view : names_in before ≡ seen) where
  pub seen_entered : (name : Name) → names_in after ≡ names_in before ++ name ∷ [] → names_in after ≡ seen ++ name ∷ []
  seen_entered name pushed = pushed ∙ ap (λ (names : Names). names ++ name ∷ []) view

  pub seen_same : after ≡ before → names_in after ≡ seen
  seen_same same = ap names_in same ∙ view
