-- What is kept beside the locals stands after each step.
use Rattle.std.proofs.Common.{◌≡◌, ◌⊎◌, inl, inr, ℕ, zero, suc, get_or, option_map, ◌<◌, ◌≤◌, Bool, true, false, if◌then◌else◌, List, [], ◌∷◌, ◌++◌, map, length, take, Option, Some, None, refl, sym, ◌∙◌, ap, subst, arith}
use Rattle.std.specs.List.{slice_get, All}
use Rattle.std.specs.Map.{lookup}
use Rattle.std.specs.Option.{option_and_then, option_flatten, option_map_or}
use Rattle.std.specs.Str.{bytes_eq}
use Rattle.std.proofs.lemmas.List.{length-map, length_push, map_push, take_at, take-append-le}
use Rattle.std.proofs.lemmas.List.Elements.{All-get_or, All-map, All-nil, All-pop, All-push, All-take, All-weaker}
use Rattle.std.proofs.lemmas.Option.{get_or_from_slice_get, none-some, same_Some, slice_get-map, slice_get_read, slice_get_within}
use Rattle.std.proofs.lemmas.Bool.{cases_lt}
use Rattle.std.proofs.lemmas.Slice.Eq.{bytes_eq-Decides}
use Rattle.jav_names.specs.DottedNames.{Name}
use Rattle.jav_names.specs.LookUps.{last_place}
use Rattle.mol_resolve_rules.specs.Locals as spell
use Rattle.mol_resolve_readings.specs.locals.Scoped.{local_of, name_in, numbers, found_at, Stands}
use Rattle.mol_resolve_readings.specs.declared.locals.local.InScope.{InScope}
use Rattle.mol_resolve_readings.specs.declared.locals.local.Local.{Local}
use Rattle.mol_resolve_readings.proofs.locals_lemmas.NearestNames.{nearest_by, nearest-push, nearest-same}

-- ---- places in lists

pub got-left : {X : Type 0} (xs : List X) (x : X) (k : ℕ) → k < length xs → slice_get (xs ++ x ∷ []) k ≡ slice_get xs k
got-left [] x k inside = absurd (omega arith)
got-left (y ∷ ys) x zero inside = refl
got-left (y ∷ ys) x (suc k) inside = got-left ys x k (omega arith)

got-last : {X : Type 0} (xs : List X) (x : X) → slice_get (xs ++ x ∷ []) (length xs) ≡ Some x
got-last [] x = refl
got-last (y ∷ ys) x = got-last ys x

all-at : {X : Type 0} (P : X → Type 0) (xs : List X) (k : ℕ) (x : X) → slice_get xs k ≡ Some x → All P xs → P x
all-at P xs k x is all =
    subst P (get_or_from_slice_get xs k x x is) (All-get_or P xs k x (slice_get_within xs k x is) all)

-- ---- names

-- the name of a number, where the local of that stands
pub name-at : (declared : List Local) (number : ℕ) (local : Local) → number < length declared → local ≡ get_or declared number local
    → name_in declared number ≡ local.name
name-at declared number local inside is =
    ap (λ (found : Option (spell.Local ℕ)). option_map_or (λ (known : spell.Local ℕ). known.name) found [])
    (slice_get-map local_of declared number
    ∙ ap (λ (found : Option Local). option_map local_of found) (slice_get_read declared (length declared) number local refl inside is))

name-kept : (declared : List Local) (local : Local) (number : ℕ) → number < length declared
    → name_in (declared ++ local ∷ []) number ≡ name_in declared number
name-kept declared local number inside =
    let mapped : number < length (map local_of declared) = rw (length-map declared local_of) inside in
    ap (λ (found : Option (spell.Local ℕ)). option_map_or (λ (known : spell.Local ℕ). known.name) found [])
    (ap (λ (locals : List (spell.Local ℕ)). slice_get locals number) (map_push local_of declared local)
    ∙ got-left (map local_of declared) (local_of local) number mapped)

names-kept : (declared : List Local) (local : Local) (in_scope : List InScope) → All (λ l. l.number < length declared) in_scope
    → All (λ n. name_in (declared ++ local ∷ []) n ≡ name_in declared n) (numbers in_scope)
names-kept declared local in_scope inside =
    All-map (λ n. name_in (declared ++ local ∷ []) n ≡ name_in declared n) (λ l. l.number) in_scope
    (All-weaker (λ l. l.number < length declared) (λ l. name_in (declared ++ local ∷ []) l.number ≡ name_in declared l.number)
    (λ l there. name-kept declared local l.number there) in_scope inside)

-- the name of the one that was declared last
pub last-name : (declared : List Local) (local : Local) → name_in (declared ++ local ∷ []) (length declared) ≡ local.name
last-name declared local =
    ap (λ (found : Option (spell.Local ℕ)). option_map_or (λ (known : spell.Local ℕ). known.name) found [])
    (ap (λ (locals : List (spell.Local ℕ)). slice_get locals (length declared)) (map_push local_of declared local)
    ∙ ap (λ k. slice_get (map local_of declared ++ local_of local ∷ []) k) (sym (length-map declared local_of))
    ∙ got-last (map local_of declared) (local_of local))

-- the nearest local of a name was declared
pub nearest-declared : (declared : List Local) (in_scope : List InScope) (name : Name) (n : ℕ)
    → All (λ l. l.number < length declared) in_scope → nearest_by (name_in declared) (numbers in_scope) name ≡ Some n
    → n < length declared
nearest-declared declared in_scope name n inside = by (last_place name (map (name_in declared) (numbers in_scope))) where
  by : (place : Option ℕ) → option_and_then (slice_get (numbers in_scope)) place ≡ Some n → n < length declared
  by None none = absurd cc
  by (Some k) at =
      all-at (λ n. n < length declared) (numbers in_scope) k n at
      (All-map (λ n. n < length declared) (λ l. l.number) in_scope inside)

-- ---- steps

pub nothing-stands : Stands [] [] []
nothing-stands = record {
  inside = All-nil (λ (local : InScope). local.number < 0);
  hidden = λ place local at. absurd (none-some local at);
  found = λ name. refl;
}

-- one more local is declared, and not in scope yet
pub declared-stands : (declared : List Local) (in_scope : List InScope) (nearest : List (Name × Option ℕ)) (local : Local)
    → Stands declared in_scope nearest → Stands (declared ++ local ∷ []) in_scope nearest
declared-stands declared in_scope nearest local old = record {
  inside = All-weaker (λ (l : InScope). l.number < length declared) (λ (l : InScope). l.number < length (declared ++ local ∷ []))
      (λ l there. omega (arith, length_push declared local)) in_scope old.inside;
  hidden = λ place l at.
      let inside : l.number < length declared = all-at (λ (l : InScope). l.number < length declared) in_scope place l at old.inside in
      let front = take place in_scope in
      old.hidden place l at
      ∙ sym (nearest-same (name_in (declared ++ local ∷ [])) (name_in declared) (numbers front) (name_in declared l.number)
      (names-kept declared local front (All-take (λ (l : InScope). l.number < length declared) place in_scope old.inside)))
      ∙ ap (λ (name : Name). nearest_by (name_in (declared ++ local ∷ [])) (numbers front) name)
      (sym (name-kept declared local l.number inside));
  found = λ name. old.found name
      ∙ sym (nearest-same (name_in (declared ++ local ∷ [])) (name_in declared) (numbers in_scope) name
      (names-kept declared local in_scope old.inside));
}

-- one more is in scope
module _ (declared : List Local) (in_scope : List InScope) (number : ℕ) (hidden : Option ℕ) where
  abbrev local : InScope
  local = record { number = number; hidden = hidden }

  abbrev more : List InScope
  more = in_scope ++ local ∷ []

  abbrev Hid : ℕ → InScope → Type 0
  Hid place l = l.hidden ≡ nearest_by (name_in declared) (numbers (take place more)) (name_in declared l.number)

  hid : (nearest : List (Name × Option ℕ)) → Stands declared in_scope nearest
      → hidden ≡ nearest_by (name_in declared) (numbers in_scope) (name_in declared number)
      → (place : ℕ) (l : InScope) → slice_get more place ≡ Some l → (place < length in_scope) ⊎ (length in_scope ≤ place) → Hid place l
  hid nearest old was place l at (inl before) =
      old.hidden place l (sym (got-left in_scope local place before) ∙ at)
      ∙ ap (λ (front : List InScope). nearest_by (name_in declared) (numbers front) (name_in declared l.number))
      (sym (take-append-le place in_scope (local ∷ []) (omega arith)))
  hid nearest old was place l at (inr last) =
      let is : place ≡ length in_scope = omega (arith, slice_get_within more place l at, length_push in_scope local) in
      let same : local ≡ l = same_Some local l (sym (got-last in_scope local) ∙ ap (λ k. slice_get more k) (sym is) ∙ at) in
      subst (λ (l : InScope). Hid place l) same
      (subst (λ k. Hid k local) (sym is)
      (was ∙ ap (λ (front : List InScope). nearest_by (name_in declared) (numbers front) (name_in declared number))
      (sym (take_at in_scope (local ∷ []) (length in_scope) refl))))

  pub entered-stands : (nearest newer : List (Name × Option ℕ)) → Stands declared in_scope nearest → number < length declared
      → hidden ≡ nearest_by (name_in declared) (numbers in_scope) (name_in declared number)
      → ((name : Name) → found_at newer name ≡ (if bytes_eq (name_in declared number) name then Some number else found_at nearest name))
      → Stands declared more newer
  entered-stands nearest newer old inside was now = record {
    inside = All-push (λ (l : InScope). l.number < length declared) in_scope local old.inside inside;
    hidden = λ place l at. hid nearest old was place l at (cases_lt place (length in_scope));
    found = λ name. now name
        ∙ ap (λ (o : Option ℕ). if bytes_eq (name_in declared number) name then Some number else o) (old.found name)
        ∙ sym (nearest-push (name_in declared) (numbers in_scope) number name)
        ∙ ap (λ (all : List ℕ). nearest_by (name_in declared) all name) (sym (map_push (λ (l : InScope). l.number) in_scope local));
  }

-- the last leaves the scope
module _ (declared : List Local) (in_scope : List InScope) (local : InScope) (nearest : List (Name × Option ℕ))
    (old : Stands declared (in_scope ++ local ∷ []) nearest) where
  abbrev name_of : Name
  name_of = name_in declared local.number

  parts : All (λ (l : InScope). l.number < length declared) in_scope × (local.number < length declared)
  parts = All-pop (λ (l : InScope). l.number < length declared) (in_scope ++ local ∷ []) in_scope (Some local) refl old.inside

  pub last-inside : local.number < length declared
  last-inside = parts.1

  last-found : (name : Name)
      → found_at nearest name ≡ (if bytes_eq name_of name then Some local.number else nearest_by (name_in declared) (numbers in_scope) name)
  last-found name = old.found name
      ∙ ap (λ (all : List ℕ). nearest_by (name_in declared) all name) (map_push (λ (l : InScope). l.number) in_scope local)
      ∙ nearest-push (name_in declared) (numbers in_scope) local.number name

  last-hidden : local.hidden ≡ nearest_by (name_in declared) (numbers in_scope) name_of
  last-hidden = old.hidden (length in_scope) local (got-last in_scope local)
      ∙ ap (λ (front : List InScope). nearest_by (name_in declared) (numbers front) name_of)
      (take_at in_scope (local ∷ []) (length in_scope) refl)

  -- its name is among those that are known
  pub last-known : lookup (bytes_eq name_of) nearest ≡ None → ⊥
  last-known none =
      let same : bytes_eq name_of name_of ≡ true = (bytes_eq-Decides name_of name_of).1 refl in
      none-some local.number (sym (ap (λ (o : Option (Option ℕ)). option_flatten o) none) ∙ last-found name_of
      ∙ ap (λ (b : Bool). if b then Some local.number else nearest_by (name_in declared) (numbers in_scope) name_of) same)

  pub left-stands : (newer : List (Name × Option ℕ))
      → ((name : Name) → found_at newer name ≡ (if bytes_eq name_of name then local.hidden else found_at nearest name))
      → Stands declared in_scope newer
  left-stands newer now = record {
    inside = parts.0;
    hidden = λ place l at.
        let inside : place < length in_scope = slice_get_within in_scope place l at in
        old.hidden place l (got-left in_scope local place inside ∙ at)
        ∙ ap (λ (front : List InScope). nearest_by (name_in declared) (numbers front) (name_in declared l.number))
        (take-append-le place in_scope (local ∷ []) (omega arith));
    found = λ name. now name ∙ by name (bytes_eq name_of name) refl;
  } where
    by : (name : Name) (b : Bool) → bytes_eq name_of name ≡ b
        → (if b then local.hidden else found_at nearest name) ≡ nearest_by (name_in declared) (numbers in_scope) name
    by name true is = last-hidden
        ∙ ap (λ (known : Name). nearest_by (name_in declared) (numbers in_scope) known) ((bytes_eq-Decides name_of name).0 is)
    by name false is = last-found name
        ∙ ap (λ (b : Bool). if b then Some local.number else nearest_by (name_in declared) (numbers in_scope) name) is
