-- The steps of the code, with what each knows.
use Rattle.std.proofs.Common.{◌≡◌, ℕ, ◌<◌, ◌-◌, if◌then◌else◌, List, [], ◌∷◌, ◌++◌, map, length, take, Option, Some, None, IsSome, is_some, get_or, refl, sym, ◌∙◌, ap, subst, arith}
use Rattle.std.specs.Map.{lookup}
use Rattle.std.specs.Str.{bytes_eq}
use Rattle.std.proofs.lemmas.List.{length-map, length_push, map_push, take_at, take-map}
use Rattle.jav_names.specs.DottedNames.{Name}
use Rattle.mol_resolve_rules.specs.Locals.{declare}
use Rattle.mol_resolve_readings.specs.locals.Scoped.{Scoped, local_of, locals_of, name_in, numbers, found_at, nearest_local, Stands}
use Rattle.mol_resolve_readings.specs.declared.locals.local.InScope.{InScope}
use Rattle.mol_resolve_readings.specs.declared.locals.local.Local.{Local}
use Rattle.mol_resolve_readings.proofs.locals_lemmas.NearestNames.{nearest_by}
use Rattle.mol_resolve_readings.proofs.locals_lemmas.ScopeKept.{declared-stands, nearest-declared, entered-stands, last-name, name-at, left-stands, last-inside, last-known}

-- what stands at a name is the nearest local of it
pub nearest-is : (declared : List Local) (in_scope : List InScope) (nearest : List (Name × Option ℕ)) (name : Name) (scoped : Scoped)
    → Stands declared in_scope nearest → ◌≡◌ {A = Scoped} (record { declared = declared; in_scope = numbers in_scope }) scoped
    → found_at nearest name ≡ nearest_local (locals_of scoped) name
nearest-is declared in_scope nearest name scoped stands is =
    stands.found name ∙ ap (λ (scoped : Scoped). nearest_local (locals_of scoped) name) is

-- the nearest local of a name was declared
pub nearest-inside : (declared : List Local) (in_scope : List InScope) (nearest : List (Name × Option ℕ)) (name : Name) (scoped : Scoped)
    → Stands declared in_scope nearest → ◌≡◌ {A = Scoped} (record { declared = declared; in_scope = numbers in_scope }) scoped
    → (n : ℕ) → nearest_local (locals_of scoped) name ≡ Some n → n < length scoped.declared
nearest-inside declared in_scope nearest name scoped stands is n found =
    subst (λ (scoped : Scoped). nearest_local (locals_of scoped) name ≡ Some n → n < length scoped.declared) is
    (nearest-declared declared in_scope name n stands.inside) found

-- ---- a local more

module _ (declared all : List Local) (before after : List InScope) (nearest newer : List (Name × Option ℕ)) where
  pub unchanged : Stands declared before nearest → all ≡ declared → after ≡ before
      → ((name : Name) → found_at newer name ≡ found_at nearest name) → Stands all after newer
  unchanged old same kept now =
      subst (λ (locals : List Local). Stands locals after newer) (sym same)
      (subst (λ (scope : List InScope). Stands declared scope newer) (sym kept)
      (record { inside = old.inside; hidden = old.hidden; found = λ name. now name ∙ old.found name }))

  pub entered : (local : Local) (number : ℕ) (hidden : Option ℕ) (name : Name) → Stands declared before nearest
      → number ≡ length declared → name ≡ local.name → hidden ≡ found_at nearest name
      → all ≡ declared ++ local ∷ [] → after ≡ before ++ record { number = number; hidden = hidden } ∷ []
      → ((asked : Name) → found_at newer asked ≡ (if bytes_eq name asked then Some number else found_at nearest asked))
      → Stands all after newer
  entered local number hidden name old next named was more pushed now =
      let names : ℕ → Name = name_in (declared ++ local ∷ []) in
      let stands : Stands (declared ++ local ∷ []) before nearest = declared-stands declared before nearest local old in
      let known : name ≡ names number = named ∙ sym (ap names next ∙ last-name declared local) in
      subst (λ (locals : List Local). Stands locals after newer) (sym more)
      (subst (λ (scope : List InScope). Stands (declared ++ local ∷ []) scope newer) (sym pushed)
      (entered-stands (declared ++ local ∷ []) before number hidden nearest newer stands (omega (arith, length_push declared local, next))
      (was ∙ stands.found name ∙ ap (λ (known : Name). nearest_by names (numbers before) known) known)
      (λ asked. subst (λ (known : Name). found_at newer asked
      ≡ (if bytes_eq known asked then Some number else found_at nearest asked)) known (now asked))))

pub entered_numbers : (declared : List Local) (before after : List InScope) (number : ℕ) (hidden : Option ℕ) → number ≡ length declared
    → after ≡ before ++ record { number = number; hidden = hidden } ∷ [] → numbers after ≡ numbers before ++ length declared ∷ []
entered_numbers declared before after number hidden next pushed =
    ap numbers pushed ∙ map_push (λ (l : InScope). l.number) before (record { number = number; hidden = hidden })
    ∙ ap (λ n. numbers before ++ n ∷ []) next

pub declares : (declared all : List Local) (before after : List InScope) (local : Local)
    → (all ≡ declared ++ local ∷ []) × (numbers after ≡ numbers before ++ length declared ∷ [])
    → locals_of (record { declared = all; in_scope = numbers after })
    ≡ declare (local_of local) (locals_of (record { declared = declared; in_scope = numbers before }))
declares declared all before after local (more, scope) =
    let each : map local_of all ≡ map local_of declared ++ local_of local ∷ [] =
    ap (map local_of) more ∙ map_push local_of declared local in
    let last : numbers after ≡ numbers before ++ length (map local_of declared) ∷ [] =
    scope ∙ ap (λ n. numbers before ++ n ∷ []) (sym (length-map declared local_of)) in
    λ i. record { declared = each i; in_scope = last i }

pub same_scope : (declared all : List Local) (before after : List InScope) → (all ≡ declared) × (after ≡ before)
    → ◌≡◌ {A = Scoped} (record { declared = all; in_scope = numbers after }) (record { declared = declared; in_scope = numbers before })
same_scope declared all before after (same, kept) = λ i. record { declared = same i; in_scope = numbers (kept i) }

-- ---- the last of them less

module _ (declared : List Local) (before after : List InScope) (local : InScope) (nearest : List (Name × Option ℕ))
    (old : Stands declared before nearest) (popped : before ≡ after ++ local ∷ []) where
  last : Stands declared (after ++ local ∷ []) nearest
  last = subst (λ (all : List InScope). Stands declared all nearest) popped old

  pub left_inside : local.number < length declared
  left_inside = last-inside declared after local nearest last

  -- what is read of it where its number stands
  module _ (known : Local) (is : known ≡ get_or declared local.number known) where
    named : (get_or declared local.number known).name ≡ name_in declared local.number
    named = sym (name-at declared local.number known left_inside is ∙ ap (λ (read : Local). read.name) is)

    pub left_known : IsSome (lookup (bytes_eq (get_or declared local.number known).name) nearest)
    left_known = by (lookup (bytes_eq (get_or declared local.number known).name) nearest) refl where
      by : (found : Option (Option ℕ)) → lookup (bytes_eq (get_or declared local.number known).name) nearest ≡ found
          → IsSome (lookup (bytes_eq (get_or declared local.number known).name) nearest)
      by None none = absurd (last-known declared after local nearest last
          (subst (λ (name : Name). lookup (bytes_eq name) nearest ≡ None) named none))
      by (Some found) there = ap is_some there

    pub left : (newer : List (Name × Option ℕ))
        → ((asked : Name) → found_at newer asked
        ≡ (if bytes_eq (get_or declared local.number known).name asked then local.hidden else found_at nearest asked))
        → Stands declared after newer
    left newer now = left-stands declared after local nearest last newer
        (λ asked. subst (λ (name : Name). found_at newer asked
        ≡ (if bytes_eq name asked then local.hidden else found_at nearest asked)) named (now asked))

-- those that were first are left
abbrev kept : ℕ → Scoped → Scoped
kept mark scoped = record { declared = scoped.declared; in_scope = take mark scoped.in_scope }

pub fewer : (declared : List Local) (before after : List InScope) (mark : ℕ) (old : Scoped) → after ≡ take mark before
    → ◌≡◌ {A = Scoped} (record { declared = declared; in_scope = numbers before }) old
    → ◌≡◌ {A = Scoped} (record { declared = declared; in_scope = numbers after }) (kept mark old)
fewer declared before after mark old left is =
    let scope : numbers after ≡ take mark (numbers before) = ap numbers left ∙ sym (take-map (λ (l : InScope). l.number) mark before) in
    let here : ◌≡◌ {A = Scoped} (record { declared = declared; in_scope = numbers after })
    (record { declared = declared; in_scope = take mark (numbers before) }) = λ i. record { declared = declared; in_scope = scope i } in
    here ∙ ap (kept mark) is

pub left_front : (before after : List InScope) (local : InScope) → before ≡ after ++ local ∷ [] → after ≡ take (length before - 1) before
left_front before after local popped =
    let shorter : length after ≡ length before - 1 = omega (arith, length_push after local, ap length popped) in
    sym (ap (take (length before - 1)) popped ∙ take_at after (local ∷ []) (length before - 1) shorter)
