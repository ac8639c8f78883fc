-- What is kept of the faults of a member beside others: whether there is one of each kind is all that counts.
use Rattle.std.proofs.Common.{◌≡◌, ◌⊎◌, inl, inr, ℕ, Bool, true, false, ◌||◌, List, [], ◌∷◌, filter, flat_map, cond, Contains, Option, refl, sym, ◌∙◌, ap, subst, true≢false}
use Rattle.std.specs.List.{list_any}
use Rattle.jav_names.proofs.Lists.{stands_first, stands_later, stands_where, stands_nowhere, stands-mapped}
use Rattle.mol_resolve_faults.specs.First.{noted, all_noted}
use Rattle.mol_resolve_faults.proofs.SameFaults.{kept_alike}
use Rattle.mol_resolve_rules.specs.FaultKinds.{FaultKind, every_kind, path_differs, duplicate_class, package_is_class, super_cycle, import_clash, redeclared, unknown_name, unknown_member, static_by_instance, receiver_type}
use Rattle.mol_resolve_rules.specs.FaultLists.{is_between, at_place, faults_between, faults_beside}
use Rattle.mol_resolve_rules.specs.Files.{Files, files_view}
use Rattle.mol_resolve_rules.specs.MemberFaults.{Row}
use Rattle.mol_resolve_rules.specs.Outcomes.{TreeFault}
use Rattle.mol_resolve_rules.specs.ResolveFaults.{rows}
use Rattle.mol_resolve_rules.proofs.Stands.{from_map, in_each, from_each}
use Rattle.mol_resolve_faults.specs.beside.Beside.{is_faulty, noted_if, faulty_beside, faulty_noted}

-- ---- lists

module _ {X : Type 0} (p : X → Bool) where
  in_filter : (xs : List X) (x : X) → Contains xs x → p x ≡ true → Contains (filter p xs) x
  in_filter [] x stands is = absurd (stands_nowhere x stands)
  in_filter (z ∷ xs) x stands is = by (p z) refl (stands_where z x xs stands) (λ later. in_filter xs x later is) where
    by : (b : Bool) → p z ≡ b → (z ≡ x) ⊎ Contains xs x → (Contains xs x → Contains (filter p xs) x)
        → Contains (cond b (z ∷ filter p xs) (filter p xs)) x
    by true passes (inl same) more = subst (Contains (z ∷ filter p xs)) same (stands_first z (filter p xs))
    by true passes (inr later) more = stands_later z x (filter p xs) (more later)
    by false fails (inl same) more = absurd (true≢false (sym is ∙ ap p (sym same) ∙ fails))
    by false fails (inr later) more = more later

  from_filter : (xs : List X) (x : X) → Contains (filter p xs) x → Contains xs x × (p x ≡ true)
  from_filter [] x stands = absurd (stands_nowhere x stands)
  from_filter (z ∷ xs) x stands = by (p z) refl stands (from_filter xs x) where
    by_place : p z ≡ true → (z ≡ x) ⊎ Contains (filter p xs) x → (Contains (filter p xs) x → Contains xs x × (p x ≡ true))
        → Contains (z ∷ xs) x × (p x ≡ true)
    by_place passes (inl same) more = (subst (Contains (z ∷ xs)) same (stands_first z xs), ap p (sym same) ∙ passes)
    by_place passes (inr later) more = let there = more later in (stands_later z x xs there.0, there.1)

    by : (b : Bool) → p z ≡ b → Contains (cond b (z ∷ filter p xs) (filter p xs)) x
        → (Contains (filter p xs) x → Contains xs x × (p x ≡ true)) → Contains (z ∷ xs) x × (p x ≡ true)
    by true passes here more = by_place passes (stands_where z x (filter p xs) here) more
    by false fails here more = let there = more here in (stands_later z x xs there.0, there.1)

  pub any-there : (xs : List X) (x : X) → Contains xs x → p x ≡ true → list_any p xs ≡ true
  any-there [] x stands is = absurd (stands_nowhere x stands)
  any-there (z ∷ xs) x stands is = by (stands_where z x xs stands) (λ later. any-there xs x later is) where
    or-true : (b : Bool) → (b || true) ≡ true
    or-true true = refl
    or-true false = refl

    by : (z ≡ x) ⊎ Contains xs x → (Contains xs x → list_any p xs ≡ true) → list_any p (z ∷ xs) ≡ true
    by (inl same) more = ap (λ b. b || list_any p xs) (ap p same ∙ is)
    by (inr later) more = ap (λ b. p z || b) (more later) ∙ or-true (p z)

  pub there-any : (xs : List X) → list_any p xs ≡ true → (x : X) × Contains xs x × (p x ≡ true)
  there-any [] is = absurd (true≢false (sym is))
  there-any (z ∷ xs) is = by (p z) refl is (there-any xs) where
    by : (b : Bool) → p z ≡ b → (b || list_any p xs) ≡ true → (list_any p xs ≡ true → (x : X) × Contains xs x × (p x ≡ true))
        → (x : X) × Contains (z ∷ xs) x × (p x ≡ true)
    by true passes any more = (z, stands_first z xs, passes)
    by false fails any more = let later = more any in (later.0, stands_later z later.0 xs later.1, later.2)

-- ---- kinds

-- each of these kinds is noted that holds
abbrev kinds_noted : (FaultKind → Bool) → ℕ → List FaultKind → Option TreeFault → Option TreeFault
kinds_noted holds at [] first = first
kinds_noted holds at (kind ∷ kinds) first = kinds_noted holds at kinds (noted_if (holds kind) kind at first)

in-turn : (holds : FaultKind → Bool) (at : ℕ) (kinds : List FaultKind) (first : Option TreeFault)
    → all_noted first (at_place at (filter holds kinds)) ≡ kinds_noted holds at kinds first
in-turn holds at [] first = refl
in-turn holds at (kind ∷ kinds) first = by (holds kind) (λ kept. in-turn holds at kinds kept) where
  by : (b : Bool) → ((kept : Option TreeFault) → all_noted kept (at_place at (filter holds kinds)) ≡ kinds_noted holds at kinds kept)
      → all_noted first (at_place at (cond b (kind ∷ filter holds kinds) (filter holds kinds)))
      ≡ kinds_noted holds at kinds (noted_if b kind at first)
  by true more = more (noted first (record { kind = kind; at = at }))
  by false more = more first

never : {X : Type 0} (xs : List X) → list_any (λ x. false) xs ≡ false
never [] = refl
never (x ∷ xs) = never xs

module _ (files : Files) (firsts : List (Row ℕ)) (second : Row ℕ) where
  abbrev holds : FaultKind → Bool
  holds = is_faulty (files_view files) firsts second

  abbrev each : List TreeFault
  each = flat_map (λ (first : Row ℕ). faults_between (files_view files) first second) firsts

  abbrev together : List TreeFault
  together = at_place second.at (filter holds every_kind)

  there : (fault : TreeFault) → Contains each fault → Contains together fault
  there fault stands =
      let of_first = from_each (λ (first : Row ℕ). faults_between (files_view files) first second) firsts fault stands in
      let of_kind = from_map (λ (kind : FaultKind). let made : TreeFault = record { kind = kind; at = second.at } in made)
      (filter (is_between (files_view files) of_first.0 second) every_kind) fault of_first.2 in
      let passes = from_filter (is_between (files_view files) of_first.0 second) every_kind of_kind.0 of_kind.1 in
      subst (Contains together) of_kind.2
      (stands-mapped (λ (kind : FaultKind). let made : TreeFault = record { kind = kind; at = second.at } in made)
      (filter holds every_kind) of_kind.0
      (in_filter holds every_kind of_kind.0 passes.0
      (any-there (λ first. is_between (files_view files) first second of_kind.0) firsts of_first.0 of_first.1 passes.1)))

  back : (fault : TreeFault) → Contains together fault → Contains each fault
  back fault stands =
      let of_kind = from_map (λ (kind : FaultKind). let made : TreeFault = record { kind = kind; at = second.at } in made)
      (filter holds every_kind) fault stands in
      let passes = from_filter holds every_kind of_kind.0 of_kind.1 in
      let of_first = there-any (λ first. is_between (files_view files) first second of_kind.0) firsts passes.1 in
      in_each (λ (first : Row ℕ). faults_between (files_view files) first second) firsts of_first.0 fault of_first.1
      (subst (Contains (faults_between (files_view files) of_first.0 second)) of_kind.2
      (stands-mapped (λ (kind : FaultKind). let made : TreeFault = record { kind = kind; at = second.at } in made)
      (filter (is_between (files_view files) of_first.0 second) every_kind) of_kind.0
      (in_filter (is_between (files_view files) of_first.0 second) every_kind of_kind.0 passes.0 of_first.2)))

  four : (first : Option TreeFault)
      → kinds_noted holds second.at every_kind first ≡ faulty_noted (faulty_beside files firsts second) second.at first
  four first = λ i.
      noted_if (never firsts i) receiver_type second.at (noted_if (never firsts i) static_by_instance second.at
      (noted_if (never firsts i) unknown_member second.at (noted_if (never firsts i) unknown_name second.at
      (noted_if (never firsts i) redeclared second.at
      (faulty_noted (faulty_beside files firsts second) second.at
      (noted_if (never firsts i) import_clash second.at (noted_if (never firsts i) super_cycle second.at
      (noted_if (never firsts i) package_is_class second.at (noted_if (never firsts i) duplicate_class second.at
      (noted_if (never firsts i) path_differs second.at first))))))))))

  -- beside these
  pub noted-beside : (first : Option TreeFault) → all_noted first each ≡ faulty_noted (faulty_beside files firsts second) second.at first
  noted-beside first = kept_alike.alike first each together there back ∙ in-turn holds second.at every_kind first ∙ four first

-- beside all members of the files
pub noted-beside_all : (files : Files) (second : Row ℕ) (first : Option TreeFault)
    → all_noted first (faults_beside files second) ≡ faulty_noted (faulty_beside files (rows files) second) second.at first
noted-beside_all files second first = noted-beside files (rows files) second first
