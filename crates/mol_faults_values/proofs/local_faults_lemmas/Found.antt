-- The clashes of the declarations that live are the faults of locals.
use Rattle.std.proofs.Common.{◌≡◌, ◌⊎◌, inl, inr, ◌↔◌, ℕ, Bool, true, false, List, [], map, Option, None, Some, Contains, IsTrue, is_some, refl, sym, ap, ◌∙◌, subst, arith}
use Rattle.std.specs.FinMap.{get}
use Rattle.std.specs.List.Sorted.{IsStrictlySortedBy}
use Rattle.std.specs.Ordering.{nat_cmp, on, then_cmp}
use Rattle.std.specs.declared.cmp.Ordering.{Ordering}
use Rattle.std.specs.Cmp.Lexicographic.{slice_cmp}
use Rattle.jav_names.proofs.Lists.{stands_nowhere, stands-mapped}
use Rattle.jav_names.specs.DottedNames.{Name, Names}
use Rattle.mol_base.specs.Order.{id_cmp}
use Rattle.mol_base.specs.declared.ident.Id.{Id}
use Rattle.mol_faults_rules.specs.OfKind.{AreOfKind}
use Rattle.mol_faults_values.proofs.local_faults_lemmas.Repeated.{clashes-repeated, params-in_scope}
use Rattle.mol_faults_values.specs.local_faults.Clashing.{body_in, body_scopes, clashes_of, clashes_by, clashes_at, clashes_among, clash_of, fault_of}
use Rattle.mol_faults_values.specs.local_faults.PartScopes.{params_scopes}
use Rattle.mol_faults_values.specs.declared.local_faults.clash.Clash.{Clash}
use Rattle.mol_base.proofs.Mapped.{sorted-mapped}
use Rattle.mol_resolve_rules.proofs.Stands.{in_front, behind, in_either, in_each, from_each, from_map}
use Rattle.mol_spell_rules.specs.FaultList.{entity, default_of, local_of, outside_of, Fault, same_address, false_override, apart, outside_name, missing, misread, local_clash, package_is_class, IsFault, by_local, fault_key, fault_cmp}
use Rattle.mol_spell_rules.specs.LocalClashes.{clashes_in, IsRepeated}
use Rattle.mol_spell_rules.specs.NameFaults.{param_names, ClashesInBody, LocalClash}
use Rattle.mol_table_rules.specs.Counting.{living_as, living_of}
use Rattle.mol_table_rules.specs.Identities.{AreKnown}
use Rattle.mol_table_rules.specs.Program.{Program, value_at, params_at, living_at, cell}
use Rattle.mol_values_types.specs.declared.cell.Cell.{Cell}
use Rattle.mol_values_types.specs.declared.cell.Slot.TheVariants as slots
use Rattle.mol_values_types.specs.declared.iblock.IBody.{IBody}
use Rattle.mol_values_types.specs.declared.known.Known.{Known}
use Rattle.mol_values_types.specs.declared.known.Known.TheVariants as knowns
use Rattle.mol_values_types.specs.declared.param.Param.{Param}
use Rattle.mol_values_types.specs.declared.value.Value.{Value}
use Rattle.mol_values_types.specs.declared.value.Value.TheVariants as values

-- rows go by declaration, and then by name
abbrev pub clash_cmp : Clash → Clash → Ordering
clash_cmp = then_cmp (on (λ clash. clash.declaration) id_cmp) (on (λ clash. clash.name) (slice_cmp nat_cmp))

-- ---- in one declaration

-- what clashes in the body that a cell holds
record InBody (value : Option Value) (params : Names) (name : Name) : Type 0 where
  body : IBody
  holds : value ≡ Some (values.Body (Some body))
  clashes : Contains (clashes_in params body.block) name

in-body : (value : Option Value) (params : Names) (name : Name) → Contains (body_scopes (body_in value) params).clashes name
    → InBody value params name
in-body (Some (values.Body (Some body))) params name stands = record { body = body; holds = refl; clashes = stands }
in-body value params name stands = absurd (stands_nowhere name stands)

module _ (params : List Param) (value : Option Value) (name : Name) where
  abbrev own : Names
  own = map (λ (param : Param). param.name) params

  abbrev scoped_body : Names → Names
  scoped_body names = (body_scopes (body_in value) names).clashes

  clashes-are : Contains (clashes_of params (body_in value)) name ↔ (IsRepeated own name ⊎ InBody value own name)
  clashes-are = (
    λ stands. by (in_either (params_scopes params []).clashes (scoped_body (params_scopes params []).in_scope) name stands),
    λ clash. back clash,
  ) where
    by : Contains (params_scopes params []).clashes name ⊎ Contains (scoped_body (params_scopes params []).in_scope) name
        → IsRepeated own name ⊎ InBody value own name
    by (inl twice) = inl ((clashes-repeated params name).0 twice)
    by (inr within) = inr (in-body value own name (subst (λ names. Contains (scoped_body names) name) (params-in_scope params []) within))

    back : IsRepeated own name ⊎ InBody value own name → Contains (clashes_of params (body_in value)) name
    back (inl twice) = in_front (params_scopes params []).clashes _ name ((clashes-repeated params name).1 twice)
    back (inr within) = behind (params_scopes params []).clashes (scoped_body (params_scopes params []).in_scope) name
        (subst (λ names. Contains (scoped_body names) name) (sym (params-in_scope params []))
        (subst (λ (v : Option Value). Contains (body_scopes (body_in v) own).clashes name) (sym within.holds) within.clashes))

-- ---- in a program

some-same : {X : Type 0} (x y : X) → Some x ≡ Some y → x ≡ y
some-same {X} x y is = ap (λ (o : Option X). value_or o) is where
  value_or : Option X → X
  value_or None = x
  value_or (Some z) = z

none-some : {X : Type 0} (x : X) → None ≡ Some x → ⊥
none-some {X} x is = subst (λ (o : Option X). IsNone o) is tt where
  IsNone : Option X → Type 0
  IsNone None = Unit {0}
  IsNone (Some y) = ⊥

living-known : (known : Option Known) (living : Bool) (method : Id) → living_as known living ≡ Some method
    → (known ≡ Some (knowns.Decl method)) × IsTrue living
living-known (Some (knowns.Decl own)) true method is = (ap (λ m. Some (knowns.Decl m)) (some-same own method is), refl)
living-known known living method is = absurd (none-some method is)

module _ (program : Program) where
  -- a name clashes in the declaration of this method
  abbrev Clashes : Id → Id → Name → Type 0
  Clashes declaration method name = IsRepeated (param_names program method) name ⊎ ClashesInBody program declaration method name

  abbrev Within : Id → Id → Name → Type 0
  Within declaration method name = IsRepeated (param_names program method) name
      ⊎ InBody (value_at program declaration slots.Body) (param_names program method) name

  to-clashes : (declaration method : Id) (name : Name) → Within declaration method name → Clashes declaration method name
  to-clashes declaration method name (inl twice) = inl twice
  to-clashes declaration method name (inr within) = inr (record {
    body = within.body;
    holds = within.holds;
    clashes = within.clashes;
  })

  from-clashes : (declaration method : Id) (name : Name) → Clashes declaration method name → Within declaration method name
  from-clashes declaration method name (inl twice) = inl twice
  from-clashes declaration method name (inr within) = inr (record {
    body = within.body;
    holds = within.holds;
    clashes = within.clashes;
  })

  -- what is found at a declaration clashes
  found-clash : (id : Id) (name : Name) (method : Option Id) → living_of program id ≡ method
      → Contains (clashes_by program id method) name → LocalClash program (cell id slots.Body) name
  found-clash id name None none stands = absurd (stands_nowhere name stands)
  found-clash id name (Some method) lives stands =
      let known = living-known (get program.known id) (living_at program id) method lives in
      record {
        declaration = id;
        method = method;
        is = refl;
        declares = known.0;
        declaration_lives = known.1;
        clashes = to-clashes id method name
            ((clashes-are (params_at program method) (value_at program id slots.Body) name).0 stands);
      }

  -- and each clash is found
  clash-found : (id method : Id) (name : Name) → get program.known id ≡ Some (knowns.Decl method) → IsTrue (living_at program id)
      → Clashes id method name → Contains (clashes_at program id) (clash_of id name)
  clash-found id method name declares lives clash =
      let lives_so : living_of program id ≡ Some method = λ i. living_as (declares i) (lives i) in
      stands-mapped (clash_of id) (clashes_by program id (living_of program id)) name
      (subst (λ (m : Option Id). Contains (clashes_by program id m) name) (sym lives_so)
      ((clashes-are (params_at program method) (value_at program id slots.Body) name).1 (from-clashes id method name clash)))

  module _ (ids : List Id) (known : AreKnown program ids) (rows : List Clash)
      (same : (row : Clash) → Contains rows row ↔ Contains (clashes_among program ids) row) where
    is-fault : (fault : Fault) → Contains (map fault_of rows) fault → IsFault program fault × ((fault_key fault).kind ≡ 6)
    is-fault fault stands =
        let row = from_map fault_of rows fault stands in
        let at = from_each (clashes_at program) ids row.0 ((same row.0).0 row.1) in
        let named = from_map (clash_of at.0) (clashes_by program at.0 (living_of program at.0)) row.0 at.2 in
        let clash = by_local (found-clash at.0 named.0 (living_of program at.0) refl named.1) in
        let is : fault_of (clash_of at.0 named.0) ≡ fault = ap fault_of named.2 ∙ row.2 in
        subst (λ (f : Fault). IsFault program f × ((fault_key f).kind ≡ 6)) is (clash, refl)

    is-known : (id method : Id) → get program.known id ≡ Some (knowns.Decl method) → Contains ids id
    is-known id method declares = (known id).1 (ap (λ (o : Option Known). is_some o) declares)

    stands-fault : (fault : Fault) → IsFault program fault → (fault_key fault).kind ≡ 6 → Contains (map fault_of rows) fault
    stands-fault (local_clash at name) (by_local h) kind =
        let row = clash_of h.declaration name in
        let stands = in_each (clashes_at program) ids h.declaration row (is-known h.declaration h.method h.declares)
        (clash-found h.declaration h.method name h.declares h.declaration_lives h.clashes) in
        subst (λ (cell : Cell). Contains (map fault_of rows) (local_clash cell name)) (sym h.is)
        (stands-mapped fault_of rows row ((same row).1 stands))
    stands-fault (same_address first second) h kind = absurd (omega (arith, kind))
    stands-fault (false_override first second) h kind = absurd (omega (arith, kind))
    stands-fault (apart method) h kind = absurd (omega (arith, kind))
    stands-fault (outside_name method) h kind = absurd (omega (arith, kind))
    stands-fault (missing at target) h kind = absurd (omega (arith, kind))
    stands-fault (misread at number (entity id)) h kind = absurd (omega (arith, kind))
    stands-fault (misread at number (default_of class)) h kind = absurd (omega (arith, kind))
    stands-fault (misread at number (local_of local)) h kind = absurd (omega (arith, kind))
    stands-fault (misread at number (outside_of text)) h kind = absurd (omega (arith, kind))
    stands-fault (package_is_class class inside) h kind = absurd (omega (arith, kind))

    pub are-of-kind : IsStrictlySortedBy clash_cmp rows → AreOfKind program 6 (map fault_of rows)
    are-of-kind sorted = record {
      ascending = sorted-mapped clash_cmp fault_cmp fault_of (λ first second. refl) rows sorted;
      each = λ fault. (is-fault fault, λ is. stands-fault fault is.0 is.1);
    }
