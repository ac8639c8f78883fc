-- The faults of methods that are apart are those of the methods that live and have no topmost declaration.
use Rattle.std.proofs.Common.{◌≡◌, Bool, true, false, ◌&&◌, not, List, filter_map, Option, Some, None, Contains, refl, sym, ◌∙◌, ap, arith, true≢false, Equal}
use Rattle.std.specs.Prelude.{IsTrue, IsFalse, is_some}
use Rattle.std.specs.FinMap.{get, entries, keys, contains_key-keys}
use Rattle.std.specs.List.{find, list_all}
use Rattle.std.specs.Option.{option_map_or}
use Rattle.std.specs.Ordering.{ordering_then}
use Rattle.std.proofs.lemmas.Bool.{and_parts}
use Rattle.std.proofs.lemmas.List.Elements.{All-contains, All-from_recursion}
use Rattle.std.proofs.lemmas.Map.Views.{Contains-from_any}
use Rattle.jav_names.proofs.Lists.{All-from_each, find-none, find-holds_of_none, list_any-found}
use Rattle.mol_base.specs.Order.{id_cmp-total, id_cmp-IsAntisymmetric}
use Rattle.mol_base.specs.declared.ident.Id.{Id}
use Rattle.mol_faults_rules.specs.OfKind.{AreOfKind}
use Rattle.mol_spell_rules.specs.FaultList.{Fault, apart, IsFault, by_address, by_override, by_place, by_outside_name, by_absence, by_reading, by_local, by_package, fault_key}
use Rattle.mol_table_rules.proofs.Counts.{each_found}
use Rattle.mol_table_rules.proofs.Living.{id_tied}
use Rattle.mol_table_rules.specs.Faults.{Apart, is_above_living, is_topmost}
use Rattle.mol_table_rules.specs.Identities.{IsAscending, AreKnown}
use Rattle.mol_table_rules.specs.Life.{is_decl_of, is_living_decl, lives, lives_as, lives_method}
use Rattle.mol_table_rules.specs.Mentions.{a_method}
use Rattle.mol_table_rules.specs.Program.{Program}
use Rattle.mol_table_rules.specs.Renumber.{topmost}
use Rattle.mol_table_rules.specs.Rules.{IsProgram, fills}
use Rattle.mol_values_types.specs.declared.kind.MethodKind.{MethodKind}
use Rattle.mol_values_types.specs.declared.known.Known.{Known}
use Rattle.mol_values_types.specs.declared.known.Known.TheVariants as knowns
use Rattle.mol_faults_entities.specs.method_faults.ApartMethods.{is_apart_as, is_apart}
use Rattle.mol_faults_entities.proofs.method_faults_lemmas.Listed.{fault_of, of-kind}
use Rattle.mol_faults_entities.proofs.method_faults_lemmas.OutsideNamesFound.{misread-kind}

module _ (program : Program) (method : Id) where
  abbrev IsTop : Id → Type 0
  IsTop decl = is_topmost program method decl ≡ true

  -- ---- topmost declarations

  top-known : (decl : Id) → IsTop decl → is_some (get program.known decl) ≡ true
  top-known decl top = by (get program.known decl) (and_parts
      (option_map_or (λ known. is_living_decl program method (decl, known)) (get program.known decl) false)
      (list_all (is_above_living program method decl) (entries program.known)) top).0 where
        by : (o : Option Known) → option_map_or (λ known. is_living_decl program method (decl, known)) o false ≡ true → is_some o ≡ true
        by None is = absurd (true≢false (sym is))
        by (Some known) is = refl

  none-topmost : topmost program method ≡ None → (decl : Id) → IsFalse (is_topmost program method decl)
  none-topmost none decl = by (is_topmost program method decl) refl where
    by : (b : Bool) → is_topmost program method decl ≡ b → b ≡ false
    by false is = refl
    by true is = absurd (All-contains (λ id. ¬ (IsTop id)) (keys program.known) decl
        (find-none IsTop (is_topmost program method) (λ id. (λ yes. yes, λ yes. yes)) (keys program.known) none)
        (Contains-from_any id_tied decl (keys program.known) (sym (contains_key-keys program.known decl) ∙ top-known decl is)) is)

  topmost-none : ((decl : Id) → IsFalse (is_topmost program method decl)) → topmost program method ≡ None
  topmost-none none = find-holds_of_none IsTop (is_topmost program method) (λ id. (λ yes. yes, λ yes. yes)) (keys program.known)
      (All-from_each (λ id. ¬ (IsTop id)) (keys program.known) (λ id stands is. true≢false (sym is ∙ none id)))

  -- ---- living methods

  own-decl : (known : Known) → is_decl_of method known ≡ true → known ≡ knowns.Decl method
  own-decl knowns.Class is = absurd (true≢false (sym is))
  own-decl (knowns.Method kind) is = absurd (true≢false (sym is))
  own-decl knowns.Field is = absurd (true≢false (sym is))
  own-decl (knowns.Param own) is = absurd (true≢false (sym is))
  own-decl (knowns.Decl own) is = ap (λ m. knowns.Decl m) (sym (id_tied method own is))

  is-method : (decl : Id) (o : Option Known) → fills decl a_method o ≡ true → (kind : MethodKind) × (o ≡ Some (knowns.Method kind))
  is-method decl None is = absurd (true≢false (sym is))
  is-method decl (Some knowns.Class) is = absurd (true≢false (sym is))
  is-method decl (Some knowns.Field) is = absurd (true≢false (sym is))
  is-method decl (Some (knowns.Decl own)) is = absurd (true≢false (sym is))
  is-method decl (Some (knowns.Param own)) is = absurd (true≢false (sym is))
  is-method decl (Some (knowns.Method kind)) is = (kind, refl)

  -- what lives as a method is known as one
  living-method : IsProgram program → lives_method program method ≡ true
      → (kind : MethodKind) × (get program.known method ≡ Some (knowns.Method kind))
  living-method rules living =
      let found = list_any-found (λ (e : Id × Known). is_living_decl program method e ≡ true) (is_living_decl program method)
      (λ e. (λ yes. yes, λ yes. yes)) (entries program.known) living in
      let entry = found.0 in
      let held : get program.known entry.0 ≡ Some entry.1 =
      All-contains (λ (e : Id × Known). get program.known e.0 ≡ Some e.1) (entries program.known) entry
      (All-from_recursion (λ (e : Id × Known). get program.known e.0 ≡ Some e.1) (entries program.known)
      (each_found id_cmp-total id_cmp-IsAntisymmetric program.known)) found.1 in
      let own = own-decl entry.1 (and_parts (is_decl_of method entry.1) _ found.2).0 in
      is-method entry.0 (get program.known method) (rules.decls entry.0 method (held ∙ ap (λ k. Some k) own))

  -- ---- methods that are apart

  is-apart : is_apart program method ≡ true → Apart program method
  is-apart is = by (get program.known method) refl is where
    absent : (o : Option Id) → not (is_some o) ≡ true → o ≡ None
    absent None is = refl
    absent (Some id) is = absurd (true≢false (sym is))

    by : (o : Option Known) → get program.known method ≡ o → is_apart_as program method o ≡ true → Apart program method
    by None known is = absurd (true≢false (sym is))
    by (Some knowns.Class) known is = absurd (true≢false (sym is))
    by (Some knowns.Field) known is = absurd (true≢false (sym is))
    by (Some (knowns.Decl own)) known is = absurd (true≢false (sym is))
    by (Some (knowns.Param own)) known is = absurd (true≢false (sym is))
    by (Some (knowns.Method kind)) known is =
        let parts = and_parts (lives program method) (not (is_some (topmost program method))) is in
        record {
          method_lives = sym (ap (lives_as program method) known) ∙ parts.0;
          none_topmost = none-topmost (absent (topmost program method) parts.1);
        }

  from-apart : IsProgram program → Apart program method → (is_apart program method ≡ true) × IsTrue (is_some (get program.known method))
  from-apart rules is =
      let known = (living-method rules is.method_lives).1 in
      let living : lives program method ≡ true = ap (lives_as program method) known ∙ is.method_lives in
      let none : not (is_some (topmost program method)) ≡ true = ap (λ o. not (is_some o)) (topmost-none is.none_topmost) in
      (ap (is_apart_as program method) known ∙ (λ i. living i && none i), ap is_some known)

-- ---- the faults

module _ (program : Program) (rules : IsProgram program) where
  whose : (fault : Fault) → IsFault program fault → (fault_key fault).kind ≡ 2
      → (id : Id) × (apart id ≡ fault) × (is_apart program id ≡ true) × IsTrue (is_some (get program.known id))
  whose fault (by_place {method = method} is) kind =
      let of = from-apart program method rules is in
      (method, refl, of.0, of.1)
  whose fault (by_address same) kind = absurd (omega (arith, kind))
  whose fault (by_override override) kind = absurd (omega (arith, kind))
  whose fault (by_outside_name outside) kind = absurd (omega (arith, kind))
  whose fault (by_absence missing) kind = absurd (omega (arith, kind))
  whose fault (by_reading {at = at} {number = number} {target = target} reads) kind = absurd
      (omega (arith, kind, misread-kind at number target))
  whose fault (by_local clash) kind = absurd (omega (arith, kind))
  whose fault (by_package inside) kind = absurd (omega (arith, kind))

  pub apart-listed : (ids : List Id) → IsAscending ids → AreKnown program ids
      → AreOfKind program 2 (filter_map (fault_of apart (is_apart program)) ids)
  apart-listed ids ascending known = of-kind apart (is_apart program) (λ first second less. ap (λ o. ordering_then o Equal) less) program 2
      (λ id is. (by_place (is-apart program id is), refl)) whose ids ascending known
