-- The faults of names of methods of `Object` are those of the methods that have them.
use Rattle.std.proofs.Common.{◌≡◌, ◌≢◌, ℕ, Bool, true, false, ◌&&◌, cond, not, List, length, filter_map, Option, Some, None, refl, sym, ◌∙◌, ap, arith, true≢false, Equal}
use Rattle.std.specs.Prelude.{IsTrue, is_some}
use Rattle.std.specs.FinMap.{get}
use Rattle.std.specs.Ordering.{ordering_then}
use Rattle.std.proofs.lemmas.Bool.{and_parts}
use Rattle.jav_names.specs.Members.{is_object_method}
use Rattle.mol_base.specs.declared.ident.Id.{Id}
use Rattle.mol_faults_rules.specs.OfKind.{AreOfKind}
use Rattle.mol_spell_rules.specs.references.References.{Target, class_target, field_target, method_target, param_target, default_target, local_target, outside_target}
use Rattle.mol_spell_rules.specs.FaultList.{Fault, outside_name, misread, fault_target, IsFault, by_address, by_override, by_place, by_outside_name, by_absence, by_reading, by_local, by_package, fault_key}
use Rattle.mol_spell_rules.specs.NameFaults.{OutsideName}
use Rattle.mol_table_rules.specs.Identities.{IsAscending, AreKnown}
use Rattle.mol_table_rules.specs.Life.{lives, lives_as}
use Rattle.mol_table_rules.specs.Program.{Program, value_at, name_at, params_at}
use Rattle.mol_values_types.specs.declared.cell.Cell.{Cell}
use Rattle.mol_values_types.specs.declared.cell.Slot.TheVariants as slots
use Rattle.mol_values_types.specs.declared.kind.MethodKind.{MethodKind}
use Rattle.mol_values_types.specs.declared.kind.MethodKind.TheVariants.{Instance, Static, Constructor}
use Rattle.mol_values_types.specs.declared.known.Known.{Known}
use Rattle.mol_values_types.specs.declared.known.Known.TheVariants as knowns
use Rattle.mol_values_types.specs.declared.value.Value.{Value}
use Rattle.mol_values_types.specs.declared.value.Value.TheVariants as values
use Rattle.mol_faults_entities.specs.method_faults.OutsideNames.{is_method, is_living_method, is_otherwise, is_noted_otherwise, has_outside_name}
use Rattle.mol_faults_entities.proofs.method_faults_lemmas.Listed.{fault_of, of-kind}

pub misread-kind : (at : Cell) (number : ℕ) (target : Target) → (fault_key (misread at number (fault_target target))).kind ≡ 5
misread-kind at number (class_target class) = refl
misread-kind at number (field_target field) = refl
misread-kind at number (method_target method) = refl
misread-kind at number (param_target param) = refl
misread-kind at number (default_target class) = refl
misread-kind at number (local_target local) = refl
misread-kind at number (outside_target text) = refl

module _ (program : Program) where
  -- ---- one method

  as-method : (id : Id) (o : Option Known) → get program.known id ≡ o → is_method o ≡ true
      → (kind : MethodKind) × (get program.known id ≡ Some (knowns.Method kind)) × (kind ≢ Constructor)
  as-method id None known is = absurd (true≢false (sym is))
  as-method id (Some knowns.Class) known is = absurd (true≢false (sym is))
  as-method id (Some knowns.Field) known is = absurd (true≢false (sym is))
  as-method id (Some (knowns.Decl method)) known is = absurd (true≢false (sym is))
  as-method id (Some (knowns.Param method)) known is = absurd (true≢false (sym is))
  as-method id (Some (knowns.Method Instance)) known is = (Instance, known, λ same. absurd cc)
  as-method id (Some (knowns.Method Static)) known is = (Static, known, λ same. absurd cc)
  as-method id (Some (knowns.Method Constructor)) known is = absurd (true≢false (sym is))

  of-method : (kind : MethodKind) → kind ≢ Constructor → is_method (Some (knowns.Method kind)) ≡ true
  of-method Instance unlike = refl
  of-method Static unlike = refl
  of-method Constructor unlike = absurd (unlike refl)

  apart : (fixed now : Bool) → cond fixed (not now) now ≡ true → fixed ≢ now
  apart true true is same = true≢false (sym is)
  apart true false is same = true≢false same
  apart false true is same = true≢false (sym same)
  apart false false is same = true≢false (sym is)

  differ : (fixed now : Bool) → fixed ≢ now → cond fixed (not now) now ≡ true
  differ true true unlike = absurd (unlike refl)
  differ true false unlike = refl
  differ false true unlike = refl
  differ false false unlike = absurd (unlike refl)

  otherwise : (o : Option Value) (now : Bool) → is_otherwise o now ≡ true → (fixed : Bool) × (o ≡ Some (values.Fixed fixed)) × (fixed ≢ now)
  otherwise (Some (values.Fixed fixed)) now is = (fixed, refl, apart fixed now is)
  otherwise None now is = absurd (true≢false (sym is))
  otherwise (Some (values.Live live)) now is = absurd (true≢false (sym is))
  otherwise (Some (values.Package name)) now is = absurd (true≢false (sym is))
  otherwise (Some (values.Owner owner)) now is = absurd (true≢false (sym is))
  otherwise (Some (values.Method method)) now is = absurd (true≢false (sym is))
  otherwise (Some (values.Name name)) now is = absurd (true≢false (sym is))
  otherwise (Some (values.Super parent)) now is = absurd (true≢false (sym is))
  otherwise (Some (values.Result ty)) now is = absurd (true≢false (sym is))
  otherwise (Some (values.Params params)) now is = absurd (true≢false (sym is))
  otherwise (Some (values.Kind kind)) now is = absurd (true≢false (sym is))
  otherwise (Some (values.Words words)) now is = absurd (true≢false (sym is))
  otherwise (Some (values.Notes notes)) now is = absurd (true≢false (sym is))
  otherwise (Some (values.Body body)) now is = absurd (true≢false (sym is))
  otherwise (Some (values.Value ty init)) now is = absurd (true≢false (sym is))

  is-outside : (id : Id) → has_outside_name program id ≡ true → OutsideName program id
  is-outside id has =
      let parts = and_parts (is_living_method program id) (is_noted_otherwise program id) has in
      let living = and_parts (is_method (get program.known id)) (lives program id) parts.0 in
      let method = as-method id (get program.known id) refl living.0 in
      let noted = otherwise (value_at program id slots.Fixed)
      (is_object_method (name_at program id) (length (params_at program id))) parts.1 in
      record {
        kind = method.0;
        is_kind = method.1;
        is_method = method.2;
        method_lives = sym (ap (lives_as program id) method.1) ∙ living.1;
        fixed = noted.0;
        holds = noted.1;
        differs = noted.2;
      }

  from-outside : (id : Id) → OutsideName program id → has_outside_name program id ≡ true
  from-outside id outside =
      let now = is_object_method (name_at program id) (length (params_at program id)) in
      let noted : is_noted_otherwise program id ≡ true = ap (λ o. is_otherwise o now) outside.holds
      ∙ differ outside.fixed now outside.differs in
      let known : is_method (get program.known id) ≡ true = ap is_method outside.is_kind ∙ of-method outside.kind outside.is_method in
      let living : lives program id ≡ true = ap (lives_as program id) outside.is_kind ∙ outside.method_lives in
      (λ i. (known i && living i) && noted i)

  -- ---- the faults

  whose : (fault : Fault) → IsFault program fault → (fault_key fault).kind ≡ 3
      → (id : Id) × (outside_name id ≡ fault) × (has_outside_name program id ≡ true) × IsTrue (is_some (get program.known id))
  whose fault (by_outside_name {method = method} outside) kind = (method, refl, from-outside method outside, ap is_some outside.is_kind)
  whose fault (by_address same) kind = absurd (omega (arith, kind))
  whose fault (by_override override) kind = absurd (omega (arith, kind))
  whose fault (by_place apart) kind = absurd (omega (arith, kind))
  whose fault (by_absence missing) kind = absurd (omega (arith, kind))
  whose fault (by_reading {at = at} {number = number} {target = target} reads) kind = absurd
      (omega (arith, kind, misread-kind at number target))
  whose fault (by_local clash) kind = absurd (omega (arith, kind))
  whose fault (by_package inside) kind = absurd (omega (arith, kind))

  pub outside-names : (ids : List Id) → IsAscending ids → AreKnown program ids
      → AreOfKind program 3 (filter_map (fault_of outside_name (has_outside_name program)) ids)
  outside-names ids ascending known = of-kind outside_name (has_outside_name program)
      (λ first second less. ap (λ o. ordering_then o Equal) less) program 3
      (λ id has. (by_outside_name (is-outside id has), refl)) whose ids ascending known
