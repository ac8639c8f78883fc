-- The variable of a name: a local, else a parameter, else a field.
use Rattle.std.proofs.Common.{◌≡◌, ◌∙◌, ℕ, ◌<◌, Bor, List, length, get_or, Option, Some, None, option_map, slice_get, refl, sym, ap, subst}
use Rattle.std.proofs.lemmas.Option.{slice_get-map, slice_get_read}
use Rattle.std.specs.Option.{option_and_then}
use Rattle.jav_scope.specs.declared.found.Found.{Found as Answer}
use Rattle.jav_scope.specs.declared.found.Found.TheVariants as answer
use Rattle.jav_scope.specs.declared.source.SourceUnit.{SourceUnit}
use Rattle.jav_names.specs.seen.Kept.{view_type}
use Rattle.jav_names.specs.declared.seen.seen_type.SeenType.{SeenType}
use Rattle.jav_names.specs.DottedNames.{Name}
use Rattle.jav_names.specs.LookUps.{field_found, field_from, first_place, last_place, local_or, variable as variable_named}
use Rattle.jav_names.specs.UnitViews.{MemberKey}
use Rattle.jav_names.specs.Variables.{Place, Variable as Read}
use Rattle.jav_names.specs.Views.{Found, found, outside, not_found, View, ViewField}
use Rattle.mol_resolve_names.proofs.chains_lemmas.LocalsNamed.{none-local}
use Rattle.mol_resolve_names.specs.declared.chains.parameter.Parameter.{Parameter}
use Rattle.mol_resolve_members.specs.found.Found.{Answers, IsField}
use Rattle.mol_resolve_members.specs.declared.found.found_member.FoundField.{FoundField}
use Rattle.mol_resolve_readings.specs.locals.Scoped.{Scoped, local_of, locals_of, nearest_local}
use Rattle.mol_resolve_readings.specs.declared.locals.local.Local.{Local as Kept}
use Rattle.mol_resolve_names.specs.lone_names.Variables.{IsVariable}
use Rattle.mol_resolve_names.specs.declared.lone_names.variable.Variable.{Variable}
use Rattle.mol_resolve_names.specs.declared.lone_names.variable.Variable.TheVariants as variable
use Rattle.mol_resolve_rules.specs.Locals.{Local, Locals, names_in_scope}

-- a declared local has its type
pub local-typed : (scoped : Scoped) (declared : List Kept) (number : ℕ) (local : Kept) → declared ≡ scoped.declared
    → number < length declared → local ≡ get_or declared number local
    → option_map (λ (local : Local ℕ). local.type) (slice_get (locals_of scoped).declared number) ≡ Some (view_type local.ty)
local-typed scoped declared number local are inside at =
    ap (option_map (λ (local : Local ℕ). local.type))
    (slice_get-map local_of scoped.declared number
    ∙ ap (λ (all : List Kept). option_map local_of (slice_get all number)) (sym are)
    ∙ ap (option_map local_of) (slice_get_read declared (length declared) number local refl inside at))

module _ (sources : List SourceUnit) (params : List Parameter) (locals : Locals ℕ) (view : View ℕ MemberKey) (place : Place ℕ)
    (name : Name) where
  abbrev here : Place ℕ
  here = record place { locals = names_in_scope locals }

  abbrev Answered : Answer Variable → Found (Read ℕ MemberKey) → Type 0
  Answered = Answers (IsVariable sources locals params)

  pub local-answered : (number : ℕ) (type : Bor SeenType) → Some number ≡ nearest_local locals name
      → option_map (λ (local : Local ℕ). local.type) (slice_get locals.declared number) ≡ Some (view_type type.now)
      → Answered (answer.Found (variable.Local number type)) (variable_named view here name)
  local-answered number type is typed = by (last_place name (names_in_scope locals)) is where
    by : (at : Option ℕ) → Some number ≡ option_and_then (slice_get locals.in_scope) at
        → Answered (answer.Found (variable.Local number type))
        (local_or at (first_place name place.params) (field_from view place.class name))
    by None is = absurd cc
    by (Some at) is = record { in_scope = sym is; typed = typed }

  module _ (none : None ≡ nearest_local locals name) where
    pub parameter-answered : (at : ℕ) (param : Bor Parameter) → Some at ≡ first_place name place.params
        → slice_get params at ≡ Some param.now
        → Answered (answer.Found (variable.Parameter param)) (variable_named view here name)
    parameter-answered at param is there = subst (Answered (answer.Found (variable.Parameter param)))
        (λ i. local_or (sym (none-local locals name none) i) (is i) (field_from view place.class name)) there

    module _ (no_param : None ≡ first_place name place.params) where
      abbrev field : Found (ViewField ℕ MemberKey)
      field = field_from view place.class name

      by-field : (answer : Answer Variable) → Answered answer (field_found field) → Answered answer (variable_named view here name)
      by-field answer = subst (Answered answer) (λ i. local_or (sym (none-local locals name none) i) (no_param i) field)

      pub field-answered : (kept : FoundField) → Answers (IsField sources) (answer.Found kept) field
          → Answered (answer.Found (variable.Field kept)) (variable_named view here name)
      field-answered kept stands = by-field (answer.Found (variable.Field kept)) (by field stands) where
        by : (read : Found (ViewField ℕ MemberKey)) → Answers (IsField sources) (answer.Found kept) read
            → Answered (answer.Found (variable.Field kept)) (field_found read)
        by (found read) is = is
        by outside is = absurd is
        by not_found is = absurd is

      pub outside-answered : Answers (IsField sources) answer.Outside field → Answered answer.Outside (variable_named view here name)
      outside-answered stands = by-field answer.Outside (by field stands) where
        by : (read : Found (ViewField ℕ MemberKey)) → Answers (IsField sources) answer.Outside read
            → Answered answer.Outside (field_found read)
        by (found read) is = absurd is
        by outside is = tt
        by not_found is = absurd is

      pub nothing-answered : Answers (IsField sources) answer.NotFound field → Answered answer.NotFound (variable_named view here name)
      nothing-answered stands = by-field answer.NotFound (by field stands) where
        by : (read : Found (ViewField ℕ MemberKey)) → Answers (IsField sources) answer.NotFound read
            → Answered answer.NotFound (field_found read)
        by (found read) is = absurd is
        by outside is = absurd is
        by not_found is = tt
