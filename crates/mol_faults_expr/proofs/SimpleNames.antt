-- Members that are written by their simple names, or otherwise.
use Rattle.std.proofs.Common.{◌≡◌, ℕ, suc, Bool, true, false, Option, None, Some, refl, sym, ◌∙◌, ap, slice_get, if◌then◌else◌}
use Rattle.std.specs.Option.{option_map}
use Rattle.jav_names.specs.DottedNames.{Name}
use Rattle.jav_names.specs.LookUps.{method_from, variable}
use Rattle.jav_names.specs.Variables.{Variable, local_variable, parameter_variable, field_variable}
use Rattle.jav_names.specs.Views.{ViewDeclaration, Found, found, outside, not_found}
use Rattle.mol_scope.specs.asked.Answers.{is_answer}
use Rattle.mol_scope.specs.asked.Places.{reader_of}
use Rattle.mol_scope.specs.declared.asked.place.NamePlace.{NamePlace}
use Rattle.mol_base.specs.declared.ident.Id.{Id}
use Rattle.mol_faults_expr.proofs.NotedMore.{note-reads}
use Rattle.mol_faults_expr.proofs.VariableModes.{field-variable, reads-alike}
use Rattle.mol_faults_expr.specs.Noted.{Noted, note}
use Rattle.mol_spell_rules.specs.references.References.{field_target, local_target, method_target, param_target}
use Rattle.mol_resolve_rules.specs.Locals.{Locals}
use Rattle.mol_resolve_rules.specs.Readers.{Parameter, Reader, place_of}
use Rattle.mol_resolve_rules.specs.ReadTrees.{Mode}
use Rattle.mol_spell_rules.specs.Answers.{answered, call_answer, name_answer}
use Rattle.mol_spell_rules.specs.SpelledExpressions.{MemberForm, by_name, call_reference, field_reference, is_declaration_of, is_field, name_of, reads_field, reads_method}
use Rattle.mol_spell_rules.specs.Writers.{Reference, Writer}
use Rattle.mol_table_rules.specs.Program.{same_id}

-- ---- what simple names read as

module _ (reader : Reader Id Id) (locals : Locals Id) (id : Id) (name : Name) where
  field-found : reader.ids.member_id ≡ (λ key. key) → (v : Found (Variable Id Id))
      → is_field id v ≡ is_answer (field_target id) (name_answer reader locals name v)
  field-found keys (found (field_variable field)) = ap (λ (of : Id → Id). same_id id (of field.key)) (sym keys)
  field-found keys (found (local_variable place)) = by (slice_get locals.in_scope place) where
    by : (number : Option ℕ) → false ≡ is_answer (field_target id) (option_map (λ number. local_target number) number)
    by None = refl
    by (Some number) = refl
  field-found keys (found (parameter_variable place)) = by (slice_get reader.params place) where
    by : (param : Option (Parameter Id))
        → false ≡ is_answer (field_target id) (option_map (λ (param : Parameter Id). param_target param.id) param)
    by None = refl
    by (Some param) = refl
  field-found keys outside = refl
  field-found keys not_found = refl

  method-found : (v : Found (ViewDeclaration Id Id))
      → is_declaration_of reader id v ≡ is_answer (method_target id) (call_answer reader name v)
  method-found (found declared) = refl
  method-found outside = refl
  method-found not_found = refl

module _ (writer : Writer) (locals : Locals Id) where
  field-alone : (place : NamePlace) → writer.reader ≡ reader_of place → (field : Id) → reads_field writer locals field
      ≡ is_answer (field_target field) (answered writer.reader (field_reference writer locals by_name field None))
  field-alone place is field = field-found writer.reader locals field (name_of writer locals field)
      (ap (λ (reader : Reader Id Id). reader.ids.member_id) is)
      (variable writer.reader.view (place_of writer.reader locals) (name_of writer locals field))

  pub field-reads : (place : NamePlace) → writer.reader ≡ reader_of place → (field : Id) (mode : Mode) → reads_field writer locals field
      ≡ is_answer (field_target field) (answered writer.reader (field_reference writer locals by_name field mode))
  field-reads place is field None = field-alone place is field
  field-reads place is field (Some follow) = field-alone place is field
      ∙ reads-alike writer.reader locals (field_target field) (field-variable field) (name_of writer locals field) follow

  pub method-reads : (method : Id) (arity : ℕ) → reads_method writer locals method arity
      ≡ is_answer (method_target method) (answered writer.reader (call_reference writer locals by_name method arity))
  method-reads method arity = method-found writer.reader locals method (name_of writer locals method)
      (method_from writer.reader.view writer.reader.class (name_of writer locals method) arity)

-- ---- by the simple name where that reads as the member, or otherwise

module _ (writer : Writer) (of : MemberForm → Reference) (otherwise : MemberForm) (reads : Bool)
    (is : reads ≡ is_answer (of by_name).target (answered writer.reader (of by_name))) where
  abbrev chosen : Bool → Reference
  chosen b = of (if b then by_name else otherwise)

  pub noted-simply : reads ≡ true → (noted : Noted) → record noted { count = suc noted.count } ≡ note writer noted (chosen reads)
  noted-simply so noted = note-reads writer noted (of by_name) (sym is ∙ so) ∙ ap (λ b. note writer noted (chosen b)) (sym so)

  pub otherwise-is : reads ≡ false → chosen reads ≡ of otherwise
  otherwise-is not_so = ap chosen not_so
