-- Values that names read as, by what they are the names of.
use Rattle.std.proofs.Common.{◌≡◌, ◌≢◌, ℕ, Option, Some, None, option_map, slice_get, refl, sym, ap}
use Rattle.jav_names.specs.DottedNames.{Name}
use Rattle.jav_names.specs.OnValues.{StaticType, OnValue, member, static_member, outside_member, missing_member, has_no_members, unread_member}
use Rattle.jav_names.specs.StaticTypes.{outside_field}
use Rattle.jav_names.specs.Variables.{Variable, local_variable, parameter_variable, field_variable}
use Rattle.jav_names.specs.Views.{ViewField}
use Rattle.mol_scope.specs.asked.Answers.{answer_of}
use Rattle.mol_scope.specs.asked.Places.{program_of, reader_of}
use Rattle.mol_scope.specs.declared.asked.answer.Answer.{Answer}
use Rattle.mol_scope.specs.declared.asked.answer.Answer.TheVariants as answers
use Rattle.mol_scope.specs.declared.asked.dotted_text.DottedText.{DottedText}
use Rattle.mol_scope.specs.declared.asked.place.NamePlace.{NamePlace}
use Rattle.mol_base.specs.declared.ident.Id.{Id}
use Rattle.mol_faults_names.specs.Reads.{Reads, field_read, local_read, member_read, outside_read, param_read, variable_read}
use Rattle.mol_spell_rules.specs.references.References.{Target, class_target, field_target, method_target, param_target, default_target, local_target, outside_target}
use Rattle.mol_resolve_rules.specs.Locals.{Locals}
use Rattle.mol_resolve_rules.specs.Readers.{Reader}
use Rattle.mol_resolve_rules.specs.StaticTypes.{field_value}
use Rattle.mol_spell_rules.specs.Answers.{field_of, on_value_answer}
use Rattle.mol_table_rules.specs.Program.{Program}
use Rattle.mol_scope.specs.variables.Keys.{variable_key}
use Rattle.mol_scope.specs.declared.variables.variable.Variable.TheVariants as kept

-- what has no target of a value here
pub data IsElse : Option Target → Type 0 where
  a_class : {id : Id} → IsElse (Some (class_target id))
  a_method : {id : Id} → IsElse (Some (method_target id))
  a_param : {id : Id} → IsElse (Some (param_target id))
  a_default : {id : Id} → IsElse (Some (default_target id))
  a_local : {number : ℕ} → IsElse (Some (local_target number))
  nothing : IsElse None

pub is-else : (read : Answer) → ((field : Id) → read ≢ answers.Field field) → ((text : DottedText) → read ≢ answers.Outside text)
    → IsElse (answer_of read)
is-else (answers.Class id) no_field not_outside = a_class
is-else (answers.Field id) no_field not_outside = absurd (no_field id refl)
is-else (answers.Method id) no_field not_outside = a_method
is-else (answers.Param id) no_field not_outside = a_param
is-else (answers.Default id) no_field not_outside = a_default
is-else (answers.Local number) no_field not_outside = a_local
is-else (answers.Outside text) no_field not_outside = absurd (not_outside text refl)
is-else answers.Nothing no_field not_outside = nothing

module _ (place : NamePlace) where
  abbrev program : Program
  program = program_of place

  abbrev reader : Reader Id Id
  reader = reader_of place

  abbrev pub of_field : Id → Reads
  of_field field = record { target = field_target field; type = field_value program field }

  -- ---- after a value

  module _ (name : Name) (type : StaticType Id) where
    abbrev answered : OnValue (ViewField Id Id) → Option Target
    answered o = on_value_answer reader name (field_of reader) o

    pub field-answer : (field : Id) (o : OnValue (ViewField Id Id)) → Some (field_target field) ≡ answered o
        → Some (of_field field) ≡ member_read program reader name type o
    field-answer field (member f) is = let same : field ≡ f.key = cc in ap (λ k. Some (of_field k)) same
    field-answer field outside_member is = absurd cc
    field-answer field (static_member f) is = absurd cc
    field-answer field missing_member is = absurd cc
    field-answer field has_no_members is = absurd cc
    field-answer field unread_member is = absurd cc

    pub outside-answer : (text : Name) (o : OnValue (ViewField Id Id)) → Some (outside_target text) ≡ answered o
        → Some (outside_read name (outside_field type name)) ≡ member_read program reader name type o
    outside-answer text outside_member is = refl
    outside-answer text (member f) is = absurd cc
    outside-answer text (static_member f) is = absurd cc
    outside-answer text missing_member is = absurd cc
    outside-answer text has_no_members is = absurd cc
    outside-answer text unread_member is = absurd cc

    pub else-answer : (read : Option Target) → IsElse read → (o : OnValue (ViewField Id Id)) → read ≡ answered o
        → None ≡ member_read program reader name type o
    else-answer read is_else (static_member f) is = refl
    else-answer read is_else missing_member is = refl
    else-answer read is_else has_no_members is = refl
    else-answer read is_else unread_member is = refl
    else-answer read a_class (member f) is = absurd cc
    else-answer read a_method (member f) is = absurd cc
    else-answer read a_param (member f) is = absurd cc
    else-answer read a_default (member f) is = absurd cc
    else-answer read a_local (member f) is = absurd cc
    else-answer read nothing (member f) is = absurd cc
    else-answer read a_class outside_member is = absurd cc
    else-answer read a_method outside_member is = absurd cc
    else-answer read a_param outside_member is = absurd cc
    else-answer read a_default outside_member is = absurd cc
    else-answer read a_local outside_member is = absurd cc
    else-answer read nothing outside_member is = absurd cc

  -- ---- through a class

  pub through-field : (field : Id) (o : Option (ViewField Id Id)) → Some (field_target field) ≡ option_map (field_of reader) o
      → Some (of_field field) ≡ option_map (field_read program reader) o
  through-field field (Some f) is = let same : field ≡ f.key = cc in ap (λ k. Some (of_field k)) same
  through-field field None is = absurd cc

  pub through-none : (o : Option (ViewField Id Id)) → None ≡ option_map (field_of reader) o → None ≡ option_map (field_read program reader) o
  through-none None is = refl
  through-none (Some f) is = absurd cc

  -- ---- variables

  module _ (locals : Locals Id) where
    pub local-key : (number : ℕ) (read : Variable Id Id) → variable_key read ≡ kept.Local number
        → option_map (local_read program reader locals) (slice_get locals.in_scope number) ≡ variable_read program reader locals read
    local-key number (local_variable other) is =
        let same : other ≡ number = cc in
        ap (λ n. option_map (local_read program reader locals) (slice_get locals.in_scope n)) (sym same)
    local-key number (parameter_variable other) is = absurd cc
    local-key number (field_variable field) is = absurd cc

    pub param-key : (number : ℕ) (read : Variable Id Id) → variable_key read ≡ kept.Param number
        → option_map (param_read program reader locals) (slice_get reader.params number) ≡ variable_read program reader locals read
    param-key number (parameter_variable other) is =
        let same : other ≡ number = cc in
        ap (λ n. option_map (param_read program reader locals) (slice_get reader.params n)) (sym same)
    param-key number (local_variable other) is = absurd cc
    param-key number (field_variable field) is = absurd cc

    pub field-key : (key : Id) (read : Variable Id Id) → variable_key read ≡ kept.Field key
        → Some (of_field key) ≡ variable_read program reader locals read
    field-key key (field_variable field) is = let same : field.key ≡ key = cc in ap (λ k. Some (of_field k)) (sym same)
    field-key key (local_variable other) is = absurd cc
    field-key key (parameter_variable other) is = absurd cc
