-- What a name means that stands alone, or before a dot, by what its look-up answers.
use Rattle.std.proofs.Common.{◌≡◌, ◌∙◌, ℕ, List, Option, Some, None, refl, sym, ap, subst}
use Rattle.jav_scope.specs.declared.found.Found.TheVariants as answer
use Rattle.jav_scope.specs.declared.source.SourceUnit.{SourceUnit}
use Rattle.jav_names.specs.DottedNames.{Name, Names}
use Rattle.jav_names.specs.Leftmost.{Leftmost}
use Rattle.jav_names.specs.LookUps.{leftmost, leftmost_type, simple_type, variable as variable_named, variable_or}
use Rattle.jav_names.specs.OnValues.{outside_value}
use Rattle.jav_names.specs.UnitViews.{MemberKey}
use Rattle.jav_names.specs.Variables.{Variable as Read}
use Rattle.jav_names.specs.Views.{Found, found, outside, not_found, View}
use Rattle.mol_resolve_names.specs.declared.chains.parameter.Parameter.{Parameter}
use Rattle.mol_resolve_members.specs.found.Found.{Answers}
use Rattle.mol_resolve_readings.specs.meant.Made.{made}
use Rattle.mol_resolve_faults.specs.First.{noted}
use Rattle.mol_resolve_readings.specs.reads.Chains.{chain_by}
use Rattle.mol_resolve_readings.specs.reads.Reads.{Reads}
use Rattle.mol_resolve_readings.specs.declared.reads.chain.Chain.TheVariants as chain
use Rattle.mol_resolve_rules.specs.FaultKinds.{unknown_name}
use Rattle.mol_resolve_rules.specs.Locals.{Locals}
use Rattle.mol_resolve_rules.specs.Outcomes.{TreeFault, fine}
use Rattle.mol_resolve_rules.specs.Readers.{Reader, place_of}
use Rattle.mol_resolve_rules.specs.ReadTrees.{Meant, name_alone, name_before, name_meant}
use Rattle.mol_values_types.specs.declared.iexpr.IExpr.TheVariants as exprs
use Rattle.mol_resolve_names.specs.lone_names.Variables.{IsOver, IsVariable, value_of}
use Rattle.mol_resolve_names.specs.declared.lone_names.variable.Variable.{Variable}
use Rattle.mol_resolve_names.proofs.lone_names_lemmas.VariablesMeant.{variable-meant}

module _ (sources : List SourceUnit) (params : List Parameter) (reader : Reader ℕ MemberKey) (locals : Locals ℕ)
    (over : IsOver sources params reader) (view : View ℕ MemberKey) (same : reader.view ≡ view) (name : Name) where
  abbrev read_in : View ℕ MemberKey → Found (Read ℕ MemberKey)
  read_in view = variable_named view (place_of reader locals) name

  module _ (at : ℕ) where
    alone_in : (outcome : View ℕ MemberKey → Option (Meant ℕ) → Option TreeFault → Option TreeFault → Type 0)
        (value : Option (Meant ℕ)) (before after : Option TreeFault) → outcome view value before after
        → outcome reader.view value before after
    alone_in outcome value before after = subst (λ view. outcome view value before after) (sym same)

    abbrev Alone : View ℕ MemberKey → Option (Meant ℕ) → Option TreeFault → Option TreeFault → Type 0
    Alone view = Reads (name_alone reader at name locals (read_in view))

    pub found-alone : (variable : Variable) (value : Meant ℕ) (faults : Option TreeFault)
        → Answers (IsVariable sources locals params) (answer.Found variable) (read_in view) → value ≡ value_of variable
        → Reads (name_meant reader at name locals None) (Some value) faults faults
    found-alone variable value faults stands is = alone_in Alone (Some value) faults faults (by (read_in view) stands) where
      by : (read : Found (Read ℕ MemberKey)) → Answers (IsVariable sources locals params) (answer.Found variable) read
          → Reads (name_alone reader at name locals read) (Some value) faults faults
      by (found read) stands = subst (λ outcome. Reads outcome (Some value) faults faults)
          (ap (λ value. fine value) is ∙ sym (variable-meant sources params reader locals over read variable stands))
          record { value_read = refl; faults_noted = refl }
      by outside stands = absurd stands
      by not_found stands = absurd stands

    pub outside-alone : (value : Meant ℕ) (faults : Option TreeFault)
        → Answers (IsVariable sources locals params) answer.Outside (read_in view) → value ≡ made (exprs.OutsideName name) outside_value
        → Reads (name_meant reader at name locals None) (Some value) faults faults
    outside-alone value faults stands is = alone_in Alone (Some value) faults faults (by (read_in view) stands) where
      by : (read : Found (Read ℕ MemberKey)) → Answers (IsVariable sources locals params) answer.Outside read
          → Reads (name_alone reader at name locals read) (Some value) faults faults
      by (found read) stands = absurd stands
      by outside stands = record { value_read = ap (λ value. Some value) is; faults_noted = refl }
      by not_found stands = absurd stands

    pub none-alone : (before after : Option TreeFault) → Answers (IsVariable sources locals params) answer.NotFound (read_in view)
        → after ≡ noted before (record { kind = unknown_name; at = at }) → Reads (name_meant reader at name locals None) None before after
    none-alone before after stands note = alone_in Alone None before after (by (read_in view) stands) where
      by : (read : Found (Read ℕ MemberKey)) → Answers (IsVariable sources locals params) answer.NotFound read
          → Reads (name_alone reader at name locals read) None before after
      by (found read) stands = absurd stands
      by outside stands = absurd stands
      by not_found stands = record { value_read = refl; faults_noted = note }

  module _ (follow : Names) where
    abbrev otherwise : Leftmost ℕ MemberKey
    otherwise = leftmost_type view.classes name follow (simple_type view.classes reader.header name)

    abbrev value_before : Leftmost ℕ MemberKey → Option (Meant ℕ)
    value_before front = (name_before reader name locals front).value

    front : leftmost reader.view (place_of reader locals) name follow ≡ variable_or (read_in view) otherwise
    front = ap (λ view. leftmost view (place_of reader locals) name follow) same

    pub found-before : (variable : Variable) (value : Meant ℕ)
        → Answers (IsVariable sources locals params) (answer.Found variable) (read_in view) → value ≡ value_of variable
        → Some value ≡ (name_meant reader 0 name locals (Some follow)).value
    found-before variable value stands is = by (read_in view) stands ∙ sym (ap value_before front) where
      by : (read : Found (Read ℕ MemberKey)) → Answers (IsVariable sources locals params) (answer.Found variable) read
          → Some value ≡ value_before (variable_or read otherwise)
      by (found read) stands = ap (λ value. Some value) is
          ∙ sym (ap (λ outcome. outcome.value) (variable-meant sources params reader locals over read variable stands))
      by outside stands = absurd stands
      by not_found stands = absurd stands

    -- where it is no variable it is a type, or the beginning of one
    front-before : (value : Option (Meant ℕ)) → variable_or (read_in view) otherwise ≡ otherwise
        → (chain_by 1 otherwise ≡ chain.NoClass → value ≡ value_before otherwise)
        → chain_by 1 (leftmost reader.view (place_of reader locals) name follow) ≡ chain.NoClass
        → value ≡ (name_meant reader 0 name locals (Some follow)).value
    front-before value first by begins =
        by (sym (ap (chain_by 1) (front ∙ first)) ∙ begins) ∙ sym (ap value_before (front ∙ first))

    pub outside-before : (value : Option (Meant ℕ)) → Answers (IsVariable sources locals params) answer.Outside (read_in view)
        → (chain_by 1 otherwise ≡ chain.NoClass → value ≡ value_before otherwise)
        → chain_by 1 (leftmost reader.view (place_of reader locals) name follow) ≡ chain.NoClass
        → value ≡ (name_meant reader 0 name locals (Some follow)).value
    outside-before value stands = front-before value (by (read_in view) stands) where
      by : (read : Found (Read ℕ MemberKey)) → Answers (IsVariable sources locals params) answer.Outside read
          → variable_or read otherwise ≡ otherwise
      by (found read) stands = absurd stands
      by outside stands = refl
      by not_found stands = absurd stands

    pub none-before : (value : Option (Meant ℕ)) → Answers (IsVariable sources locals params) answer.NotFound (read_in view)
        → (chain_by 1 otherwise ≡ chain.NoClass → value ≡ value_before otherwise)
        → chain_by 1 (leftmost reader.view (place_of reader locals) name follow) ≡ chain.NoClass
        → value ≡ (name_meant reader 0 name locals (Some follow)).value
    none-before value stands = front-before value (by (read_in view) stands) where
      by : (read : Found (Read ℕ MemberKey)) → Answers (IsVariable sources locals params) answer.NotFound read
          → variable_or read otherwise ≡ otherwise
      by (found read) stands = absurd stands
      by outside stands = absurd stands
      by not_found stands = refl
