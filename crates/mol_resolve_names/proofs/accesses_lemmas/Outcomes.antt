-- What outcomes come to: a value, a fault, or neither.
use Rattle.std.proofs.Common.{◌≡◌, ℕ, Bool, List, Option, Some, None, option_map, refl, sym, ◌∙◌, ap}
use Rattle.mol_base.specs.declared.ident.Id.{Id}
use Rattle.jav_names.specs.seen.Kept.{view_type}
use Rattle.jav_names.specs.OnValues.{is_static_kind}
use Rattle.jav_names.specs.UnitViews.{MemberKey}
use Rattle.jav_names.specs.Views.{ViewDeclaration, ViewField, ViewType}
use Rattle.jav_scope.specs.declared.source.SourceUnit.{SourceUnit}
use Rattle.mol_resolve_names.specs.accesses.Over.{IsOver}
use Rattle.mol_resolve_members.specs.found.Found.{IsField, IsMethod}
use Rattle.mol_resolve_members.specs.declared.found.found_member.FoundField.{FoundField}
use Rattle.mol_resolve_members.specs.declared.found.found_member.FoundMethod.{FoundMethod}
use Rattle.mol_resolve_faults.specs.First.{noted}
use Rattle.mol_resolve_readings.specs.reads.Reads.{Reads}
use Rattle.mol_resolve_rules.specs.FaultKinds.{FaultKind}
use Rattle.mol_resolve_rules.specs.Outcomes.{TreeFault, fine, given, refused, silent}
use Rattle.mol_resolve_rules.specs.Readers.{Ids, Reader}
use Rattle.mol_resolve_rules.specs.ReadTrees.{arguments_of}
use Rattle.mol_values_types.specs.declared.iexpr.Argument.{Argument}
use Rattle.mol_values_types.specs.declared.iexpr.IExpr.{IExpr}

pub reads-fine : {A : Type 0} (value made : A) (first : Option TreeFault) → made ≡ value → Reads (fine value) (Some made) first first
reads-fine value made first is = record { value_read = ap (λ v. Some v) is; faults_noted = refl }

pub reads-silent : {A : Type 0} (first : Option TreeFault) → Reads (silent {A = A}) None first first
reads-silent first = record { value_read = refl; faults_noted = refl }

pub reads-refused : {A : Type 0} (kind : FaultKind) (at : ℕ) (before after : Option TreeFault)
    → after ≡ noted before (record { kind = kind; at = at }) → Reads (refused {A = A} kind at) None before after
reads-refused kind at before after is = record { value_read = refl; faults_noted = is }

pub reads-given : {A B : Type 0} (part : Option A) (make : A → B) (value : Option B) (first : Option TreeFault)
    → value ≡ option_map make part → Reads (given part (λ a. fine (make a))) value first first
reads-given None make value first is = record { value_read = is; faults_noted = refl }
reads-given (Some a) make value first is = record { value_read = is; faults_noted = refl }

-- ---- what is made of what was found

mapped-twice : {A B C : Type 0} (f : B → C) (g : A → B) (part : Option A)
    → option_map f (option_map g part) ≡ option_map (λ a. f (g a)) part
mapped-twice f g None = refl
mapped-twice f g (Some a) = refl

module _ (sources : List SourceUnit) (reader : Reader ℕ MemberKey) (over : IsOver sources reader) where
  pub field-id : (field : ViewField ℕ MemberKey) (kept : FoundField) → IsField sources field kept
      → kept.id ≡ reader.ids.member_id field.key
  field-id field kept is = is.identity ∙ ap (λ (ids : Ids ℕ MemberKey). ids.member_id field.key) (sym over.ids)

  module _ (declared : ViewDeclaration ℕ MemberKey) (kept : FoundMethod) (is : IsMethod sources declared kept) where
    method-id : kept.id ≡ reader.ids.method_id declared
    method-id = is.identity ∙ ap (λ (ids : Ids ℕ MemberKey). ids.method_id declared) (sym over.ids)

    -- something over the arguments of its call
    pub made-of : {B : Type 0} (make : Bool → Id → ViewType ℕ → List Argument → B) (values : Option (List IExpr))
        (args : Option (List Argument)) → args ≡ option_map (arguments_of reader declared) values
        → option_map (make kept.is_static kept.id (view_type kept.result.now)) args
        ≡ option_map (λ values. make (is_static_kind declared.kind) (reader.ids.method_id declared) declared.result
        (arguments_of reader declared values)) values
    made-of make values args are =
        (λ i. option_map (make (is.static i) (method-id i) (is.gives i)) (are i))
        ∙ mapped-twice (make (is_static_kind declared.kind) (reader.ids.method_id declared) declared.result)
        (arguments_of reader declared) values
