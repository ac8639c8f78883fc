-- A name before a dot.
use Rattle.std.proofs.Common.{◌≡◌, ◌≢◌, ℕ, [], Option, Some, None, slice_get, refl, sym, ap}
use Rattle.jav_names.specs.DottedNames.{Name, Names}
use Rattle.jav_names.specs.Leftmost.{Leftmost, leftmost_variable, leftmost_class, leftmost_import, leftmost_outside}
use Rattle.jav_names.specs.LookUps.{leftmost}
use Rattle.jav_names.specs.UnitViews.{MemberKey}
use Rattle.jav_names.specs.Variables.{Variable, local_variable, parameter_variable, field_variable}
use Rattle.mol_resolve_faults.specs.First.{all_noted}
use Rattle.mol_resolve_readings.specs.reads.Chains.{chain_by}
use Rattle.mol_resolve_readings.specs.reads.Reads.{Reads}
use Rattle.mol_resolve_readings.specs.declared.reads.chain.Chain.TheVariants as chain
use Rattle.mol_resolve_rules.specs.Locals.{Locals}
use Rattle.mol_resolve_rules.specs.Outcomes.{TreeFault}
use Rattle.mol_resolve_rules.specs.Readers.{Parameter, Reader, place_of}
use Rattle.mol_resolve_rules.specs.ReadTrees.{Meant, local_meant, param_meant, variable_meant, name_before, name_meant}

module _ (reader : Reader ℕ MemberKey) (locals : Locals ℕ) where
  -- it has no fault of its own
  local_fine : (number : Option ℕ) → (local_meant reader locals number).faults ≡ []
  local_fine None = refl
  local_fine (Some number) = refl

  param_fine : (param : Option (Parameter ℕ)) → (param_meant reader param).faults ≡ []
  param_fine None = refl
  param_fine (Some param) = refl

  variable_fine : (variable : Variable ℕ MemberKey) → (variable_meant reader locals variable).faults ≡ []
  variable_fine (local_variable place) = local_fine (slice_get locals.in_scope place)
  variable_fine (parameter_variable place) = param_fine (slice_get reader.params place)
  variable_fine (field_variable field) = refl

  before_fine : (name : Name) (front : Leftmost ℕ MemberKey) → (name_before reader name locals front).faults ≡ []
  before_fine name (leftmost_variable variable) = variable_fine variable
  before_fine name (leftmost_class class spelling) = refl
  before_fine name (leftmost_import import) = refl
  before_fine name leftmost_outside = refl

  -- where it begins the name of a class it is no value
  class_before : (name : Name) (front : Leftmost ℕ MemberKey) → chain_by 1 front ≢ chain.NoClass
      → (name_before reader name locals front).value ≡ None
  class_before name (leftmost_variable variable) class = absurd (class refl)
  class_before name (leftmost_class class spelling) is = refl
  class_before name (leftmost_import import) class = absurd (class refl)
  class_before name leftmost_outside class = absurd (class refl)

  module _ (at : ℕ) (name : Name) (follow : Names) (first : Option TreeFault) where
    pub first_read : (value : Option (Meant ℕ)) → value ≡ (name_meant reader 0 name locals (Some follow)).value
        → Reads (name_meant reader at name locals (Some follow)) value first first
    first_read value is = record {
      value_read = is;
      faults_noted = sym (ap (all_noted first) (before_fine name (leftmost reader.view (place_of reader locals) name follow)));
    }

    pub no_value_read : chain_by 1 (leftmost reader.view (place_of reader locals) name follow) ≢ chain.NoClass
        → Reads (name_meant reader at name locals (Some follow)) None first first
    no_value_read class = first_read None (sym (class_before name (leftmost reader.view (place_of reader locals) name follow) class))
