-- What the name of a variable reads as (JLS 6.3, 6.4.1, 6.5.6.1).
use Rattle.std.specs.Prelude.{◌≡◌, ℕ}
use Rattle.jav_names.specs.Choices.{IsFirst, IsLast, HoldsOfNone}
use Rattle.jav_names.specs.DottedNames.{Name, Names}
use Rattle.jav_names.specs.Members.{ReadsField}
use Rattle.jav_names.specs.Types.{Header}
use Rattle.jav_names.specs.Views.{ViewField, View, Found, found, outside, not_found}

-- Where a name stands in a source file: its header and class, the locals in scope, the nearest last, and the parameters of the
-- method or constructor.
pub record Place (C : Type 0) : Type 0 where
  pub header : Header C
  pub class : C
  pub locals : Names
  pub params : Names

-- A local and a parameter go by their places in these lists.
pub data Variable (C M : Type 0) : Type 0 where
  local_variable : ℕ → Variable C M
  parameter_variable : ℕ → Variable C M
  field_variable : ViewField C M → Variable C M

abbrev pub IsAbsent : Names → Name → Type 0
IsAbsent names name = HoldsOfNone (λ declared. declared ≡ name) names

-- A variable is, in this order, the nearest local of this name, the parameter, the field of the own class (JLS 6.4.1). Of several
-- parameters of one name it is the first.
pub data ReadsVariable {C M : Type 0} (view : View C M) (place : Place C) (name : Name) : Found (Variable C M) → Type 0 where
  nearest_local : {number : ℕ} → IsLast (λ declared. declared ≡ name) place.locals number name
      → ReadsVariable view place name (found (local_variable number))
  first_parameter : {number : ℕ} → IsAbsent place.locals name → IsFirst (λ declared. declared ≡ name) place.params number name
      → ReadsVariable view place name (found (parameter_variable number))
  nearest_field : {field : ViewField C M} → IsAbsent place.locals name → IsAbsent place.params name
      → ReadsField view place.class name (found field) → ReadsVariable view place name (found (field_variable field))
  in_outside_class : IsAbsent place.locals name → IsAbsent place.params name → ReadsField view place.class name outside
      → ReadsVariable view place name outside
  not_there : IsAbsent place.locals name → IsAbsent place.params name → ReadsField view place.class name not_found
      → ReadsVariable view place name not_found
