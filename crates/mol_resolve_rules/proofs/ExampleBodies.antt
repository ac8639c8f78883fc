-- Bodies with locals: their numbers, their scopes, and what may not be declared.
use Rattle.std.proofs.Common.{◌≡◌, ℕ, [], ◌∷◌, codes, refl}
use Rattle.mol_resolve_rules.specs.FaultKinds.{redeclared}
use Rattle.mol_resolve_rules.specs.Locals.{Locals, no_locals}
use Rattle.mol_resolve_rules.specs.ReadStatements.{redeclared_faults, declaring}
use Rattle.jav_names.specs.Views.{primitive_type}
use Rattle.mol_resolve_rules.proofs.ExampleShop.{in_pay}

-- a local of the name of the parameter `cart`, and one of another name
hides_parameter : redeclared_faults in_pay 5 (codes "cart") no_locals ≡ record { kind = redeclared; at = 5 } ∷ []
hides_parameter = refl

another_name : redeclared_faults in_pay 5 (codes "desk") no_locals ≡ []
another_name = refl

-- a second local of one name, in the scope of the first and after its block
abbrev with_desk : Locals ℕ
with_desk = declaring in_pay (primitive_type (codes "int")) (codes "desk") no_locals

in_its_scope : redeclared_faults in_pay 9 (codes "desk") with_desk ≡ record { kind = redeclared; at = 9 } ∷ []
in_its_scope = refl
