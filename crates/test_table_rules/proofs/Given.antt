-- What the examples are made of.
use Rattle.std.specs.Prelude.{◌≡◌, ℕ, Bool, true, false, ◌&&◌, List, []}
use Rattle.std.proofs.Common.{refl, ap, ◌∙◌}
use Rattle.mol_base.specs.declared.ident.Id.{Id}
use Rattle.mol_values_types.specs.declared.itype.IType.{IType}
use Rattle.mol_values_types.specs.declared.param.Param.{Param}

-- the identity of a base with this number
abbrev pub base : ℕ → Id
base num = record { tag = []; num = num }

abbrev pub param : Id → List ℕ → IType → List ℕ → Param
param id name ty filler = record { id = id; name = name; ty = ty; filler = filler }

pub both : (a b : Bool) → a ≡ true → b ≡ true → (a && b) ≡ true
both a b is also = ap (λ x. x && b) is ∙ also

pub never : (a : Bool) → (a && false) ≡ false
never true = refl
never false = refl

pub never-then : (a b : Bool) → ((a && false) && b) ≡ false
never-then a b = ap (λ c. c && b) (never a)
