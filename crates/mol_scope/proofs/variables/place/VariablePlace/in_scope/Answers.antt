use Rattle.std.proofs.Common.{ℕ, Option, ap}
use Rattle.jav_names.specs.LookUps.{first_place}
use Rattle.mol_scope.proofs.variables.place.VariablePlace.in_scope.Goals as goal
use Rattle.mol_scope.specs.variables.Keys.{in_scope}

pub returns-in-Some : goal.returns-in-Some
returns-in-Some c = ap (λ (o : Option ℕ). in_scope o (first_place c.args.name.now c.args.self.now.params.now)) c.in-Some.ensures

pub returns-in-Some-place_of : goal.returns-in-Some-place_of
returns-in-Some-place_of c = λ i. in_scope (c.in_default.ensures i) (c.in-Some-place_of.ensures i)

pub returns-in-None : goal.returns-in-None
returns-in-None c = λ i. in_scope (c.in_default.ensures i) (c.in-None.ensures i)
