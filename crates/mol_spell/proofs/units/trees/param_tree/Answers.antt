use Rattle.mol_spell.proofs.units.trees.param_tree.Goals as goal

pub returns : goal.returns
returns g c = λ i. record { ty = c.in_ok-ty.ensures i; name = c.in_ok-name.ensures i }
