use Rattle.mol_spell.proofs.units.fields.value_tree.Goals as goal

pub returns : goal.returns
returns g c = λ i. record { ty = c.in_ok-ty.ensures i; init = c.in_ok-init.ensures i }
