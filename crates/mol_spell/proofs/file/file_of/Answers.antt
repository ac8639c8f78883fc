use Rattle.mol_spell.proofs.file.file_of.Goals as goal

pub returns : goal.returns
returns c = λ i. record { class = c.args.key.class; path = c.args.key.path; unit = c.in_ok-unit.ensures i }
