use Rattle.mol_spell_body.proofs.body_writer.BodyWriter.type_name.Goals as goal

pub returns : goal.returns
returns g c = c.type_name.ensures
