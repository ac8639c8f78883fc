use Rattle.std.proofs.lemmas.Result.{IfOk-weaker}
use Rattle.mol_spell_body.proofs.InTurn.{same_tree}
use Rattle.mol_spell_body.proofs.body_writer.BodyWriter.boxed_start.Goals as goal

pub returns : goal.returns
returns g c =
    IfOk-weaker c.new.result _ _ (λ tree is. same_tree _ _ tree _ _ is c.in_ok-start.ensures) c.new.ensures
