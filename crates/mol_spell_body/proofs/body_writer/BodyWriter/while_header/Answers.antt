use Rattle.std.proofs.Common.{◌∙◌, ap}
use Rattle.std.proofs.lemmas.Result.{IfOk-weaker}
use Rattle.mol_spell_body.proofs.body_writer.BodyWriter.while_header.Goals as goal
use Rattle.mol_spell_body.specs.declared.headers.Header.TheVariants as header

pub returns : goal.returns
returns g c =
    IfOk-weaker c.new.result _ _ (λ made is. is ∙ ap (λ test. header.While test) c.in_ok-test.ensures) c.new.ensures
