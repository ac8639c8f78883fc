use Rattle.std.proofs.Common.{◌∙◌}
use Rattle.std.proofs.lemmas.Result.{IfOk-weaker}
use Rattle.mol_faults_support.proofs.OfValues.{calls-are}
use Rattle.mol_faults_support.proofs.calls.called_methods.Goals as goal

pub returns : goal.returns
returns c = IfOk-weaker c.called_among.result _ _ (λ methods is.
    calls-are c.args.value.now c.items-mentions.result.now (c.items-mentions.ensures ∙ c.in_ok-mentioned.ensures) methods.items is)
    c.called_among.ensures
