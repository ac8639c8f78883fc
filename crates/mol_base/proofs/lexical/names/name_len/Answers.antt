use Rattle.std.proofs.Common.{sym, ◌∙◌, arith}
use Rattle.std.proofs.lemmas.Grind.{common_steps}
use Rattle.mol_base.proofs.Naming.{name_len-goes_on, name_len-stops}
use Rattle.mol_base.proofs.lexical.names.name_len.Goals as goal

pub loop-rest-preserved : goal.loop-rest-preserved
loop-rest-preserved c =
    let step = name_len-goes_on c.loop-rest.rest.now (sym c.goes_on.ensures.same ∙ c.loop-rest-test.true) in
    grind (arith, common_steps, step)

pub returns-clause-same : goal.returns-clause-same
returns-clause-same c =
    let stop = name_len-stops c.loop-rest.rest.now (sym c.goes_on.ensures.same ∙ c.loop-rest-test.false) in
    omega (arith, stop)
