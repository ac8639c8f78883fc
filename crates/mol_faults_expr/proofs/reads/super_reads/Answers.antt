use Rattle.std.proofs.Common.{ap, ◌∙◌}
use Rattle.mol_scope.specs.asked.Answers.{target_of}
use Rattle.mol_faults_expr.specs.Readings.{reading}
use Rattle.mol_faults_expr.proofs.reads.super_reads.Goals as goal

pub returns-in-Outside : goal.returns-in-Outside
returns-in-Outside c =
    λ locals. c.outside_reading.ensures ∙ ap (λ read. reading (target_of c.args.target.now) read read) (c.in-Outside.ensures locals)

pub returns-in_default : goal.returns-in_default
returns-in_default c =
    λ locals. c.of.ensures ∙ ap (λ read. reading (target_of c.args.target.now) read read) (c.super_constructor.ensures locals)
