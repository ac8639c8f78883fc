use Rattle.std.proofs.Common.{sym, ap, ◌∙◌}
use Rattle.std.specs.Option.{option_and_then}
use Rattle.mol_scope.specs.asked.Answers.{dotted_of, is_answer, target_of}
use Rattle.mol_faults_expr.proofs.NotedMore.{as-instead, as-named}
use Rattle.mol_faults_expr.specs.Readings.{program_target}
use Rattle.mol_faults_names.specs.Kept.{locals_at}
use Rattle.mol_faults_expr.proofs.paths.path_reads.Goals as goal

pub returns-then-is : goal.returns-then-is
returns-then-is c = λ follow is many.
    as-named _ _ (ap (is_answer (target_of c.args.target.now)) (sym (c.outside_path-answer.ensures (locals_at c.args.place.now) follow c.requires.at is))
    ∙ sym c.is.ensures ∙ c.if-is.true)

pub returns-in-Ok : goal.returns-in-Ok
returns-in-Ok c = λ follow is many.
    as-instead _ _ _ (ap (is_answer (target_of c.args.target.now)) (sym (c.outside_path-answer.ensures (locals_at c.args.place.now) follow c.requires.at is))
    ∙ sym c.is.ensures ∙ c.if-is.false)
    (c.met_by.ensures ∙ ap (option_and_then program_target) (c.in-Ok.ensures (dotted_of c.args.path) follow is many))
