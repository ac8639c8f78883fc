use Rattle.std.proofs.Common.{sym, ap, ◌∙◌}
use Rattle.std.specs.Option.{option_and_then}
use Rattle.mol_scope.specs.asked.Answers.{is_answer, target_of}
use Rattle.mol_faults_expr.proofs.NotedMore.{as-instead, as-named}
use Rattle.mol_faults_expr.specs.Readings.{program_target}
use Rattle.mol_faults_names.specs.Kept.{locals_at}
use Rattle.mol_faults_expr.proofs.paths.static_method_reads.Goals as goal

pub returns-then-is : goal.returns-then-is
returns-then-is c = λ names is.
    as-named _ _ (ap (is_answer (target_of c.args.target.now)) (sym (c.static_method-answer.ensures (locals_at c.args.place.now) names c.requires.at is))
    ∙ sym c.is.ensures ∙ c.if-is.true)

pub returns-in-Ok : goal.returns-in-Ok
returns-in-Ok c = λ names is.
    as-instead _ _ _ (ap (is_answer (target_of c.args.target.now)) (sym (c.static_method-answer.ensures (locals_at c.args.place.now) names c.requires.at is))
    ∙ sym c.is.ensures ∙ c.if-is.false)
    (c.met_by.ensures ∙ ap (option_and_then program_target) (c.in-Ok.ensures names is))
