use Rattle.std.proofs.Common.{[], ◌∷◌, length, None, Some, sym, ap, ◌∙◌}
use Rattle.std.proofs.lemmas.List.{append-nil}
use Rattle.std.proofs.lemmas.Result.{IfOk-weaker}
use Rattle.mol_scope.specs.asked.Answers.{dotted_of, names_in, target_of}
use Rattle.mol_faults_expr.proofs.CutNames.{is-some}
use Rattle.mol_faults_expr.specs.Readings.{reads_as}
use Rattle.mol_faults_names.specs.Kept.{locals_at, reader_at}
use Rattle.mol_spell_rules.specs.SpelledExpressions.{asks_outside}
use Rattle.mol_faults_expr.proofs.paths.outside_reads.Goals as goal

pub path_reads-requires-clause-some : goal.path_reads-requires-clause-some
path_reads-requires-clause-some c =
    is-some _ _ _ c.requires.names

pub returns-in-Some : goal.returns-in-Some
returns-in-Some c =
    let place = c.args.place.now in
    let names = names_in (Some c.in-Some.rest) in
    let all = c.requires.names ∙ ap (λ rest. c.args.path.front.now ∷ names_in rest) c.in-Some.is in
    IfOk-weaker c.path_reads.result _ _ (λ read said writer around.
    said [] (all ∙ ap (λ names. c.args.path.front.now ∷ names) (sym (append-nil names))) (ap length all)
    ∙ ap (λ rest. reads_as (reader_at place) (locals_at place) (target_of c.args.target.now)
    (asks_outside writer around (dotted_of (record { front = c.args.path.front; rest = rest })) None)) (sym c.in-Some.is))
    c.path_reads.ensures

pub returns-in-None : goal.returns-in-None
returns-in-None c = λ writer around.
    c.name_reads.ensures (locals_at c.args.place.now) c.requires.at
    ∙ ap (λ rest. reads_as (reader_at c.args.place.now) (locals_at c.args.place.now) (target_of c.args.target.now)
    (asks_outside writer around (dotted_of (record { front = c.args.path.front; rest = rest })) None)) (sym c.in-None.is)
