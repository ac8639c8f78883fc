use Rattle.std.proofs.Common.{◌∙◌, sym, ap, arith}
use Rattle.std.proofs.lemmas.List.{length-take-le}
use Rattle.std.specs.Option.{option_and_then}
use Rattle.mol_scope.specs.asked.Answers.{is_answer, target_of}
use Rattle.mol_faults_expr.proofs.NamesAdded.{front-is, name-is}
use Rattle.mol_faults_expr.proofs.NotedMore.{as-instead, as-named}
use Rattle.mol_faults_expr.specs.Readings.{program_target}
use Rattle.mol_faults_names.specs.Kept.{locals_at, reader_at}
use Rattle.mol_spell_rules.specs.Answers.{answer}
use Rattle.mol_spell_rules.specs.Writers.{static_field_asked}
use Rattle.mol_faults_expr.proofs.paths.static_field_reads.Goals as goal

pub static_field-answer-requires : goal.static_field-answer-requires
static_field-answer-requires c =
    let within = c.requires.within in
    let many = length-take-le c.args.count c.args.names.now (omega (arith, within)) in
    let some = c.requires.some in omega (arith, many, some)

pub returns-then-is : goal.returns-then-is
returns-then-is c = λ path name follow is many.
    let place = c.args.place.now in
    let told = name-is c.args.names.now path.first path.rest name follow c.args.count is many c.index-names-count.result
    c.index-names-count.is in
    let read = c.static_field-answer.ensures (locals_at place) path follow c.requires.at
    (front-is c.args.names.now path.first path.rest name follow c.args.count is many)
    ∙ ap (λ n. answer (reader_at place) (locals_at place) (static_field_asked path n follow)) (c.as_str.ensures ∙ told) in
    as-named _ _ (ap (is_answer (target_of c.args.target.now)) (sym read) ∙ sym c.is.ensures ∙ c.if-is.true)

pub returns-in-Ok : goal.returns-in-Ok
returns-in-Ok c = λ path name follow is many.
    let place = c.args.place.now in
    let told = name-is c.args.names.now path.first path.rest name follow c.args.count is many c.index-names-count.result
    c.index-names-count.is in
    let read = c.static_field-answer.ensures (locals_at place) path follow c.requires.at
    (front-is c.args.names.now path.first path.rest name follow c.args.count is many)
    ∙ ap (λ n. answer (reader_at place) (locals_at place) (static_field_asked path n follow)) (c.as_str.ensures ∙ told) in
    as-instead _ _ _ (ap (is_answer (target_of c.args.target.now)) (sym read) ∙ sym c.is.ensures ∙ c.if-is.false)
    (c.met_by.ensures ∙ ap (option_and_then program_target) (c.in-Ok.ensures path name follow is many))
