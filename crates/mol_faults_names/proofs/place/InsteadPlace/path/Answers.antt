use Rattle.std.proofs.Common.{◌-◌, ◌∙◌, ◌++◌, ap, arith}
use Rattle.std.proofs.lemmas.Result.{IfOk-weaker}
use Rattle.mol_faults_names.proofs.NamesCut.{first-name, names-after}
use Rattle.mol_faults_names.proofs.Said.{left}
use Rattle.mol_faults_names.proofs.SaidInstead.{path-class, path-front, path-value}
use Rattle.mol_faults_names.specs.Kept.{locals_at, program_at, reader_at}
use Rattle.mol_faults_names.specs.Reads.{target_read}
use Rattle.mol_resolve_rules.specs.ReadTrees.{path_by}
use Rattle.mol_faults_names.proofs.place.InsteadPlace.path.Goals as goal

pub returns-in-Whole : goal.returns-in-Whole
returns-in-Whole c = λ path follow is many.
    let place = c.args.self.now.names.now in
    let locals = locals_at c.args.self.now in
    let read = left place locals path.first (path.rest ++ follow) in
    path-class place locals path follow c.in-Whole.class
    (c.in-Whole.ensures read (c.first-first.ensures path.first (path.rest ++ follow) is) ∙ ap (λ count. path_by count read) many)

pub returns-in-Front : goal.returns-in-Front
returns-in-Front c = λ path follow is many.
    let place = c.args.self.now.names.now in
    let locals = locals_at c.args.self.now in
    let read = left place locals path.first (path.rest ++ follow) in
    let first = c.first-first.ensures path.first (path.rest ++ follow) is in
    c.class_begun.ensures read first
    ∙ path-front place locals path follow (c.in-Front.ensures read first ∙ ap (λ count. path_by count read) many)

pub returns-in-Neither : goal.returns-in-Neither
returns-in-Neither c =
    let self = c.args.self.now in
    let place = self.names.now in
    let locals = locals_at self in
    IfOk-weaker c.last_read.result _ _ (λ answer said path follow is many.
    let read = left place locals path.first (path.rest ++ follow) in
    let first = first-name c.args.names.now path.first c.index-names-0.result (path.rest ++ follow) c.index-names-0.is is in
    let rest = names-after c.args.names.now path.first path.rest follow (c.args.count - 1) is (omega (arith, many)) in
    said read (c.first-first.ensures path.first (path.rest ++ follow) is)
    ∙ (λ i. target_read (program_at self) (reader_at self) locals (first i) (rest i) read)
    ∙ path-value place locals path follow
    (c.in-Neither.ensures read (c.first-first.ensures path.first (path.rest ++ follow) is) ∙ ap (λ count. path_by count read) many))
    c.last_read.ensures
