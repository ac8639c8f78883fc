use Rattle.std.proofs.Common.{◌∙◌, ap, option_map, arith}
use Rattle.std.proofs.lemmas.List.{take_all}
use Rattle.mol_faults_names.proofs.ReadsOn.{reads-more}
use Rattle.mol_faults_names.specs.Kept.{locals_at, program_at, reader_at, reads_of}
use Rattle.mol_faults_names.specs.Reads.{first_read, names_read, next_read}
use Rattle.mol_faults_names.proofs.place.InsteadPlace.names_read.Goals as goal

pub loop-at-init : goal.loop-at-init
loop-at-init c = λ front is. c.in-Ok.ensures front is

pub loop-at-preserved : goal.loop-at-preserved
loop-at-preserved c = λ front is.
    let place = c.args.self.now in
    let name = c.index-rest-at.result in
    c.next_read-read.ensures
    ∙ ap (λ path. next_read (program_at place) (reader_at place) name path (option_map reads_of c.loop-at.read))
    (c.spelled-path.ensures front is)
    ∙ reads-more (program_at place) (reader_at place) front
    (first_read (program_at place) (reader_at place) (locals_at place) c.args.name.now front) c.args.rest.now c.loop-at.at name _
    c.loop-at-test.true c.index-rest-at.is (c.loop-at.invariant front is)

pub returns : goal.returns
returns c = λ front is.
    let place = c.args.self.now in
    c.loop-at.invariant front is
    ∙ ap (λ rest. names_read (program_at place) (reader_at place) (locals_at place) c.args.name.now rest front)
    (take_all c.loop-at.at c.args.rest.now (omega (arith, c.loop-at-test.false)))
