use Rattle.std.proofs.Common.{◌∙◌, option_map, sym, ap}
use Rattle.mol_faults_names.specs.Kept.{kept_path, program_at, reader_at, reads_of}
use Rattle.mol_faults_names.specs.Reads.{next_read}
use Rattle.mol_faults_names.specs.declared.class_path.ClassPath.{ClassPath}
use Rattle.mol_faults_names.proofs.place.InsteadPlace.next_read.Goals as goal

pub returns-in-Whole : goal.returns-in-Whole
returns-in-Whole c =
    let place = c.args.self.now in
    c.field_through.ensures
    ∙ ap (λ (path : ClassPath). next_read (program_at place) (reader_at place) c.args.name.now (kept_path path)
    (option_map reads_of c.args.read.now)) (sym c.in-Whole.is)

pub returns-in-Front : goal.returns-in-Front
returns-in-Front c =
    let place = c.args.self.now in
    ap (λ (path : ClassPath). next_read (program_at place) (reader_at place) c.args.name.now (kept_path path)
    (option_map reads_of c.args.read.now)) (sym c.in-Front.is)

pub returns-in-Some : goal.returns-in-Some
returns-in-Some c =
    let place = c.args.self.now in
    c.field_on.ensures
    ∙ (λ i. next_read (program_at place) (reader_at place) c.args.name.now (kept_path (sym c.in-Neither.is i))
    (option_map reads_of (sym c.in-Some.is i)))

pub returns-in-None : goal.returns-in-None
returns-in-None c =
    let place = c.args.self.now in
    (λ i. next_read (program_at place) (reader_at place) c.args.name.now (kept_path (sym c.in-Neither.is i))
    (option_map reads_of (sym c.in-None.is i)))
