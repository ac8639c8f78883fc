use Rattle.std.proofs.Common.{◌∙◌, Option, option_map, sym, ap}
use Rattle.mol_faults_names.specs.Kept.{locals_at, reader_at, reads_of}
use Rattle.mol_faults_names.specs.Reads.{method_read}
use Rattle.mol_faults_names.specs.declared.reads.Reads.{Reads}
use Rattle.mol_faults_names.proofs.place.InsteadPlace.method_of.Goals as goal

pub returns-in-Some : goal.returns-in-Some
returns-in-Some c =
    let self = c.args.self.now in
    c.method_on.ensures (locals_at self)
    ∙ ap (λ (read : Option Reads). method_read (reader_at self) c.args.name.now c.args.arity (option_map reads_of read)) (sym c.in-Some.is)

pub returns-in-None : goal.returns-in-None
returns-in-None c =
    let self = c.args.self.now in
    ap (λ (read : Option Reads). method_read (reader_at self) c.args.name.now c.args.arity (option_map reads_of read)) (sym c.in-None.is)
