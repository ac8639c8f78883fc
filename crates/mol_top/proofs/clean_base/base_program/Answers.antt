use Rattle.std.proofs.Common.{sym}
use Rattle.std.proofs.lemmas.List.{length-map}
use Rattle.mol_base.specs.Files.{file_pair, file_pairs}
use Rattle.mol_top.proofs.ReadBases.{no_dead, wrong_files}
use Rattle.mol_top.proofs.clean_base.base_program.Goals as goal

pub returns-in-Ok-clause-program : goal.returns-in-Ok-clause-program
returns-in-Ok-clause-program c = record { read_as = c.in-Ok.ensures.read; count = sym (length-map c.args.read.now file_pair) }

pub returns-in-Err-clause-stop : goal.returns-in-Err-clause-stop
returns-in-Err-clause-stop c =
    wrong_files (file_pairs c.args.read.now) c.in-Err.fault c.of.result c.in-Err.ensures.fault (rw (← c.from.ensures) c.of.ensures.status)
    c.of.ensures.line

pub returns-in-Ok-clause-alive : goal.returns-in-Ok-clause-alive
returns-in-Ok-clause-alive c = no_dead (file_pairs c.args.read.now) c.in-Ok.table c.in-Ok.ensures.read
