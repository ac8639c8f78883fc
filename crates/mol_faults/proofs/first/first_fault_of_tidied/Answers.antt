use Rattle.std.proofs.Common.{map, option_map, sym}
use Rattle.mol_faults_rules.specs.Kept.{kept_fault}
use Rattle.mol_faults.proofs.FirstOfAll.{is-first-of}
use Rattle.mol_faults.proofs.first.first_fault_of_tidied.Goals as goal

pub all_of-requires : goal.all_of-requires
all_of-requires c = rw c.table.ensures (sym c.requires)

pub returns : goal.returns
returns c =
    is-first-of c.args.program.now (map kept_fault c.in_ok-all_of.field-0.items) (option_map kept_fault c.first_of.result)
    c.first_of.ensures (rw c.table.ensures at c.in_ok-all_of.ensures)
