use Rattle.mol_faults_support.proofs.Owners.{fresh-whole, more-between, none-closed}
use Rattle.mol_faults_support.proofs.UpTo.{between-cut}
use Rattle.mol_faults_support.proofs.ways.add_between.Goals as goal
use Rattle.mol_spell_rules.specs.Support.{IsBetween}

pub meet_way-requires : goal.meet_way-requires
meet_way-requires c = none-closed c.args.table.now c.new-met.result.keys c.new-met.ensures.empty

pub returns : goal.returns
returns c =
    let program = c.args.table.now in
    let lower = c.args.lower.now in
    let upper = c.args.upper.now in
    let cut = c.up_to-between.result.now in
    more-between c.args.classes.now.items cut _ (IsBetween program lower upper) c.in_ok-extend_from_slice.ensures.items
    (between-cut program lower upper _ cut
    (fresh-whole program c.new-met.result.keys _ lower c.in_ok-meet_way.ensures.way c.new-met.ensures.empty) c.up_to-between.ensures)
