use Rattle.mol_spell_rules.specs.Support.{IsBetween}
use Rattle.mol_faults_support.proofs.Owners.{either-between}
use Rattle.mol_faults_support.proofs.ways.between_either.Goals as goal

pub returns : goal.returns
returns c =
    let program = c.args.table.now in
    let first = c.args.first.now in
    let second = c.args.second.now in
    either-between c.new-classes.result.items _ _ (IsBetween program first second) (IsBetween program second first)
    c.new-classes.ensures.items c.in_ok-add_between.ensures c.in_ok-add_between-2.ensures
