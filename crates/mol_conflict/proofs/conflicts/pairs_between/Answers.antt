use Rattle.std.proofs.lemmas.Result.{IfOk-weaker}
use Rattle.mol_conflict.proofs.Making.{pairs-made, pairs-valued}
use Rattle.mol_conflict.proofs.conflicts.pairs_between.Goals as goal
use Rattle.mol_log_rules.specs.Logs.{history}

pub conflicts_of-requires : goal.conflicts_of-requires
conflicts_of-requires c =
    pairs-valued c.args.base.now (history c.args.one.now.writes.now) (history c.args.other.now.writes.now) c.args.one.now.left.now
    c.args.other.now.left.now c.requires.one c.requires.other c.in_ok-pairs.pairs.items c.as_slice.result.now c.in_ok-pairs.ensures
    c.as_slice.ensures.value

pub returns : goal.returns
returns c =
    IfOk-weaker c.conflicts_of.result _ _
    (pairs-made c.args.base.now (history c.args.one.now.writes.now) (history c.args.other.now.writes.now) c.args.one.now.left.now
    c.args.other.now.left.now c.requires.one c.requires.other c.in_ok-pairs.pairs.items c.as_slice.result.now c.in_ok-pairs.ensures
    c.as_slice.ensures.value)
    c.conflicts_of.ensures
