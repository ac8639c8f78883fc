use Rattle.std.proofs.Common.{sym}
use Rattle.mol_merge.proofs.BothNamed.{both-named}
use Rattle.mol_merge.proofs.Replayed.{answer-replays}
use Rattle.mol_merge.proofs.merging.merge.Goals as goal
use Rattle.mol_merge.specs.Outcomes.{shared}
use Rattle.mol_merge_laws.proofs.Laws.{logs_apart}

pub merge_apart-requires-clause-apart : goal.merge_apart-requires-clause-apart
merge_apart-requires-clause-apart c = (logs_apart.none c.args.first.now c.args.second.now).0 (sym c.in-None.ensures)

pub returns-in-Some-clause-refused : goal.returns-in-Some-clause-refused
returns-in-Some-clause-refused c = λ other. shared (sym c.in-Some.ensures)

pub returns-in-None-clause-replays : goal.returns-in-None-clause-replays
returns-in-None-clause-replays c =
    answer-replays c.args.base.now c.args.first.now c.args.second.now c.merge_apart.result c.merge_apart.ensures.answer
    c.merge_apart.ensures.allowed

pub returns-in-None-clause-both_sides : goal.returns-in-None-clause-both_sides
returns-in-None-clause-both_sides c =
    both-named c.args.base.now c.args.first.now c.args.second.now c.ids.ensures.rules c.requires.alive c.merge_apart.result
    c.merge_apart.ensures.answer c.merge_apart.ensures.allowed
