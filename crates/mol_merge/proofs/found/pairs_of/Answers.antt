use Rattle.std.proofs.Common.{◌∙◌, ap}
use Rattle.mol_log.specs.declared.log.Log.{Log}
use Rattle.mol_log_rules.specs.Histories.{after}
use Rattle.mol_log_rules.specs.Logs.{history}
use Rattle.mol_merge.proofs.found.pairs_of.Goals as goal

pub by_sides-requires-clause-other : goal.by_sides-requires-clause-other
by_sides-requires-clause-other c =
    c.in_ok-other_left.ensures ∙ ap (λ (log : Log). after c.args.base.now (history log)) c.requires.later
