use Rattle.std.proofs.Common.{◌∙◌, sym}
use Rattle.mol_replay.proofs.Refusals.{refuses-other}
use Rattle.mol_replay.proofs.tidying.replay_tidied.Goals as goal

pub returns-else-eq-clause-refused : goal.returns-else-eq-clause-refused
returns-else-eq-clause-refused c = λ other.
    refuses-other c.args.base c.args.log c.args.have.now c.requires (sym c.eq.ensures ∙ c.if-eq.false)
