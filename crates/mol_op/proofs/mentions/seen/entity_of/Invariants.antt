use Rattle.std.proofs.Common.{◌≡◌, drop}
use Rattle.mol_op.specs.Changes.{first_name}
use Rattle.mol_op.proofs.mentions.seen.entity_of.Given as goal

abbrev pub invariant-loop-own : goal.invariant-loop-own
invariant-loop-own l = first_name (drop l.own-index l.entities) l.id ≡ first_name l.entities l.id
