use Rattle.std.proofs.Common.{◌≡◌, length}
use Rattle.std.specs.Vec.Iter.{into_iter_items, into_iter_len}
use Rattle.mol_log.proofs.entries_lemmas.ReadParams.{Leaves}
use Rattle.mol_log.proofs.entries.trees.params_of.Given as goal

abbrev pub invariant-loop-row : goal.invariant-loop-row
invariant-loop-row l =
    Leaves l.fn.rows l.params (into_iter_items l.row-iterator)
    × (into_iter_len l.row-iterator ≡ length (into_iter_items l.row-iterator))
