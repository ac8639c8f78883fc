use Rattle.std.proofs.Common.{◌≡◌, map, take}
use Rattle.mol_table_numbers.specs.declared.rank.Rank.{Rank}
use Rattle.mol_table_numbers.proofs.order.rank_ids.Given as goal

abbrev pub invariant-loop-rank : goal.invariant-loop-rank
invariant-loop-rank l = l.ids.items ≡ map (λ (rank : Rank). rank.own) (take l.rank-index l.ranks)
