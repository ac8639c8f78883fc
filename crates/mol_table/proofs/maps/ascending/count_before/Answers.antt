use Rattle.std.proofs.Common.{rules}
use Rattle.std.proofs.lemmas.List.Sorted.{IsPartitionPoint-from_clause}
use Rattle.std.specs.Ordering.{is_lt}
use Rattle.mol_base.specs.Order.{id_cmp}
use Rattle.mol_base.specs.declared.ident.Id.{Id}
use Rattle.mol_table.proofs.Arranged.{parted}
use Rattle.mol_table.proofs.maps.ascending.count_before.Goals as goal

pub returns-clause-place : goal.returns-clause-place
returns-clause-place c =
    IsPartitionPoint-from_clause (λ (first : Id). is_lt (id_cmp first c.args.id.now)) _ _ c.partition_point.ensures.partitioned
    (parted c.args.ids.now c.args.id.now c.requires) (λ a r q k. search rules)
