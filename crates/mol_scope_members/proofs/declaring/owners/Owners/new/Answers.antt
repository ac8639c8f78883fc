use Rattle.std.proofs.Common.{rules}
use Rattle.jav_names.proofs.index_lemmas.Searched.{sorted-by_closure}
use Rattle.mol_scope_members.specs.declaring.Owners.{place_cmp}
use Rattle.mol_scope_members.specs.declared.declaring.owner.PlacedOwner.{PlacedOwner}
use Rattle.mol_scope_members.proofs.declaring_lemmas.OwnersPlaced.{owners-made, place_cmp-total}
use Rattle.mol_scope_members.proofs.declaring.owners.Owners.new.Goals as goal

pub returns : goal.returns
returns c =
    owners-made c.args.paths.now.positions.entries c.args.owners.now c.in_ok-placed.placed.items c.sort_by.new.self.items
    c.in_ok-placed.ensures c.in_ok-sort_by.ensures.permutation
    (sorted-by_closure place_cmp place_cmp-total (λ (o : PlacedOwner). o) (λ a r q k. search rules) _ c.in_ok-sort_by.ensures.sorted)
