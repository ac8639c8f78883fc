use Rattle.std.proofs.Common.{rules}
use Rattle.jav_names.proofs.index_lemmas.Searched.{sorted-by_closure}
use Rattle.mol_faults.specs.Names.{place_cmp, place_of}
use Rattle.mol_faults.proofs.NamesSorted.{place-order}
use Rattle.mol_faults.proofs.names.by_place.Goals as goal

pub returns : goal.returns
returns c = (
  c.in_ok-sort_by.ensures.permutation,
  sorted-by_closure place_cmp place-order.total place_of (λ a r q k. search rules) _ c.in_ok-sort_by.ensures.sorted,
)
