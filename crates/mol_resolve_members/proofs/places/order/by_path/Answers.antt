use Rattle.std.proofs.Common.{rules}
use Rattle.std.proofs.lemmas.Cmp.{nat_list_cmp_total}
use Rattle.jav_names.proofs.index_lemmas.Searched.{sorted-by_closure, stable-by_closure}
use Rattle.mol_resolve_rules.specs.Numbering.{path_cmp}
use Rattle.mol_resolve_members.specs.places.Orders.{path_at}
use Rattle.mol_resolve_members.proofs.places_lemmas.PathOrder.{ordered}
use Rattle.mol_resolve_members.proofs.places.order.by_path.Goals as goal

pub returns : goal.returns
returns c =
    let sources = c.args.sources.now in
    ordered sources _ _ c.in_ok-order.ensures
    (sorted-by_closure path_cmp nat_list_cmp_total (path_at sources) (λ a r q k. search rules) _ c.in_ok-sort_by.ensures.sorted)
    (stable-by_closure path_cmp nat_list_cmp_total (path_at sources) (λ a r q k. search rules) _ _ c.in_ok-sort_by.ensures.stable)
