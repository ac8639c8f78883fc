-- What is looked for in an index is in a total order.
use Rattle.std.specs.Cmp.{IsTotalOrder}
use Rattle.std.proofs.lemmas.Cmp.{on_total, then_total, nat_cmp_total, nat_list_cmp_total}
use Rattle.jav_names.specs.index.Seeking.{Sought, sought_cmp}

pub sought_cmp-total : IsTotalOrder sought_cmp
sought_cmp-total = then_total (on_total (λ (s : Sought). s.owner) nat_cmp_total)
    (then_total (on_total (λ (s : Sought). s.arity) nat_cmp_total) (on_total (λ (s : Sought). s.name) nat_list_cmp_total))
