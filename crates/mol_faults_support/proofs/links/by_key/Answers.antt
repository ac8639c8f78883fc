use Rattle.std.proofs.Common.{rules}
use Rattle.jav_names.proofs.index_lemmas.Searched.{sorted-by_closure}
use Rattle.mol_base.specs.Order.{id_cmp, id_cmp-total}
use Rattle.mol_faults_support.specs.declared.link.Link.{Link}
use Rattle.mol_faults_support.proofs.links.by_key.Goals as goal

pub returns : goal.returns
returns c = (
  c.in_ok-sort_by.ensures.permutation,
  sorted-by_closure id_cmp id_cmp-total (λ (l : Link). l.key) (λ a r q k. search rules) _ c.in_ok-sort_by.ensures.sorted,
)
