use Rattle.std.proofs.Common.{rules, subst, List}
use Rattle.std.specs.List.Sorted.{IsPermutation}
use Rattle.jav_names.proofs.index_lemmas.Searched.{sorted-by_closure}
use Rattle.mol_faults_entities.specs.override_faults.Overridden.{methods_cmp}
use Rattle.mol_faults_entities.specs.declared.override_faults.declaration.Declaration.{Declaration}
use Rattle.mol_faults_entities.proofs.override_faults_lemmas.NamedAlike.{methods_cmp-total}
use Rattle.mol_faults_entities.proofs.override_faults.orders.by_method.Goals as goal

pub returns : goal.returns
returns c = record {
  same = subst (λ (rows : List Declaration). IsPermutation rows c.sort_by.new.self.items) c.in_ok-sorted.ensures.items
      c.in_ok-sort_by.ensures.permutation;
  sorted = sorted-by_closure methods_cmp methods_cmp-total (λ (d : Declaration). d) (λ a r q k. search rules) _
      c.in_ok-sort_by.ensures.sorted;
}
