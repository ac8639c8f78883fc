use Rattle.std.proofs.Common.{subst, List}
use Rattle.std.specs.List.Sorted.{IsPermutation}
use Rattle.mol_faults_entities.specs.override_faults.Overridden.{AreRuns}
use Rattle.mol_faults_entities.specs.declared.override_faults.declaration.Declaration.{Declaration}
use Rattle.mol_faults_entities.proofs.override_faults.orders.orders_of.Goals as goal

pub returns : goal.returns
returns c = record {
  each = c.in_ok-by_key.ensures.each;
  sorted = record {
    by_key = c.in_ok-by_key.ensures.sorted;
    by_method = c.in_ok-by_method.ensures.sorted;
    same = subst (λ (rows : List Declaration). IsPermutation rows c.in_ok-by_method.by_method.items) c.as_slice-2.ensures.value
        c.in_ok-by_method.ensures.same;
    runs = subst (λ (rows : List Declaration). AreRuns rows c.in_ok-runs.runs.items) c.as_slice.ensures.value c.in_ok-runs.ensures;
  };
}
