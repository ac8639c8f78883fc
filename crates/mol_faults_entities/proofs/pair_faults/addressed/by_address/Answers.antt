use Rattle.std.proofs.Common.{rules}
use Rattle.jav_names.proofs.index_lemmas.Searched.{sorted-by_closure}
use Rattle.mol_faults_entities.specs.pair_faults.Addresses.{Location, key_cmp, located, located_at}
use Rattle.mol_faults_entities.proofs.pair_faults_lemmas.Keys.{key-order}
use Rattle.mol_faults_entities.proofs.pair_faults_lemmas.MadeRows.{rows-moved}
use Rattle.mol_faults_entities.proofs.pair_faults_lemmas.SharedPairs.{key_at}
use Rattle.mol_faults_entities.proofs.pair_faults.addressed.by_address.Goals as goal

pub returns : goal.returns
returns c = record {
  each = rows-moved located (λ (l : Location). l.id) (located_at c.args.table.now) c.in_ok-rows.rows.items c.sort_by.new.self.items
      c.in_ok-sort_by.ensures.permutation c.in_ok-rows.ensures;
  sorted = sorted-by_closure key_cmp key-order.total key_at (λ a r q k. search rules) _ c.in_ok-sort_by.ensures.sorted;
}
