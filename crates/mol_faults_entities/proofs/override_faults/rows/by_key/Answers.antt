use Rattle.std.proofs.Common.{rules}
use Rattle.jav_names.proofs.index_lemmas.Searched.{sorted-by_closure}
use Rattle.mol_faults_entities.specs.override_faults.Declarations.{Row, declared_at, key_cmp, row_of}
use Rattle.mol_faults_entities.proofs.override_faults_lemmas.Keys.{key_at, key_cmp-total}
use Rattle.mol_faults_entities.proofs.override_faults.rows.by_key.Goals as goal
use Rattle.mol_faults_entities.proofs.pair_faults_lemmas.MadeRows.{rows-moved}

pub returns : goal.returns
returns c = record {
  each = rows-moved row_of (λ (r : Row). r.id) (declared_at c.args.table.now c.args.paths.now.positions.entries) c.in_ok-rows.rows.items
      c.sort_by.new.self.items c.in_ok-sort_by.ensures.permutation c.in_ok-rows.ensures;
  sorted = sorted-by_closure key_cmp key_cmp-total key_at (λ a r q k. search rules) _ c.in_ok-sort_by.ensures.sorted;
}
