use Rattle.std.proofs.Common.{◌≡◌, ◌∙◌, sym, ap, subst}
use Rattle.std.proofs.lemmas.Result.{IfOk-weaker}
use Rattle.mol_faults_entities.specs.pair_faults.Addresses.{key_cmp}
use Rattle.mol_faults_entities.specs.pair_faults.Pairs.{ArePairsOf}
use Rattle.mol_faults_entities.specs.pair_faults.Sharing.{shared_pairs}
use Rattle.mol_faults_entities.proofs.pair_faults_lemmas.Fronts.{ascend}
use Rattle.mol_faults_entities.proofs.pair_faults_lemmas.Keys.{key-order}
use Rattle.mol_faults_entities.proofs.pair_faults_lemmas.Rows.{shared-pairs}
use Rattle.mol_faults_entities.proofs.pair_faults_lemmas.SharedPairs.{key_at}
use Rattle.mol_faults_entities.proofs.pair_faults.address_faults.address_pairs.Goals as goal
use Rattle.mol_table_rules.specs.Faults.{SameAddress}

pub returns : goal.returns
returns c =
    let program = c.args.table.now in
    let rows = c.in_ok-rows.rows.items in
    IfOk-weaker c.sharing.result (λ pairs. pairs.items ≡ shared_pairs c.as_slice.result.now)
    (λ pairs. ArePairsOf (SameAddress program) pairs.items)
    (λ pairs is. subst (ArePairsOf (SameAddress program)) (sym (is ∙ ap shared_pairs c.as_slice.ensures.value))
    (shared-pairs program rows c.in_ok-rows.ensures.each (ascend key_cmp key_at key-order rows c.in_ok-rows.ensures.sorted)))
    c.sharing.ensures
