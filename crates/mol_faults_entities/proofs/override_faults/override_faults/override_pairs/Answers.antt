use Rattle.std.proofs.Common.{Contains}
use Rattle.std.specs.Prelude.{◌↔◌}
use Rattle.std.proofs.lemmas.Result.{IfOk-weaker}
use Rattle.mol_faults_entities.specs.override_faults.Overridden.{IsOverAny}
use Rattle.mol_faults_entities.proofs.override_faults_lemmas.DeclaredRows.{listed-placed}
use Rattle.mol_faults_entities.proofs.override_faults_lemmas.Overriding.{override-pairs}
use Rattle.mol_faults_entities.proofs.override_faults.override_faults.override_pairs.Goals as goal
use Rattle.mol_faults_entities.specs.pair_faults.Pairs.{ArePairsOf}
use Rattle.mol_faults_entities.specs.declared.pair_faults.pair.Pair.{Pair}
use Rattle.mol_spell_rules.specs.NameFaults.{FalseOverride}

pub overridden-requires-clause-placed : goal.overridden-requires-clause-placed
overridden-requires-clause-placed c = listed-placed c.args.table.now c.in_ok-paths.paths.positions.entries
    c.in_ok-orders.orders.by_key.items c.in_ok-orders.ensures.each

pub returns : goal.returns
returns c =
    let program = c.args.table.now in
    let positions = c.in_ok-paths.paths.positions.entries in
    let rows = c.in_ok-orders.orders.by_key.items in
    IfOk-weaker c.overridden.result (λ pairs. (pair : Pair) → Contains pairs.items pair ↔ IsOverAny program rows rows pair)
    (λ pairs. ArePairsOf (FalseOverride program) pairs.items)
    (λ pairs found. override-pairs program positions rows c.in_ok-orders.ensures.each pairs.items found)
    c.overridden.ensures
