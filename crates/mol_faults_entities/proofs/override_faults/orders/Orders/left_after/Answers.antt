use Rattle.std.proofs.Common.{◌∙◌, List, ℕ, length, refl, sym, arith}
use Rattle.std.proofs.lemmas.Option.{slice_get_read}
use Rattle.mol_faults_entities.specs.declared.override_faults.declaration.Declaration.{Declaration}
use Rattle.mol_faults_entities.proofs.override_faults_lemmas.PairsAbove.{eq-is}
use Rattle.mol_faults_entities.proofs.override_faults_lemmas.RunsMarked.{run-passed}
use Rattle.mol_faults_entities.proofs.override_faults.orders.Orders.left_after.Goals as goal

pub returns-then-eq : goal.returns-then-eq
returns-then-eq c =
    let rows : List Declaration = c.args.self.now.by_key.items in
    let runs : List ℕ = c.args.self.now.runs.items in
    let are = c.requires.sorted.runs in
    let ending : Declaration = c.index.result.now in
    let next : ℕ = c.index-then-eq.result.now in
    run-passed rows runs are c.args.row.now ending c.args.last next
    (slice_get_read runs (length runs) c.args.last next refl (omega (arith, are.long, c.requires.within)) c.index-then-eq.ensures)
    (slice_get_read rows (length rows) c.args.last ending refl c.requires.within c.index.ensures)
    (eq-is ending.method c.args.row.now.method (sym c.eq.ensures ∙ c.if-eq.true))
