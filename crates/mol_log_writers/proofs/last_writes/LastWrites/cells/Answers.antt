use Rattle.std.proofs.Common.{◌≡◌, ◌∙◌, List, Contains, sym, subst}
use Rattle.std.specs.Prelude.{◌↔◌, IsSome}
use Rattle.indexmap.specs.IndexMap.{keys}
use Rattle.mol_log.specs.declared.log.Log.{Log}
use Rattle.mol_log_rules.specs.Histories.{last}
use Rattle.mol_log_rules.specs.Logs.{history}
use Rattle.mol_log_writers.proofs.Writing.{keys-written}
use Rattle.mol_log_writers.proofs.last_writes.LastWrites.cells.Goals as goal
use Rattle.mol_values_types.specs.declared.cell.Cell.{Cell}

abbrev AreWritten : List Cell → Log → Type 0
AreWritten cells log = (at : Cell) → Contains cells at ↔ IsSome (last (history log) at)

pub returns : goal.returns
returns c =
    let inside = c.self.inside in
    let listed : c.as_slice.result.now ≡ keys inside.by_cell = c.as_slice.ensures ∙ c.keys.ensures.rest in
    subst (λ (cells : List Cell). AreWritten cells c.args.self.now) (sym listed)
    (subst (AreWritten (keys inside.by_cell)) c.self.view_is
    (keys-written (history inside.log.now) inside.by_cell.entries c.self.invariant.0))
