use Rattle.std.proofs.Common.{◌∙◌, ap, sym}
use Rattle.std.proofs.lemmas.Result.{on_ok_weaker}
use Rattle.mol_base.proofs.Added.{adds, adds-none}
use Rattle.mol_conflict.proofs.Gones.{gone-none, no-rows}
use Rattle.mol_conflict.proofs.gone.add_gone.Goals as goal
use Rattle.mol_conflict.specs.Found.{gone_in}
use Rattle.mol_table_rules.specs.Program.{Program}
use Rattle.mol_table_rules.specs.Tidy.{tidy}

pub returns-then-is_any_gone : goal.returns-then-is_any_gone
returns-then-is_any_gone c =
    let base = c.args.programs.now.base.now in
    let gone = c.args.programs.now.gone.now in
    let other = c.args.programs.now.other.now in
    on_ok_weaker c.add_cells.result (adds c.args.found.now.items _ _ _
    (ap (λ (tidied : Program). gone_in base gone other tidied c.args.cells.now) (sym c.in_ok-tidied.ensures.ok))) c.add_cells.ensures

pub returns : goal.returns
returns c =
    let base = c.args.programs.now.base.now in
    let gone = c.args.programs.now.gone.now in
    let other = c.args.programs.now.other.now in
    adds-none c.args.found.now.items _
    (no-rows base gone other
    (gone-none base gone other c.ids.result.now c.ids.ensures.known (sym c.is_any_gone.ensures ∙ c.if-is_any_gone.false))
    (tidy other) c.args.cells.now)
