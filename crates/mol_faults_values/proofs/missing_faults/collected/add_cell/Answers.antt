use Rattle.std.proofs.Common.{◌∙◌, sym, ap}
use Rattle.std.specs.Prelude.{option_copied}
use Rattle.std.proofs.lemmas.Result.{on_ok_weaker}
use Rattle.mol_faults_values.proofs.missing_faults.collected.add_cell.Goals as goal
use Rattle.mol_faults_values.specs.missing_faults.Gone.{gone_in}
use Rattle.mol_base.proofs.Added.{adds, adds-none}

pub returns-in-Some : goal.returns-in-Some
returns-in-Some c =
    on_ok_weaker c.add_value.result (adds c.args.gone.now.items _ _ _
    (ap (gone_in c.args.table.now c.args.at.now) (sym c.get.ensures ∙ ap option_copied c.in-Some.is))) c.add_value.ensures

pub returns-in-None : goal.returns-in-None
returns-in-None c =
    adds-none c.args.gone.now.items _ (ap (gone_in c.args.table.now c.args.at.now) (sym c.get.ensures ∙ ap option_copied c.in-None.is))
