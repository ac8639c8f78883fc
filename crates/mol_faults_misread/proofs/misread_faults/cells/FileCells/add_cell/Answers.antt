use Rattle.std.proofs.Common.{◌∙◌, map, sym, ap}
use Rattle.std.proofs.lemmas.Result.{on_ok_weaker}
use Rattle.mol_faults_expr.specs.Noted.{Noted}
use Rattle.mol_faults_misread.proofs.misread_faults.cells.FileCells.add_cell.Goals as goal
use Rattle.mol_faults_misread.specs.misread_faults.Found.{found_at, kept_name}
use Rattle.mol_base.proofs.Added.{adds}
use Rattle.mol_table_rules.specs.Program.{cell}

pub returns : goal.returns
returns g c =
    on_ok_weaker c.add_names.result (adds (map kept_name c.args.names.now.items) _ _ _
    (ap (map (found_at (cell c.args.id.now c.args.slot))) (sym (c.into_items.ensures
    ∙ ap (λ (noted : Noted). noted.misread) c.in_ok-misreads.ensures)))) c.add_names.ensures
