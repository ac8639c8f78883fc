use Rattle.std.proofs.Common.{◌∙◌, ◌++◌, [], map, sym, ap, if◌then◌else◌}
use Rattle.std.proofs.lemmas.List.{append-nil}
use Rattle.std.proofs.lemmas.Result.{on_ok_weaker}
use Rattle.mol_faults_misread.specs.body_misreads.Kept.{kept_misread}
use Rattle.mol_faults.specs.Met.{met_by}
use Rattle.mol_faults_rules.specs.Met.{kept_met}
use Rattle.mol_faults.proofs.supports.add_met.Goals as goal

pub returns-then-is : goal.returns-then-is
returns-then-is c =
    let met = map kept_met c.args.met.now.items in
    let own = met_by (kept_misread c.args.name.now.misread) in
    on_ok_weaker c.add_both.result (λ added. added
    ∙ ap (λ told. met ++ (if told then own else [])) (sym c.if-is.true ∙ c.is.ensures)) c.add_both.ensures

pub returns-else-is : goal.returns-else-is
returns-else-is c =
    let met = map kept_met c.args.met.now.items in
    let own = met_by (kept_misread c.args.name.now.misread) in
    sym (append-nil met) ∙ ap (λ told. met ++ (if told then own else [])) (sym c.if-is.false ∙ c.is.ensures)
