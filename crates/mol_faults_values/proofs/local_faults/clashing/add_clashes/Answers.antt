use Rattle.std.proofs.Common.{◌∙◌, map, sym, ap}
use Rattle.std.proofs.lemmas.Result.{on_ok_weaker}
use Rattle.std.specs.Borrow.{Bor}
use Rattle.jav_names.specs.DottedNames.{Name}
use Rattle.mol_faults_values.proofs.local_faults.clashing.add_clashes.Goals as goal
use Rattle.mol_faults_values.specs.local_faults.Clashing.{clash_of, clashes_by, clashes_of}
use Rattle.mol_base.proofs.Added.{adds, adds-none}

pub returns-in_ok-names-in-Some : goal.returns-in_ok-names-in-Some
returns-in_ok-names-in-Some c =
    let id = c.args.id.now in
    on_ok_weaker c.add_names.result (adds c.args.clashes.now.items _ _ _
    (ap (λ method. map (clash_of id) (clashes_by c.args.table.now id method)) (sym c.living_method_of.ensures ∙ c.in-Some.is)
    ∙ (λ i. map (clash_of id) (clashes_of (sym c.params_of.ensures i) (sym c.body_of.ensures i)))
    ∙ ap (map (clash_of id)) (sym c.in_ok-names-in-Some.ensures)
    ∙ ap (λ names. map (clash_of id) (map (λ (name : Bor Name). name.now) names)) (sym c.as_slice.ensures.value))) c.add_names.ensures

pub returns-in-None : goal.returns-in-None
returns-in-None c =
    adds-none c.args.clashes.now.items _
    (ap (λ method. map (clash_of c.args.id.now) (clashes_by c.args.table.now c.args.id.now method))
    (sym c.living_method_of.ensures ∙ c.in-None.is))
