use Rattle.std.proofs.Common.{◌∙◌, ◌++◌, sym, ap, subst, filter_map}
use Rattle.std.proofs.lemmas.Result.{on_ok_weaker}
use Rattle.std.specs.List.{flat_map}
use Rattle.mol_faults_support.specs.Declarations.{DeclaresAny}
use Rattle.mol_faults_rules.specs.Met.{kept_met}
use Rattle.mol_faults_support.specs.Met.{entity_of, header_of, method_for}
use Rattle.mol_faults_support.proofs.OfTargets.{adds-targets}
use Rattle.mol_faults_support.proofs.misread.add_targets.Goals as goal
use Rattle.mol_table_rules.specs.Program.{Program}

pub returns : goal.returns
returns c =
    let program = c.args.index.now in
    let met = c.args.met.now in
    let entities = c.as_slice-entities.result.now in
    let declarations = c.as_slice-declarations.result.now in
    on_ok_weaker c.add_headers-2.result
    (λ is. adds-targets program met entities declarations (c.as_slice-entities.ensures.value ∙ c.in_ok-found.ensures
    ∙ ap (λ (p : Program). filter_map (λ target. entity_of p (kept_met target)) met) c.table-table.ensures)
    (subst (DeclaresAny program (filter_map (λ target. method_for program (kept_met target)) met))
    (sym c.as_slice-declarations.ensures.value) c.in_ok-declared.ensures)
    c.args.cells.now.items _ (is ∙ (λ k. (c.in_ok-add_headers.ensures ∙ ap (λ (p : Program). c.args.cells.now.items ++ flat_map (header_of p) entities) c.table-table.ensures) k
    ++ flat_map (header_of (c.table-table.ensures k)) declarations)))
    c.add_headers-2.ensures
