use Rattle.std.proofs.Common.{◌≡◌, ◌∙◌, ◌↔◌, List, [], ◌∷◌, map, Contains, Option, option_map, sym, ap, subst}
use Rattle.std.proofs.lemmas.Result.{IfOk-weaker}
use Rattle.mol_faults_rules.specs.OfKind.{AreOfKind}
use Rattle.mol_faults_values.proofs.missing_faults_lemmas.Found.{are-of-kind}
use Rattle.mol_faults_values.proofs.missing_faults_lemmas.SameRows.{gone-same}
use Rattle.mol_faults_values.proofs.missing_faults.faults.missing.Goals as goal
use Rattle.mol_faults_values.specs.missing_faults.Gone.{fault_of, gone_in_all}
use Rattle.mol_faults_values.specs.declared.missing_faults.gone.Gone.{Gone}
use Rattle.mol_table_rules.proofs.TidyRules.{tidied-at}
use Rattle.mol_table_rules.specs.Program.{Program}

pub in_order-gone-requires : goal.in_order-gone-requires
in_order-gone-requires c = gone-same

pub returns : goal.returns
returns c =
    let program = c.args.table.now in
    let ids = c.ids.result.now in
    let rows = c.in_order-gone.result.items in
    let found = c.in_ok-found.ensures
    ∙ ap (λ (tidied : Program). gone_in_all program tidied ids) c.requires in
    IfOk-weaker c.faults_of.result _ _
    (λ faults is. subst (AreOfKind program 4) (sym (is ∙ ap (map fault_of) c.as_slice.ensures.value))
    (are-of-kind program (tidied-at program) c.ids.ensures.rules ids c.ids.ensures.known rows
    (λ row. subst (λ (list : List Gone). Contains rows row ↔ Contains list row) found (c.in_order-gone.ensures.same row))
    c.in_order-gone.ensures.ascending))
    c.faults_of.ensures
