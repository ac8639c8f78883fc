use Rattle.std.proofs.Common.{map, sym, subst}
use Rattle.std.proofs.lemmas.Result.{IfOk-weaker}
use Rattle.mol_faults_misread.proofs.misread_faults_lemmas.Found.{faults-misread}
use Rattle.mol_faults_misread.proofs.misread_faults_lemmas.SameRows.{row-same}
use Rattle.mol_faults_misread.proofs.misread_faults.faults.misread.Goals as goal
use Rattle.mol_faults_misread.specs.misread_faults.Found.{AreMisread, kept_name}

pub in_order-requires : goal.in_order-requires
in_order-requires c = row-same

pub returns : goal.returns
returns c =
    IfOk-weaker c.faults_of.result _ _
    (λ faults is. subst (AreMisread c.args.tidied.now) (sym is)
    (faults-misread c.args.tidied.now (map kept_name c.in_ok-names.names.items) c.in_ok-rows.rows.items c.in_order.result.items
    c.in_ok-names.ensures c.in_ok-rows.ensures c.in_order.ensures.same c.in_order.ensures.ascending))
    c.faults_of.ensures
