use Rattle.std.proofs.Common.{sym}
use Rattle.std.proofs.lemmas.Result.{IfOk-weaker}
use Rattle.mol_faults_support.proofs.Owners.{owner-between, no-owner-between}
use Rattle.mol_faults_support.proofs.ways.between_owner.Goals as goal

pub returns-in-Some : goal.returns-in-Some
returns-in-Some c = IfOk-weaker c.between_either.result _ _
    (λ classes. owner-between c.args.table.now c.args.first.now c.args.declaration.now c.in-Some.second classes.items
    (sym c.in-Some.ensures))
    c.between_either.ensures

pub returns-in-None : goal.returns-in-None
returns-in-None c =
    no-owner-between c.args.table.now c.args.first.now c.args.declaration.now c.new.result.items c.new.ensures.items (sym c.in-None.ensures)
