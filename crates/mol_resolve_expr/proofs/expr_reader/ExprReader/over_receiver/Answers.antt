use Rattle.std.proofs.Common.{Option, subst}
use Rattle.std.proofs.lemmas.Result.{IfOk-weaker}
use Rattle.jav_names.specs.LookUps.{method_on}
use Rattle.mol_resolve_expr.proofs.Outcomes.{beside_read, over_none, over_read}
use Rattle.mol_resolve_expr.proofs.expr_reader.ExprReader.over_receiver.Goals as goal
use Rattle.mol_resolve_readings.specs.meant.Kept.{view_meant, view_part}
use Rattle.mol_resolve_readings.specs.declared.meant.meant.Meant.{Meant as Kept}
use Rattle.mol_resolve_readings.specs.reads.Reads.{Reads}
use Rattle.mol_resolve_rules.specs.Outcomes.{over}
use Rattle.mol_resolve_rules.specs.ReadTrees as trees

pub returns-in-Some : goal.returns-in-Some
returns-in-Some g c =
    let reader = g.N.Names.reader c.args.self.now.names.now in
    let name = c.args.name.now in
    IfOk-weaker c.call_on.result _ _ (λ call made args value first between one two.
    beside_read args
    (λ args. over value (λ value. trees.call_on reader c.args.at name value args (method_on reader.view name c.args.arity value.static_type)))
    c.args.values (view_part call) first between _ one
    (over_read value
    (λ value. trees.call_on reader c.args.at name value c.args.values (method_on reader.view name c.args.arity value.static_type))
    (view_meant c.in-Some.on) (view_part call) between _ _
    (subst (λ (on : Option Kept). Reads value (view_part on) between c.args.faults.now) c.in-Some.is two) made)) c.call_on.ensures

pub returns-in-None : goal.returns-in-None
returns-in-None g c =
    let reader = g.N.Names.reader c.args.self.now.names.now in
    let name = c.args.name.now in
    λ args value first between one two. beside_read args
    (λ args. over value (λ value. trees.call_on reader c.args.at name value args (method_on reader.view name c.args.arity value.static_type)))
    c.args.values _ first between _ one (over_none value _ between _
    (subst (λ (on : Option Kept). Reads value (view_part on) between c.args.faults.now) c.in-None.is two))
