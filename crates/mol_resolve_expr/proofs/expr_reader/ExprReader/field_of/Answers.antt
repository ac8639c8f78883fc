use Rattle.std.proofs.Common.{Option, subst}
use Rattle.std.proofs.lemmas.Result.{IfOk-weaker}
use Rattle.jav_names.specs.LookUps.{field_on}
use Rattle.mol_resolve_expr.proofs.Outcomes.{over_none, over_read}
use Rattle.mol_resolve_expr.proofs.expr_reader.ExprReader.field_of.Goals as goal
use Rattle.mol_resolve_readings.specs.meant.Kept.{view_meant, view_part}
use Rattle.mol_resolve_readings.specs.declared.meant.meant.Meant.{Meant as Kept}
use Rattle.mol_resolve_readings.specs.reads.Reads.{Reads}
use Rattle.mol_resolve_rules.specs.ReadTrees.{field_meant}

pub returns-in-Some : goal.returns-in-Some
returns-in-Some g c =
    let reader = g.N.Names.reader c.args.self.now.names.now in
    let name = c.args.name.now in
    IfOk-weaker c.field_on.result _ _ (λ field made on first read.
    over_read on (λ value. field_meant reader c.args.at name value (field_on reader.view name value.static_type))
    (view_meant c.in-Some.value) (view_part field) first _ _
    (subst (λ (value : Option Kept). Reads on (view_part value) first c.args.faults.now) c.in-Some.is read) made) c.field_on.ensures

pub returns-in-None : goal.returns-in-None
returns-in-None g c = λ on first read.
    over_none on _ first _ (subst (λ (value : Option Kept). Reads on (view_part value) first c.args.faults.now) c.in-None.is read)
