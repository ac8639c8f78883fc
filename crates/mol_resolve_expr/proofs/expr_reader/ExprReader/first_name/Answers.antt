use Rattle.std.proofs.Common.{◌∙◌, sym}
use Rattle.std.proofs.lemmas.Result.{IfOk-weaker}
use Rattle.mol_resolve_expr.proofs.FirstNames.{first_read, no_value_read}
use Rattle.mol_resolve_expr.proofs.expr_reader.ExprReader.first_name.Goals as goal
use Rattle.mol_resolve_readings.specs.locals.Scoped.{locals_of}
use Rattle.mol_resolve_readings.specs.meant.Kept.{view_part}

pub returns-in-NoClass : goal.returns-in-NoClass
returns-in-NoClass g c =
    let reader = g.N.Names.reader c.args.self.now.names.now in
    let locals = locals_of c.args.self.now.locals.now in
    IfOk-weaker c.name_before.result _ _ (λ value is at follow faults begins.
    first_read reader locals at c.args.name.now follow faults (view_part value) (is follow (sym begins ∙ c.in-NoClass.is)))
    c.name_before.ensures

pub returns-in_default : goal.returns-in_default
returns-in_default g c =
    let reader = g.N.Names.reader c.args.self.now.names.now in
    let locals = locals_of c.args.self.now.locals.now in
    λ at follow faults begins.
    no_value_read reader locals at c.args.name.now follow faults (λ none. c.in_default.not-NoClass (begins ∙ none))
