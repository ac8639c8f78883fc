use Rattle.std.proofs.Common.{◌∙◌, [], Some, sym}
use Rattle.std.proofs.lemmas.Result.{IfOk-weaker}
use Rattle.mol_resolve_expr.proofs.StandsEither.{where_alone, where_before}
use Rattle.mol_resolve_expr.proofs.expr_reader.ExprReader.name.Goals as goal
use Rattle.mol_resolve_readings.specs.locals.Scoped.{locals_of}
use Rattle.mol_resolve_readings.specs.meant.Kept.{view_part}
use Rattle.mol_resolve_readings.specs.reads.Reads.{Reads}
use Rattle.mol_resolve_rules.specs.ReadTrees.{name_meant}

pub returns-in-Alone : goal.returns-in-Alone
returns-in-Alone g c =
    let reader = g.N.Names.reader c.args.self.now.names.now in
    let locals = locals_of c.args.self.now.locals.now in
    let name = c.args.name.now in
    IfOk-weaker c.name_alone.result _ _ (λ value read mode stands.
    where_alone reader locals
    (λ mode. Reads (name_meant reader c.args.at name locals mode) (view_part value) c.args.faults.now c.name_alone.new.faults)
    (Some (record { first = name; rest = [] })) mode (sym c.in-Alone.is ∙ stands) read) c.name_alone.ensures

pub returns-in-Before : goal.returns-in-Before
returns-in-Before g c =
    let reader = g.N.Names.reader c.args.self.now.names.now in
    let locals = locals_of c.args.self.now.locals.now in
    let name = c.args.name.now in
    IfOk-weaker c.first_name.result _ _ (λ value read mode stands.
    where_before reader locals
    (λ mode. Reads (name_meant reader c.args.at name locals mode) (view_part value) c.args.faults.now c.args.faults.now)
    (Some (record { first = name; rest = [] })) c.in-Before.chain mode (sym c.in-Before.is ∙ stands)
    (λ follow begins. read c.args.at follow c.args.faults.now begins)) c.first_name.ensures
