use Rattle.std.proofs.Common.{None, ◌∙◌, sym, refl}
use Rattle.mol_resolve_expr.proofs.Outcomes.{refused_read}
use Rattle.mol_resolve_expr.proofs.StandsEither.{where_alone, where_before}
use Rattle.mol_resolve_expr.proofs.expr_reader.ExprReader.note_front.Goals as goal
use Rattle.mol_resolve_readings.specs.locals.Scoped.{locals_of}
use Rattle.mol_resolve_readings.specs.reads.Reads.{Reads}
use Rattle.mol_resolve_rules.specs.FaultKinds.{unknown_member}
use Rattle.mol_resolve_rules.specs.ReadTrees.{front_meant}

pub returns-in-Alone : goal.returns-in-Alone
returns-in-Alone g c =
    let reader = g.N.Names.reader c.args.self.now.names.now in
    let locals = locals_of c.args.self.now.locals.now in
    λ names mode stands. where_alone reader locals
    (λ mode. Reads (front_meant reader c.args.at mode) None c.args.faults.now c.note.new.self) names mode (sym c.in-Alone.is ∙ stands)
    (refused_read unknown_member c.args.at _ _ c.note.ensures)

pub returns-in-Before : goal.returns-in-Before
returns-in-Before g c =
    let reader = g.N.Names.reader c.args.self.now.names.now in
    let locals = locals_of c.args.self.now.locals.now in
    λ names mode stands. where_before reader locals
    (λ mode. Reads (front_meant reader c.args.at mode) None c.args.faults.now c.args.faults.now) names c.in-Before.field-0 mode
    (sym c.in-Before.is ∙ stands) (λ follow is. record { value_read = refl; faults_noted = refl })
