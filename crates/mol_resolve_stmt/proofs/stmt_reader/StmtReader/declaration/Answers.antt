use Rattle.std.proofs.Common.{map}
use Rattle.mol_resolve_readings.specs.locals.Scoped.{locals_of}
use Rattle.mol_resolve_rules.specs.ReadStatements.{declaring_none, each, let_of, read_declarator, then_next}
use Rattle.mol_resolve_rules.specs.ReadTypes.{read_type, seen_type}
use Rattle.mol_resolve_stmt.proofs.InTurn.{made_on, none_declared, then_on}
use Rattle.mol_resolve_stmt.proofs.stmt_reader.StmtReader.declaration.Goals as goal

pub returns : goal.returns
returns g c =
    let reader = g.N.Names.reader c.args.self.now.names.now in
    let locals = locals_of c.args.locals.now in
    let declared = c.args.declared.now in
    let ty = declaring_none locals (read_type reader c.args.at declared.ty) in
    let names = each (map (read_declarator reader c.args.at (seen_type reader declared.ty)) declared.names) in
    made_on (let_of reader declared.is_final) (then_next ty names) _ c.declaration.result locals _ _ _
    (then_on ty names _ _ locals _ _ _ _ _ (none_declared _ _ locals _ _ c.in_ok-ty.ensures) c.in_ok-names.ensures)
    (c.declaration.ensures reader)
