use Rattle.std.proofs.Common.{take, map}
use Rattle.mol_resolve_readings.specs.locals.Scoped.{locals_of}
use Rattle.mol_resolve_rules.specs.ReadStatements.{each, read_declarator}
use Rattle.mol_resolve_rules.specs.ReadTypes.{seen_type}
use Rattle.mol_resolve_stmt.proofs.stmt_reader.StmtReader.declarators.Given as goal
use Rattle.mol_resolve_stmt.specs.GoesOn.{GoesOn}

abbrev pub invariant-loop-item : goal.invariant-loop-item
invariant-loop-item g l =
    let reader = g.N.Names.reader l.self.names.now in
    let read = read_declarator reader l.at (seen_type reader l.declared.ty) in
    GoesOn (each (map read (take l.item-index l.item-items)) (locals_of l.initial.locals)) l.all (locals_of l.initial.locals)
    (locals_of l.locals) l.initial.faults l.faults
