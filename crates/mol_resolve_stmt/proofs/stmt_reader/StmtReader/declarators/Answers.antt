use Rattle.std.proofs.Common.{Some, ap, arith}
use Rattle.mol_resolve_rules.specs.ReadStatements.{read_declarator}
use Rattle.mol_resolve_rules.specs.ReadTypes.{seen_type}
use Rattle.mol_resolve_stmt.proofs.InTurn.{each_read-more, each_read-none, each_read-whole}
use Rattle.mol_resolve_stmt.proofs.stmt_reader.StmtReader.declarators.Goals as goal

pub loop-item-init : goal.loop-item-init
loop-item-init g c =
    let reader = g.N.Names.reader c.args.self.now.names.now in
    each_read-none (read_declarator reader c.args.at (seen_type reader c.args.declared.now.ty)) c.items-item-items.result.now _ _ _
    (ap (λ items. Some items) c.new.ensures)

pub loop-item-preserved : goal.loop-item-preserved
loop-item-preserved g c =
    let reader = g.N.Names.reader c.args.self.now.names.now in
    each_read-more (read_declarator reader c.args.at (seen_type reader c.args.declared.now.ty)) c.items-item-items.result.now
    c.loop-item.item-index c.item-item.result _ _ _ _ _ _ _ _ _ (omega arith) c.item-item.is c.loop-item.invariant c.in_ok-read.ensures
    c.in_ok-all.ensures

pub returns : goal.returns
returns g c =
    let reader = g.N.Names.reader c.args.self.now.names.now in
    each_read-whole (read_declarator reader c.args.at (seen_type reader c.args.declared.now.ty)) c.items-item-items.result.now _
    c.loop-item.item-index _ _ _ _ _ c.items-item-items.ensures (omega arith) c.loop-item.invariant
