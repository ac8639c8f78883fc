use Rattle.std.proofs.lemmas.Result.{on_ok_weaker}
use Rattle.mol_log_body.proofs.WrittenBodies.{added_statement}
use Rattle.mol_log_body.proofs.write_bodies.+write_body.Goals as goal

pub add_stmt-returns : goal.add_stmt-returns
add_stmt-returns t c =
    on_ok_weaker c.add_node.result (added_statement _ _ _ _ c.args.stmt.now c.items.ensures c.in_ok-add_notes.ensures) c.add_node.ensures
