use Rattle.std.proofs.Common.{◌++◌, rules}
use Rattle.mol_op.specs.Rows.{new_method_names}
use Rattle.mol_op.specs.Seen.{named_params}
use Rattle.mol_op.proofs.ConditionParts.{new_method_parts}
use Rattle.mol_op.proofs.new_method.check_new_method.Goals as goal

pub returns-in_err-has_block : goal.returns-in_err-has_block
returns-in_err-has_block c =
    let all = new_method_names c.args.method.now c.args.decl.now c.args.kind ++ named_params c.args.method.now c.args.params.now in
    rw (
      new_method_parts c.args.method.now c.args.decl.now c.args.kind c.args.params.now c.args.body.now c.args.tag.now c.args.table.now.known,
      c.in_ok-new_params.ensures,
      c.in_err-has_block.ensures c.args.tag.now all c.args.table.now.known,
    )
    (search rules)

pub returns : goal.returns
returns c =
    let all = new_method_names c.args.method.now c.args.decl.now c.args.kind ++ named_params c.args.method.now c.args.params.now in
    rw (
      new_method_parts c.args.method.now c.args.decl.now c.args.kind c.args.params.now c.args.body.now c.args.tag.now c.args.table.now.known,
      c.in_ok-new_params.ensures,
      c.in_ok-has_block.ensures c.args.tag.now all c.args.table.now.known,
    )
    c.check_body.ensures
