use Rattle.mol_resolve_expr.proofs.Outcomes.{made_read}
use Rattle.mol_resolve_readings.specs.meant.Kept.{view_reading}
use Rattle.mol_resolve.proofs.member_headers.types.read_tree.Goals as goal
use Rattle.mol_resolve_entities.specs.member_entities.Headings.{tree_in}
use Rattle.mol_resolve_rules.specs.ReadTypes.{read_type}

pub returns : goal.returns
returns g c =
    let reader = g.N.Names.reader c.args.names.now in
    made_read tree_in (read_type reader c.args.at c.args.ty.now) (view_reading c.in_ok-read.read) c.tree_of.result _ _
    c.in_ok-read.ensures c.tree_of.ensures
