use Rattle.std.proofs.Common.{subst}
use Rattle.std.proofs.lemmas.Result.{IfOk-weaker}
use Rattle.mol_resolve_expr.proofs.Outcomes.{both_read, made_read}
use Rattle.mol_resolve.proofs.file_members.member_reader.MemberReader.method.Goals as goal
use Rattle.mol_resolve_entities.specs.member_entities.Headings.{params_read, tree_read}
use Rattle.mol_resolve_entities.specs.member_entities.Made as made
use Rattle.mol_resolve_readings.specs.reads.Reads.{Reads}
use Rattle.mol_resolve_rules.specs.Outcomes.{both}
use Rattle.mol_resolve_rules.specs.ReadFiles.{read_block}

pub returns : goal.returns
returns g c =
    let reader = g.N.Names.reader c.args.self.now.names.now in
    let method = c.args.method.now in
    let ids = c.args.ids.now in
    let gives = tree_read reader method.at method.result in
    let listed = params_read ids.params.items reader method.at method.params in
    let block = read_block reader method.block in
    let params = subst (λ outcome. Reads outcome c.in_ok-listed.listed c.read_tree.new.faults c.read_params.new.faults)
    (λ i. params_read (c.as_slice.ensures.value i) reader method.at (c.items-params.ensures i)) c.in_ok-listed.ensures in
    IfOk-weaker c.method_made.result _ _ (λ entities is. made_read (made.method_made c.args.self.now.ids ids method)
    (both (both gives listed) block) _ entities _ _
    (both_read (both gives listed) block _ _ _ _ _ (both_read gives listed _ _ _ _ _ c.in_ok-gives.ensures params) c.in_ok-body.ensures) is)
    c.method_made.ensures
