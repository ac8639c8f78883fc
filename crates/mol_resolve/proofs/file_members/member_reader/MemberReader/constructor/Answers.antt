use Rattle.std.proofs.Common.{subst}
use Rattle.std.proofs.lemmas.Result.{IfOk-weaker}
use Rattle.mol_resolve_expr.proofs.Outcomes.{both_read, made_read}
use Rattle.mol_resolve.proofs.file_members.member_reader.MemberReader.constructor.Goals as goal
use Rattle.mol_resolve_entities.specs.member_entities.Headings.{params_read}
use Rattle.mol_resolve_entities.specs.member_entities.Made as made
use Rattle.mol_resolve_readings.specs.reads.Reads.{Reads}
use Rattle.mol_resolve_rules.specs.Outcomes.{both}
use Rattle.mol_resolve_rules.specs.ReadStatements.{read_body}

pub returns : goal.returns
returns g c =
    let reader = g.N.Names.reader c.args.self.now.names.now in
    let ctor = c.args.ctor.now in
    let ids = c.args.ids.now in
    let listed = params_read ids.params.items reader ctor.at ctor.params in
    let body = read_body reader ctor.block in
    let params = subst (λ outcome. Reads outcome c.in_ok-listed.listed c.args.faults.now c.read_params.new.faults)
    (λ i. params_read (c.as_slice.ensures.value i) reader ctor.at (c.items-params.ensures i)) c.in_ok-listed.ensures in
    IfOk-weaker c.constructor_made.result _ _ (λ entities is. made_read (made.constructor_made c.args.self.now.ids ids ctor)
    (both listed body) _ entities _ _ (both_read listed body _ _ _ _ _ params c.in_ok-body.ensures) is) c.constructor_made.ensures
