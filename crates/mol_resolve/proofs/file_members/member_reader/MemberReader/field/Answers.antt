use Rattle.std.proofs.lemmas.Result.{IfOk-weaker}
use Rattle.mol_resolve_expr.proofs.Outcomes.{both_read, made_read}
use Rattle.mol_resolve.proofs.file_members.member_reader.MemberReader.field.Goals as goal
use Rattle.mol_resolve_entities.specs.member_entities.Headings.{tree_read}
use Rattle.mol_resolve_entities.specs.member_entities.Made as made
use Rattle.mol_resolve_rules.specs.Outcomes.{both}
use Rattle.mol_resolve_rules.specs.ReadStatements.{read_initial}

pub returns : goal.returns
returns g c =
    let reader = g.N.Names.reader c.args.self.now.names.now in
    let field = c.args.field.now in
    let type = tree_read reader field.at field.ty in
    let init = read_initial reader field.init in
    IfOk-weaker c.field_made.result _ _ (λ entities is.
    made_read (made.field_made c.args.self.now.ids field) (both type init) _ entities _ _
    (both_read type init _ _ _ _ _ c.in_ok-ty.ensures c.in_ok-init.ensures) is) c.field_made.ensures
