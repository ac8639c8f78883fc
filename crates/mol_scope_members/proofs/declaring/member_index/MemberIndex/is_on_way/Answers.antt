use Rattle.std.proofs.Common.{◌∙◌, ap}
use Rattle.mol_scope_members.proofs.declaring.member_index.MemberIndex.is_on_way.Goals as goal
use Rattle.mol_table_rules.specs.Ancestors.{is_on_way}
use Rattle.mol_table_rules.specs.Program.{Program}

pub returns : goal.returns
returns c =
    c.is_on_way.ensures
    ∙ ap (λ (program : Program). is_on_way program c.args.class.now c.args.above.now) (c.self.invariant.1 ∙ c.self.view_is)
