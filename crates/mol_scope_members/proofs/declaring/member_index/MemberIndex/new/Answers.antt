use Rattle.std.proofs.Common.{◌∙◌, sym, subst}
use Rattle.mol_scope_classes.specs.hierarchy.Paths.{ArePaths}
use Rattle.mol_table_rules.specs.Program.{Program}
use Rattle.mol_scope_members.specs.declaring.Indexed.{AreIndexed, AreOwned}
use Rattle.mol_scope_members.proofs.declaring.member_index.MemberIndex.new.Goals as goal

pub invariant_of-result : goal.invariant_of-result
invariant_of-result c =
    let positions = c.in_ok-paths.paths.positions.entries in (
      subst (AreIndexed c.in_ok-members.members) (sym c.in_ok-classes.ensures) c.in_ok-members.ensures.indexed,
      c.in_ok-hierarchy.ensures ∙ sym c.in_ok-classes.ensures,
      subst (AreOwned c.in_ok-members.members positions) (sym c.in_ok-classes.ensures) c.in_ok-members.ensures.owned,
      subst (λ (program : Program). ArePaths program positions) (c.in_ok-hierarchy.ensures ∙ sym c.in_ok-classes.ensures)
          c.in_ok-paths.ensures,
    )
