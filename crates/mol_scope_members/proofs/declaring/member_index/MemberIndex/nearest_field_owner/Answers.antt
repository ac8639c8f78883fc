use Rattle.std.proofs.Common.{subst}
use Rattle.mol_scope_classes.specs.hierarchy.Paths.{ArePaths}
use Rattle.mol_table_rules.specs.Program.{Program}
use Rattle.mol_scope_members.specs.declaring.Indexed.{AreOwned}
use Rattle.mol_scope_members.proofs.declaring_lemmas.OwnersNamed.{no-field}
use Rattle.mol_scope_members.proofs.declaring.member_index.MemberIndex.nearest_field_owner.Goals as goal
use Rattle.mol_resolve_rules.specs.ProgramViews.{program_view}
use Rattle.mol_table_rules.proofs.Living.{id_tied}

pub nearest-requires : goal.nearest-requires
nearest-requires c = c.self.invariant.2.field_owners.placed

pub returns : goal.returns
returns c =
    let program : Program = c.args.self.now in
    let positions = c.self.inside.paths.positions.entries in
    let owned = subst (AreOwned c.self.inside.members positions) c.self.view_is c.self.invariant.2 in
    let near = c.nearest.ensures program (subst (λ (p : Program). ArePaths p positions) c.self.view_is c.self.invariant.3) in
    record {
      leads = near.leads;
      lacking = λ steps above few led.
          no-field (program_view program) above c.args.name.now
          (λ row. near.lacking steps above few led ((owned.field_owners.each _).0 row)) id_tied;
    }
