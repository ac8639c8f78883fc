use Rattle.std.proofs.Common.{List, map, refl}
use Rattle.mol_scope_classes.specs.class_members.Members.{member_entry}
use Rattle.mol_scope_classes.specs.declared.class_members.class_member.ClassMember.{ClassMember}
use Rattle.mol_faults_misread.proofs.misread_faults.cells.FileCells.add_members.Goals as goal
use Rattle.mol_faults_misread.specs.misread_faults.Found.{member_misreads, members_misreads}
use Rattle.mol_base.proofs.Added.{adds-more, adds-whole}

pub loop-member-preserved : goal.loop-member-preserved
loop-member-preserved g c =
    let cells = c.args.self.now in
    let imports = g.F.FileNames.imports cells.file.now in
    let simple = g.F.FileNames.simple cells.file.now in
    adds-more (λ (members : List ClassMember). members_misreads cells.index.now imports simple cells.class (map member_entry members))
    (λ (member : ClassMember). member_misreads cells.index.now imports simple cells.class (member_entry member)) refl (λ x rest. refl)
    c.args.members.now c.loop-member.member-index c.member-item.result _ _ _ c.loop-member-test.true c.member-item.is
    c.loop-member.invariant c.in_ok-add_member.ensures

pub returns : goal.returns
returns g c =
    let cells = c.args.self.now in
    let imports = g.F.FileNames.imports cells.file.now in
    let simple = g.F.FileNames.simple cells.file.now in
    adds-whole (λ (members : List ClassMember). members_misreads cells.index.now imports simple cells.class (map member_entry members))
    (λ (member : ClassMember). member_misreads cells.index.now imports simple cells.class (member_entry member)) refl (λ x rest. refl)
    c.args.members.now c.loop-member.member-index _ _ c.loop-member-test.false c.loop-member.invariant
