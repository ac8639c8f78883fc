use Rattle.std.proofs.Common.{◌≡◌, ◌++◌, map, drop}
use Rattle.mol_scope_classes.specs.class_members.Members.{member_entry}
use Rattle.mol_faults_misread.proofs.misread_faults.cells.FileCells.add_members.Given as goal
use Rattle.mol_faults_misread.specs.misread_faults.Found.{kept_name, members_misreads}

abbrev pub invariant-loop-member : goal.invariant-loop-member
invariant-loop-member g l =
    let file = l.self.file.now in
    let of = members_misreads l.self.index.now (g.F.FileNames.imports file) (g.F.FileNames.simple file) l.self.class in
    map kept_name l.names.items ++ of (map member_entry (drop l.member-index l.members))
    ≡ map kept_name l.initial.names.items ++ of (map member_entry l.members)
