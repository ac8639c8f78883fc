use Rattle.std.proofs.Common.{◌≡◌, ◌++◌, take}
use Rattle.mol_scope_classes.specs.class_members.Members.{member_entry}
use Rattle.mol_spell_names.proofs.uses.file_cells.FileCells.add_members.Given as goal
use Rattle.mol_spell_names.specs.uses.CellUses.{member_uses}
use Rattle.mol_scope_classes.specs.declared.class_members.class_member.ClassMember.{ClassMember}
use Rattle.std.specs.List.{flat_map}

abbrev pub invariant-loop-member : goal.invariant-loop-member
invariant-loop-member l =
    l.uses ≡ l.initial.uses
    ++ flat_map (λ (member : ClassMember). member_uses l.self.index.now l.self.class (member_entry member))
    (take l.member-index l.members)
