use Rattle.std.proofs.Common.{◌∙◌, ◌++◌, refl, ap}
use Rattle.mol_scope_classes.specs.class_members.Members.{member_entry}
use Rattle.mol_scope_classes.specs.declared.class_members.class_member.ClassMember.{ClassMember}
use Rattle.mol_spell_names.proofs.uses_lemmas.MembersUsed.{each-member}
use Rattle.mol_spell_names.proofs.uses.file_cells.FileCells.add_members.Goals as goal
use Rattle.mol_spell_names.specs.uses.CellUses.{member_uses}
use Rattle.mol_spell_uses.proofs.uses_lemmas.Added.{adds-more, adds-none, adds-whole}

pub loop-member-init : goal.loop-member-init
loop-member-init c = adds-none c.args.uses.now _ refl

pub loop-member-preserved : goal.loop-member-preserved
loop-member-preserved c =
    let file = c.args.self.now in
    adds-more (λ (member : ClassMember). member_uses file.index.now file.class (member_entry member)) c.args.members.now
    c.loop-member.member-index c.member-item.result _ _ _ c.loop-member-test.true c.member-item.is c.loop-member.invariant
    c.in_ok-add_member.ensures

pub returns : goal.returns
returns c =
    let file = c.args.self.now in
    adds-whole (λ (member : ClassMember). member_uses file.index.now file.class (member_entry member)) c.args.members.now
    c.loop-member.member-index _ _ c.loop-member-test.false c.loop-member.invariant
    ∙ ap (λ us. c.args.uses.now ++ us) (each-member file.index.now file.class c.args.members.now)
