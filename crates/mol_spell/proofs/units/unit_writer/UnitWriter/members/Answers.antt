use Rattle.std.proofs.Common.{◌∙◌}
use Rattle.mol_spell_rules.specs.SpelledUnits.{spelled_member}
use Rattle.mol_spell_rules.specs.UnitCells.{members_of}
use Rattle.mol_spell.proofs.units_lemmas.MembersListed.{all-listed, listed-more}
use Rattle.mol_spell.proofs.units.unit_writer.UnitWriter.members.Goals as goal

pub loop-member-preserved : goal.loop-member-preserved
loop-member-preserved g c =
    let unit = c.args.self.now in
    listed-more (spelled_member unit.index.now unit.class) c.members_of-members.result.now c.loop-member.member-index
    c.member-item.result _ _ _ c.loop-member-test.true c.member-item.is c.loop-member.invariant c.in_ok-tree.ensures
    c.in_ok-add_member.ensures

pub returns : goal.returns
returns g c =
    let unit = c.args.self.now in
    all-listed (spelled_member unit.index.now unit.class) c.members_of-members.result.now c.loop-member.member-index _ _
    c.loop-member-test.false c.loop-member.invariant (c.members_of-members.ensures
    ∙ (λ i. members_of (unit.same_table i) unit.class))
