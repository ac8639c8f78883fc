use Rattle.std.proofs.Common.{◌≡◌, filter_map, map, take}
use Rattle.mol_scope_classes.specs.class_members.Members.{member_entry}
use Rattle.mol_spell_rules.specs.SpelledUnits.{spelled_member}
use Rattle.mol_spell.proofs.units.unit_writer.UnitWriter.members.Given as goal

abbrev pub invariant-loop-member : goal.invariant-loop-member
invariant-loop-member g l =
    l.trees ≡ filter_map (spelled_member l.self.index.now l.self.class) (map member_entry (take l.member-index l.members))
