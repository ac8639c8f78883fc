use Rattle.std.proofs.Common.{◌≡◌, suc, length}
use Rattle.jav_scope.specs.Climbs.{climb}
use Rattle.mol_resolve_rules.specs.ProgramViews.{program_view}
use Rattle.mol_scope_members.specs.inherited.Soughts.{found_in_class}
use Rattle.mol_scope_members.proofs.inherited.climbed.climbed.Given as goal

abbrev pub invariant-loop-left : goal.invariant-loop-left
invariant-loop-left l =
    climb (suc (length (program_view l.members).classes.items)) (program_view l.members) (found_in_class (program_view l.members) l.sought)
    l.class
    ≡ climb l.left (program_view l.members) (found_in_class (program_view l.members) l.sought) l.at

abbrev pub decreases-loop-left : goal.decreases-loop-left
decreases-loop-left l = l.left
