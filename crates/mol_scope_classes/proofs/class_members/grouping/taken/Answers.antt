use Rattle.std.proofs.Common.{◌∙◌, List, [], Option, ap}
use Rattle.std.specs.Option.{option_map_or}
use Rattle.mol_scope_classes.proofs.class_members.grouping.taken.Goals as goal
use Rattle.mol_scope_classes.specs.declared.class_members.class_member.ClassMember.{ClassMember}

abbrev listed : Option (List ClassMember) → List ClassMember
listed found = option_map_or (λ members. members) found []

pub returns-in-Some-clause-taken : goal.returns-in-Some-clause-taken
returns-in-Some-clause-taken c = ap listed c.in-Some.ensures.value

pub returns-in-Some-clause-others : goal.returns-in-Some-clause-others
returns-in-Some-clause-others c = c.in-Some.ensures.updates.0

pub returns-in-None-clause-taken : goal.returns-in-None-clause-taken
returns-in-None-clause-taken c = c.new.ensures ∙ ap listed c.in-None.ensures.value

pub returns-in-None-clause-others : goal.returns-in-None-clause-others
returns-in-None-clause-others c = c.in-None.ensures.updates.0
