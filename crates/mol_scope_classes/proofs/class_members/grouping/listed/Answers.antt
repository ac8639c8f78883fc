use Rattle.std.proofs.Common.{◌∙◌, List, [], Option, ap}
use Rattle.std.specs.Option.{option_map_or}
use Rattle.mol_scope_classes.proofs.class_members.grouping.listed.Goals as goal
use Rattle.mol_scope_classes.specs.declared.class_members.class_member.ClassMember.{ClassMember}

abbrev members_in : Option (List ClassMember) → List ClassMember
members_in found = option_map_or (λ members. members) found []

pub returns-in-Some : goal.returns-in-Some
returns-in-Some c = c.items.ensures ∙ ap members_in c.in-Some.ensures.value

pub returns-in-None : goal.returns-in-None
returns-in-None c = ap members_in c.in-None.ensures.value
