-- Members of values, and through the names of classes, beside those that the rules on names find.
use Rattle.std.specs.Prelude.{Option, Some, None}
use Rattle.jav_names.specs.OnValues.{member, static_member, outside_member, missing_member, has_no_members, unread_member, OnValue as Reading}
use Rattle.mol_resolve_members.specs.declared.found.on_value.OnValue.{OnValue}
use Rattle.mol_resolve_members.specs.declared.found.on_value.OnValue.TheVariants as on

-- The answer is as the rules have it, with the member that they find.
abbrev pub AnswersOn : {A B : Type 0} → (B → A → Type 0) → OnValue A → Reading B → Type 0
AnswersOn is (on.Member kept) (member found) = is found kept
AnswersOn is on.Static (static_member found) = Unit {0}
AnswersOn is on.Outside outside_member = Unit {0}
AnswersOn is on.Missing missing_member = Unit {0}
AnswersOn is on.NoMembers has_no_members = Unit {0}
AnswersOn is on.Unread unread_member = Unit {0}
AnswersOn is result read = ⊥

-- both there, or neither
abbrev pub Chosen : {A B : Type 0} → (B → A → Type 0) → Option A → Option B → Type 0
Chosen is (Some kept) (Some found) = is found kept
Chosen is None None = Unit {0}
Chosen is result read = ⊥
