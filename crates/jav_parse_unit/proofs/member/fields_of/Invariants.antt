use Rattle.std.proofs.Common.{◌≡◌}
use Rattle.jav_parse_unit.specs.MemberRules.{fields_of}
use Rattle.jav_parse_unit.proofs.FieldLists.{next_notes, next_at}
use Rattle.jav_parse_unit.proofs.member.fields_of.Given as goal

abbrev pub invariant-loop-variable : goal.invariant-loop-variable
invariant-loop-variable l = record {
  made : l.all ≡ fields_of l.fn.front l.fn.ty l.yielded;
  words : l.words ≡ l.fn.front.words;
  ty : l.ty ≡ l.fn.ty;
  notes : l.notes ≡ next_notes l.fn.front l.yielded;
  at : l.at ≡ next_at l.fn.front l.yielded;
}
