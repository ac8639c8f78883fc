-- The law of views that differ in their keys alone is a lemma.
use Rattle.mol_base.specs.declared.ident.Id.{Id}
use Rattle.jav_names.specs.UnitViews.{MemberKey}
use Rattle.std.proofs.Common.{ℕ}
use Rattle.jav_names_laws.proofs.HasKeys as has_keys
use Rattle.jav_names_laws.proofs.keys_alike.Goals as goal

pub returns-clause-of_units_in_programs : goal.returns-clause-of_units_in_programs
returns-clause-of_units_in_programs c = has_keys.keys_alike ℕ MemberKey Id Id

pub returns-clause-of_programs_in_units : goal.returns-clause-of_programs_in_units
returns-clause-of_programs_in_units c = has_keys.keys_alike Id Id ℕ MemberKey
