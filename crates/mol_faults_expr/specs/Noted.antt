-- Which of several names read as something else than what they are the names of.
use Rattle.std.specs.Prelude.{◌≡◌, ℕ, suc, Bool, ◌&&◌, not, List, [], ◌∷◌, ◌++◌, Option, if◌then◌else◌}
use Rattle.std.specs.List.{fold}
use Rattle.std.specs.Option.{option_and_then}
use Rattle.mol_base.specs.declared.ident.Id.{Id}
use Rattle.jav_names.specs.OnValues as value
use Rattle.mol_scope.specs.asked.Answers.{is_answer}
use Rattle.mol_faults_expr.specs.Readings.{program_target}
use Rattle.mol_spell_rules.specs.references.References.{Target}
use Rattle.mol_spell_rules.specs.Answers.{answered}
use Rattle.mol_spell_rules.specs.FaultList.{FaultTarget, fault_target}
use Rattle.mol_spell_rules.specs.NameFaults.{is_gone}
use Rattle.mol_spell_rules.specs.ReadInstead.{instead}
use Rattle.mol_spell_rules.specs.Writers.{Reference, Writer}
use Rattle.mol_scope.specs.types.Kept.{view_value}
use Rattle.mol_scope.specs.declared.types.static_type.StaticType.{StaticType}

-- A name that is misread: its number, from 0, and the target; and what of the program it is the name of, and what it reads as instead.
pub record Misreading : Type 0 where
  pub number : ℕ
  pub target : FaultTarget
  pub named : Option Target
  pub instead : Option Target

-- How many names there are up to a place, and which of them are misread.
pub record Noted : Type 0 where
  pub count : ℕ
  pub misread : List Misreading

abbrev pub none_noted : Noted
none_noted = record { count = 0; misread = [] }

-- It reads as something else than its target, or as nothing, and the target is not gone.
abbrev pub is_misread : Writer → Reference → Bool
is_misread writer reference =
    not (is_gone writer.program reference.target) && not (is_answer reference.target (answered writer.reader reference))

abbrev pub misreading : Writer → ℕ → Reference → Misreading
misreading writer number reference = record {
  number = number;
  target = fault_target reference.target;
  named = program_target reference.target;
  instead = option_and_then program_target (instead writer.reader reference);
}

abbrev pub note : Writer → Noted → Reference → Noted
note writer noted reference = record {
  count = suc noted.count;
  misread = if is_misread writer reference then noted.misread ++ misreading writer noted.count reference ∷ [] else noted.misread;
}

-- these too
abbrev pub noted_after : Writer → Noted → List Reference → Noted
noted_after writer = fold (note writer)

-- An expression is read: its references are noted, and its value has this static type.
pub record IsRead (writer : Writer) (before after : Noted) (references : List Reference) (type : value.StaticType Id) (kept : StaticType)
    : Type 0 where
  pub noted : after ≡ noted_after writer before references
  pub typed : view_value kept ≡ type
