-- What of a program a misread reference has to do with.
use Rattle.std.specs.Prelude.{Bool, true, false}
use Rattle.mol_faults_rules.specs.declared.met.Met.{Met}
use Rattle.mol_faults_rules.specs.declared.met.Met.TheVariants as mets
use Rattle.mol_spell_rules.specs.references.References.{Target, class_target, field_target, method_target, param_target, default_target, local_target, outside_target}

abbrev pub kept_met : Met → Target
kept_met (mets.Class id) = class_target id
kept_met (mets.Field id) = field_target id
kept_met (mets.Method id) = method_target id
kept_met (mets.Param id) = param_target id
kept_met (mets.Default id) = default_target id

-- a target that is no local, and not outside
abbrev pub is_of_program : Target → Bool
is_of_program (class_target class) = true
is_of_program (field_target field) = true
is_of_program (method_target method) = true
is_of_program (param_target param) = true
is_of_program (default_target class) = true
is_of_program (local_target number) = false
is_of_program (outside_target text) = false
