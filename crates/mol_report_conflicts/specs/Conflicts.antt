-- The conflicts of two logs, as reports write them.
use Rattle.std.specs.Prelude.{ℕ, List, [], ◌∷◌, ◌++◌, length, codes}
use Rattle.std.specs.Fmt.{decimal}
use Rattle.std.specs.List.{flat_map}
use Rattle.serde_json.specs.Written.{compact_text}
use Rattle.mol_base.specs.Identity.{spelled_stamp}
use Rattle.mol_base.specs.declared.ident.Stamp.{Stamp}
use Rattle.mol_faults_rules.specs.Kept.{kept_fault}
use Rattle.mol_faults_rules.specs.declared.conflict.Conflict.{Conflict}
use Rattle.mol_faults_rules.specs.declared.conflict.ConflictKind.{ConflictKind}
use Rattle.mol_faults_rules.specs.declared.conflict.ConflictKind.TheVariants.{Twice, GoneChanged, GoneUsed, Bad}
use Rattle.mol_log_objects.specs.ValueData.{value_data}
use Rattle.mol_report.specs.FaultText.{fault_text}
use Rattle.mol_report.specs.Labels.{id_text, cell_text}
use Rattle.mol_table_rules.specs.Program.{Program}
use Rattle.mol_values_types.specs.declared.value.Value.{Value}

-- a value as rows of logs have it, as compact JSON (RFC 8259)
abbrev pub value_text : Value → List ℕ
value_text value = compact_text (value_data value)

-- how two logs conflict: a name, and what it is about
abbrev pub kind_text : Program → ConflictKind → List ℕ
kind_text base (Twice at first second) = codes "twice " ++ cell_text base at ++ 32 ∷ value_text first ++ 32 ∷ value_text second
kind_text base (GoneChanged id) = codes "gone-changed " ++ id_text base id
kind_text base (GoneUsed id at) = codes "gone-used " ++ id_text base id ++ 32 ∷ cell_text base at
kind_text base (Bad fault) = codes "fault " ++ fault_text base (kept_fault fault)

abbrev pub stamp_text : Stamp → List ℕ
stamp_text stamp = 32 ∷ spelled_stamp stamp

-- ` by` and the stamps, a space before each
abbrev pub stamps_text : List Stamp → List ℕ
stamps_text stamps = codes " by" ++ flat_map stamp_text stamps

abbrev pub conflict_line : Program → Conflict → List ℕ
conflict_line base conflict = kind_text base conflict.kind ++ stamps_text conflict.stamps ++ 10 ∷ []

-- the number of the conflicts, and a line for each
abbrev pub conflicts_text : Program → List Conflict → List ℕ
conflicts_text base list = codes "conflicts " ++ decimal (length list) ++ 10 ∷ flat_map (conflict_line base) list
