-- What a run prints.
use Rattle.std.specs.Prelude.{ℕ, Bool, true, false, List, [], ◌∷◌, ◌++◌, codes, Option, None, Some}
use Rattle.std.specs.Fmt.{decimal}
use Rattle.jav_parse_unit.specs.Features.{name as feature_name}
use Rattle.jav_parse_unit.specs.declared.feature.Feature.{Feature}
use Rattle.mol_base.specs.declared.file.Place.{Place}
use Rattle.mol_replay.specs.declared.fault.ReplayFault.TheVariants.{NotClean}
use Rattle.mol_report_logs.specs.Limits.{limit_text}
use Rattle.mol_report_logs.specs.LogFaults.{log_fault_text}
use Rattle.mol_report_logs.specs.ReplayFaults.{plain_fault_text}
use Rattle.mol_program.specs.FaultTexts.{name, feature}
use Rattle.mol_program.specs.declared.fault.SourceFault.{SourceFault}
use Rattle.mol_top.specs.declared.refusal.Line.{Line}
use Rattle.mol_top.specs.declared.refusal.Line.TheVariants.{Fixed, Made}
use Rattle.mol_top.specs.declared.status.BaseFault.TheVariants.{Source, Unclean}
use Rattle.mol_top.specs.declared.status.LogCause.{LogCause}
use Rattle.mol_top.specs.declared.status.LogCause.TheVariants.{Form, Replay, SharedTag}
use Rattle.mol_top.specs.declared.status.Status.{Status}
use Rattle.mol_top.specs.declared.status.Status.TheVariants.{Done, Conflicts, Usage, BaseRefused, LogRefused, ReadFailed, Missing, WriteFailed, OutOfMemory, OutInUse, Limit}

-- the number of files that are a program
abbrev pub check_report : ℕ → List ℕ
check_report files = codes "clean " ++ decimal files ++ 10 ∷ []

-- the number of files that were written in the one layout
abbrev pub fmt_report : ℕ → List ℕ
fmt_report files = codes "files " ++ decimal files ++ 10 ∷ []

-- the number of files of a merge, and of the entries of its log
abbrev pub merge_report : ℕ → ℕ → List ℕ
merge_report files operations = codes "merged\nfiles " ++ decimal files ++ codes "\noperations " ++ decimal operations ++ 10 ∷ []

-- # Refusals

-- a file, a line and a column
abbrev pub place_text : Place → List ℕ
place_text place = place.file ++ 58 ∷ decimal place.line ++ 58 ∷ decimal place.column

abbrev pub feature_text : Option Feature → List ℕ
feature_text None = []
feature_text (Some feature) = 32 ∷ feature_name feature

-- what is wrong with a file: its name, and the part of Java that it refuses where it does
abbrev pub fault_text : SourceFault → List ℕ
fault_text fault = name fault ++ feature_text (feature fault)

-- the line of a refused base, by what is said of it
abbrev pub base_line : List ℕ → List ℕ
base_line text = codes "base " ++ text ++ 10 ∷ []

abbrev pub source_text : Place → SourceFault → List ℕ
source_text place fault = place_text place ++ 32 ∷ fault_text fault

-- the line of a refused log: its number, and why
abbrev pub log_line : ℕ → List ℕ → List ℕ
log_line which cause = codes "log " ++ decimal which ++ 32 ∷ cause ++ 10 ∷ []

-- the line of a log that is refused for a cause; of one that names addresses of a base, what stands beside them
abbrev pub cause_line : ℕ → LogCause → List ℕ
cause_line which (Form fault) = log_line which (log_fault_text fault)
cause_line which (Replay fault) = log_line which (plain_fault_text fault)
cause_line which (SharedTag tag) = log_line which (codes "shared-tag " ++ tag)

-- the line of a refusal names addresses of the base: then its command makes it
abbrev pub names_addresses : Status → Bool
names_addresses (LogRefused which (Replay (NotClean fault))) = true
names_addresses (BaseRefused (Unclean fault)) = true
names_addresses status = false

-- a line for each command
abbrev pub usage : List ℕ
usage =
    codes "usage: molref check BASE\nusage: molref fmt BASE OUT\nusage: molref ids BASE\nusage: molref replay BASE LOG OUT\nusage: molref merge BASE LOG1 LOG2 OUT\n"

-- the line of any other refusal
abbrev pub refusal_line : Status → List ℕ
refusal_line Done = []
refusal_line (Conflicts count) = []
refusal_line Usage = usage
refusal_line (BaseRefused (Source place fault)) = base_line (source_text place fault)
refusal_line (BaseRefused (Unclean fault)) = []
refusal_line (LogRefused which cause) = cause_line which cause
refusal_line (ReadFailed path) = codes "read-failed " ++ path ++ 10 ∷ []
refusal_line (Missing path) = codes "missing " ++ path ++ 10 ∷ []
refusal_line (WriteFailed path) = codes "write-failed " ++ path ++ 10 ∷ []
refusal_line OutOfMemory = codes "out-of-memory\n"
refusal_line (OutInUse path) = codes "out-in-use " ++ path ++ 10 ∷ []
refusal_line (Limit which count) = codes "limit " ++ limit_text which ++ 32 ∷ decimal count ++ 10 ∷ []

-- the bytes of a line that is printed
abbrev pub line_bytes : Line → List ℕ
line_bytes (Fixed bytes) = bytes.now
line_bytes (Made bytes) = bytes.items
