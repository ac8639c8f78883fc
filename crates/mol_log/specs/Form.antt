-- The form of a log: which log bytes spell, and the first fault of bytes that spell none.
use Rattle.std.specs.Prelude.{ℕ, List, []}
use Rattle.mol_log_rows.specs.lines.Lines.{Line}
use Rattle.mol_log_rows.specs.declared.lines.fault.LogFault.{LogFault}
use Rattle.mol_log_rows.specs.declared.lines.header.Header.{Header}
use Rattle.mol_log_rows.specs.rows.FirstLine.{SaysFirst, IsFirstFault}
use Rattle.mol_log.specs.LogLines.{SayEntries, HaveFault}
use Rattle.mol_log.specs.declared.log.Log.{Log}

abbrev pub header_with : List ℕ → List (List ℕ) → Header
header_with digest tags = record { base_digest = digest; tags = tags }

abbrev pub header_of : Log → Header
header_of log = header_with log.base_digest log.tags

-- the first line says the header of the log, and the further ones, from the second on, its entries
pub record IsLogText (bytes : List ℕ) (log : Log) : Type 0 where
  pub rest : List Line
  pub first : SaysFirst bytes (header_of log) rest
  pub entries : SayEntries log.tags [] 2 rest log.entries

-- the first fault of the bytes: of their size and their first line, or of a further one
pub data IsLogFault (bytes : List ℕ) : LogFault → Type 0 where
  no_start : {fault : LogFault} → IsFirstFault bytes fault → IsLogFault bytes fault
  no_entry : {header : Header} {rest : List Line} {fault : LogFault} → SaysFirst bytes header rest
      → HaveFault header.tags [] 2 rest fault
      → IsLogFault bytes fault
