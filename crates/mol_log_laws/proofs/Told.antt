-- Bytes are the text of a log, or something is wrong with them first.
use Rattle.std.proofs.Common.{◌⊎◌, inl, inr, ℕ, List, []}
use Rattle.mol_log_laws.proofs.Lines.{Start, entries_told, start_told}
use Rattle.mol_log_laws.specs.Laws.{HasFault, HasLog, LogsTold}
use Rattle.mol_log_rows.specs.lines.Lines.{Line}
use Rattle.mol_log_rows.specs.declared.lines.fault.LogFault.{LogFault}
use Rattle.mol_log_rows.specs.declared.lines.header.Header.{Header}
use Rattle.mol_log_rows.specs.rows.FirstLine.{IsFirstFault, SaysFirst}
use Rattle.mol_log.proofs.LogKept.{kept}
use Rattle.mol_log.proofs.LogLaws.{no_fault, one_fault, one_log}
use Rattle.mol_log.specs.Form.{no_entry, no_start}
use Rattle.mol_log.specs.LogLines.{HaveFault, SayEntries}
use Rattle.mol_log.specs.declared.entries.entry.Entry.{Entry}

log_or_fault : (bytes : List ℕ) → HasLog bytes ⊎ HasFault bytes
log_or_fault bytes = by (start_told bytes) where
  by_entries : (header : Header) (rest : List Line) → SaysFirst bytes header rest
      → ((entries : List Entry) × SayEntries header.tags [] 2 rest entries) ⊎ ((fault : LogFault) × HaveFault header.tags [] 2 rest fault)
      → HasLog bytes ⊎ HasFault bytes
  by_entries header rest first (inl entries) = inl (record {
    log = record {
      base_digest = header.base_digest;
      tags = header.tags;
      entries = entries.0;
      formed = ∣ kept bytes header rest entries.0 first entries.1 ∣₁;
    };
    text = record { rest = rest; first = first; entries = entries.1 };
  })
  by_entries header rest first (inr fault) = inr (record { fault = fault.0; first = no_entry first fault.1 })

  by : ((begun : Start) × SaysFirst bytes begun.0 begun.1) ⊎ ((fault : LogFault) × IsFirstFault bytes fault)
      → HasLog bytes ⊎ HasFault bytes
  by (inl begun) = by_entries begun.0.0 begun.0.1 begun.1 (entries_told begun.0.0.tags [] 2 begun.0.1)
  by (inr fault) = inr (record { fault = fault.0; first = no_start fault.1 })

pub told : LogsTold
told = record { either = log_or_fault; apart = no_fault; one_log = one_log; one_fault = one_fault }
