-- The laws of histories and of logs.
use Rattle.mol_log_rules.proofs.LeftOut.{stamps-differ, fewer-log}
use Rattle.mol_log_rules.proofs.LifeWriters.{gone-written}
use Rattle.mol_log_rules.proofs.LogEntries.{entries-lawful}
use Rattle.mol_log_rules.proofs.Refusals.{refused-or-applies}
use Rattle.mol_log_rules.proofs.WhatIsLeft.{left-by, only-left, rules-after, tag-made, none-owned, none-dead, lived-before}
use Rattle.mol_log_rules.proofs.WhoWrote.{writers-together, writer-placed, writer-valued}
use Rattle.mol_log_rules.specs.LeavingLaws.{LastWritesLeft}
use Rattle.mol_log_rules.specs.LogLaws.{LogsLawful}
use Rattle.mol_log_rules.specs.WriterLaws.{WritersLast}

pub last_writes_left : LastWritesLeft
last_writes_left = record {
  left = left-by;
  only = only-left;
  applies = refused-or-applies;
  rules = rules-after;
  tags = tag-made;
  owned = none-owned;
  living = none-dead;
  lived = lived-before;
}

pub writers_last : WritersLast
writers_last = record {
  written = writers-together;
  placed = writer-placed;
  valued = writer-valued;
  gone = gone-written;
}

pub logs_lawful : LogsLawful
logs_lawful = record {
  lawful = λ log. entries-lawful log.entries;
  stamps = stamps-differ;
  fewer = fewer-log;
}
