-- What a log that replays leaves keeps the rules of programs.
use Rattle.mol_log.specs.declared.log.Log.{Log}
use Rattle.mol_log_rules.proofs.Laws.{last_writes_left, logs_lawful}
use Rattle.mol_log_rules.specs.Histories.{after}
use Rattle.mol_log_rules.specs.Logs.{history}
use Rattle.mol_replay.specs.Replays.{Replays}
use Rattle.mol_table_rules.specs.Program.{Program}
use Rattle.mol_table_rules.specs.Rules.{IsProgram}

pub rules-left : (base : Program) (log : Log) → Replays base log → IsProgram base → IsProgram (after base (history log))
rules-left base log replays rules = last_writes_left.rules base (history log) (logs_lawful.lawful log) replays.applies rules
