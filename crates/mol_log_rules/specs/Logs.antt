-- Logs as histories.
use Rattle.std.specs.Prelude.{List, map}
use Rattle.mol_log.specs.declared.entries.entry.Entry.{Entry}
use Rattle.mol_log.specs.declared.log.Log.{Log}
use Rattle.mol_log_rules.specs.Histories.{Stamped, History}
use Rattle.mol_op.specs.Entries.{Change}
use Rattle.mol_op.specs.Rows.{op_tests, op_writes}
use Rattle.mol_op.specs.Tests.{condition, tests_names}

-- what an entry is to a program: the condition of its operation, for the tag of its stamp, with what it writes and names
abbrev pub change_of : Entry → Change
change_of entry = record {
  fault = condition (op_tests entry.op) entry.stamp.tag;
  writes = op_writes entry.op;
  names = tests_names (op_tests entry.op);
}

abbrev pub stamped : Entry → Stamped
stamped entry = record { stamp = entry.stamp; change = change_of entry }

abbrev pub history_of : List Entry → History
history_of entries = map stamped entries

abbrev pub history : Log → History
history log = history_of log.entries
