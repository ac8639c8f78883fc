-- The words of a command, as the code keeps them.
use Rattle.mol_top.specs.Command as words
use Rattle.mol_top.specs.declared.command.CheckWords.{CheckWords}
use Rattle.mol_top.specs.declared.command.Command.{Command}
use Rattle.mol_top.specs.declared.command.Command.TheVariants.{Merge, Check, Fmt, Ids, Replay}
use Rattle.mol_top.specs.declared.command.FmtWords.{FmtWords}
use Rattle.mol_top.specs.declared.command.IdsWords.{IdsWords}
use Rattle.mol_top.specs.declared.command.MergeWords.{MergeWords}
use Rattle.mol_top.specs.declared.command.ReplayWords.{ReplayWords}

abbrev pub merge_words : MergeWords → words.MergeWords
merge_words given = record { base = given.base.now; first = given.first.now; second = given.second.now; out = given.out.now }

abbrev pub check_words : CheckWords → words.CheckWords
check_words given = record { base = given.base.now }

abbrev pub fmt_words : FmtWords → words.FmtWords
fmt_words given = record { base = given.base.now; out = given.out.now }

abbrev pub ids_words : IdsWords → words.IdsWords
ids_words given = record { base = given.base.now }

abbrev pub replay_words : ReplayWords → words.ReplayWords
replay_words given = record { base = given.base.now; log = given.log.now; out = given.out.now }

abbrev pub merge_command : MergeWords → words.Command
merge_command given = words.Command.merge (merge_words given)

abbrev pub check_command : CheckWords → words.Command
check_command given = words.Command.check (check_words given)

abbrev pub fmt_command : FmtWords → words.Command
fmt_command given = words.Command.fmt (fmt_words given)

abbrev pub ids_command : IdsWords → words.Command
ids_command given = words.Command.ids (ids_words given)

abbrev pub replay_command : ReplayWords → words.Command
replay_command given = words.Command.replay (replay_words given)

abbrev pub command_of : Command → words.Command
command_of (Merge given) = merge_command given
command_of (Check given) = check_command given
command_of (Fmt given) = fmt_command given
command_of (Ids given) = ids_command given
command_of (Replay given) = replay_command given
