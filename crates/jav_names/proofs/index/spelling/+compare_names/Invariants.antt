use Rattle.std.proofs.Common.{length}
use Rattle.jav_names.proofs.index.spelling.+compare_names.Given as goal

abbrev pub decreases-compare_names : goal.decreases-compare_names
decreases-compare_names l = length l.names.now
