-- Where entries of two histories are in conflict, in either order of the two.
use Rattle.std.specs.Prelude.{◌≡◌, List}
use Rattle.mol_faults_rules.specs.declared.conflict.Conflict.{Conflict}
use Rattle.mol_log_rules.specs.Histories.{History}
use Rattle.mol_merge_rules.specs.Conflicts.{IsConflictOf, ArePairConflicts, NamesBoth}
use Rattle.mol_merge_rules.specs.PairConflicts.{Pair, IsPair, ArePairs}
use Rattle.mol_merge_rules.specs.TwoLogs.{TagsDiffer}
use Rattle.mol_table_rules.specs.Program.{Program}

pub record PairsInConflict : Type 0 where
  -- there is at most one list of all pairs, and it does not go by which history is given first
  pub one_list : (base : Program) (one other : History) (pairs more : List Pair) → ArePairs base one other pairs
      → ArePairs base one other more → pairs ≡ more
  pub turned : (base : Program) (one other : History) (pairs : List Pair) → ArePairs base one other pairs → ArePairs base other one pairs
  -- their conflicts are the same too, if no tag has entries of both
  pub conflicts_turned : (base : Program) (one other : History) (list : List Conflict) → TagsDiffer one other
      → ArePairConflicts base one other list → ArePairConflicts base other one list
  -- the conflict of a pair names an entry of each history
  pub named : (base : Program) (one other : History) (pair : Pair) (conflict : Conflict) → IsPair base one other pair
      → IsConflictOf base one other pair conflict → NamesBoth one other conflict
