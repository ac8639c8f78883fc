-- What the faults of a member beside all members come to.
use Rattle.std.specs.Prelude.{◌≡◌, ℕ, Option, Contains}
use Rattle.mol_resolve_faults.specs.First.{all_noted}
use Rattle.mol_resolve_rules.specs.FaultLists.{faults_beside}
use Rattle.mol_resolve_rules.specs.Files.{Files}
use Rattle.mol_resolve_rules.specs.MemberFaults.{Row}
use Rattle.mol_resolve_rules.specs.Outcomes.{TreeFault}
use Rattle.mol_resolve_faults.specs.beside.Beside.{faulty_noted}
use Rattle.mol_resolve_faults.specs.beside.Classes.{rows_of, rows_above, either}
use Rattle.mol_resolve_faults.specs.beside.Between.{faulty_here, faulty_below}

-- Of the faults of a member of a class beside all members one of each kind counts that there is beside the members of its class, or beside
-- those of the ancestors of its class.
abbrev pub BesideNoted : Type 0
BesideNoted = (files : Files) (class : ℕ) (second : Row ℕ) (first : Option TreeFault) → Contains (rows_of files class) second
    → all_noted first (faults_beside files second) ≡ faulty_noted (either (faulty_here second.kind (rows_of files class) second)
    (faulty_below second.kind (rows_above files class) second)) second.at first
