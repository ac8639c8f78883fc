-- What the entries of a log are.
use Rattle.std.specs.Prelude.{◌≢◌, ℕ, List, AllPairs}
use Rattle.mol_log.specs.LogForms.{IsLog}
use Rattle.mol_log.specs.declared.entries.entry.Entry.{Entry}
use Rattle.mol_log.specs.declared.log.Log.{Log}
use Rattle.mol_log_rules.specs.Lawful.{AreLawful}
use Rattle.mol_log_rules.specs.Logs.{history}
use Rattle.mol_log_rules.specs.Parts.{IsPartOf}

pub record LogsLawful : Type 0 where
  -- they keep to the laws of operations
  pub lawful : (log : Log) → AreLawful (history log)
  -- no two have one stamp
  pub stamps : (tags : List (List ℕ)) (entries : List Entry) → IsLog tags entries
      → AllPairs (λ (first second : Entry). first.stamp ≢ second.stamp) entries
  -- some of them, in their order, may be a log of the same tags
  pub fewer : (tags : List (List ℕ)) (some entries : List Entry) → IsPartOf some entries → IsLog tags entries → IsLog tags some
