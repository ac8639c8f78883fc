-- The laws of merges.
use Rattle.mol_merge_laws.proofs.MergedLog.{merged-formed, merged-history}
use Rattle.mol_merge_laws.proofs.Tags.{none-shared, shared-least, lesser-turned, greater-turned, tags-differ}
use Rattle.mol_merge_laws.proofs.UnitedIs.{united-is, united-only}
use Rattle.mol_merge_laws.specs.TagLaws.{LogsApart, LogsMerge}
use Rattle.mol_merge_laws.specs.UnitedLaws.{UnitedInTurn}

pub united_in_turn : UnitedInTurn
united_in_turn = record { is = united-is; only = λ base program one other. united-only base one other program }

pub logs_apart : LogsApart
logs_apart = record {
  none = none-shared;
  least = shared-least;
  lesser_turned = lesser-turned;
  greater_turned = greater-turned;
  entries = tags-differ;
}

pub logs_merge : LogsMerge
logs_merge = record { formed = merged-formed; history = merged-history }
