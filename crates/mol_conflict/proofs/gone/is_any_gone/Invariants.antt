use Rattle.std.proofs.Common.{◌≡◌, drop}
use Rattle.std.specs.List.{list_any}
use Rattle.mol_conflict.proofs.gone.is_any_gone.Given as goal
use Rattle.mol_conflict.specs.Found.{is_gone}

abbrev pub invariant-loop-id : goal.invariant-loop-id
invariant-loop-id l =
    list_any (is_gone l.programs.base.now l.programs.gone.now l.programs.other.now) (drop l.id-index l.ids)
    ≡ list_any (is_gone l.programs.base.now l.programs.gone.now l.programs.other.now) l.ids
