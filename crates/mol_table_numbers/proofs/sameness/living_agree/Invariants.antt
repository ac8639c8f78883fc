use Rattle.std.proofs.Common.{ℕ, ◌<◌, get_or}
use Rattle.mol_base.specs.declared.ident.Id.{Id}
use Rattle.mol_table_numbers.specs.Agreement.{AgreeIfLiving}
use Rattle.mol_table_numbers.proofs.sameness.living_agree.Given as goal

abbrev pub invariant-loop-id : goal.invariant-loop-id
invariant-loop-id l = (k : ℕ) (d : Id) → k < l.id-index → AgreeIfLiving l.one l.other (get_or l.id-items k d)
