use Rattle.std.proofs.Common.{◌≡◌, ◌-◌, ◌≤◌, length, take}
use Rattle.std.specs.Prelude.{IfSome, slice_get}
use Rattle.std.specs.Ordering.{nat_cmp}
use Rattle.std.specs.declared.cmp.Ordering.TheVariants.{Less}
use Rattle.std.specs.Cmp.Lexicographic.{slice_cmp}
use Rattle.mol_outside.specs.Stored.{all_stored, ComeBefore}
use Rattle.mol_outside.proofs.place.place.Given as goal

-- what lies below `low` comes before the path, and what lies at `high` comes after it
abbrev pub invariant-loop-low : goal.invariant-loop-low
invariant-loop-low l =
    (l.low ≤ l.high) × (l.high ≤ length l.spans) × ComeBefore l.path (take l.low (all_stored l.buffer l.spans))
    × IfSome (slice_get (all_stored l.buffer l.spans) l.high) (λ f. slice_cmp nat_cmp l.path f.0 ≡ Less)

abbrev pub decreases-loop-low : goal.decreases-loop-low
decreases-loop-low l = l.high - l.low
