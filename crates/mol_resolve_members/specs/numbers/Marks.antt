-- Which classes a walk has met.
use Rattle.std.specs.Prelude.{ℕ, ◌==◌, List, Option, Some, None, if◌then◌else◌, slice_index}
use Rattle.std.specs.Option.{option_and_then}

-- a class, if there is one and its mark is not that of this walk
abbrev pub unmarked : List ℕ → ℕ → Option ℕ → Option ℕ
unmarked marks walk class = option_and_then (λ class. if slice_index marks class == walk then None else Some class) class
