use Rattle.std.proofs.Common.{◌≡◌, ℕ, [], ◌-◌, ◌^◌, min}
use Rattle.mol_log_body.specs.BodyReader as reader
use Rattle.mol_log_body.proofs.variables.declarators.Given as goal

abbrev pub invariant-loop-turn : goal.invariant-loop-turn
invariant-loop-turn l = (n : ℕ) → l.count ≡ min n (2 ^ 64 - 1)
    → reader.declared l.depth n [] l.initial.scope l.initial.words ≡ reader.declared l.depth (n - l._turn) l.all l.scope l.words
