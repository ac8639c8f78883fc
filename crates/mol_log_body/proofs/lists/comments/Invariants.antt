use Rattle.std.proofs.Common.{◌≡◌, ℕ, [], ◌-◌, ◌^◌, min}
use Rattle.mol_log_words.specs.Reader.{repeat}
use Rattle.mol_log_body.specs.BodyReader.{comment}
use Rattle.mol_log_body.proofs.lists.comments.Given as goal

abbrev pub invariant-loop-turn : goal.invariant-loop-turn
invariant-loop-turn l = (n : ℕ) → l.count ≡ min n (2 ^ 64 - 1) → repeat comment n [] l.initial.words
    ≡ repeat comment (n - l._turn) l.all l.words
