use Rattle.std.proofs.Common.{◌≡◌, ℕ, Bool, List, length, map}
use Rattle.std.specs.Prelude.{filter}
use Rattle.std.specs.List.{list_any}
use Rattle.std.specs.Cmp.Lexicographic.{pointwise}
use Rattle.std.specs.Str.{bytes_eq}
use Rattle.mol_base.proofs.modifier.is_selection.Given as goal

-- what is left of both lists answers as the whole lists do
abbrev pub invariant-loop-all : goal.invariant-loop-all
invariant-loop-all l =
    let stands : List ℕ → Bool = λ word. list_any (bytes_eq word) l.words in
    pointwise bytes_eq (filter stands (map (λ word. word.now) l.fn.all)) l.words ≡ pointwise bytes_eq (filter stands (map (λ word. word.now) l.all)) l.rest

abbrev pub decreases-loop-all : goal.decreases-loop-all
decreases-loop-all l = length l.all
