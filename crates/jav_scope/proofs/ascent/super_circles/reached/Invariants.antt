use Rattle.std.proofs.Common.{◌≡◌, ◌<◌, ◌==◌, ℕ, false, length, take, get_or}
use Rattle.std.specs.List.{list_any}
use Rattle.jav_scope.proofs.ascent.super_circles.reached.Given as goal

abbrev pub invariant-loop-place : goal.invariant-loop-place
invariant-loop-place l = record {
  size : length l.reached.items ≡ l.count;
  marks : (number : ℕ) → number < l.count
      → get_or l.reached.items number false ≡ list_any (λ place. place == number) (take l.place-index l.places);
}
