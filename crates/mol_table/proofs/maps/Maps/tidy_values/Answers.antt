use Rattle.std.proofs.Common.{◌≡◌, ◌∙◌, ◌≤◌, ◌+◌, suc, ℕ, sym, ap, arith, subst, length}
use Rattle.mol_table.proofs.TidiedInPlace.{all-changed, changed_to, one-more, tidied-alike}
use Rattle.mol_table.proofs.maps.Maps.tidy_values.Goals as goal
use Rattle.mol_table.specs.Tidying.{changed_at, value_by}
use Rattle.mol_table.specs.declared.maps.Maps.{Maps}

pub loop-place-preserved : goal.loop-place-preserved
loop-place-preserved c =
    let old = c.args.self.now in
    let now = c.loop-place.self in
    let index = c.args.index.now.entries in
    let place = c.loop-place.place in
    let change = value_by old index in
    let invariant = c.loop-place.invariant in
    let next : suc place ≡ place + 1 = omega arith in
    record {
      entries = c.in_ok-tidy_at.ensures.cells
          ∙ (λ i. changed_at (tidied-alike old now index place invariant.entries i) place (invariant.entries i))
          ∙ one-more change place old.cells.entries ∙ ap (λ (n : ℕ). changed_to change n old.cells.entries) next;
      rest = c.tidy_at.ensures.rest ∙ ap (λ (maps : Maps). record maps { cells = c.tidy_at.new.self.cells }) invariant.rest;
    }

pub returns-clause-cells : goal.returns-clause-cells
returns-clause-cells c =
    let old = c.args.self.now in
    let change = value_by old c.args.index.now.entries in
    let within : length old.cells.entries ≤ c.loop-place.place =
    subst (λ (n : ℕ). n ≤ c.loop-place.place) c.len-place-end.ensures.len c.loop-place-test.false in
    c.loop-place.invariant.entries ∙ all-changed change c.loop-place.place old.cells.entries within
