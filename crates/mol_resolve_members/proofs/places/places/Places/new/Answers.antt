use Rattle.std.proofs.Common.{◌<◌, ◌^◌, All, List, ℕ, length, sum_by, sym, ◌∙◌, ap, subst}
use Rattle.mol_resolve_members.specs.places.Counts.{members_at, counts_before}
use Rattle.mol_resolve_members.specs.places.Orders.{positions}
use Rattle.mol_resolve_members.proofs.places_lemmas.FilesInOrder.{order-within}
use Rattle.mol_resolve_members.proofs.places.places.Places.new.Goals as goal

pub positions-requires : goal.positions-requires
positions-requires c =
    subst (λ (order : List ℕ). All (λ number. number < length order) order) (sym c.requires) (order-within c.args.sources.now)

pub invariant_of-result : goal.invariant_of-result
invariant_of-result c = record {
  placed = c.in_ok-files.ensures ∙ ap positions c.requires;
  counted = c.in_ok-before.ensures.counted ∙ ap (counts_before c.args.sources.now) c.requires;
  fits = subst (λ (order : List ℕ). sum_by (members_at c.args.sources.now) order < 2 ^ 32) c.requires c.in_ok-before.ensures.fits;
}
