use Rattle.std.proofs.Common.{◌<◌, All, ℕ, List, flat_map, length, map, sym, ◌∙◌, ap, subst, arith}
use Rattle.jav_scope.specs.declared.source.SourceUnit.{SourceUnit}
use Rattle.mol_resolve_members.specs.places.Listings.{as_listed, members_in}
use Rattle.mol_resolve_members.specs.places.Orders.{numbers_by_path}
use Rattle.mol_resolve_members.proofs.places_lemmas.FilesInOrder.{order-length, order-within}
use Rattle.mol_resolve_members.specs.numbers.Tops.{tops_of}
use Rattle.mol_resolve_members.proofs.numbers.numbers.Numbers.new.Goals as goal

pub list_members-requires : goal.list_members-requires
list_members-requires c = subst (λ (order : List ℕ). All (λ unit. unit < length c.args.sources.now) order) (sym c.requires.order)
    (λ k d below. omega (arith, order-within c.args.sources.now k d below, order-length c.args.sources.now))

pub tops-requires : goal.tops-requires
tops-requires c =
    let same = sym c.requires.scope in
    record {
      places = c.in_ok-places.ensures ∙ same;
      classes = c.in_ok-classes.ensures.ok ∙ ap length same;
      listed = ap (map as_listed) c.as_slice.ensures.value ∙ c.in_ok-listed.ensures
          ∙ (λ i. flat_map (members_in (same i)) ((c.requires.order ∙ ap numbers_by_path same) i));
    }

pub firsts-requires : goal.firsts-requires
firsts-requires c =
    let same = sym c.in_ok-places.ensures in
    record {
      classes = c.in_ok-classes.ensures.ok ∙ ap length same;
      listed = ap (map as_listed) c.as_slice-2.ensures.value ∙ c.in_ok-listed.ensures
          ∙ (λ i. flat_map (members_in (same i)) ((c.requires.order ∙ ap numbers_by_path same) i));
      tops = c.as_slice-3.ensures.value ∙ c.in_ok-tops.ensures ∙ ap tops_of (c.requires.scope ∙ same);
    }

pub invariant_of-result : goal.invariant_of-result
invariant_of-result c =
    let same = sym c.in_ok-places.ensures in
    record {
      counted = c.in_ok-classes.ensures.ok ∙ ap (λ (all : List SourceUnit). length all) same;
      tops_are = c.in_ok-tops.ensures ∙ ap tops_of (c.requires.scope ∙ same);
      firsts_are = c.in_ok-firsts.ensures.firsts;
      fits = c.in_ok-firsts.ensures.fits;
    }
