use Rattle.std.proofs.Common.{◌≡◌, ◌==◌, ◌&&◌, ◌||◌, not, false, ℕ, length, take, get_or, List, Option, Some, slice_get, refl, sym, ◌∙◌, ap, subst, arith, rules}
use Rattle.std.specs.Option.{option_map_or}
use Rattle.std.proofs.lemmas.List.{take_all}
use Rattle.std.proofs.lemmas.Option.{slice_get_read}
use Rattle.jav_names.specs.UnitViews.{numbered}
use Rattle.jav_scope.specs.declared.source.SourceUnit.{SourceUnit}
use Rattle.jav_scope.proofs.Numbered.{numbered-more}
use Rattle.mol_resolve_classes.specs.headers.Doubles.{shows_double}
use Rattle.mol_resolve_classes.specs.headers.Marks.{Marked}
use Rattle.mol_resolve_classes.specs.headers.Headers.{first_named, name_of}
use Rattle.mol_resolve_classes.proofs.headers_lemmas.Marking.{marked-more, none-marked}
use Rattle.mol_resolve_classes.proofs.headers_lemmas.FirstNamed.{first-below}
use Rattle.mol_resolve_classes.proofs.headers_lemmas.Failing.{doubles-failing}
use Rattle.mol_resolve_classes.proofs.headers.duplicates.doubles.Goals as goal

pub loop-place-init : goal.loop-place-init
loop-place-init c = record {
  size = search rules;
  marked = none-marked (shows_double c.args.sources.now) c.in_ok-doubles.doubles.items _
      (c.in_ok-doubles.ensures.items_if_clones_equal (λ y is. is));
}

pub first_of-first-requires : goal.first_of-first-requires
first_of-first-requires c =
    ap (λ (all : List SourceUnit). slice_get all c.loop-place.place) c.requires
    ∙ slice_get_read c.args.sources.now _ c.loop-place.place c.index-sources-place.result refl c.loop-place-test.true
    c.index-sources-place.is

pub mark_both-requires : goal.mark_both-requires
mark_both-requires c = record {
  first = omega (
    arith,
    first-below c.args.scope.now (name_of c.index-sources-place.result) c.first_of-first.result c.first_of-first.ensures,
    c.loop-place.invariant.size,
    ap length c.requires,
  );
  place = omega (arith, c.loop-place.invariant.size, c.loop-place-test.true);
}

pub loop-place-preserved : goal.loop-place-preserved
loop-place-preserved c =
    let sources = c.args.sources.now in
    let place = c.loop-place.place in
    let source = c.index-sources-place.result in
    let place_of_first = c.first_of-first.result in
    let first : first_named sources (name_of source) ≡ Some place_of_first =
    subst (λ (all : List SourceUnit). first_named all (name_of source) ≡ Some place_of_first) c.requires c.first_of-first.ensures in
    record {
      size = c.mark_both.ensures.size ∙ c.loop-place.invariant.size;
      marked = marked-more (shows_double sources) (numbered (take place sources)) _ (place, source) c.loop-place.doubles.items _
          c.loop-place.invariant.marked (numbered-more sources place source c.loop-place-test.true c.index-sources-place.is)
          c.mark_both.ensures.size
          (λ number below. c.mark_both.ensures.marks number below
          ∙ ap (λ (found : Option ℕ). get_or c.loop-place.doubles.items number false || option_map_or
          (λ first. not (first == place) && (first == number || place == number)) found false) (sym first));
    }

pub returns : goal.returns
returns c =
    let sources = c.args.sources.now in
    doubles-failing sources c.loop-place.doubles.items c.loop-place.invariant.size
    (subst (λ (all : List SourceUnit). Marked (shows_double sources) (numbered all) c.loop-place.doubles.items)
    (take_all c.loop-place.place sources (omega (arith, c.loop-place-test.false))) c.loop-place.invariant.marked)
