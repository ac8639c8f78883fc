use Rattle.std.proofs.Common.{◌+◌, ◌++◌, flat_map, take, sym, subst}
use Rattle.jav_names.specs.UnitViews.{numbered, fields_of, declarations_of}
use Rattle.jav_scope.specs.Entries.{units_of, classes_in}
use Rattle.jav_scope.specs.MemberLists.{AreListed, AreAdded}
use Rattle.jav_scope.proofs.Numbered.{units-flat_mapped-more}
use Rattle.jav_scope.proofs.member_entries.MemberEntries.of.Goals as goal

pub loop-place-preserved : goal.loop-place-preserved
loop-place-preserved c =
    let sources = c.args.sources.now in
    let source = c.index-sources-place.result in
    let classes = classes_in sources in
    let before = numbered (units_of (take c.loop-place.place sources)) in
    let added = subst (λ n. AreAdded c.loop-place.entries c.add_all.new.self (fields_of classes (n, source.unit))
    (declarations_of classes (n, source.unit)))
    c.in_ok-number.ensures.ok (c.in_ok-add_all.ensures classes source.unit (sym c.items-members.ensures)) in
    let fields = units-flat_mapped-more sources c.loop-place.place source c.loop-place-test.true c.index-sources-place.is
    (fields_of classes) in
    let declarations = units-flat_mapped-more sources c.loop-place.place source c.loop-place-test.true c.index-sources-place.is
    (declarations_of classes) in
    subst (λ all. AreListed c.add_all.new.self all
    (flat_map (declarations_of classes) (numbered (units_of (take (c.loop-place.place + 1) sources)))))
    (sym fields)
    (subst (λ all. AreListed c.add_all.new.self (flat_map (fields_of classes) before ++ fields_of classes
    (c.loop-place.place, source.unit)) all)
    (sym declarations)
    (added (flat_map (fields_of classes) before) (flat_map (declarations_of classes) before) c.loop-place.invariant))
