use Rattle.std.proofs.Common.{◌++◌, ◌∙◌, sym, map}
use Rattle.jav_names.specs.UnitViews.{numbered}
use Rattle.jav_scope.specs.Entries.{import_entry, import_entries}
use Rattle.jav_scope.proofs.Numbered.{units-flat_mapped-more}
use Rattle.jav_scope.proofs.entries.imported_names.Goals as goal

pub loop-place-preserved : goal.loop-place-preserved
loop-place-preserved c =
    c.in_ok-add_imports.ensures
    ∙ (λ i. c.loop-place.invariant i ++ map (import_entry (c.in_ok-number.ensures.ok i)) (numbered (c.items-imports.ensures i)))
    ∙ sym (units-flat_mapped-more c.args.sources.now c.loop-place.place c.index-sources-place.result c.loop-place-test.true
    c.index-sources-place.is
    import_entries)
