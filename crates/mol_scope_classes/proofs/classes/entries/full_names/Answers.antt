use Rattle.std.proofs.Common.{◌∙◌, ◌++◌, sym, ap, map, filter_map}
use Rattle.std.specs.Option.{option_to_list}
use Rattle.std.proofs.lemmas.List.{take_all, map-append}
use Rattle.mol_resolve_rules.specs.ProgramReaders.{class_at}
use Rattle.mol_resolve_rules.specs.ProgramViews.{living_class}
use Rattle.mol_scope_classes.specs.classes.ClassEntries.{class_entry}
use Rattle.mol_scope_classes.proofs.classes_lemmas.KnownIds.{made-more, made-known, mapped-one}
use Rattle.mol_scope_classes.proofs.classes.entries.full_names.Goals as goal

pub loop-id-preserved : goal.loop-id-preserved
loop-id-preserved c =
    let program = c.args.table.now in
    let ids = c.ids-id-items.result.now in
    let i = c.loop-id.id-index in
    let id = c.id-item.result in
    c.in_ok-add_entry.ensures
    ∙ (λ k. c.loop-id.invariant k ++ (ap option_to_list c.in_ok-entry.ensures ∙ mapped-one class_entry (class_at program id)) k)
    ∙ sym (ap (map class_entry) (made-more (class_at program) ids i id c.loop-id-test.true c.id-item.is)
    ∙ map-append class_entry _ (option_to_list (class_at program id)))

pub returns : goal.returns
returns c =
    let program = c.args.table.now in
    let ids = c.ids-id-items in
    c.loop-id.invariant
    ∙ ap (map class_entry) (ap (filter_map (class_at program)) (take_all c.loop-id.id-index ids.result.now c.loop-id-test.false)
    ∙ made-known program (living_class program) ids.result.now ids.ensures.ascending ids.ensures.known)
