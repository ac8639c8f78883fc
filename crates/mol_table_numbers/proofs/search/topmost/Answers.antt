use Rattle.std.proofs.Common.{◌+◌, ◌∙◌, refl, sym, ap, drop}
use Rattle.std.proofs.lemmas.List.{drop_all}
use Rattle.std.specs.List.{find}
use Rattle.mol_table_rules.specs.Faults.{is_topmost}
use Rattle.mol_table.specs.Maps.{program_in}
use Rattle.mol_table_numbers.proofs.KnownKeys.{known-keys}
use Rattle.mol_table_numbers.proofs.TopsSearched.{find-here, find-later}
use Rattle.mol_table_rules.proofs.Writing.{drop-item}
use Rattle.mol_table_numbers.proofs.search.topmost.Goals as goal

pub loop-id-init : goal.loop-id-init
loop-id-init c = refl

pub loop-id-preserved : goal.loop-id-preserved
loop-id-preserved c =
    let passes = is_topmost (program_in c.args.maps.now) c.args.method.now in
    let items = c.as_slice-id-items.result.now in
    let i = c.loop-id.id-index in
    let id = c.id-item.result in
    c.loop-id.invariant ∙ ap (find passes) (drop-item items i id c.loop-id-test.true c.id-item.is)
    ∙ find-later passes id (drop (i + 1) items) (sym c.in_ok-is_topmost.ensures ∙ c.if-branch.false)

pub returns-then-branch : goal.returns-then-branch
returns-then-branch c =
    let maps = c.args.maps.now in
    let passes = is_topmost (program_in maps) c.args.method.now in
    let items = c.as_slice-id-items.result.now in
    let i = c.loop-id.id-index in
    let id = c.id-item.result in
    sym (ap (find passes) (known-keys maps c.requires.ordered c.len-size.ensures.unique ∙ sym (c.as_slice-id-items.ensures ∙ c.keys.ensures.rest))
    ∙ c.loop-id.invariant ∙ ap (find passes) (drop-item items i id c.loop-id-test.true c.id-item.is)
    ∙ find-here passes id (drop (i + 1) items) (sym c.in_ok-is_topmost.ensures ∙ c.if-branch.true))

pub returns : goal.returns
returns c =
    let maps = c.args.maps.now in
    let passes = is_topmost (program_in maps) c.args.method.now in
    let items = c.as_slice-id-items.result.now in
    sym (ap (find passes) (known-keys maps c.requires.ordered c.len-size.ensures.unique ∙ sym (c.as_slice-id-items.ensures ∙ c.keys.ensures.rest))
    ∙ c.loop-id.invariant ∙ ap (find passes) (drop_all c.loop-id.id-index items c.loop-id-test.false))
