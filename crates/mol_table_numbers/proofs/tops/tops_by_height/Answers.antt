use Rattle.std.proofs.Common.{◌≡◌, ◌∙◌, sym, ap, subst, take}
use Rattle.std.proofs.lemmas.List.{take_all}
use Rattle.std.specs.FinMap.{get, get-empty, contains_key-keys}
use Rattle.indexmap.specs.IndexMap.{keys}
use Rattle.mol_base.specs.Order.{id_cmp}
use Rattle.mol_table.specs.Maps.{counts_of, program_in}
use Rattle.mol_table_numbers.specs.Tops.{tops_of, AreTops}
use Rattle.mol_table.proofs.Copying.{take-item}
use Rattle.mol_table_numbers.proofs.HeightsFound.{heights-none}
use Rattle.mol_table_rules.proofs.Programs.{keys-known}
use Rattle.mol_table_numbers.proofs.TopsFound.{tops-none, found}
use Rattle.mol_table_numbers.proofs.tops.tops_by_height.Goals as goal

pub loop-id-init : goal.loop-id-init
loop-id-init c = record {
  tops = tops-none c.args.maps.now c.new-tops.result.entries (λ at. ap (λ es. get (tops_of es) at) c.new-tops.ensures.empty ∙ get-empty id_cmp at);
  known = heights-none c.args.maps.now c.new-heights.result.entries (λ q. ap (λ es. get (counts_of es) q) c.new-heights.ensures.empty ∙ get-empty id_cmp q);
}

pub loop-id-preserved : goal.loop-id-preserved
loop-id-preserved c =
    let items = c.as_slice-id-items.result.now in
    let i = c.loop-id.id-index in
    record {
      tops = subst (λ ids. AreTops c.args.maps.now ids c.note_top.new.tops.entries) (sym (take-item items i c.id-item.result c.loop-id-test.true c.id-item.is))
          (c.in_ok-note_top.ensures.tops c.if-not-branch.false (take i items) c.loop-id.invariant.tops);
      known = c.in_ok-note_top.ensures.known;
    }

pub note_top-requires : goal.note_top-requires
note_top-requires c = c.loop-id.invariant.known

pub returns : goal.returns
returns c =
    let items = c.as_slice-id-items.result.now in
    let maps = c.args.maps.now in
    let all : take c.loop-id.id-index items ≡ keys maps.known =
    take_all c.loop-id.id-index items c.loop-id-test.false ∙ c.as_slice-id-items.ensures ∙ c.keys.ensures.rest in
    found maps c.requires (keys maps.known) (λ id. keys-known maps.known.entries id ∙ contains_key-keys (program_in maps).known id)
    c.loop-id.tops.entries (subst (λ ids. AreTops maps ids c.loop-id.tops.entries) all c.loop-id.invariant.tops)
