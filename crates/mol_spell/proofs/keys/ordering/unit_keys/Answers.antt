use Rattle.std.proofs.Common.{rules}
use Rattle.std.proofs.lemmas.List.Sorted.{IsPermutation-map}
use Rattle.std.specs.Ordering.{is_lt}
use Rattle.jav_names.proofs.index_lemmas.Searched.{sorted-by_closure}
use Rattle.mol_spell_rules.specs.SpelledUnits.{unit_key_cmp}
use Rattle.mol_spell.proofs.keys_lemmas.KeysOrdered.{keys-in-order, keys-sorted, unit_key_cmp-total}
use Rattle.mol_spell.proofs.keys.ordering.unit_keys.Goals as goal
use Rattle.mol_spell.specs.keys.Keys.{key_of}

pub returns : goal.returns
returns c =
    let sorted = sorted-by_closure unit_key_cmp unit_key_cmp-total key_of (λ a r q k. search rules) _ c.in_ok-sort_by.ensures.sorted in
    keys-in-order c.args.table.now _ _ c.in_ok-keys.ensures (IsPermutation-map key_of _ _ c.in_ok-sort_by.ensures.permutation)
    (keys-sorted key_of (λ x y. is_lt (unit_key_cmp x y)) _ sorted)
