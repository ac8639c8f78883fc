use Rattle.mol_spell.proofs.keys_lemmas.KeysListed.{keys-all, keys-more}
use Rattle.mol_spell.proofs.keys.listing.living_keys.Goals as goal

pub loop-id-preserved : goal.loop-id-preserved
loop-id-preserved c =
    keys-more c.args.table.now c.ids-id-items.result.now c.loop-id.id-index c.id-item.result c.loop-id.keys.items _ _ c.loop-id-test.true
    c.id-item.is c.loop-id.invariant c.in_ok-key.ensures c.in_ok-add_key.ensures

pub returns : goal.returns
returns c =
    let ids = c.ids-id-items in
    keys-all c.args.table.now ids.result.now c.loop-id.id-index c.loop-id.keys.items ids.ensures.ascending ids.ensures.known
    c.loop-id-test.false c.loop-id.invariant
