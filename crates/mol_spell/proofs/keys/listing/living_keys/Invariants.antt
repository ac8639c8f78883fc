use Rattle.std.proofs.Common.{◌≡◌, filter_map, map, take}
use Rattle.mol_spell.proofs.keys_lemmas.KeysListed.{living_key}
use Rattle.mol_spell.proofs.keys.listing.living_keys.Given as goal
use Rattle.mol_spell.specs.keys.Keys.{key_of}

abbrev pub invariant-loop-id : goal.invariant-loop-id
invariant-loop-id l = map key_of l.keys.items ≡ filter_map (living_key l.table) (take l.id-index l.id-items)
