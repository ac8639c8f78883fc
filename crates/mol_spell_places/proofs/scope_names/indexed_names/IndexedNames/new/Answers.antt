use Rattle.mol_spell_places.proofs.scope_names_lemmas.ScopeKept.{nothing-nearest}
use Rattle.mol_spell_places.proofs.scope_names.indexed_names.IndexedNames.new.Goals as goal

pub invariant_of-result : goal.invariant_of-result
invariant_of-result c = rw (c.new.ensures.items, c.new-2.ensures.empty) nothing-nearest
