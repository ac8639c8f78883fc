use Rattle.mol_scope_members.proofs.declaring_lemmas.MembersAdded.{CollectsTo}
use Rattle.mol_scope_members.proofs.declaring.collected.Collected.of.Given as goal

abbrev pub invariant-loop-id : goal.invariant-loop-id
invariant-loop-id l = CollectsTo l.table l.id-items l.id-index l.collected
