use Rattle.mol_scope_members.proofs.topmost_lemmas.TopmostFound.{topmost-found}
use Rattle.mol_scope_members.proofs.topmost.topmost.Topmost.new.Goals as goal

pub invariant_of-result : goal.invariant_of-result
invariant_of-result c =
    let ids = c.ids-ids in
    topmost-found c.args.table.now ids.ensures.rules ids.result.now ids.ensures.ascending ids.ensures.known
    c.in_ok-highest.highest.entries c.in_ok-highest.ensures c.in_ok-unordered.unordered.keys c.in_ok-unordered.ensures
