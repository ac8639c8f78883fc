use Rattle.std.proofs.Common.{◌≡◌, ◌+◌, ◌∙◌, ◌∷◌, ◌++◌, [], List, take, sym, ap, subst}
use Rattle.std.specs.FinMap.{get-empty}
use Rattle.std.proofs.lemmas.List.{take_more, take_all}
use Rattle.mol_base.specs.Order.{id_cmp}
use Rattle.mol_base.specs.declared.ident.Id.{Id}
use Rattle.mol_scope_members.specs.topmost.Highest.{AreHighest, top_in}
use Rattle.mol_scope_members.proofs.topmost_lemmas.HighestNoted.{tops-more, tops-none}
use Rattle.mol_scope_members.proofs.topmost.highest.highest.Goals as goal

pub loop-id-init : goal.loop-id-init
loop-id-init c = tops-none c.args.table.now c.new-tops.result.entries
    (λ method. ap (λ es. top_in es method) c.new-tops.ensures.empty ∙ get-empty id_cmp method)

pub loop-id-preserved : goal.loop-id-preserved
loop-id-preserved c =
    let program = c.args.table.now in
    let ids : List Id = c.args.ids.now in
    let i = c.loop-id.id-index in
    let id : Id = c.id-item.result in
    let new = c.note_highest.new.tops.entries in
    let taken : take (i + 1) ids ≡ take i ids ++ id ∷ [] =
    take_more ids i id c.loop-id-test.true ∙ ap (λ r. take i ids ++ r ∷ []) (sym c.id-item.is) in
    subst (λ is. AreHighest program is new) (sym taken)
    (tops-more program c.requires.rules (take i ids) id c.loop-id.tops.entries new c.in_ok-note_highest.ensures c.loop-id.invariant)

pub returns : goal.returns
returns c =
    subst (λ is. AreHighest c.args.table.now is c.loop-id.tops.entries)
    (take_all c.loop-id.id-index c.args.ids.now c.loop-id-test.false) c.loop-id.invariant
