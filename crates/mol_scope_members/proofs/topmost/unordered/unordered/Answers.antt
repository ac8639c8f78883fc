use Rattle.std.proofs.Common.{◌≡◌, ◌+◌, ◌∙◌, ◌∷◌, ◌++◌, [], ◌||◌, Bool, true, false, List, take, refl, sym, ap}
use Rattle.std.specs.List.{list_any}
use Rattle.std.proofs.lemmas.List.{take_more, take_all}
use Rattle.std.proofs.lemmas.List.Folds.{list_any-append}
use Rattle.mol_base.specs.declared.ident.Id.{Id}
use Rattle.mol_table_rules.specs.Program.{same_id}
use Rattle.mol_scope_members.specs.topmost.Highest.{stands_beside}
use Rattle.mol_scope_members.proofs.topmost.unordered.unordered.Goals as goal

or-false : (b : Bool) → b ≡ (b || false)
or-false true = refl
or-false false = refl

pub loop-id-init : goal.loop-id-init
loop-id-init c = λ (method : Id). ap (list_any (same_id method)) c.new-methods.ensures.empty

pub loop-id-preserved : goal.loop-id-preserved
loop-id-preserved c =
    let ids : List Id = c.args.ids.now in
    let i = c.loop-id.id-index in
    let id : Id = c.id-item.result in
    let taken : take (i + 1) ids ≡ take i ids ++ id ∷ [] =
    take_more ids i id c.loop-id-test.true ∙ ap (λ r. take i ids ++ r ∷ []) (sym c.id-item.is) in
    λ (method : Id).
    let test = stands_beside c.args.table.now c.args.tops.now.entries method in
    c.in_ok-note_beside.ensures method
    ∙ (λ k. c.loop-id.invariant method k || or-false (test id) k)
    ∙ sym (ap (list_any test) taken ∙ list_any-append test (take i ids) (id ∷ []))

pub returns : goal.returns
returns c = λ (method : Id).
    c.loop-id.invariant method
    ∙ ap (list_any (stands_beside c.args.table.now c.args.tops.now.entries method))
    (take_all c.loop-id.id-index c.args.ids.now c.loop-id-test.false)
