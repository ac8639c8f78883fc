use Rattle.std.proofs.Common.{◌||◌, ◌+◌, Bool, not, drop, sym, ◌∙◌, ap, arith}
use Rattle.std.specs.List.{list_any}
use Rattle.std.proofs.lemmas.List.{drop_all}
use Rattle.jav_names.specs.seen.Kept.{view_type}
use Rattle.jav_names.specs.declared.seen.seen_type.SeenType.{SeenType}
use Rattle.jav_names.specs.StaticTypes.{is_unread}
use Rattle.mol_resolve_classes.proofs.signatures_lemmas.InTurn.{front}
use Rattle.mol_resolve_classes.proofs.signatures.type_order.all_known.Goals as goal

abbrev unread : SeenType → Bool
unread ty = is_unread (view_type ty)

pub returns-then-is_unread : goal.returns-then-is_unread
returns-then-is_unread c =
    let types = c.args.types.now in
    let i = c.loop-ty.ty-index in
    sym (ap not (c.loop-ty.invariant
    ∙ ap (list_any unread) (front types i c.ty-item.result c.loop-ty-test.true c.ty-item.is)
    ∙ ap (λ b. b || list_any unread (drop (i + 1) types)) (sym c.if-is_unread.ensures)))

pub loop-ty-preserved : goal.loop-ty-preserved
loop-ty-preserved c =
    let types = c.args.types.now in
    let i = c.loop-ty.ty-index in
    c.loop-ty.invariant
    ∙ ap (list_any unread) (front types i c.ty-item.result c.loop-ty-test.true c.ty-item.is)
    ∙ ap (λ b. b || list_any unread (drop (i + 1) types)) (sym c.if-is_unread.ensures)

pub returns : goal.returns
returns c =
    sym (ap not (c.loop-ty.invariant
    ∙ ap (list_any unread) (drop_all c.loop-ty.ty-index c.args.types.now (omega (arith, c.loop-ty-test.false)))))
