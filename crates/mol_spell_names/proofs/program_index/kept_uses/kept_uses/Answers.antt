use Rattle.std.proofs.Common.{◌+◌, ◌∷◌, ◌∙◌, List, drop, sym, ap, subst}
use Rattle.std.proofs.lemmas.List.{at_drop_more}
use Rattle.mol_base.specs.declared.ident.Id.{Id}
use Rattle.mol_spell_names.proofs.program_index.kept_uses.kept_uses.Goals as goal
use Rattle.mol_spell_names.specs.program_index.KeptUses.{AreUsesBut}

pub loop-class-preserved : goal.loop-class-preserved
loop-class-preserved c =
    let ids = c.ids-ids.result.now in
    let at = c.loop-class.class-index in
    c.in_ok-keep_living.ensures (drop (at + 1) ids)
    (subst (λ (rest : List Id). AreUsesBut c.args.names.now rest c.loop-class.kept.entries)
    (at_drop_more (λ (rest : List Id). rest) ids at c.class-item.result c.loop-class-test.true
    ∙ ap (λ (id : Id). id ∷ drop (at + 1) ids) (sym c.class-item.is)) c.loop-class.invariant)
