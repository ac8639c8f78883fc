use Rattle.std.proofs.Common.{sym, subst, arith}
use Rattle.mol_resolve_classes.specs.declared.namesakes.declaration.Declaration.{Declaration}
use Rattle.mol_resolve_classes.specs.related.Tables.{AreNumbered}
use Rattle.mol_resolve_classes.proofs.related_lemmas.AreNumbered.{numbered-more}
use Rattle.mol_resolve_classes.proofs.related.methods.add_method.Goals as goal

pub returns-clause-numbered : goal.returns-clause-numbered
returns-clause-numbered c =
    let method = c.declaration-method.result in
    let next : Declaration = record {
      place = c.in_ok-place.place;
      name = method.name;
      params = method.params;
      result = method.result;
      is_static = method.is_static;
    } in
    subst AreNumbered (sym c.in_ok-push.ensures.items)
    (numbered-more c.args.methods.now.items next c.requires (omega (arith, c.in_ok-place.ensures.ok, c.len.ensures)))
