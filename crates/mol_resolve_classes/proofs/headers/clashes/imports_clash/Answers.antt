use Rattle.std.proofs.Common.{◌||◌, sym, ◌∙◌, ap}
use Rattle.std.specs.List.{list_any}
use Rattle.std.proofs.lemmas.Option.{slice_get_within}
use Rattle.mol_resolve_classes.specs.headers.Clashes.{differs}
use Rattle.mol_resolve_classes.specs.headers.Headers.{name_of}
use Rattle.mol_resolve_classes.proofs.headers_lemmas.FoundClashes.{clash-is}
use Rattle.mol_resolve_classes.proofs.headers.clashes.imports_clash.Goals as goal

pub imports_differ-requires : goal.imports_differ-requires
imports_differ-requires c = slice_get_within c.args.scope.now c.args.unit c.args.source.now c.requires

pub returns-then-class_differs : goal.returns-then-class_differs
returns-then-class_differs c =
    let source = c.args.source.now in
    sym (clash-is (name_of source) source.unit.imports ∙ ap (λ b. b || list_any (differs source.unit.imports) source.unit.imports)
    (sym c.class_differs.ensures ∙ c.if-class_differs.true))

pub returns : goal.returns
returns c =
    let source = c.args.source.now in
    c.imports_differ.ensures source c.requires ∙ ap (list_any (differs source.unit.imports)) c.items.ensures
    ∙ sym (clash-is (name_of source) source.unit.imports ∙ ap (λ b. b || list_any (differs source.unit.imports) source.unit.imports)
    (sym c.class_differs.ensures ∙ c.if-class_differs.false))
