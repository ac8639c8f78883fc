use Rattle.std.proofs.Common.{◌≡◌, Bool, true, false, ◌||◌, sym, ◌∙◌, ap, arith}
use Rattle.std.specs.List.{list_any}
use Rattle.std.proofs.lemmas.List.{take_all}
use Rattle.std.proofs.lemmas.List.Folds.{list_any_more}
use Rattle.jav_names.specs.DottedNames.{Name}
use Rattle.jav_names.proofs.Lists.{list_any-decides}
use Rattle.mol_resolve_classes.specs.headers.Clashes.{differs}
use Rattle.mol_resolve_classes.proofs.headers.clashes.imports_differ.Goals as goal

pub returns-then-import_differs : goal.returns-then-import_differs
returns-then-import_differs c = λ source at.
    let imports = c.args.imports.now in
    let import = c.import-item.result in
    let differs_here : differs source.unit.imports import ≡ true = sym (c.import_differs.ensures source at) ∙ c.if-import_differs.true in
    let test : Name → Bool = differs source.unit.imports in
    let some = list_any-decides (λ full. test full ≡ true) test (λ full. (λ is. is, λ is. is)) imports in
    sym (some.1 (import, (c.loop-import.import-index, c.loop-import-test.true, sym c.import-item.is), differs_here))

pub loop-import-preserved : goal.loop-import-preserved
loop-import-preserved c = λ source at.
    let imports = c.args.imports.now in
    let import = c.import-item.result in
    let same_here : differs source.unit.imports import ≡ false = sym (c.import_differs.ensures source at) ∙ c.if-import_differs.false in
    list_any_more (differs source.unit.imports) imports c.loop-import.import-index import c.loop-import-test.true
    ∙ (λ i. c.loop-import.invariant source at i || (ap (differs source.unit.imports) (sym c.import-item.is) ∙ same_here) i)

pub returns : goal.returns
returns c = λ source at.
    let imports = c.args.imports.now in
    let whole = take_all c.loop-import.import-index imports (omega (arith, c.loop-import-test.false)) in
    sym (ap (list_any (differs source.unit.imports)) (sym whole) ∙ c.loop-import.invariant source at)
