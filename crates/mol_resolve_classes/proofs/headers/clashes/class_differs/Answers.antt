use Rattle.std.proofs.Common.{◌≡◌, ◌++◌, ◌∷◌, ◌∙◌, sym, ap}
use Rattle.jav_names.specs.DottedNames.{dot, simple_name}
use Rattle.jav_names.specs.LookUps.{import_of}
use Rattle.jav_scope.proofs.CutTexts.{simple_name-behind}
use Rattle.mol_resolve_classes.specs.headers.Clashes.{is_another}
use Rattle.mol_resolve_classes.specs.headers.Headers.{name_of}
use Rattle.mol_resolve_classes.proofs.headers.clashes.class_differs.Goals as goal

pub returns : goal.returns
returns c =
    let source = c.args.source.now in
    let full : c.bytes.result.now ++ dot ∷ c.as_bytes.result.now ≡ name_of source =
    (λ i. c.bytes.ensures.bytes i ++ dot ∷ (c.as_bytes.ensures.value ∙ c.as_str-name.ensures) i) in
    let simple : c.simple_name.result.now ≡ simple_name (name_of source) =
    c.simple_name.ensures ∙ ap simple_name c.as_str-name.ensures
    ∙ sym (simple_name-behind source.unit.«package» source.unit.class.name) in
    c.another_first.ensures source c.requires ∙ (λ i. is_another (import_of source.unit.imports (simple i)) (full i))
