use Rattle.std.proofs.Common.{◌≡◌, ◌++◌, ◌∷◌, None, Some, sym, ◌∙◌, ap}
use Rattle.jav_names.specs.DottedNames.{dot}
use Rattle.mol_resolve_classes.specs.headers.Headers.{first_named, name_of}
use Rattle.mol_resolve_classes.proofs.headers_lemmas.FirstNamed.{first-there}
use Rattle.mol_resolve_classes.proofs.headers.full_names.first_of.Goals as goal

pub returns-in-Some : goal.returns-in-Some
returns-in-Some c =
    let full : c.bytes.result.now ++ dot ∷ c.bytes-2.result.now ≡ name_of c.args.source.now =
    (λ i. c.bytes.ensures.bytes i ++ dot ∷ c.bytes-2.ensures.bytes i) in
    ap (first_named c.args.scope.now) (sym full) ∙ sym c.in-Some.ensures

pub returns-in-None : goal.returns-in-None
returns-in-None c =
    let full : c.bytes.result.now ++ dot ∷ c.bytes-2.result.now ≡ name_of c.args.source.now =
    (λ i. c.bytes.ensures.bytes i ++ dot ∷ c.bytes-2.ensures.bytes i) in
    let first = first-there c.args.scope.now c.args.place c.args.source.now c.requires in
    let none : None ≡ Some first.0 = c.in-None.ensures ∙ ap (first_named c.args.scope.now) full ∙ first.1 in
    absurd cc
