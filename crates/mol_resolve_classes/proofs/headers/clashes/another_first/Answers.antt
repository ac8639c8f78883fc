use Rattle.std.proofs.Common.{not, bytes_eq, Option, ◌∙◌, ap}
use Rattle.std.specs.Ordering.{is_eq}
use Rattle.std.proofs.lemmas.Map.Text.{is_eq-slice_cmp}
use Rattle.jav_names.specs.index.Spelled.{spelled}
use Rattle.jav_names.specs.DottedNames.{Name}
use Rattle.mol_resolve_classes.specs.headers.Clashes.{is_another}
use Rattle.mol_resolve_classes.proofs.headers.clashes.another_first.Goals as goal

pub returns-in-Some : goal.returns-in-Some
returns-in-Some c = λ source at.
    let full : Name = spelled c.args.full.now in
    ap not (c.is_eq.ensures ∙ ap is_eq c.compare.ensures ∙ is_eq-slice_cmp c.bytes.result.now full
    ∙ ap (λ (text : Name). bytes_eq text full) c.bytes.ensures.bytes)
    ∙ ap (λ (found : Option Name). is_another found full) (c.in-Some.ensures source at)

pub returns-in-None : goal.returns-in-None
returns-in-None c = λ source at. ap (λ (found : Option Name). is_another found (spelled c.args.full.now)) (c.in-None.ensures source at)
