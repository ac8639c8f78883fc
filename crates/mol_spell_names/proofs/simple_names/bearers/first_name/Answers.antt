use Rattle.std.proofs.Common.{◌∙◌, Some, None, ap, sym, lit<}
use Rattle.std.proofs.lemmas.Str.Pattern.{split_parts}
use Rattle.jav_scope.proofs.CutTexts.{cut-front, cut-whole}
use Rattle.jav_names.specs.DottedNames.{Dotted, cut}
use Rattle.mol_spell_names.proofs.simple_names.bearers.first_name.Goals as goal

pub returns-in-Some : goal.returns-in-Some
returns-in-Some c =
    let parts = split_parts 46 c.args.text.now (Some (c.in-Some.first, c.in-Some.rest)) c.in-Some.ensures.cases (lit< tt) in
    sym (ap (λ (names : Dotted). names.first) (ap cut parts.0 ∙ cut-front c.in-Some.first.now c.in-Some.rest.now parts.1))

pub returns-in-None : goal.returns-in-None
returns-in-None c =
    let none = split_parts 46 c.args.text.now None c.in-None.ensures.cases (lit< tt) in
    sym (ap (λ (names : Dotted). names.first) (cut-whole c.args.text.now none))
