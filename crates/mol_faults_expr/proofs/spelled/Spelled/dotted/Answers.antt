use Rattle.std.proofs.Common.{[], None, Some, sym, ap, ◌∙◌, lit<, if◌then◌else◌}
use Rattle.std.proofs.lemmas.Str.Pattern.{split_parts}
use Rattle.jav_scope.proofs.CutTexts.{cut-front, cut-whole}
use Rattle.jav_names.specs.DottedNames.{cut}
use Rattle.mol_faults_expr.proofs.spelled.Spelled.dotted.Goals as goal

pub returns-then-self : goal.returns-then-self
returns-then-self c =
    let text = c.args.self.now.text in
    (λ i. record { first = c.as_str-text.ensures i; rest = [] }) ∙ ap (λ b. if b then record { first = text; rest = [] } else cut text)
    (sym c.if-self.true)

pub returns-in-Some : goal.returns-in-Some
returns-in-Some c =
    let text = c.args.self.now.text in
    let parts = split_parts 46 c.as_str-text.result.now (Some (c.in-Some.front, c.in-Some.rest)) c.in-Some.ensures.cases (lit< tt) in
    sym (ap (λ b. if b then record { first = text; rest = [] } else cut text) c.if-self.false
    ∙ ap cut (sym c.as_str-text.ensures ∙ parts.0) ∙ cut-front c.in-Some.front.now c.in-Some.rest.now parts.1)

pub returns-in-None : goal.returns-in-None
returns-in-None c =
    let text = c.args.self.now.text in
    (λ i. record { first = c.as_str-text.ensures i; rest = [] })
    ∙ sym (ap (λ b. if b then record { first = text; rest = [] } else cut text) c.if-self.false ∙ ap cut (sym c.as_str-text.ensures)
    ∙ cut-whole c.as_str-text.result.now (split_parts 46 c.as_str-text.result.now None c.in-None.ensures.cases (lit< tt))
    ∙ (λ i. record { first = c.as_str-text.ensures i; rest = [] }))
