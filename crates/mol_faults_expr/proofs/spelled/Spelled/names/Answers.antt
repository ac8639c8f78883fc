use Rattle.std.proofs.Common.{[], ◌∷◌, ◌++◌, sym, ap, ◌∙◌, if◌then◌else◌}
use Rattle.jav_names.specs.DottedNames.{cut}
use Rattle.mol_faults_expr.proofs.spelled.Spelled.names.Goals as goal

pub returns-then-self : goal.returns-then-self
returns-then-self c =
    let text = c.args.self.now.text in
    c.in_ok-add_name.ensures ∙ (λ i. c.new-names.ensures.items i ++ c.as_str-text.ensures i ∷ []) ∙ ap (λ b.
    (if b then record { first = text; rest = [] } else cut text).first ∷
    (if b then record { first = text; rest = [] } else cut text).rest)
    (sym c.if-self.true)

pub returns : goal.returns
returns c =
    let text = c.args.self.now.text in
    c.in_ok-add_cut.ensures
    ∙ (λ i. c.new-names.ensures.items i ++ (cut (c.as_str-text.ensures i)).first ∷ (cut (c.as_str-text.ensures i)).rest) ∙ ap (λ b.
    (if b then record { first = text; rest = [] } else cut text).first ∷
    (if b then record { first = text; rest = [] } else cut text).rest)
    (sym c.if-self.false)
