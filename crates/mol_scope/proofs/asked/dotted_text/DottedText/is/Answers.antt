use Rattle.std.proofs.Common.{◌∙◌, ◌++◌, ◌∷◌, Option, sym, ap, bytes_eq}
use Rattle.std.specs.Borrow.{Bor}
use Rattle.std.specs.Ordering.{is_eq}
use Rattle.std.proofs.lemmas.Map.Text.{is_eq-slice_cmp}
use Rattle.jav_names.specs.DottedNames.{Name, dot}
use Rattle.mol_scope.specs.asked.Answers.{with_rest}
use Rattle.mol_scope.proofs.asked.dotted_text.DottedText.is.Goals as goal

pub returns-in-Some : goal.returns-in-Some
returns-in-Some c =
    let text = c.args.text.now in
    c.is_eq.ensures ∙ ap is_eq c.compare.ensures
    ∙ is_eq-slice_cmp c.as_bytes-in-Some-2.result.now (c.as_bytes.result.now ++ dot ∷ c.as_bytes-in-Some.result.now)
    ∙ (λ i. bytes_eq (c.as_bytes-in-Some-2.ensures.value i) (c.as_bytes.ensures.value i ++ dot ∷ c.as_bytes-in-Some.ensures.value i))
    ∙ ap (λ (rest : Option (Bor Name)). bytes_eq text (with_rest c.args.self.now.front.now rest)) (sym c.in-Some.is)
