use Rattle.std.proofs.Common.{◌≡◌, ◌++◌, ◌∷◌, List, ℕ, length, get_or, false, sym, ◌∙◌, ap, arith}
use Rattle.std.specs.Ordering.{nat_cmp}
use Rattle.std.specs.Cmp.Lexicographic.{slice_cmp}
use Rattle.jav_names.specs.DottedNames.{Name, dot}
use Rattle.jav_names.specs.index.Spelled.{joined_names}
use Rattle.jav_names.proofs.index_lemmas.Fronts.{rest_of, joined-more, joined-only, after-front}
use Rattle.jav_names.proofs.index.spelling.+compare_names.Goals as goal

pub returns-in-Ok : goal.returns-in-Ok
returns-in-Ok t c =
    let names = c.args.names.now in
    let first : Name = c.first-item.result in
    let whole : joined_names names ≡ first ++ dot ∷ joined_names (rest_of names) =
    joined-more names first (omega arith) c.first-item.is (sym c.if-is_empty.ensures) in
    c.compare_names.ensures
    ∙ sym (
    (λ i. slice_cmp nat_cmp (c.in-Ok.ensures.rest i) (whole i))
    ∙ ap (λ (f : Name). slice_cmp nat_cmp (f ++ dot ∷ c.in-Ok.more.now) (first ++ dot ∷ joined_names (rest_of names)))
    c.bytes-first.ensures.bytes
    ∙ after-front first c.in-Ok.more.now (joined_names (rest_of names))
    )

pub returns-then-is_empty : goal.returns-then-is_empty
returns-then-is_empty t c =
    let names = c.args.names.now in
    let first : Name = c.first-item.result in
    let whole : joined_names names ≡ first = joined-only names first (omega arith) c.first-item.is (sym c.if-is_empty.ensures) in
    c.cmp-then-is_empty.ensures ∙ ap (slice_cmp nat_cmp c.args.text.now) (c.bytes-first.ensures.bytes ∙ sym whole)
