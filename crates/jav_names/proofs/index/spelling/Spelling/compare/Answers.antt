use Rattle.std.proofs.Common.{◌≡◌, ◌++◌, ◌∷◌, List, ℕ, sym, ◌∙◌, ap}
use Rattle.std.specs.Ordering.{nat_cmp}
use Rattle.std.specs.Cmp.Lexicographic.{slice_cmp}
use Rattle.jav_names.specs.DottedNames.{dot}
use Rattle.jav_names.specs.index.Spelled.{spelled}
use Rattle.jav_names.proofs.index_lemmas.Fronts.{after-front}
use Rattle.jav_names.proofs.index.spelling.Spelling.compare.Goals as goal

pub returns-in-Ok : goal.returns-in-Ok
returns-in-Ok c =
    c.cmp-in-Ok.ensures
    ∙ sym ((λ i. slice_cmp nat_cmp (c.in-Ok.ensures.rest i) (spelled (c.in-Pair.is i)))
    ∙ after-front c.in-Pair.front.now c.in-Ok.rest.now c.in-Pair.back.now)
