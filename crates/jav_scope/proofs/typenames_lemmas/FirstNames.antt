-- The first name of a text, and what follows it.
use Rattle.std.proofs.Common.{◌≡◌, [], ◌∷◌, ◌++◌, ◌∙◌, ap}
use Rattle.jav_names.specs.index.Spelled.{joined_names}
use Rattle.jav_scope.proofs.CutTexts.{DotsNowhere, cut-whole, cut-front}
use Rattle.jav_names.proofs.CutNames.{names_cut}
use Rattle.jav_names.specs.DottedNames.{Name, dot, Dotted, cut}
use Rattle.jav_scope.specs.typenames.Readings.{IsCut}

pub cut-at_dot : (text first rest : Name) → text ≡ first ++ dot ∷ rest → DotsNowhere first → IsCut text first rest
cut-at_dot text first rest is none = record {
  first_is = ap (λ (c : Dotted). c.first) (ap cut is ∙ cut-front first rest none);
  rest_is = ap (λ (c : Dotted). joined_names c.rest) (ap cut is ∙ cut-front first rest none) ∙ names_cut.whole rest;
}

pub cut-nowhere : (text : Name) → DotsNowhere text → IsCut text text []
cut-nowhere text none = record {
  first_is = ap (λ (c : Dotted). c.first) (cut-whole text none);
  rest_is = ap (λ (c : Dotted). joined_names c.rest) (cut-whole text none);
}
