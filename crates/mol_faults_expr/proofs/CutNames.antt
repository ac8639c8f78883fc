-- Names before those of a text, which are cut one after the other.
use Rattle.std.proofs.Common.{◌≡◌, suc, ◌≤◌, [], ◌∷◌, ◌++◌, length, sym, ap, ◌∙◌, append_assoc, arith}
use Rattle.jav_scope.proofs.CutTexts.{DotsNowhere, cut-front, cut-whole}
use Rattle.jav_names.specs.DottedNames.{Dotted, Name, Names, cut, dot}

abbrev pub with_cut : Names → Name → Names
with_cut names text = names ++ (cut text).first ∷ (cut text).rest

pub cut-further : (names more : Names) (text name behind : Name) → more ≡ names ++ name ∷ [] → text ≡ name ++ dot ∷ behind
    → DotsNowhere name → with_cut more behind ≡ with_cut names text
cut-further names more text name behind is split none =
    ap (λ more. with_cut more behind) is
    ∙ append_assoc names (name ∷ []) ((cut behind).first ∷ (cut behind).rest)
    ∙ sym (ap (λ (dotted : Dotted). names ++ dotted.first ∷ dotted.rest) (ap cut split ∙ cut-front name behind none))

pub cut-last : (names : Names) (text : Name) → DotsNowhere text → names ++ text ∷ [] ≡ with_cut names text
cut-last names text none = sym (ap (λ (dotted : Dotted). names ++ dotted.first ∷ dotted.rest) (cut-whole text none))

-- there is one, then
pub is-some : (names : Names) (first : Name) (rest : Names) → names ≡ first ∷ rest → 1 ≤ length names
is-some names first rest is = let more : length names ≡ suc (length rest) = ap length is in omega (arith, more)
