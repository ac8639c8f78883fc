-- Names that are put after others.
use Rattle.std.proofs.Common.{◌≡◌, ◌≤◌, ◌<◌, ◌+◌, ℕ, suc, [], ◌∷◌, ◌++◌, length, take, get_or, append_assoc, ap, refl, sym, ◌∙◌, arith}
use Rattle.std.proofs.lemmas.List.{length-append, take_at}
use Rattle.jav_names.specs.DottedNames.{Name, Names}

-- names before those that follow them
module _ (before : Names) (first : Name) (rest : Names) (count : ℕ) (is : before ≡ first ∷ rest) (many : count ≡ length before) where
  pub are-many : count ≡ suc (length rest)
  are-many = many ∙ ap length is

  pub are-some : 1 ≤ count
  are-some = omega (arith, are-many)

  module _ (after follow : Names) where
    pub go-on : after ≡ before ++ follow → after ≡ first ∷ (rest ++ follow)
    go-on then = then ∙ ap (λ names. names ++ follow) is

    pub are-within : after ≡ before ++ follow → count ≤ length after
    are-within then =
        let all : length after ≡ length before + length follow = ap length then ∙ length-append before follow in omega (arith, many, all)

    -- with one more between them
    module _ (name : Name) (middle : Names) (once : middle ≡ before ++ name ∷ []) (again : after ≡ middle ++ follow) where
      named : after ≡ before ++ name ∷ follow
      named = again ∙ ap (λ names. names ++ follow) once ∙ append_assoc before (name ∷ []) follow

      pub go-past : after ≡ first ∷ (rest ++ name ∷ follow)
      go-past = named ∙ ap (λ names. names ++ name ∷ follow) is

      pub are-below : count < length after
      are-below =
          let all : length after ≡ length before + suc (length follow) = ap length named ∙ length-append before (name ∷ follow) in
          omega (arith, many, all)

-- ---- parts of names

-- those before a name, and it
module _ (names : Names) (first : Name) (rest : Names) (name : Name) (follow : Names) (count : ℕ) (is : names ≡ first ∷ (rest ++ name ∷ follow))
    (many : count ≡ suc (length rest)) where
  pub front-is : take count names ≡ first ∷ rest
  front-is = ap (take count) is ∙ take_at (first ∷ rest) (name ∷ follow) count (sym many)

  at-end : (before : Names) (given : Name) → get_or (before ++ name ∷ follow) (length before) given ≡ name
  at-end [] given = refl
  at-end (other ∷ before) given = at-end before given

  pub name-is : (given : Name) → given ≡ get_or names count given → given ≡ name
  name-is given at = at ∙ (λ i. get_or (is i) (many i) given) ∙ at-end (first ∷ rest) given
