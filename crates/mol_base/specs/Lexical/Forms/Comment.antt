-- Comments (JLS 3.7).
use Rattle.std.specs.Prelude.{◌≡◌, ℕ, List, [], ◌++◌, All, IsFalse, codes}
use Rattle.mol_base.specs.Lexical.Characters.{is_line_end}

-- `//`, and bytes none of which ends a line
pub record IsLineComment (bytes : List ℕ) : Type 0 where
  pub text : List ℕ
  pub spelled : bytes ≡ codes "//" ++ text
  pub within_line : All (λ byte. IsFalse (is_line_end byte)) text

-- `/*`, a body and `*/`, where no `*/` ends earlier: wherever `*/` stands after the first two bytes,
-- nothing stands after it
pub record IsBlockComment (bytes : List ℕ) : Type 0 where
  pub body : List ℕ
  pub spelled : bytes ≡ codes "/*" ++ body ++ codes "*/"
  pub first_end : (before after : List ℕ) → body ++ codes "*/" ≡ before ++ codes "*/" ++ after → after ≡ []

pub data IsComment (bytes : List ℕ) : Type 0 where
  line : IsLineComment bytes → IsComment bytes
  block : IsBlockComment bytes → IsComment bytes
