-- Names as they are spelled: in one text, or in several with dots between them (JLS 6.2).
use Rattle.std.specs.Prelude.{◌++◌, [], ◌∷◌}
use Rattle.jav_names.specs.DottedNames.{Name, Names, dot, joined}
use Rattle.jav_names.specs.declared.index.spelling.Spelling.{Spelling}
use Rattle.jav_names.specs.declared.index.spelling.Spelling.TheVariants as spelling

abbrev pub joined_names : Names → Name
joined_names [] = []
joined_names (first ∷ rest) = joined first rest

-- the text that a spelling stands for
abbrev pub spelled : Spelling → Name
spelled (spelling.Whole name) = name.now
spelled (spelling.Pair front back) = front.now ++ dot ∷ back.now
spelled (spelling.Names names) = joined_names names.now
