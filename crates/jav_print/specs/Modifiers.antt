-- Modifiers, of which some are kept apart from the others.
use Rattle.std.specs.Prelude.{ℕ, List, [], ◌∷◌, ◌++◌, codes, Bool, if◌then◌else◌}
use Rattle.jav_tree.specs.declared.unit.ClassDecl.{ClassDecl}
use Rattle.jav_tree.specs.Lines.{line_end, comment_lines}
use Rattle.jav_tree.specs.Layout.{words_text, parent_text}

-- the word where it stands
abbrev pub word_if : Bool → List ℕ → List (List ℕ)
word_if stands word = if stands then word ∷ [] else []

-- the words with `static` and `abstract`, where these stand
abbrev pub with_kept : Bool → Bool → List (List ℕ) → List (List ℕ)
with_kept is_static is_abstract words = word_if is_static (codes "static") ++ (word_if is_abstract (codes "abstract") ++ words)

-- the text, where it stands
abbrev pub modifier_text : Bool → List ℕ → List ℕ
modifier_text stands text = if stands then text else []

-- what stands before the members of a class
abbrev pub class_header : ClassDecl → List ℕ
class_header c = comment_lines 0 c.front ++ words_text c.words ++ codes "class " ++ c.name ++ parent_text c.parent ++ codes " {" ++ line_end
