-- The one text of a source file, of a body and of a type, and the path of a file.
use Rattle.std.specs.Prelude.{ℕ, List, [], ◌∷◌, ◌++◌, map, codes, if◌then◌else◌, Option, Some, None, filter, not}
use Rattle.std.specs.Str.{bytes_eq}
use Rattle.mol_base.specs.Paths.{path_of}
use Rattle.jav_tree.specs.declared.types.TypeName.{TypeName}
use Rattle.jav_tree.specs.declared.stmt.Block.{Block}
use Rattle.jav_tree.specs.declared.unit.ClassDecl.{ClassDecl}
use Rattle.jav_tree.specs.declared.unit.Ctor.{Ctor}
use Rattle.jav_tree.specs.declared.unit.Field.{Field}
use Rattle.jav_tree.specs.declared.unit.Member.{Member}
use Rattle.jav_tree.specs.declared.unit.Member.TheVariants as member
use Rattle.jav_tree.specs.declared.unit.Method.{Method}
use Rattle.jav_tree.specs.declared.unit.Param.{Param}
use Rattle.jav_tree.specs.declared.unit.Unit.{Unit as Source}
use Rattle.jav_tree.specs.Words.{in_order, has}
use Rattle.jav_tree.specs.Lines.{line_end, indent, all_of, listed, comment_lines}
use Rattle.jav_tree.specs.TypeText.{type_text}
use Rattle.jav_tree.specs.StatementText.{valued_text, block_text}

-- the line `@Override`, where that stands among the modifiers
abbrev pub override_line : List (List ℕ) → List ℕ
override_line words = if has words "@Override" then indent 1 ++ codes "@Override" ++ line_end else []

-- the other modifiers in their order, each with a space after it
abbrev pub words_text : List (List ℕ) → List ℕ
words_text words = all_of (map (λ word. word ++ codes " ") (filter (λ word. not (bytes_eq word (codes "@Override"))) (in_order words)))

-- the modifiers of a method, with those that its tree keeps elsewhere
abbrev pub method_words : Method → List (List ℕ)
method_words m = (if m.is_static then codes "static" ∷ [] else []) ++ (abstract_word m.block ++ m.words)
  where
    abstract_word : Option Block → List (List ℕ)
    abstract_word None = codes "abstract" ∷ []
    abstract_word (Some b) = []

abbrev pub param_text : Param → List ℕ
param_text p = type_text p.ty ++ codes " " ++ p.name

abbrev pub params_text : List Param → List ℕ
params_text ps = codes "(" ++ listed (map param_text ps) ++ codes ")"

-- a block after a header, or the semicolon of an abstract method
abbrev pub body_text : Option Block → List ℕ
body_text None = codes ";"
body_text (Some b) = codes " " ++ block_text b 1

abbrev pub field_lines : Field → List ℕ
field_lines f = comment_lines 1 f.front ++ indent 1 ++ words_text f.words ++ type_text f.ty ++ codes " " ++ valued_text f.name f.init ++ codes ";" ++ line_end

abbrev pub method_lines : Method → List ℕ
method_lines m = comment_lines 1 m.front ++ override_line m.words ++ indent 1 ++ words_text (method_words m) ++ type_text m.result ++ codes " " ++ m.name
    ++ params_text m.params ++ body_text m.block ++ line_end

-- A constructor has the name of its class.
abbrev pub ctor_lines : List ℕ → Ctor → List ℕ
ctor_lines name c = comment_lines 1 c.front ++ indent 1 ++ words_text c.words ++ name ++ params_text c.params ++ codes " " ++ block_text c.block 1 ++ line_end

abbrev pub member_lines : List ℕ → Member → List ℕ
member_lines name (member.Field f) = field_lines f
member_lines name (member.Method m) = method_lines m
member_lines name (member.Ctor c) = ctor_lines name c

-- members with an empty line between two
abbrev pub members_lines : List ℕ → List Member → List ℕ
members_lines name [] = []
members_lines name (m ∷ []) = member_lines name m
members_lines name (m ∷ next ∷ rest) = member_lines name m ++ line_end ++ members_lines name (next ∷ rest)

-- the last comments of a class, after an empty line if there are members
abbrev pub tail_lines : List Member → List (List ℕ) → List ℕ
tail_lines members [] = []
tail_lines [] (comment ∷ rest) = comment_lines 1 (comment ∷ rest)
tail_lines (m ∷ more) (comment ∷ rest) = line_end ++ comment_lines 1 (comment ∷ rest)

abbrev pub parent_text : Option TypeName → List ℕ
parent_text None = []
parent_text (Some to) = codes " extends " ++ type_text to

abbrev pub class_text : ClassDecl → List ℕ
class_text c = comment_lines 0 c.front ++ words_text c.words ++ codes "class " ++ c.name ++ parent_text c.parent ++ codes " {" ++ line_end
    ++ members_lines c.name c.members ++ tail_lines c.members c.tail ++ codes "}" ++ line_end

abbrev pub import_line : List ℕ → List ℕ
import_line name = codes "import " ++ name ++ codes ";" ++ line_end

-- the imports, which the tree keeps ascending, and an empty line if there is one
abbrev pub import_lines : List (List ℕ) → List ℕ
import_lines [] = []
import_lines (name ∷ rest) = all_of (map import_line (name ∷ rest)) ++ line_end

-- the text of a source file
abbrev pub unit_text : Source → List ℕ
unit_text u = comment_lines 0 u.head ++ codes "package " ++ u.«package» ++ codes ";" ++ line_end ++ line_end ++ import_lines u.imports ++ class_text u.class

-- the text of a body by itself: no indent, and no line end after the last brace
abbrev pub body_alone : Block → List ℕ
body_alone b = block_text b 0

-- the path of a source file
abbrev pub unit_path : Source → List ℕ
unit_path u = path_of u.«package» u.class.name
