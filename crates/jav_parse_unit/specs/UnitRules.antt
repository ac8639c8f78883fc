-- The rules of source files. The imports stay in the order of the source.
use Rattle.std.specs.Prelude.{ℕ, zero, suc, List, [], ◌∷◌, ◌++◌, Option, Some, None}
use Rattle.mol_base.specs.Token.{Token}
use Rattle.jav_tree.specs.declared.types.TypeName.{TypeName}
use Rattle.jav_tree.specs.declared.types.TypeName.TheVariants as ty
use Rattle.jav_tree.specs.declared.unit.ClassDecl.{ClassDecl}
use Rattle.jav_tree.specs.declared.unit.Member.{Member}
use Rattle.jav_tree.specs.declared.unit.Unit.{Unit as Source}
use Rattle.jav_parse_cursor.specs.declared.limits.Limits.{Limits}
use Rattle.jav_parse_cursor.specs.declared.sort.Sort.TheVariants as sort
use Rattle.jav_parse_unit.specs.declared.unit.ImportList.{ImportList}
use Rattle.jav_parse_unit.specs.declared.unit.MemberList.{MemberList}
use Rattle.jav_parse_unit.specs.MemberRules.{declared}
use Rattle.jav_parse_cursor.specs.Nodes.{text_of}
use Rattle.jav_parse_cursor.specs.Reading.{Parser, ◌>>=◌, ◌>>◌, pure, refuse, peek, take_token, expect, when_next, comments}
use Rattle.jav_parse_cursor.specs.TypeRules.{qualified}
use Rattle.jav_parse_unit.specs.declared.words.Words.{Words as Modifiers}
use Rattle.jav_parse_unit.specs.WordRules as words

-- a name with dots, and a semicolon
unfoldable pub named : ℕ → Parser (List ℕ)
named n = do
  names ← qualified n
  expect sort.Semi
  pure (text_of names)

-- no imports, with these comments
abbrev pub no_imports : List (List ℕ) → ImportList
no_imports notes = record { names = []; notes = notes }

unfoldable pub further_imports : Limits → ℕ → ImportList → Parser ImportList
further_imports l zero all = refuse
further_imports l (suc n) all = when_next sort.Import
    (do
      take_token
      q ← named l.turns
      notes ← comments l.turns all.notes
      further_imports l n (record { names = all.names ++ q ∷ []; notes = notes }))
    (pure all)

-- the comments after `package q;`, and imports each with the comments after it
unfoldable pub import_list : Limits → Parser ImportList
import_list l = do
  notes ← comments l.turns []
  further_imports l l.turns (no_imports notes)

-- members up to the last brace of their class
unfoldable pub members : Limits → ℕ → Option (List ℕ) → ℕ → List Member → Parser MemberList
members l top class zero all = refuse
members l top class (suc n) all = do
  notes ← comments l.turns []
  when_next sort.Finish (take_token >> pure (record { items = all; tail = notes }))
      (declared l top class notes >>= (λ ms. members l top class n (all ++ ms)))

-- `extends` and a name, or nothing
unfoldable pub parent : ℕ → Parser (Option TypeName)
parent n = when_next sort.Extends
    (do
      take_token
      names ← qualified n
      pure (Some (ty.Named (text_of names))))
    (pure None)

-- a class from its name on
unfoldable pub class_body : Limits → ℕ → Token → Parser MemberList
class_body l top name = do
  expect sort.Begin
  all ← members l top (Some name.text) l.turns []
  tail ← comments l.turns all.tail
  pure (record { items = all.items; tail = tail })

abbrev pub class_of : List (List ℕ) → Modifiers → Token → Option TypeName → MemberList → ClassDecl
class_of front w name to body = record { front = front; words = words.texts w; name = name.text; parent = to; members = body.items; tail = body.tail }

unfoldable pub class : Limits → ℕ → List (List ℕ) → Parser ClassDecl
class l top front = do
  w ← words.words words.fit_class l.turns words.no_words
  expect sort.Class
  name ← expect sort.Name
  to ← parent l.turns
  body ← class_body l top name
  pure (class_of front w name to body)

-- a source file, with its imports in their order
unfoldable pub unit : Limits → ℕ → Parser Source
unit l top = do
  head ← comments l.turns []
  expect sort.Package
  q ← named l.turns
  all ← import_list l
  decl ← class l top all.notes
  pure (record { head = head; «package» = q; imports = all.names; class = decl })
