-- Source files (JLS 7.3, 7.4, 7.5, 8.1).
use Rattle.std.specs.Prelude.{ℕ, List, [], ◌∷◌, ◌++◌, Option, Some, None}
use Rattle.std.specs.List.Sorted.{IsSorted, IsPermutation}
use Rattle.std.specs.Cmp.Lexicographic.{slice_cmp}
use Rattle.std.specs.Ordering.{nat_cmp}
use Rattle.mol_base.specs.Token.{Token}
use Rattle.jav_tree.specs.declared.types.TypeName.{TypeName}
use Rattle.jav_tree.specs.declared.types.TypeName.TheVariants as ty
use Rattle.jav_tree.specs.declared.unit.Member.{Member}
use Rattle.jav_tree.specs.declared.unit.Unit.{Unit as Source}
use Rattle.jav_tree.specs.Tokens.{IsSymbol, IsKeyword, IsName, Comments}
use Rattle.jav_tree.specs.Types.{Qualified}
use Rattle.jav_tree.specs.Words.{Words, ClassWords, in_order}
use Rattle.jav_tree.specs.Members.{Body}

-- `package q;` or `import q;`, with no comment inside
pub data Named : List ℕ → List Token → Type 0 where
  named : {semi : Token} {q : List ℕ} {ts : List Token} → Qualified q ts → IsSymbol ";" semi → Named q (ts ++ semi ∷ [])

-- Any number of imports in the order of the source, each with the comments after it.
pub data Imports : List (List ℕ) → List (List ℕ) → List Token → Type 0 where
  none : Imports [] [] []
  import : {word : Token} {q : List ℕ} {names comments more : List (List ℕ)} {ts us vs : List Token} → IsKeyword "import" word → Named q ts
      → Comments comments us → Imports names more vs → Imports (q ∷ names) (comments ++ more) (word ∷ ts ++ (us ++ vs))

-- `extends q`, or nothing
pub data Parent : Option TypeName → List Token → Type 0 where
  none : Parent None []
  extends : {word : Token} {q : List ℕ} {ts : List Token} → IsKeyword "extends" word → Qualified q ts → Parent (Some (ty.Named q)) (word ∷ ts)

-- the same names ascending by bytes, each as often as before
pub record AscendingOf (names sorted : List (List ℕ)) : Type 0 where
  pub same_names : IsPermutation names sorted
  pub ascending : IsSorted (slice_cmp nat_cmp) sorted

-- SourceFile limit height unit ts: a whole file. Comments before `package` are the head; those from there to the class's first
-- word are its front; those before its last brace and after it are its tail.
pub data SourceFile (limit : ℕ) : ℕ → Source → List Token → Type 0 where
  source : {h : ℕ} {packaged class name left right : Token} {q : List ℕ} {head first others words names imports tail last : List (List ℕ)}
      {parent : Option TypeName} {members : List Member} {cs ps fs is ws es ms ts ls : List Token}
      → Comments head cs → IsKeyword "package" packaged → Named q ps → Comments first fs → Imports names others is → AscendingOf names imports
      → Words words ws → ClassWords words → IsKeyword "class" class → IsName name → Parent parent es → IsSymbol "{" left
      → Body limit (Some name.text) h members ms → Comments tail ts → IsSymbol "}" right → Comments last ls
      → SourceFile limit h
      (record { head = head; «package» = q; imports = imports; class = record { front = first ++ others; words = in_order words; name = name.text; parent = parent; members = members; tail = tail ++ last } })
      (cs ++ (packaged ∷ ps ++ (fs ++ (is ++ (ws ++ (class ∷ name ∷ es ++ (left ∷ ms ++ (ts ++ right ∷ ls))))))))
