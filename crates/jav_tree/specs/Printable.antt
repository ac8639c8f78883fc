-- Which members and source files are printable: exactly what the layout needs so that its text parses to the tree as printed,
-- where that is within the limits of height and number.
use Rattle.std.specs.Prelude.{◌≡◌, ℕ, ◌≤◌, List, Bool, true, ◌&&◌, Option, Some, None, IsTrue, All}
use Rattle.std.specs.List.{list_all}
use Rattle.std.specs.List.Sorted.{IsSorted}
use Rattle.std.specs.Cmp.Lexicographic.{slice_cmp}
use Rattle.std.specs.Ordering.{nat_cmp}
use Rattle.jav_tree.specs.declared.types.TypeName.{TypeName}
use Rattle.jav_tree.specs.declared.expr.Expr.{Expr}
use Rattle.jav_tree.specs.declared.stmt.Block.{Block}
use Rattle.jav_tree.specs.declared.unit.ClassDecl.{ClassDecl}
use Rattle.jav_tree.specs.declared.unit.Ctor.{Ctor}
use Rattle.jav_tree.specs.declared.unit.Field.{Field}
use Rattle.jav_tree.specs.declared.unit.Member.{Member}
use Rattle.jav_tree.specs.declared.unit.Member.TheVariants as member
use Rattle.jav_tree.specs.declared.unit.Method.{Method}
use Rattle.jav_tree.specs.declared.unit.Param.{Param}
use Rattle.jav_tree.specs.declared.unit.Unit.{Unit as Source}
use Rattle.jav_tree.specs.Words.{ClassWords, FieldWords, MethodWords, AbstractWords, ConstructorWords, in_order, kept_of_method}
use Rattle.jav_tree.specs.TokenTexts.{is_name, is_dotted_name, are_comments}
use Rattle.jav_tree.specs.PrintableExpressions.{type_uses, expr_uses}
use Rattle.jav_tree.specs.PrintableStatements.{if_any, is_first_value, block_uses}
use Rattle.jav_tree.specs.Layout.{method_words}
use Rattle.jav_tree.specs.Widths.{unit_width}
use Rattle.jav_tree.specs.WithParens.{unit_printed_height}

-- a type, which is not `void`
abbrev pub IsPrintableType : TypeName → Type 0
IsPrintableType to = IsTrue (type_uses to).is_type

-- an expression where any may stand; items in braces are none
abbrev pub IsPrintableExpr : Expr → Type 0
IsPrintableExpr e = IsTrue (expr_uses e).is_value

-- a body by itself, which may be that of a constructor
abbrev pub IsPrintableBody : Block → Type 0
IsPrintableBody b = IsTrue (block_uses b).is_constructor_block

-- The modifiers of the tree are those that are printed, in their order: each at most once, and none that the layout does not know.
abbrev pub AreInOrder : List (List ℕ) → Type 0
AreInOrder words = in_order words ≡ words

-- A field has a type and a name, perhaps a first value, and its own modifiers (JLS 8.3).
pub record IsPrintableField (f : Field) : Type 0 where
  pub comments : IsTrue (are_comments f.front)
  pub allowed : FieldWords f.words
  pub ordered : AreInOrder f.words
  pub typed : IsPrintableType f.ty
  pub named : IsTrue (is_name f.name)
  pub first_value : IsTrue (if_any is_first_value f.init)

-- A parameter has a type and a name (JLS 8.4.1).
abbrev pub is_param : Param → Bool
is_param p = (type_uses p.ty).is_type && is_name p.name

-- The modifiers of a method are those of a method with a block, or those of an abstract one, exactly where it has none (JLS 8.4.7).
abbrev pub AllowedOfMethod : List (List ℕ) → Option Block → Type 0
AllowedOfMethod words None = AbstractWords words
AllowedOfMethod words (Some b) = MethodWords words

-- the block of a method has no `super(..)`
abbrev pub is_body : Option Block → Bool
is_body None = true
is_body (Some b) = (block_uses b).is_block

-- A method has a type or `void`, a name, parameters, and its own modifiers, of which the tree keeps `static` and `abstract`
-- elsewhere (JLS 8.4).
pub record IsPrintableMethod (m : Method) : Type 0 where
  pub comments : IsTrue (are_comments m.front)
  pub allowed : AllowedOfMethod (method_words m) m.block
  pub ordered : kept_of_method (method_words m) ≡ m.words
  pub typed : IsTrue (type_uses m.result).is_result
  pub named : IsTrue (is_name m.name)
  pub params : IsTrue (list_all is_param m.params)
  pub body : IsTrue (is_body m.block)

-- A constructor has the name of its class, parameters, and an access modifier at most (JLS 8.8).
pub record IsPrintableConstructor (c : Ctor) : Type 0 where
  pub comments : IsTrue (are_comments c.front)
  pub allowed : ConstructorWords c.words
  pub ordered : AreInOrder c.words
  pub params : IsTrue (list_all is_param c.params)
  pub body : IsPrintableBody c.block

abbrev pub IsPrintableMember : Member → Type 0
IsPrintableMember (member.Field f) = IsPrintableField f
IsPrintableMember (member.Method m) = IsPrintableMethod m
IsPrintableMember (member.Ctor c) = IsPrintableConstructor c

-- what follows `extends` is a class
abbrev pub is_parent : Option TypeName → Bool
is_parent None = true
is_parent (Some to) = (type_uses to).is_class

-- A class has a name, perhaps a superclass, its own modifiers and members (JLS 8.1).
pub record IsPrintableClass (c : ClassDecl) : Type 0 where
  pub comments : IsTrue (are_comments c.front && are_comments c.tail)
  pub allowed : ClassWords c.words
  pub ordered : AreInOrder c.words
  pub named : IsTrue (is_name c.name)
  pub parent : IsTrue (is_parent c.parent)
  pub members : All IsPrintableMember c.members

-- A source file has a package and imports, ascending by bytes, each by a name with dots (JLS 7.3 to 7.5), and one class.
pub record IsPrintable (u : Source) : Type 0 where
  pub comments : IsTrue (are_comments u.head)
  pub packaged : IsTrue (is_dotted_name u.«package»)
  pub imports : IsTrue (list_all is_dotted_name u.imports)
  pub ascending : IsSorted (slice_cmp nat_cmp) u.imports
  pub class : IsPrintableClass u.class

-- Within the limits as printed: nothing is higher than `tall` with the parentheses that are printed, and there are at most
-- `most` parameters, arguments and pairs of brackets in one place.
pub record IsWithinLimits (most tall : ℕ) (u : Source) : Type 0 where
  pub low : unit_printed_height u ≤ tall
  pub narrow : unit_width u ≤ most
