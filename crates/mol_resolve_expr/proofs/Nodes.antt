-- What an expression reads as, by its node and how its parts are read.
use Rattle.std.proofs.Common.{◌≡◌, ℕ, List, [], map, Option, Some, None, sym, ap, ◌∙◌, subst}
use Rattle.jav_tree.proofs.ExpressionFolds as folds
use Rattle.jav_tree.proofs.ExpressionFolds.{ExprFold, folded_node, fold-placed}
use Rattle.jav_tree.specs.Expressions.{expr_at}
use Rattle.jav_tree.specs.declared.expr.Expr.{Expr}
use Rattle.jav_tree.specs.declared.expr.ExprNode.{ExprNode}
use Rattle.jav_tree.specs.declared.expr.ExprNode.TheOpen.{ExprNode-F}
use Rattle.jav_tree.specs.declared.expr.ExprNode.TheVariants as node
use Rattle.jav_tree.specs.declared.types.TypeName.{TypeName}
use Rattle.jav_names.specs.DottedNames.{Name}
use Rattle.jav_names.specs.UnitViews.{MemberKey}
use Rattle.mol_resolve_expr.specs.Parts.{Node, dot_of, node_of}
use Rattle.mol_resolve_readings.specs.reads.Reads.{Reads, names_of}
use Rattle.mol_resolve_rules.specs.Locals.{Locals}
use Rattle.mol_resolve_rules.specs.Outcomes.{TreeFault}
use Rattle.mol_resolve_rules.specs.Readers.{Reader}
use Rattle.mol_resolve_rules.specs.ReadTrees.{Meant, Mode, Reading, longer, name_meant, node_meant, node_step, expr_step, reading}

module _ (reader : Reader ℕ MemberKey) where
  abbrev pub read : ExprFold
  read = record { Node = ℕ → Reading ℕ; Whole = Reading ℕ; of_node = node_step reader; of_expr = expr_step reader }

  reads_node : (e : Expr) (n : ExprNode) (parts : Node) → e.node ≡ n → folded_node read n ≡ node_step reader parts
      → reading reader e ≡ node_step reader parts e.at
  reads_node e n parts is made =
      ap (λ n. reading reader (expr_at e.at n)) is ∙ fold-placed read e.at n ∙ ap (λ made. made e.at) made

  -- the names that it is
  names-node : (e : Expr) (n : ExprNode) (parts : Node) → e.node ≡ n → folded_node read n ≡ node_step reader parts
      → names_of reader e ≡ (node_step reader parts e.at).names
  names-node e n parts is made = ap (λ (r : Reading ℕ). r.names) (reads_node e n parts is made)

  pub names-Name : (e : Expr) (name : Name) → e.node ≡ node.Name name → names_of reader e ≡ Some (record { first = name; rest = [] })
  names-Name e name is = names-node e (node.Name name) (ExprNode-F.Name name) is (folds.fold-Name read name)

  pub names-Dot : (e on : Expr) (name : Name) → e.node ≡ node.Dot on name → names_of reader e ≡ longer name (names_of reader on)
  names-Dot e on name is =
      names-node e (node.Dot on name) (ExprNode-F.Dot (reading reader on) name) is (folds.fold-Dot read on name)

-- What an expression comes to by how its parts read, however it stands. A part is `found` where it was looked up as another value.
module _ (reader : Reader ℕ MemberKey) (locals : Locals ℕ) (e : Expr) (mode : Mode) (value : Option (Meant ℕ))
    (before after : Option TreeFault) where
  abbrev Comes : Type 0
  Comes = Reads ((reading reader e).means locals mode) value before after

  by_node : (n : ExprNode) (parts : Node) → e.node ≡ n → folded_node (read reader) n ≡ node_step reader parts
      → Reads (node_meant reader parts e.at locals mode) value before after → Comes
  by_node n parts is made =
      subst (λ (r : Reading ℕ). Reads (r.means locals mode) value before after) (sym (reads_node reader e n parts is made))

  abbrev Whole : Node → Type 0
  Whole parts = Reads (node_of reader locals parts e.at) value before after

  pub read-Name : (name : Name) → e.node ≡ node.Name name → Reads (name_meant reader e.at name locals mode) value before after → Comes
  read-Name name is = by_node (node.Name name) (ExprNode-F.Name name) is (folds.fold-Name (read reader) name)

  pub read-Dot : (on found : Expr) (name : Name) → e.node ≡ node.Dot on name → found ≡ on
      → Reads (dot_of reader locals found name mode e.at) value before after → Comes
  read-Dot on found name is same = by_node (node.Dot found name) (ExprNode-F.Dot (reading reader found) name)
      (is ∙ (λ i. node.Dot (sym same i) name)) (folds.fold-Dot (read reader) found name)

  pub read-Call : (on : Option Expr) (name : Name) (args found : List Expr) → e.node ≡ node.Call on name args → on ≡ None → found ≡ args
      → Whole (ExprNode-F.Call None name (map (reading reader) found)) → Comes
  read-Call on name args found is same_on same =
      by_node (node.Call None name found) (ExprNode-F.Call None name (map (reading reader) found))
      (is ∙ (λ i. node.Call (same_on i) name (sym same i))) (folds.fold-Call (read reader) None name found)

  pub read-CallOn : (on : Option Expr) (inner found_on : Expr) (name : Name) (args found : List Expr) → e.node ≡ node.Call on name args
      → on ≡ Some inner → found_on ≡ inner → found ≡ args
      → Whole (ExprNode-F.Call (Some (reading reader found_on)) name (map (reading reader) found)) → Comes
  read-CallOn on inner found_on name args found is some same_on same =
      by_node (node.Call (Some found_on) name found)
      (ExprNode-F.Call (Some (reading reader found_on)) name (map (reading reader) found))
      (is ∙ (λ i. node.Call ((some ∙ (λ j. Some (sym same_on j))) i) name (sym same i)))
      (folds.fold-Call (read reader) (Some found_on) name found)

  pub read-Lit : (text : Name) → e.node ≡ node.Lit text → Whole (ExprNode-F.Lit text) → Comes
  read-Lit text is = by_node (node.Lit text) (ExprNode-F.Lit text) is (folds.fold-Lit (read reader) text)

  pub read-This : e.node ≡ node.This → Whole ExprNode-F.This → Comes
  read-This is = by_node node.This ExprNode-F.This is (folds.fold-This (read reader))

  pub read-SuperCall : (name : Name) (args : List Expr) (found : List Expr) → e.node ≡ node.SuperCall name args → found ≡ args
      → Whole (ExprNode-F.SuperCall name (map (reading reader) found)) → Comes
  read-SuperCall name args found is same =
      by_node (node.SuperCall name found) (ExprNode-F.SuperCall name (map (reading reader) found))
      (is ∙ (λ i. node.SuperCall name (sym same i))) (folds.fold-SuperCall (read reader) name found)

  pub read-New : (type : TypeName) (args : List Expr) (found : List Expr) → e.node ≡ node.New type args → found ≡ args
      → Whole (ExprNode-F.New type (map (reading reader) found)) → Comes
  read-New type args found is same =
      by_node (node.New type found) (ExprNode-F.New type (map (reading reader) found))
      (is ∙ (λ i. node.New type (sym same i))) (folds.fold-New (read reader) type found)

  pub read-NewArray : (type : TypeName) (sizes : List Expr) (found : List Expr) (pairs : ℕ)
      → e.node ≡ node.NewArray type sizes pairs → found ≡ sizes
      → Whole (ExprNode-F.NewArray type (map (reading reader) found) pairs) → Comes
  read-NewArray type sizes found pairs is same =
      by_node (node.NewArray type found pairs) (ExprNode-F.NewArray type (map (reading reader) found) pairs)
      (is ∙ (λ i. node.NewArray type (sym same i) pairs)) (folds.fold-NewArray (read reader) type found pairs)

  pub read-ArrayLit : (type : TypeName) (items : List Expr) (found : List Expr) → e.node ≡ node.ArrayLit type items → found ≡ items
      → Whole (ExprNode-F.ArrayLit type (map (reading reader) found)) → Comes
  read-ArrayLit type items found is same =
      by_node (node.ArrayLit type found) (ExprNode-F.ArrayLit type (map (reading reader) found))
      (is ∙ (λ i. node.ArrayLit type (sym same i))) (folds.fold-ArrayLit (read reader) type found)

  pub read-Braces : (items : List Expr) (found : List Expr) → e.node ≡ node.Braces items → found ≡ items
      → Whole (ExprNode-F.Braces (map (reading reader) found)) → Comes
  read-Braces items found is same =
      by_node (node.Braces found) (ExprNode-F.Braces (map (reading reader) found))
      (is ∙ (λ i. node.Braces (sym same i))) (folds.fold-Braces (read reader) found)

  pub read-Index : (array : Expr) (found_array : Expr) (index : Expr) (found_index : Expr) → e.node ≡ node.Index array index
      → found_array ≡ array → found_index ≡ index
      → Whole (ExprNode-F.Index (reading reader found_array) (reading reader found_index)) → Comes
  read-Index array found_array index found_index is same_array same_index =
      by_node (node.Index found_array found_index) (ExprNode-F.Index (reading reader found_array) (reading reader found_index))
      (is ∙ (λ i. node.Index (sym same_array i) (sym same_index i))) (folds.fold-Index (read reader) found_array found_index)

  pub read-Unary : (op : Name) (operand : Expr) (found : Expr) → e.node ≡ node.Unary op operand → found ≡ operand
      → Whole (ExprNode-F.Unary op (reading reader found)) → Comes
  read-Unary op operand found is same =
      by_node (node.Unary op found) (ExprNode-F.Unary op (reading reader found))
      (is ∙ (λ i. node.Unary op (sym same i))) (folds.fold-Unary (read reader) op found)

  pub read-Post : (operand : Expr) (found : Expr) (op : Name) → e.node ≡ node.Post operand op → found ≡ operand
      → Whole (ExprNode-F.Post (reading reader found) op) → Comes
  read-Post operand found op is same =
      by_node (node.Post found op) (ExprNode-F.Post (reading reader found) op)
      (is ∙ (λ i. node.Post (sym same i) op)) (folds.fold-Post (read reader) found op)

  pub read-Binary : (left : Expr) (found_left : Expr) (op : Name) (right : Expr) (found_right : Expr)
      → e.node ≡ node.Binary left op right → found_left ≡ left → found_right ≡ right
      → Whole (ExprNode-F.Binary (reading reader found_left) op (reading reader found_right)) → Comes
  read-Binary left found_left op right found_right is same_left same_right =
      by_node (node.Binary found_left op found_right) (ExprNode-F.Binary (reading reader found_left) op (reading reader found_right))
      (is ∙ (λ i. node.Binary (sym same_left i) op (sym same_right i))) (folds.fold-Binary (read reader) found_left op found_right)

  pub read-Assign : (left : Expr) (found_left : Expr) (op : Name) (right : Expr) (found_right : Expr)
      → e.node ≡ node.Assign left op right → found_left ≡ left → found_right ≡ right
      → Whole (ExprNode-F.Assign (reading reader found_left) op (reading reader found_right)) → Comes
  read-Assign left found_left op right found_right is same_left same_right =
      by_node (node.Assign found_left op found_right) (ExprNode-F.Assign (reading reader found_left) op (reading reader found_right))
      (is ∙ (λ i. node.Assign (sym same_left i) op (sym same_right i))) (folds.fold-Assign (read reader) found_left op found_right)

  pub read-Cond : (test found_test first found_first second found_second : Expr) → e.node ≡ node.Cond test first second
      → found_test ≡ test → found_first ≡ first → found_second ≡ second
      → Whole (ExprNode-F.Cond (reading reader found_test) (reading reader found_first) (reading reader found_second)) → Comes
  read-Cond test found_test first found_first second found_second is same_test same_first same_second =
      by_node (node.Cond found_test found_first found_second)
      (ExprNode-F.Cond (reading reader found_test) (reading reader found_first) (reading reader found_second))
      (is ∙ (λ i. node.Cond (sym same_test i) (sym same_first i) (sym same_second i)))
      (folds.fold-Cond (read reader) found_test found_first found_second)

  pub read-Cast : (type : TypeName) (operand : Expr) (found : Expr) → e.node ≡ node.Cast type operand → found ≡ operand
      → Whole (ExprNode-F.Cast type (reading reader found)) → Comes
  read-Cast type operand found is same =
      by_node (node.Cast type found) (ExprNode-F.Cast type (reading reader found))
      (is ∙ (λ i. node.Cast type (sym same i))) (folds.fold-Cast (read reader) type found)

  pub read-InstanceOf : (operand : Expr) (found : Expr) (type : TypeName) → e.node ≡ node.InstanceOf operand type → found ≡ operand
      → Whole (ExprNode-F.InstanceOf (reading reader found) type) → Comes
  read-InstanceOf operand found type is same =
      by_node (node.InstanceOf found type) (ExprNode-F.InstanceOf (reading reader found) type)
      (is ∙ (λ i. node.InstanceOf (sym same i) type)) (folds.fold-InstanceOf (read reader) found type)

  pub read-Paren : (inner : Expr) (found : Expr) → e.node ≡ node.Paren inner → found ≡ inner
      → Whole (ExprNode-F.Paren (reading reader found)) → Comes
  read-Paren inner found is same =
      by_node (node.Paren found) (ExprNode-F.Paren (reading reader found))
      (is ∙ (λ i. node.Paren (sym same i))) (folds.fold-Paren (read reader) found)
