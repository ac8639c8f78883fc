-- A source file with comments, modifiers and statements of several sorts, and its text: the sample of the documentation of the layout.
use Rattle.std.proofs.Common.{◌≡◌, [], ◌∷◌, ◌++◌, codes, Some, None, false, ap, ◌∙◌}
use Prim.Native.String.{String}
use Rattle.jav_tree.specs.declared.expr.Expr.{Expr}
use Rattle.jav_tree.specs.declared.types.TypeName.TheVariants as ty
use Rattle.jav_tree.specs.declared.expr.ExprNode.TheVariants as node
use Rattle.jav_tree.specs.declared.stmt.Block.{Block}
use Rattle.jav_tree.specs.declared.stmt.Else.TheVariants as otherwise
use Rattle.jav_tree.specs.declared.stmt.ForStart.TheVariants as for_start
use Rattle.jav_tree.specs.declared.stmt.Stmt.{Stmt}
use Rattle.jav_tree.specs.declared.stmt.StmtNode.TheVariants as stmt
use Rattle.jav_tree.specs.declared.unit.Member.TheVariants as member
use Rattle.jav_tree.specs.declared.unit.Unit.{Unit as Source}
use Rattle.jav_tree.specs.Blocks.{block_of}
use Rattle.jav_tree.specs.Statements.{stmt_at, commented}
use Rattle.jav_tree.specs.Expressions.{expr_at}
use Rattle.jav_tree.specs.ExpressionText.{expr_text, tree_text}
use Rattle.jav_tree.specs.Layout.{unit_text, body_alone}
use Rattle.jav_tree.specs.WithParens.{expr_with_parens}
use Rattle.jav_tree.proofs.Spelled.{nm, num, un, bin, set}
use Rattle.jav_tree.proofs.ExampleLayouts.{lines}
use Rattle.jav_tree.proofs.ExamplePrinted.{literal_text, name_text}
use Rattle.jav_tree.proofs.Operands.{operand-Lit, operand-Name, operand-Binary, operand-Assign, operand-Unary, operand-Post}
use Rattle.jav_tree.proofs.ExpressionTexts.{text-placed, text-Lit, text-Name, text-Binary, text-Assign, text-Unary, text-Post}
use Rattle.jav_tree.proofs.StatementTexts.{text-Prim, text-Named, text-Return, text-Do, text-Let, text-If, text-While, text-For, text-no-else, text-else-block, text-else-if, text-stmt, text-block}

-- a block of one statement
abbrev only : Stmt → Block
only s = block_of (s ∷ []) []

-- the expressions of the sample, and their texts
abbrev positive : Expr
positive = bin ">" (nm 0 "first") (num 0 "0")

abbrev counted : Expr
counted = set "+=" (nm 0 "count") (nm 0 "first")

abbrev absent : Expr
absent = bin "==" (nm 0 "second") (num 0 "null")

abbrev below : Expr
below = bin "<" (nm 0 "i") (nm 0 "first")

abbrev next : Expr
next = expr_at 0 (node.Post (nm 0 "i") (codes "++"))

abbrev less : Expr
less = set "=" (nm 0 "count") (bin "-" (nm 0 "count") (un 0 "-" (nm 0 "i")))

printed_text : {e : Expr} (text : String) → expr_with_parens e ≡ e → tree_text e ≡ codes text → expr_text e ≡ codes text
printed_text text tree writes = ap tree_text tree ∙ writes

positive_text : expr_text positive ≡ codes "first > 0"
positive_text = printed_text "first > 0" (simp (operand-Binary, operand-Name, operand-Lit)) (simp (text-placed, text-Binary, text-Name, text-Lit))

counted_text : expr_text counted ≡ codes "count += first"
counted_text = printed_text "count += first" (simp (operand-Assign, operand-Name)) (simp (text-placed, text-Assign, text-Name))

absent_text : expr_text absent ≡ codes "second == null"
absent_text = printed_text "second == null" (simp (operand-Binary, operand-Name, operand-Lit)) (simp (text-placed, text-Binary, text-Name, text-Lit))

below_text : expr_text below ≡ codes "i < first"
below_text = printed_text "i < first" (simp (operand-Binary, operand-Name)) (simp (text-placed, text-Binary, text-Name))

next_text : expr_text next ≡ codes "i++"
next_text = printed_text "i++" (simp (operand-Post, operand-Name)) (simp (text-placed, text-Post, text-Name))

less_text : expr_text less ≡ codes "count = count - -i"
less_text = printed_text "count = count - -i" (simp (operand-Assign, operand-Binary, operand-Unary, operand-Name)) (simp (text-placed, text-Assign, text-Binary, text-Unary, text-Name))

-- `else if`, `else`, and an empty block
abbrev choice : Stmt
choice = stmt_at 0 (stmt.If positive (only (stmt_at 0 (stmt.Do counted)))
    (otherwise.If (stmt_at 0 (stmt.If absent (only (stmt_at 0 (stmt.Return (Some (num 0 "0"))))) (otherwise.Block (block_of [] []))))))

-- `for` with a variable, and a space between two signs
abbrev loop : Stmt
loop = stmt_at 0 (stmt.For (for_start.Let (record { is_final = false; ty = ty.Prim (codes "int"); names = record { name = codes "i"; init = Some (num 0 "0") } ∷ [] }))
    (Some below) (next ∷ [])
    (only (stmt_at 0 (stmt.Do less))))

-- a file with comments in each place outside a body
abbrev sample : Source
sample = record {
  head = codes "// head comments" ∷ [];
  «package» = codes "shop";
  imports = codes "a.B" ∷ codes "c.D" ∷ [];
  class = record {
    front = codes "// front comments" ∷ [];
    words = codes "public" ∷ codes "abstract" ∷ [];
    name = codes "Cart";
    parent = Some (ty.Named (codes "Box"));
    members = member.Field (record { front = []; at = 0; words = codes "private" ∷ []; ty = ty.Prim (codes "int"); name = codes "count"; init = Some (num 0 "1") })
        ∷ member.Method (record {
          front = codes "// comments of the method" ∷ [];
          at = 0;
          words = codes "@Override" ∷ codes "public" ∷ [];
          is_static = false;
          result = ty.Prim (codes "int");
          name = codes "total";
          params = record { ty = ty.Prim (codes "int"); name = codes "first" } ∷ record { ty = ty.Named (codes "B"); name = codes "second" } ∷ [];
          block = Some (block_of (choice ∷ loop ∷ stmt_at 0 (stmt.Return (Some (nm 0 "count"))) ∷ []) []);
        }) ∷ [];
    tail = codes "// tail comments" ∷ [];
  };
}

sample_text : unit_text sample ≡ lines ("// head comments" ∷ "package shop;" ∷ "" ∷ "import a.B;" ∷ "import c.D;" ∷ "" ∷ "// front comments"
    ∷ "public abstract class Cart extends Box {" ∷ "    private int count = 1;" ∷ "" ∷ "    // comments of the method" ∷ "    @Override"
    ∷ "    public int total(int first, B second) {" ∷ "        if (first > 0) {" ∷ "            count += first;" ∷ "        } else if (second == null) {"
    ∷ "            return 0;" ∷ "        } else {" ∷ "        }" ∷ "        for (int i = 0; i < first; i++) {" ∷ "            count = count - -i;" ∷ "        }"
    ∷ "        return count;" ∷ "    }" ∷ "" ∷ "    // tail comments" ∷ "}" ∷ [])
sample_text = simp (text-Prim, text-Named, text-block, text-stmt, text-Return, text-Do, text-Let, text-If, text-For, text-no-else, text-else-block, text-else-if, literal_text, name_text, positive_text, counted_text, absent_text, below_text, next_text, less_text)

-- `for (;;)`, a `while`, and comments before a statement and before the last brace, in a body that is printed by itself
abbrev body : Block
body = block_of (commented (codes "/*a*/" ∷ []) 0 (stmt.For for_start.None None [] (block_of [] [])) ∷ stmt_at 0 (stmt.While (nm 0 "x") (block_of [] (codes "/*b*/" ∷ []))) ∷ []) (codes "// c" ∷ [])

body_text : body_alone body ≡ lines ("{" ∷ "    /*a*/" ∷ "    for (;;) {" ∷ "    }" ∷ "    while (x) {" ∷ "        /*b*/" ∷ "    }" ∷ "    // c" ∷ []) ++ codes "}"
body_text = simp (text-block, text-stmt, text-While, text-For, name_text)
