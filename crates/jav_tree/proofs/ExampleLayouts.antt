-- Three source files and their texts.
use Rattle.std.proofs.Common.{◌≡◌, ℕ, List, [], ◌∷◌, ◌++◌, codes, Option, Some, None, Bool, true, false, ap, ◌∙◌}
use Prim.Native.String.{String}
use Rattle.jav_tree.specs.declared.types.TypeName.{TypeName}
use Rattle.jav_tree.specs.declared.types.TypeName.TheVariants as ty
use Rattle.jav_tree.specs.declared.expr.Expr.{Expr}
use Rattle.jav_tree.specs.declared.stmt.Block.{Block}
use Rattle.jav_tree.specs.declared.stmt.Stmt.{Stmt}
use Rattle.jav_tree.specs.declared.stmt.StmtNode.TheVariants as stmt
use Rattle.jav_tree.specs.declared.unit.Member.{Member}
use Rattle.jav_tree.specs.declared.unit.Member.TheVariants as member
use Rattle.jav_tree.specs.declared.unit.Param.{Param}
use Rattle.jav_tree.specs.declared.unit.Unit.{Unit as Source}
use Rattle.jav_tree.specs.Blocks.{block_of}
use Rattle.jav_tree.specs.Statements.{stmt_at}
use Rattle.jav_tree.specs.ExpressionText.{expr_text, tree_text}
use Rattle.jav_tree.specs.Layout.{unit_text}
use Rattle.jav_tree.specs.Lines.{line_end}
use Rattle.jav_tree.specs.WithParens.{expr_with_parens}
use Rattle.jav_tree.proofs.Spelled.{nm, num, bin, set}
use Rattle.jav_tree.proofs.ExamplePrinted.{literal_text, name_text}
use Rattle.jav_tree.proofs.Operands.{operand-Name, operand-Binary, operand-Assign}
use Rattle.jav_tree.proofs.ExpressionTexts.{text-placed, text-Name, text-Binary, text-Assign}
use Rattle.jav_tree.proofs.StatementTexts.{text-Prim, text-Named, text-Void, text-Return, text-Do, text-stmt, text-block}

-- the texts of lines, each with its end
abbrev pub lines : List String → List ℕ
lines [] = []
lines (line ∷ rest) = codes line ++ line_end ++ lines rest

abbrev int_type : TypeName
int_type = ty.Prim (codes "int")

abbrev one_line : Stmt → Block
one_line s = block_of (s ∷ []) []

abbrev method : Bool → TypeName → String → List Param → Stmt → Member
method is_static to name params s = member.Method (record { front = []; at = 0; words = codes "public" ∷ []; is_static = is_static; result = to; name = codes name; params = params; block = Some (one_line s) })

abbrev shop : String → Option TypeName → List Member → Source
shop name parent members = record { head = []; «package» = codes "shop"; imports = []; class = record { front = []; words = codes "public" ∷ []; name = codes name; parent = parent; members = members; tail = [] } }

abbrev till : Source
till = shop "Till" (Some (ty.Named (codes "Desk"))) (method false int_type "pay" (record { ty = ty.Named (codes "Cart"); name = codes "cart" } ∷ []) (stmt_at 0 (stmt.Return (Some (num 0 "0")))) ∷ [])

till_text : unit_text till ≡ lines ("package shop;" ∷ "" ∷ "public class Till extends Desk {" ∷ "    public int pay(Cart cart) {" ∷ "        return 0;" ∷ "    }" ∷ "}" ∷ [])
till_text = simp (text-Prim, text-Named, text-Void, text-block, text-stmt, text-Return, literal_text)

abbrev desk : Source
desk = shop "Desk" None (member.Field (record { front = []; at = 0; words = codes "protected" ∷ []; ty = int_type; name = codes "count"; init = None })
    ∷ method false (ty.Named (codes "String")) "label" [] (stmt_at 0 (stmt.Return (Some (num 0 "\"desk\"")))) ∷ [])

desk_text : unit_text desk ≡ lines ("package shop;" ∷ "" ∷ "public class Desk {" ∷ "    protected int count;" ∷ "" ∷ "    public String label() {" ∷ "        return \"desk\";" ∷ "    }" ∷ "}" ∷ [])
desk_text = simp (text-Prim, text-Named, text-Void, text-block, text-stmt, text-Return, literal_text)

abbrev added : Expr
added = set "=" (nm 0 "count") (bin "+" (nm 0 "count") (bin "*" (nm 0 "amount") (nm 0 "times")))

abbrev cart : Source
cart = shop "Cart" None (member.Field (record { front = []; at = 0; words = codes "private" ∷ []; ty = int_type; name = codes "count"; init = None })
    ∷ method false int_type "total" [] (stmt_at 0 (stmt.Return (Some (nm 0 "count"))))
    ∷ method true int_type "tax" (record { ty = int_type; name = codes "amount" } ∷ []) (stmt_at 0 (stmt.Return (Some (nm 0 "amount"))))
    ∷ method false ty.Void "add" (record { ty = int_type; name = codes "amount" } ∷ record { ty = int_type; name = codes "times" } ∷ [])
    (stmt_at 0 (stmt.Do added)) ∷ [])

added_text : expr_text added ≡ codes "count = count + amount * times"
added_text = let tree : expr_with_parens added ≡ added = simp (operand-Assign, operand-Binary, operand-Name) in
    ap tree_text tree ∙ simp (text-placed, text-Assign, text-Binary, text-Name)

cart_text : unit_text cart ≡ lines ("package shop;" ∷ "" ∷ "public class Cart {" ∷ "    private int count;" ∷ ""
    ∷ "    public int total() {" ∷ "        return count;" ∷ "    }" ∷ ""
    ∷ "    public static int tax(int amount) {" ∷ "        return amount;" ∷ "    }" ∷ ""
    ∷ "    public void add(int amount, int times) {" ∷ "        count = count + amount * times;" ∷ "    }" ∷ "}" ∷ [])
cart_text = simp (text-Prim, text-Named, text-Void, text-block, text-stmt, text-Return, text-Do, name_text, added_text)
