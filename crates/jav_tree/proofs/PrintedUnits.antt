-- The laws of trees without parentheses and of trees as printed, for blocks and source files.
use Rattle.std.proofs.Common.{◌≡◌, ℕ, List, [], ◌∷◌, ◌++◌, map, option_map, Option, Some, None, Bool, refl, ap, ◌∙◌, codes}
use Rattle.jav_tree.specs.declared.types.TypeName.{TypeName}
use Rattle.jav_tree.specs.declared.expr.Expr.{Expr}
use Rattle.jav_tree.specs.declared.stmt.Block.{Block}
use Rattle.jav_tree.specs.declared.stmt.Declarator.{Declarator}
use Rattle.jav_tree.specs.declared.stmt.Else.{Else}
use Rattle.jav_tree.specs.declared.stmt.Else.TheOpen.{StmtNode-F}
use Rattle.jav_tree.specs.declared.stmt.ForStart.{ForStart}
use Rattle.jav_tree.specs.declared.stmt.ForStart.TheVariants as for_start
use Rattle.jav_tree.specs.declared.stmt.Let.{Let}
use Rattle.jav_tree.specs.declared.stmt.Stmt.{Stmt}
use Rattle.jav_tree.specs.declared.stmt.StmtNode.{StmtNode}
use Rattle.jav_tree.specs.declared.stmt.StmtNode.TheVariants as node
use Rattle.jav_tree.specs.declared.unit.ClassDecl.{ClassDecl}
use Rattle.jav_tree.specs.declared.unit.Member.{Member}
use Rattle.jav_tree.specs.declared.unit.Member.TheVariants as member
use Rattle.jav_tree.specs.declared.unit.Method.{Method}
use Rattle.jav_tree.specs.declared.unit.Unit.{Unit as Source}
use Rattle.jav_tree.specs.EachExpression.{map_declarator, map_let, map_start, map_block, map_member, map_class, map_unit, map_else_step, map_stmt_node_step, map_block_step, map_stmt_step}
use Rattle.jav_tree.specs.ExpressionText.{expr_text, tree_text}
use Rattle.jav_tree.specs.Layout.{unit_text, override_line, words_text, method_words, params_text, method_lines, member_lines, members_lines, tail_lines, class_text, import_lines, parent_text}
use Rattle.jav_tree.specs.Lines.{line_end, indent, listed, comment_lines}
use Rattle.jav_tree.specs.Parens.{expr_without_parens, unit_without_parens}
use Rattle.jav_tree.specs.PrintedTrees.{PrintsAsPrinted, DropsToTheSame, DropsBeforePrinting, SettledWhenPrinted}
use Rattle.jav_tree.specs.StatementText.{Deep, StmtText, final_text, valued_text, declarator_text, let_text, start_text, spaced_maybe, spaced_list, block_text, else_text_step, stmt_node_text_step, block_text_step, stmt_text_step}
use Rattle.jav_tree.specs.TypeText.{type_text}
use Rattle.jav_tree.specs.WithParens.{expr_with_parens}
use Rattle.jav_tree.proofs.ChangedStatements.{Follows, block_alike}
use Rattle.jav_tree.proofs.PrintedExpressions.{without_twice, without_printed, printed_without, printed_twice}
use Rattle.jav_tree.proofs.StatementFolds.{StmtFold}

-- A change after a change is one change.
pub record IsAfter (second first both : Expr → Expr) : Type 0 where
  pub one_change : (e : Expr) → second (first e) ≡ both e

exprs_after : (d c k : Expr → Expr) → IsAfter d c k → (es : List Expr) → map d (map c es) ≡ map k es
exprs_after d c k after [] = refl
exprs_after d c k after (e ∷ es) = let here = after.one_change e in let rest = exprs_after d c k after es in cc

maybe_after : (d c k : Expr → Expr) → IsAfter d c k → (e : Option Expr) → option_map d (option_map c e) ≡ option_map k e
maybe_after d c k after None = refl
maybe_after d c k after (Some e) = ap Some (after.one_change e)

declarators_after : (d c k : Expr → Expr) → IsAfter d c k → (ds : List Declarator) → map (map_declarator d) (map (map_declarator c) ds) ≡ map (map_declarator k) ds
declarators_after d c k after [] = refl
declarators_after d c k after (x ∷ ds) =
    let here : map_declarator d (map_declarator c x) ≡ map_declarator k x = ap (λ i. record { name = x.name; init = i }) (maybe_after d c k after x.init) in
    let rest = declarators_after d c k after ds in cc

let_after : (d c k : Expr → Expr) → IsAfter d c k → (l : Let) → map_let d (map_let c l) ≡ map_let k l
let_after d c k after l = ap (λ ds. record { is_final = l.is_final; ty = l.ty; names = ds }) (declarators_after d c k after l.names)

start_after : (d c k : Expr → Expr) → IsAfter d c k → (s : ForStart) → map_start d (map_start c s) ≡ map_start k s
start_after d c k after for_start.None = refl
start_after d c k after (for_start.Let l) = ap for_start.Let (let_after d c k after l)
start_after d c k after (for_start.Do es) = ap for_start.Do (exprs_after d c k after es)

abbrev Changing : StmtFold
Changing = record { Other = Else; Node = StmtNode; Whole = Block; Line = Stmt; of_else = map_else_step; of_block = map_block_step; of_stmt = map_stmt_step }

node_after : (d c k : Expr → Expr) → IsAfter d c k → Follows Changing c (map_stmt_node_step d) (map_stmt_node_step k)
node_after d c k after (StmtNode-F.StmtNode::Block b) = refl
node_after d c k after (StmtNode-F.Let l) = ap node.Let (let_after d c k after l)
node_after d c k after (StmtNode-F.Do e) = ap node.Do (after.one_change e)
node_after d c k after (StmtNode-F.StmtNode::If e b other) = ap (λ x. node.If x b other) (after.one_change e)
node_after d c k after (StmtNode-F.While e b) = ap (λ x. node.While x b) (after.one_change e)
node_after d c k after (StmtNode-F.For start test steps b) =
    let one = start_after d c k after start in let two = maybe_after d c k after test in let three = exprs_after d c k after steps in cc
node_after d c k after (StmtNode-F.Each is_final to name e b) = ap (λ x. node.Each is_final to name x b) (after.one_change e)
node_after d c k after (StmtNode-F.Return e) = ap node.Return (maybe_after d c k after e)
node_after d c k after (StmtNode-F.Throw e) = ap node.Throw (after.one_change e)
node_after d c k after StmtNode-F.Break = refl
node_after d c k after StmtNode-F.Continue = refl
node_after d c k after StmtNode-F.Empty = refl
node_after d c k after (StmtNode-F.SuperInit args) = ap node.SuperInit (exprs_after d c k after args)

pub block_after : (d c k : Expr → Expr) → IsAfter d c k → (b : Block) → map_block d (map_block c b) ≡ map_block k b
block_after d c k after = block_alike Changing c (map_stmt_node_step d) (map_stmt_node_step k) (node_after d c k after)

body_after : (d c k : Expr → Expr) → IsAfter d c k → (b : Option Block) → option_map (map_block d) (option_map (map_block c) b) ≡ option_map (map_block k) b
body_after d c k after None = refl
body_after d c k after (Some b) = ap Some (block_after d c k after b)

member_after : (d c k : Expr → Expr) → IsAfter d c k → (m : Member) → map_member d (map_member c m) ≡ map_member k m
member_after d c k after (member.Field f) = ap (λ i. member.Field (record f { init = i })) (maybe_after d c k after f.init)
member_after d c k after (member.Method m) = ap (λ b. member.Method (record m { block = b })) (body_after d c k after m.block)
member_after d c k after (member.Ctor x) = ap (λ b. member.Ctor (record x { block = b })) (block_after d c k after x.block)

members_after : (d c k : Expr → Expr) → IsAfter d c k → (ms : List Member) → map (map_member d) (map (map_member c) ms) ≡ map (map_member k) ms
members_after d c k after [] = refl
members_after d c k after (m ∷ ms) = let here = member_after d c k after m in let rest = members_after d c k after ms in cc

pub unit_after : (d c k : Expr → Expr) → IsAfter d c k → (u : Source) → map_unit d (map_unit c u) ≡ map_unit k u
unit_after d c k after u = ap (λ ms. record u { class = record u.class { members = ms } }) (members_after d c k after u.class.members)

-- A change that the layout does not see.
pub record KeepsText (c : Expr → Expr) : Type 0 where
  pub same_text : (e : Expr) → expr_text (c e) ≡ expr_text e

texts_kept : (c : Expr → Expr) → KeepsText c → (es : List Expr) → map expr_text (map c es) ≡ map expr_text es
texts_kept c keeps [] = refl
texts_kept c keeps (e ∷ es) = let here : expr_text (c e) ≡ expr_text e = keeps.same_text e in let rest = texts_kept c keeps es in cc

spaced_maybe_kept : (c : Expr → Expr) → KeepsText c → (e : Option Expr) → spaced_maybe (option_map c e) ≡ spaced_maybe e
spaced_maybe_kept c keeps None = refl
spaced_maybe_kept c keeps (Some e) = ap (λ t. codes " " ++ t) (keeps.same_text e)

spaced_list_kept : (c : Expr → Expr) → KeepsText c → (es : List Expr) → spaced_list (map c es) ≡ spaced_list es
spaced_list_kept c keeps [] = refl
spaced_list_kept c keeps (e ∷ es) = ap (λ t. codes " " ++ listed t) (texts_kept c keeps (e ∷ es))

valued_kept : (c : Expr → Expr) → KeepsText c → (name : List ℕ) (e : Option Expr) → valued_text name (option_map c e) ≡ valued_text name e
valued_kept c keeps name None = refl
valued_kept c keeps name (Some e) = ap (λ t. name ++ codes " = " ++ t) (keeps.same_text e)

declarators_kept : (c : Expr → Expr) → KeepsText c → (ds : List Declarator) → map declarator_text (map (map_declarator c) ds) ≡ map declarator_text ds
declarators_kept c keeps [] = refl
declarators_kept c keeps (d ∷ ds) =
    let here : declarator_text (map_declarator c d) ≡ declarator_text d = valued_kept c keeps d.name d.init in let rest = declarators_kept c keeps ds in cc

let_kept : (c : Expr → Expr) → KeepsText c → (l : Let) → let_text (map_let c l) ≡ let_text l
let_kept c keeps l = ap (λ ds. final_text l.is_final ++ type_text l.ty ++ codes " " ++ listed ds) (declarators_kept c keeps l.names)

start_kept : (c : Expr → Expr) → KeepsText c → (s : ForStart) → start_text (map_start c s) ≡ start_text s
start_kept c keeps for_start.None = refl
start_kept c keeps (for_start.Let l) = let_kept c keeps l
start_kept c keeps (for_start.Do es) = ap listed (texts_kept c keeps es)

abbrev Printing : StmtFold
Printing = record { Other = Deep; Node = Deep; Whole = Deep; Line = StmtText; of_else = else_text_step; of_block = block_text_step; of_stmt = stmt_text_step }

-- the texts of statements, as functions of the texts of their expressions
abbrev ended : List ℕ → Deep
ended t n = t ++ codes ";"

abbrev if_text : Deep → Deep → List ℕ → Deep
if_text b other t n = codes "if (" ++ t ++ codes ") " ++ b n ++ other n

abbrev while_text : Deep → List ℕ → Deep
while_text b t n = codes "while (" ++ t ++ codes ") " ++ b n

abbrev for_text : Deep → List ℕ → List ℕ → List ℕ → Deep
for_text b start test steps n = codes "for (" ++ start ++ codes ";" ++ test ++ codes ";" ++ steps ++ codes ") " ++ b n

abbrev each_text : Bool → TypeName → List ℕ → Deep → List ℕ → Deep
each_text is_final to name b t n = codes "for (" ++ final_text is_final ++ type_text to ++ codes " " ++ name ++ codes " : " ++ t ++ codes ") " ++ b n

abbrev return_text : List ℕ → Deep
return_text t n = codes "return" ++ t ++ codes ";"

abbrev throw_text : List ℕ → Deep
throw_text t n = codes "throw " ++ t ++ codes ";"

abbrev super_text : List (List ℕ) → Deep
super_text ts n = codes "super(" ++ listed ts ++ codes ");"

node_kept : (c : Expr → Expr) → KeepsText c → Follows Printing c stmt_node_text_step stmt_node_text_step
node_kept c keeps (StmtNode-F.StmtNode::Block b) = refl
node_kept c keeps (StmtNode-F.Let l) = ap ended (let_kept c keeps l)
node_kept c keeps (StmtNode-F.Do e) = ap ended (keeps.same_text e)
node_kept c keeps (StmtNode-F.StmtNode::If e b other) = ap (if_text b other) (keeps.same_text e)
node_kept c keeps (StmtNode-F.While e b) = ap (while_text b) (keeps.same_text e)
node_kept c keeps (StmtNode-F.For start test steps b) =
    ap (λ t. for_text b t (spaced_maybe (option_map c test)) (spaced_list (map c steps))) (start_kept c keeps start)
    ∙ ap (λ t. for_text b (start_text start) t (spaced_list (map c steps))) (spaced_maybe_kept c keeps test)
    ∙ ap (λ t. for_text b (start_text start) (spaced_maybe test) t) (spaced_list_kept c keeps steps)
node_kept c keeps (StmtNode-F.Each is_final to name e b) = ap (each_text is_final to name b) (keeps.same_text e)
node_kept c keeps (StmtNode-F.Return e) = ap return_text (spaced_maybe_kept c keeps e)
node_kept c keeps (StmtNode-F.Throw e) = ap throw_text (keeps.same_text e)
node_kept c keeps StmtNode-F.Break = refl
node_kept c keeps StmtNode-F.Continue = refl
node_kept c keeps StmtNode-F.Empty = refl
node_kept c keeps (StmtNode-F.SuperInit args) = ap super_text (texts_kept c keeps args)

pub block_kept : (c : Expr → Expr) → KeepsText c → (b : Block) → block_text (map_block c b) ≡ block_text b
block_kept c keeps = block_alike Printing c stmt_node_text_step stmt_node_text_step (node_kept c keeps)

method_kept : (c : Expr → Expr) → KeepsText c → (m : Method) (b : Option Block) → method_lines (record m { block = option_map (map_block c) b }) ≡ method_lines (record m { block = b })
method_kept c keeps m None = refl
method_kept c keeps m (Some b) = ap (λ t. comment_lines 1 m.front ++ override_line m.words ++ indent 1 ++ words_text (method_words (record m { block = Some b })) ++ type_text m.result ++ codes " " ++ m.name
    ++ params_text m.params ++ (codes " " ++ t 1) ++ line_end) (block_kept c keeps b)

member_kept : (c : Expr → Expr) → KeepsText c → (name : List ℕ) (m : Member) → member_lines name (map_member c m) ≡ member_lines name m
member_kept c keeps name (member.Field f) =
    ap (λ t. comment_lines 1 f.front ++ indent 1 ++ words_text f.words ++ type_text f.ty ++ codes " " ++ t ++ codes ";" ++ line_end) (valued_kept c keeps f.name f.init)
member_kept c keeps name (member.Method m) = method_kept c keeps m m.block
member_kept c keeps name (member.Ctor x) =
    ap (λ t. comment_lines 1 x.front ++ indent 1 ++ words_text x.words ++ name ++ params_text x.params ++ codes " " ++ t 1 ++ line_end) (block_kept c keeps x.block)

members_kept : (c : Expr → Expr) → KeepsText c → (name : List ℕ) (ms : List Member) → members_lines name (map (map_member c) ms) ≡ members_lines name ms
members_kept c keeps name [] = refl
members_kept c keeps name (m ∷ []) = member_kept c keeps name m
members_kept c keeps name (m ∷ next ∷ rest) =
    ap (λ t. t ++ line_end ++ members_lines name (map (map_member c) (next ∷ rest))) (member_kept c keeps name m)
    ∙ ap (λ t. member_lines name m ++ line_end ++ t) (members_kept c keeps name (next ∷ rest))

tail_kept : (c : Expr → Expr) (ms : List Member) (tail : List (List ℕ)) → tail_lines (map (map_member c) ms) tail ≡ tail_lines ms tail
tail_kept c [] [] = refl
tail_kept c (m ∷ ms) [] = refl
tail_kept c [] (comment ∷ rest) = refl
tail_kept c (m ∷ ms) (comment ∷ rest) = refl

class_kept : (c : Expr → Expr) → KeepsText c → (d : ClassDecl) → class_text (map_class c d) ≡ class_text d
class_kept c keeps d =
    ap (λ t. comment_lines 0 d.front ++ words_text d.words ++ codes "class " ++ d.name ++ parent_text d.parent ++ codes " {" ++ line_end ++ t ++ tail_lines (map (map_member c) d.members) d.tail ++ codes "}" ++ line_end) (members_kept c keeps d.name d.members)
    ∙ ap (λ t. comment_lines 0 d.front ++ words_text d.words ++ codes "class " ++ d.name ++ parent_text d.parent ++ codes " {" ++ line_end ++ members_lines d.name d.members ++ t ++ codes "}" ++ line_end) (tail_kept c d.members d.tail)

pub unit_kept : (c : Expr → Expr) → KeepsText c → (u : Source) → unit_text (map_unit c u) ≡ unit_text u
unit_kept c keeps u = ap (λ t. comment_lines 0 u.head ++ codes "package " ++ u.«package» ++ codes ";" ++ line_end ++ line_end ++ import_lines u.imports ++ t) (class_kept c keeps u.class)

-- Dropping parentheses twice is dropping them once, and the layout does not see them.
pub unit_without_twice : (u : Source) → unit_without_parens (unit_without_parens u) ≡ unit_without_parens u
unit_without_twice = unit_after expr_without_parens expr_without_parens expr_without_parens (record { one_change = without_twice })

pub unit_without_text : (u : Source) → unit_text (unit_without_parens u) ≡ unit_text u
unit_without_text = unit_kept expr_without_parens (record { same_text = λ e. ap tree_text (printed_without e) })

-- the laws of the tree as printed
pub prints_as_printed : PrintsAsPrinted
prints_as_printed = unit_kept expr_with_parens (record { same_text = λ e. ap tree_text (printed_twice e) })

pub drops_to_the_same : DropsToTheSame
drops_to_the_same = unit_after expr_without_parens expr_with_parens expr_without_parens (record { one_change = without_printed })

pub drops_before_printing : DropsBeforePrinting
drops_before_printing = unit_after expr_with_parens expr_without_parens expr_with_parens (record { one_change = printed_without })

pub settled_when_printed : SettledWhenPrinted
settled_when_printed = unit_after expr_with_parens expr_with_parens expr_with_parens (record { one_change = printed_twice })
