-- Places make no difference to blocks, members and source files as printed.
use Rattle.std.proofs.Common.{◌≡◌, ℕ, List, [], ◌∷◌, ◌++◌, map, option_map, Option, Some, None, codes, refl, sym, ap, ◌∙◌}
use Rattle.jav_tree.specs.declared.expr.Expr.{Expr}
use Rattle.jav_tree.specs.declared.stmt.Block.{Block}
use Rattle.jav_tree.specs.declared.unit.ClassDecl.{ClassDecl}
use Rattle.jav_tree.specs.declared.unit.Member.{Member}
use Rattle.jav_tree.specs.declared.unit.Member.TheVariants as member
use Rattle.jav_tree.specs.declared.unit.Method.{Method}
use Rattle.jav_tree.specs.declared.unit.Unit.{Unit as Source}
use Rattle.jav_tree.specs.ExpressionText.{expr_text, tree_text, text_node_step, text_expr_step}
use Rattle.jav_tree.specs.Layout.{override_line, words_text, method_words, params_text, member_lines, members_lines, tail_lines, parent_text, class_text, import_lines, unit_text}
use Rattle.jav_tree.specs.Lines.{line_end, indent, comment_lines}
use Rattle.jav_tree.specs.Places.{unplaced_expr, unplaced_block, unplaced_member, unplaced_class, unplaced_unit, SameExpr, SameBlock, SameUnit}
use Rattle.jav_tree.specs.Places as places
use Rattle.jav_tree.specs.StatementText.{Deep, StmtText, valued_text, block_text, else_text_step, stmt_node_text_step, block_text_step, stmt_text_step}
use Rattle.jav_tree.specs.TypeText.{type_text}
use Rattle.jav_tree.specs.WithParens.{expr_with_parens, block_with_parens, member_with_parens, unit_with_parens}
use Rattle.jav_tree.proofs.ChangedStatements.{changed, block_alike}
use Rattle.jav_tree.proofs.ExpressionFolds.{ExprFold}
use Rattle.jav_tree.proofs.PrintedExpressions.{printed_twice}
use Rattle.jav_tree.proofs.PrintedUnits.{KeepsText, block_kept}
use Rattle.jav_tree.proofs.StatementFolds.{StmtFold, NodeStep, folded_block}
use Rattle.jav_print_laws.proofs.layout_lemmas.BlockPhrases.{Unplacing}
use Rattle.jav_print_laws.proofs.layout_lemmas.UnplacedExpressions.{folded-unplaced}
use Rattle.jav_print_laws.proofs.layout_lemmas.UnplacedStatements.{block-unplaced}
use Rattle.jav_print_laws.proofs.places_lemmas.Changes.{changed_after, rebuilt, unplaced-changed}
use Rattle.jav_print_laws.proofs.places_lemmas.Operands.{printed-unplaced}

-- an expression as printed, without places
abbrev bare : Expr → Expr
bare e = unplaced_expr (expr_with_parens e)

-- # Texts of expressions

abbrev Writing : ExprFold
Writing = record { Node = List ℕ; Whole = List ℕ; of_node = text_node_step; of_expr = text_expr_step }

text-unplaced : (e : Expr) → tree_text (unplaced_expr e) ≡ tree_text e
text-unplaced = folded-unplaced Writing (λ at n. refl)

pub expr_text-unplaced : (e : Expr) → expr_text (unplaced_expr e) ≡ expr_text e
expr_text-unplaced e = sym (text-unplaced (expr_with_parens (unplaced_expr e))) ∙ ap tree_text (printed-unplaced e) ∙ text-unplaced (expr_with_parens e)

keeps_text : KeepsText bare
keeps_text = record { same_text = λ e. expr_text-unplaced (expr_with_parens e) ∙ ap tree_text (printed_twice e) }

-- # Texts of blocks

abbrev Printing : StmtFold
Printing = record { Other = Deep; Node = Deep; Whole = Deep; Line = StmtText; of_else = else_text_step; of_block = block_text_step; of_stmt = stmt_text_step }

-- the text of a node, of which the expressions are as printed and without places
abbrev bare_text_step : NodeStep Printing
bare_text_step y = stmt_node_text_step (changed bare y)

bare_text : (b : Block) → block_text b ≡ folded_block Printing bare_text_step b
bare_text b = sym (block_kept bare keeps_text b) ∙ block_alike Printing bare stmt_node_text_step bare_text_step (λ y. refl) b

pub block_text-unplaced : (b : Block) → block_text (unplaced_block b) ≡ block_text b
block_text-unplaced b = bare_text (unplaced_block b)
    ∙ block-unplaced Printing bare_text_step (λ y. ap stmt_node_text_step (changed_after bare unplaced_expr bare (record { one_change = printed-unplaced }) y)) (λ notes at n. refl) b
    ∙ sym (bare_text b)

-- # Texts of members and source files

valued-unplaced : (name : List ℕ) (e : Option Expr) → valued_text name (option_map unplaced_expr e) ≡ valued_text name e
valued-unplaced name None = refl
valued-unplaced name (Some e) = ap (λ t. name ++ codes " = " ++ t) (expr_text-unplaced e)

method-unplaced : (m : Method) (b : Option Block) → member_lines [] (member.Method (record m { at = 0; block = option_map unplaced_block b })) ≡ member_lines [] (member.Method (record m { block = b }))
method-unplaced m None = refl
method-unplaced m (Some b) = ap (λ t. comment_lines 1 m.front ++ override_line m.words ++ indent 1 ++ words_text (method_words (record m { block = Some b })) ++ type_text m.result ++ codes " " ++ m.name
    ++ params_text m.params ++ (codes " " ++ t 1) ++ line_end) (block_text-unplaced b)

member-unplaced : (name : List ℕ) (m : Member) → member_lines name (unplaced_member m) ≡ member_lines name m
member-unplaced name (member.Field f) =
    ap (λ t. comment_lines 1 f.front ++ indent 1 ++ words_text f.words ++ type_text f.ty ++ codes " " ++ t ++ codes ";" ++ line_end) (valued-unplaced f.name f.init)
member-unplaced name (member.Method m) = method-unplaced m m.block
member-unplaced name (member.Ctor c) =
    ap (λ t. comment_lines 1 c.front ++ indent 1 ++ words_text c.words ++ name ++ params_text c.params ++ codes " " ++ t 1 ++ line_end) (block_text-unplaced c.block)

members-unplaced : (name : List ℕ) (ms : List Member) → members_lines name (map unplaced_member ms) ≡ members_lines name ms
members-unplaced name [] = refl
members-unplaced name (m ∷ []) = member-unplaced name m
members-unplaced name (m ∷ next ∷ rest) =
    ap (λ t. t ++ line_end ++ members_lines name (map unplaced_member (next ∷ rest))) (member-unplaced name m)
    ∙ ap (λ t. member_lines name m ++ line_end ++ t) (members-unplaced name (next ∷ rest))

tail-unplaced : (ms : List Member) (tail : List (List ℕ)) → tail_lines (map unplaced_member ms) tail ≡ tail_lines ms tail
tail-unplaced [] [] = refl
tail-unplaced (m ∷ ms) [] = refl
tail-unplaced [] (comment ∷ rest) = refl
tail-unplaced (m ∷ ms) (comment ∷ rest) = refl

class-unplaced : (c : ClassDecl) → class_text (unplaced_class c) ≡ class_text c
class-unplaced c =
    ap (λ t. comment_lines 0 c.front ++ words_text c.words ++ codes "class " ++ c.name ++ parent_text c.parent ++ codes " {" ++ line_end ++ t ++ tail_lines (map unplaced_member c.members) c.tail ++ codes "}" ++ line_end) (members-unplaced c.name c.members)
    ∙ ap (λ t. comment_lines 0 c.front ++ words_text c.words ++ codes "class " ++ c.name ++ parent_text c.parent ++ codes " {" ++ line_end ++ members_lines c.name c.members ++ t ++ codes "}" ++ line_end) (tail-unplaced c.members c.tail)

pub unit_text-unplaced : (u : Source) → unit_text (unplaced_unit u) ≡ unit_text u
unit_text-unplaced u = ap (λ t. comment_lines 0 u.head ++ codes "package " ++ u.«package» ++ codes ";" ++ line_end ++ line_end ++ import_lines u.imports ++ t) (class-unplaced u.class)

-- # Trees as printed

-- a node, of which the expressions are as printed and without places
abbrev bare_step : NodeStep Unplacing
bare_step y = rebuilt (changed bare y)

bare_block : (b : Block) → unplaced_block (block_with_parens b) ≡ folded_block Unplacing bare_step b
bare_block = block_alike Unplacing expr_with_parens places.stmt_node_step bare_step
    (λ y. unplaced-changed (changed expr_with_parens y) ∙ ap rebuilt (changed_after unplaced_expr expr_with_parens bare (record { one_change = λ e. refl }) y))

pub block_printed-unplaced : (b : Block) → unplaced_block (block_with_parens (unplaced_block b)) ≡ unplaced_block (block_with_parens b)
block_printed-unplaced b = bare_block (unplaced_block b)
    ∙ block-unplaced Unplacing bare_step (λ y. ap rebuilt (changed_after bare unplaced_expr bare (record { one_change = printed-unplaced }) y)) (λ notes at n. refl) b
    ∙ sym (bare_block b)

maybe_printed : (e : Option Expr) → option_map unplaced_expr (option_map expr_with_parens (option_map unplaced_expr e)) ≡ option_map unplaced_expr (option_map expr_with_parens e)
maybe_printed None = refl
maybe_printed (Some e) = ap Some (printed-unplaced e)

body_printed : (b : Option Block) → option_map unplaced_block (option_map block_with_parens (option_map unplaced_block b)) ≡ option_map unplaced_block (option_map block_with_parens b)
body_printed None = refl
body_printed (Some b) = ap Some (block_printed-unplaced b)

member_printed : (m : Member) → unplaced_member (member_with_parens (unplaced_member m)) ≡ unplaced_member (member_with_parens m)
member_printed (member.Field f) = ap (λ i. member.Field (record f { at = 0; init = i })) (maybe_printed f.init)
member_printed (member.Method m) = ap (λ b. member.Method (record m { at = 0; block = b })) (body_printed m.block)
member_printed (member.Ctor c) = ap (λ b. member.Ctor (record c { at = 0; block = b })) (block_printed-unplaced c.block)

members_printed : (ms : List Member) → map unplaced_member (map member_with_parens (map unplaced_member ms)) ≡ map unplaced_member (map member_with_parens ms)
members_printed [] = refl
members_printed (m ∷ ms) = let here = member_printed m in let rest = members_printed ms in cc

pub unit_printed-unplaced : (u : Source) → unplaced_unit (unit_with_parens (unplaced_unit u)) ≡ unplaced_unit (unit_with_parens u)
unit_printed-unplaced u = ap (λ ms. record u { class = record u.class { members = ms } }) (members_printed u.class.members)
