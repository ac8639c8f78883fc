-- Trees of statements that are printable, within the limit of number and without parentheses, from such parts.
use Rattle.std.proofs.Common.{◌≡◌, ℕ, ◌≤◌, Bool, true, false, List, [], ◌∷◌, length, map, option_map, Option, refl, ◌∙◌, ap, arith}
use Rattle.std.specs.Prelude.{◌||◌}
use Rattle.std.specs.List.{list_all}
use Rattle.std.proofs.lemmas.Bool.{or_left, or_right}
use Rattle.jav_print_laws.proofs.printable_lemmas.Expressions.{both}
use Rattle.jav_print_laws.proofs.printable_lemmas.Widths.{narrow, max_within, counted_within}
use Rattle.jav_tree.proofs.StatementFolds.{StmtFold, folded_node, folded_else, folded_stmt, fold-node-Block, fold-node-Let, fold-node-Do, fold-node-If, fold-node-While, fold-node-For, fold-node-Each, fold-node-Return, fold-node-Throw, fold-node-Break, fold-node-Continue, fold-node-Empty, fold-node-SuperInit, fold-no-else, fold-else-block, fold-else-if, fold-block, fold-stmt}
use Rattle.jav_tree.specs.Blocks.{block_of}
use Rattle.jav_tree.specs.EachExpression.{map_declarator, map_let, map_start, map_else_step, map_stmt_node_step, map_block_step, map_stmt_step, map_else, map_stmt_node, map_stmt}
use Rattle.jav_tree.specs.Height.{tallest}
use Rattle.jav_tree.specs.Parens.{expr_without_parens, block_without_parens}
use Rattle.jav_tree.specs.PrintableExpressions.{type_uses}
use Rattle.jav_tree.specs.PrintableStatements.{is_value, is_effect, if_any, is_declarator, is_declaration, is_start, NodeUses, statement_where, StmtUses, BlockUses, are_statements, are_constructor_statements, else_uses_step, stmt_node_uses_step, stmt_uses_step, block_uses_step, block_uses}
use Rattle.jav_tree.specs.TokenTexts.{is_name, are_comments}
use Rattle.jav_tree.specs.Widths.{type_width, expr_width, maybe_width, declarator_width, let_width, start_width, width_else_step, width_stmt_node_step, width_block_step, width_stmt_step, block_width}
use Rattle.jav_tree.specs.declared.expr.Expr.{Expr}
use Rattle.jav_tree.specs.declared.stmt.Block.{Block}
use Rattle.jav_tree.specs.declared.stmt.Declarator.{Declarator}
use Rattle.jav_tree.specs.declared.stmt.Else.{Else}
use Rattle.jav_tree.specs.declared.stmt.Else.TheVariants as otherwise
use Rattle.jav_tree.specs.declared.stmt.ForStart.{ForStart}
use Rattle.jav_tree.specs.declared.stmt.Let.{Let}
use Rattle.jav_tree.specs.declared.stmt.Stmt.{Stmt}
use Rattle.jav_tree.specs.declared.stmt.StmtNode.{StmtNode}
use Rattle.jav_tree.specs.declared.stmt.StmtNode.TheVariants as node
use Rattle.jav_tree.specs.declared.types.TypeName.{TypeName}
use Rattle.jav_names.specs.DottedNames.{Name, Names}
use Rattle.mol_spell_rules.specs.SpelledStatements as written

-- the folds that test, count, and drop parentheses
abbrev Testing : StmtFold
Testing = record {
  Other = Bool;
  Node = NodeUses;
  Whole = BlockUses;
  Line = StmtUses;
  of_else = else_uses_step;
  of_block = block_uses_step;
  of_stmt = stmt_uses_step;
}

abbrev Counting : StmtFold
Counting = record {
  Other = ℕ;
  Node = ℕ;
  Whole = ℕ;
  Line = ℕ;
  of_else = width_else_step;
  of_block = width_block_step;
  of_stmt = width_stmt_step;
}

abbrev Baring : StmtFold
Baring = record {
  Other = Else;
  Node = StmtNode;
  Whole = Block;
  Line = Stmt;
  of_else = map_else_step;
  of_block = map_block_step;
  of_stmt = map_stmt_step;
}

abbrev node_uses : StmtNode → NodeUses
node_uses = folded_node Testing stmt_node_uses_step

abbrev else_uses : Else → Bool
else_uses = folded_else Testing stmt_node_uses_step

abbrev stmt_uses : Stmt → StmtUses
stmt_uses = folded_stmt Testing stmt_node_uses_step

abbrev node_width : StmtNode → ℕ
node_width = folded_node Counting width_stmt_node_step

abbrev else_width : Else → ℕ
else_width = folded_else Counting width_stmt_node_step

abbrev stmt_width : Stmt → ℕ
stmt_width = folded_stmt Counting width_stmt_node_step

-- ---- what is proved of trees: that they may stand where they do, are within the limit of number, and have no parentheses

pub record ValueFits (e : Expr) : Type 0 where
  pub value : is_value e ≡ true
  pub narrow : expr_width e ≤ 255
  pub bare : expr_without_parens e ≡ e

pub record EffectFits (e : Expr) : Type 0 where
  pub effect : is_effect e ≡ true
  pub narrow : expr_width e ≤ 255
  pub bare : expr_without_parens e ≡ e

pub record EffectsFit (es : List Expr) : Type 0 where
  pub effects : list_all is_effect es ≡ true
  pub narrow : tallest (map expr_width es) ≤ 255
  pub bare : map expr_without_parens es ≡ es

pub record ArgumentsFit (es : List Expr) : Type 0 where
  pub values : list_all is_value es ≡ true
  pub few : length es ≤ 255
  pub narrow : tallest (map expr_width es) ≤ 255
  pub bare : map expr_without_parens es ≡ es

pub record MaybeFits (holds : Expr → Bool) (e : Option Expr) : Type 0 where
  pub value : if_any holds e ≡ true
  pub narrow : maybe_width e ≤ 255
  pub bare : option_map expr_without_parens e ≡ e

pub record DeclaratorsFit (ds : List Declarator) : Type 0 where
  pub declare : list_all is_declarator ds ≡ true
  pub narrow : tallest (map declarator_width ds) ≤ 255
  pub bare : map (map_declarator expr_without_parens) ds ≡ ds

pub record LetFits (l : Let) : Type 0 where
  pub declares : is_declaration l ≡ true
  pub narrow : let_width l ≤ 255
  pub bare : map_let expr_without_parens l ≡ l

pub record StartFits (start : ForStart) : Type 0 where
  pub starts : is_start start ≡ true
  pub narrow : start_width start ≤ 255
  pub bare : map_start expr_without_parens start ≡ start

pub record BlockFits (b : Block) : Type 0 where
  pub block : (block_uses b).is_block ≡ true
  pub narrow : block_width b ≤ 255
  pub bare : block_without_parens b ≡ b

-- the block of a constructor
pub record BodyFits (b : Block) : Type 0 where
  pub body : (block_uses b).is_constructor_block ≡ true
  pub narrow : block_width b ≤ 255
  pub bare : block_without_parens b ≡ b

pub record ElseFits (e : Else) : Type 0 where
  pub follows : else_uses e ≡ true
  pub narrow : else_width e ≤ 255
  pub bare : map_else expr_without_parens e ≡ e

-- a statement of a block, or `super(..)`
abbrev pub node_stands : Bool → NodeUses → Bool
node_stands true uses = uses.is_super
node_stands false uses = uses.is_statement

abbrev pub stmt_stands : Bool → StmtUses → Bool
stmt_stands true uses = uses.is_super
stmt_stands false uses = uses.is_statement

pub record NodeFits (is_super : Bool) (n : StmtNode) : Type 0 where
  pub stands : node_stands is_super (node_uses n) ≡ true
  pub narrow : node_width n ≤ 255
  pub bare : map_stmt_node expr_without_parens n ≡ n

-- an `if`
pub record ChoiceFits (n : StmtNode) : Type 0 where
  pub choice : (node_uses n).is_choice ≡ true
  pub node : NodeFits false n

pub record LineFits (is_super : Bool) (s : Stmt) : Type 0 where
  pub stands : stmt_stands is_super (stmt_uses s) ≡ true
  pub narrow : stmt_width s ≤ 255
  pub bare : map_stmt expr_without_parens s ≡ s

pub record LinesFit (items : List Stmt) : Type 0 where
  pub stand : are_statements (map stmt_uses items) ≡ true
  pub narrow : tallest (map stmt_width items) ≤ 255
  pub bare : map (map_stmt expr_without_parens) items ≡ items

pub record BodyLinesFit (items : List Stmt) : Type 0 where
  pub stand : are_constructor_statements (map stmt_uses items) ≡ true
  pub narrow : tallest (map stmt_width items) ≤ 255
  pub bare : map (map_stmt expr_without_parens) items ≡ items

-- ---- nodes

statement-fits : (n : StmtNode) (holds : Bool) (width : ℕ) → node_uses n ≡ statement_where holds → holds ≡ true → node_width n ≡ width
    → width ≤ 255 → map_stmt_node expr_without_parens n ≡ n → NodeFits false n
statement-fits n holds width uses is wide few bare = record {
  stands = ap (λ (u : NodeUses). u.is_statement) uses ∙ is;
  narrow = narrow (node_width n) width 255 wide few;
  bare = bare;
}

pub fits-Block : (b : Block) → BlockFits b → NodeFits false (node.Block b)
fits-Block b fits = statement-fits (node.Block b) _ _ (fold-node-Block Testing stmt_node_uses_step b) fits.block
    (fold-node-Block Counting width_stmt_node_step b) fits.narrow
    (fold-node-Block Baring (map_stmt_node_step expr_without_parens) b ∙ ap (λ b. node.Block b) fits.bare)

pub fits-Let : (l : Let) → LetFits l → NodeFits false (node.Let l)
fits-Let l fits = statement-fits (node.Let l) _ _ (fold-node-Let Testing stmt_node_uses_step l) fits.declares
    (fold-node-Let Counting width_stmt_node_step l) fits.narrow
    (fold-node-Let Baring (map_stmt_node_step expr_without_parens) l ∙ ap (λ l. node.Let l) fits.bare)

pub fits-Do : (e : Expr) → EffectFits e → NodeFits false (node.Do e)
fits-Do e fits = statement-fits (node.Do e) _ _ (fold-node-Do Testing stmt_node_uses_step e) fits.effect
    (fold-node-Do Counting width_stmt_node_step e) fits.narrow
    (fold-node-Do Baring (map_stmt_node_step expr_without_parens) e ∙ ap (λ e. node.Do e) fits.bare)

pub fits-If : (e : Expr) (b : Block) (other : Else) → ValueFits e → BlockFits b → ElseFits other → ChoiceFits (node.If e b other)
fits-If e b other value block follows =
    let uses = fold-node-If Testing stmt_node_uses_step e b other in
    let holds = both (both value.value block.block) follows.follows in
    record {
      choice = ap (λ (u : NodeUses). u.is_choice) uses ∙ holds;
      node = record {
        stands = ap (λ (u : NodeUses). u.is_statement) uses ∙ holds;
        narrow = narrow _ _ 255 (fold-node-If Counting width_stmt_node_step e b other)
            (max_within _ _ 255 value.narrow (max_within _ _ 255 block.narrow follows.narrow));
        bare = fold-node-If Baring (map_stmt_node_step expr_without_parens) e b other
            ∙ (λ i. node.If (value.bare i) (block.bare i) (follows.bare i));
      };
    }

pub fits-While : (e : Expr) (b : Block) → ValueFits e → BlockFits b → NodeFits false (node.While e b)
fits-While e b value block = statement-fits (node.While e b) _ _ (fold-node-While Testing stmt_node_uses_step e b)
    (both value.value block.block) (fold-node-While Counting width_stmt_node_step e b) (max_within _ _ 255 value.narrow block.narrow)
    (fold-node-While Baring (map_stmt_node_step expr_without_parens) e b ∙ (λ i. node.While (value.bare i) (block.bare i)))

pub fits-For : (start : ForStart) (test : Option Expr) (steps : List Expr) (b : Block) → StartFits start → MaybeFits is_value test
    → EffectsFit steps → BlockFits b → NodeFits false (node.For start test steps b)
fits-For start test steps b begins tested stepped block =
    statement-fits (node.For start test steps b) _ _ (fold-node-For Testing stmt_node_uses_step start test steps b)
    (both (both (both begins.starts tested.value) stepped.effects) block.block)
    (fold-node-For Counting width_stmt_node_step start test steps b)
    (max_within _ _ 255 begins.narrow (max_within _ _ 255 tested.narrow (max_within _ _ 255 stepped.narrow block.narrow)))
    (fold-node-For Baring (map_stmt_node_step expr_without_parens) start test steps b
    ∙ (λ i. node.For (begins.bare i) (tested.bare i) (stepped.bare i) (block.bare i)))

pub fits-Each : (is_final : Bool) (type : TypeName) (name : Name) (e : Expr) (b : Block) → (type_uses type).is_type ≡ true
    → type_width type ≤ 255 → is_name name ≡ true → ValueFits e → BlockFits b → NodeFits false (node.Each is_final type name e b)
fits-Each is_final type name e b typed wide named value block =
    statement-fits (node.Each is_final type name e b) _ _ (fold-node-Each Testing stmt_node_uses_step is_final type name e b)
    (both (both (both typed named) value.value) block.block) (fold-node-Each Counting width_stmt_node_step is_final type name e b)
    (max_within _ _ 255 wide (max_within _ _ 255 value.narrow block.narrow))
    (fold-node-Each Baring (map_stmt_node_step expr_without_parens) is_final type name e b
    ∙ (λ i. node.Each is_final type name (value.bare i) (block.bare i)))

pub fits-Return : (e : Option Expr) → MaybeFits is_value e → NodeFits false (node.Return e)
fits-Return e fits = statement-fits (node.Return e) _ _ (fold-node-Return Testing stmt_node_uses_step e) fits.value
    (fold-node-Return Counting width_stmt_node_step e) fits.narrow
    (fold-node-Return Baring (map_stmt_node_step expr_without_parens) e ∙ ap (λ e. node.Return e) fits.bare)

pub fits-Throw : (e : Expr) → ValueFits e → NodeFits false (node.Throw e)
fits-Throw e fits = statement-fits (node.Throw e) _ _ (fold-node-Throw Testing stmt_node_uses_step e) fits.value
    (fold-node-Throw Counting width_stmt_node_step e) fits.narrow
    (fold-node-Throw Baring (map_stmt_node_step expr_without_parens) e ∙ ap (λ e. node.Throw e) fits.bare)

pub fits-Break : NodeFits false node.Break
fits-Break = statement-fits node.Break true 0 (fold-node-Break Testing stmt_node_uses_step) refl
    (fold-node-Break Counting width_stmt_node_step) (omega arith) (fold-node-Break Baring (map_stmt_node_step expr_without_parens))

pub fits-Continue : NodeFits false node.Continue
fits-Continue = statement-fits node.Continue true 0 (fold-node-Continue Testing stmt_node_uses_step) refl
    (fold-node-Continue Counting width_stmt_node_step) (omega arith) (fold-node-Continue Baring (map_stmt_node_step expr_without_parens))

pub fits-Empty : NodeFits false node.Empty
fits-Empty = statement-fits node.Empty true 0 (fold-node-Empty Testing stmt_node_uses_step) refl
    (fold-node-Empty Counting width_stmt_node_step) (omega arith) (fold-node-Empty Baring (map_stmt_node_step expr_without_parens))

pub fits-SuperInit : (args : List Expr) → ArgumentsFit args → NodeFits true (node.SuperInit args)
fits-SuperInit args fits = record {
  stands = ap (λ (u : NodeUses). u.is_super) (fold-node-SuperInit Testing stmt_node_uses_step args) ∙ fits.values;
  narrow = narrow _ _ 255 (fold-node-SuperInit Counting width_stmt_node_step args) (counted_within args 255 fits.few fits.narrow);
  bare = fold-node-SuperInit Baring (map_stmt_node_step expr_without_parens) args ∙ ap (λ args. node.SuperInit args) fits.bare;
}

-- ---- what follows `else`

pub fits-no-else : ElseFits otherwise.None
fits-no-else = record {
  follows = fold-no-else Testing stmt_node_uses_step;
  narrow = narrow _ 0 255 (fold-no-else Counting width_stmt_node_step) (omega arith);
  bare = fold-no-else Baring (map_stmt_node_step expr_without_parens);
}

pub fits-else-block : (b : Block) → BlockFits b → ElseFits (otherwise.Block b)
fits-else-block b fits = record {
  follows = fold-else-block Testing stmt_node_uses_step b ∙ fits.block;
  narrow = narrow _ _ 255 (fold-else-block Counting width_stmt_node_step b) fits.narrow;
  bare = fold-else-block Baring (map_stmt_node_step expr_without_parens) b ∙ ap (λ b. otherwise.Block b) fits.bare;
}

pub fits-else-if : (n : StmtNode) → ChoiceFits n → ElseFits (otherwise.If (written.bare n))
fits-else-if n fits = record {
  follows = fold-else-if Testing stmt_node_uses_step (written.bare n)
      ∙ ap (λ (u : StmtUses). u.follows_else) (fold-stmt Testing stmt_node_uses_step [] 0 n) ∙ fits.choice;
  narrow = narrow _ _ 255 (fold-else-if Counting width_stmt_node_step (written.bare n) ∙ fold-stmt Counting width_stmt_node_step [] 0 n)
      fits.node.narrow;
  bare = fold-else-if Baring (map_stmt_node_step expr_without_parens) (written.bare n)
      ∙ ap (λ s. otherwise.If s) (fold-stmt Baring (map_stmt_node_step expr_without_parens) [] 0 n ∙ ap written.bare fits.node.bare);
}

-- ---- statements and blocks

pub fits-stmt : (is_super : Bool) (notes : Names) (n : StmtNode) → are_comments notes ≡ true → NodeFits is_super n
    → LineFits is_super (record { notes = notes; at = 0; node = n })
fits-stmt is_super notes n comments fits = record {
  stands = ap (stmt_stands is_super) (fold-stmt Testing stmt_node_uses_step notes 0 n) ∙ by is_super fits.stands;
  narrow = narrow _ _ 255 (fold-stmt Counting width_stmt_node_step notes 0 n) fits.narrow;
  bare = fold-stmt Baring (map_stmt_node_step expr_without_parens) notes 0 n
      ∙ ap {B = Stmt} (λ n. record { notes = notes; at = 0; node = n }) fits.bare;
} where
  by : (is_super : Bool) → node_stands is_super (node_uses n) ≡ true
      → stmt_stands is_super (stmt_uses_step (record { notes = notes; at = 0; node = node_uses n })) ≡ true
  by true stands = both comments stands
  by false stands = both comments stands

pub no-lines : LinesFit []
no-lines = record { stand = refl; narrow = omega arith; bare = refl }

pub more-lines : (s : Stmt) (items : List Stmt) → LineFits false s → LinesFit items → LinesFit (s ∷ items)
more-lines s items fits rest = record {
  stand = both fits.stands rest.stand;
  narrow = max_within (stmt_width s) (tallest (map stmt_width items)) 255 fits.narrow rest.narrow;
  bare = λ i. fits.bare i ∷ rest.bare i;
}

pub no-body-lines : BodyLinesFit []
no-body-lines = record { stand = refl; narrow = omega arith; bare = refl }

pub first-line : (is_super : Bool) (s : Stmt) (items : List Stmt) → LineFits is_super s → LinesFit items → BodyLinesFit (s ∷ items)
first-line is_super s items fits rest = record {
  stand = both (by is_super (stmt_uses s) fits.stands) rest.stand;
  narrow = max_within (stmt_width s) (tallest (map stmt_width items)) 255 fits.narrow rest.narrow;
  bare = λ i. fits.bare i ∷ rest.bare i;
} where
  by : (is_super : Bool) (uses : StmtUses) → stmt_stands is_super uses ≡ true → (uses.is_statement || uses.is_super) ≡ true
  by true uses stands = or_right uses.is_statement uses.is_super stands
  by false uses stands = or_left uses.is_statement uses.is_super stands

pub fits-block : (items : List Stmt) (tail : Names) → LinesFit items → are_comments tail ≡ true → BlockFits (block_of items tail)
fits-block items tail fits comments = record {
  block = ap (λ (u : BlockUses). u.is_block) (fold-block Testing stmt_node_uses_step items tail) ∙ both fits.stand comments;
  narrow = narrow _ _ 255 (fold-block Counting width_stmt_node_step items tail) fits.narrow;
  bare = fold-block Baring (map_stmt_node_step expr_without_parens) items tail ∙ ap (λ items. block_of items tail) fits.bare;
}

pub fits-body : (items : List Stmt) (tail : Names) → BodyLinesFit items → are_comments tail ≡ true → BodyFits (block_of items tail)
fits-body items tail fits comments = record {
  body = ap (λ (u : BlockUses). u.is_constructor_block) (fold-block Testing stmt_node_uses_step items tail) ∙ both fits.stand comments;
  narrow = narrow _ _ 255 (fold-block Counting width_stmt_node_step items tail) fits.narrow;
  bare = fold-block Baring (map_stmt_node_step expr_without_parens) items tail ∙ ap (λ items. block_of items tail) fits.bare;
}
