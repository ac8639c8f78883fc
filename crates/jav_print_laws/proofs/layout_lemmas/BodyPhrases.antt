-- What is printed of a printable block is a phrase that derives the tree as printed.
use Rattle.std.proofs.Common.{◌≡◌, inl, inr, ℕ, suc, max, ◌≤◌, Bool, true, ◌&&◌, ◌||◌, List, [], ◌∷◌, ◌++◌, codes, map, option_map, Option, Some, None, refl, sym, ap, ◌∙◌, subst, append_assoc, arith}
use Rattle.std.specs.List.{list_all}
use Rattle.std.proofs.lemmas.Bool.{and_parts, or_cases}
use Rattle.std.proofs.lemmas.List.{length-map}
use Rattle.jav_tree.specs.declared.expr.Expr.{Expr}
use Rattle.jav_tree.specs.declared.stmt.Block.{Block}
use Rattle.jav_tree.specs.declared.stmt.Else.{Else}
use Rattle.jav_tree.specs.declared.stmt.Else.TheVariants as otherwise
use Rattle.jav_tree.specs.declared.stmt.Else.TheOpen.{Else-F, StmtNode-F, Block-F, Stmt-F}
use Rattle.jav_tree.specs.declared.stmt.Else.TheFolds.{map-Else, map-StmtNode, ind-Block}
use Rattle.jav_tree.specs.declared.stmt.Else.TheViews.{roll-Else, roll-StmtNode, roll-Block, roll-Stmt}
use Rattle.jav_tree.specs.declared.stmt.ForStart.{ForStart}
use Rattle.jav_tree.specs.declared.stmt.Stmt.{Stmt}
use Rattle.jav_tree.specs.declared.stmt.StmtNode.{StmtNode}
use Rattle.jav_tree.specs.declared.stmt.StmtNode.TheVariants as node
use Rattle.jav_tree.specs.declared.types.TypeName.{TypeName}
use Rattle.jav_tree.specs.Blocks.{block_of}
use Rattle.jav_tree.specs.ExpressionText.{expr_text}
use Rattle.jav_tree.specs.Height.{tallest}
use Rattle.jav_tree.specs.Lines.{line_end, indent, all_of, comment_lines}
use Rattle.jav_tree.specs.Places.{unplaced_expr, unplaced_stmt_node}
use Rattle.jav_tree.specs.PrintableExpressions.{type_uses}
use Rattle.jav_tree.specs.PrintableStatements.{NodeUses, StmtUses, BlockUses, statement_where, is_value, is_effect, if_any, is_start, are_statements, are_constructor_statements, block_uses, else_uses_step, stmt_node_uses_step, block_uses_step, stmt_uses_step}
use Rattle.jav_tree.specs.Statements.{SuperStart, commented}
use Rattle.jav_tree.specs.StatementText.{Deep, StmtText, at_depth, block_text, stmt_node_text, stmt_text, else_text_step, stmt_node_text_step, block_text_step, stmt_text_step}
use Rattle.jav_tree.specs.TokenTexts.{is_name, are_comments}
use Rattle.jav_tree.specs.Tokens.{Comments}
use Rattle.jav_tree.specs.Widths.{expr_width, block_width, width_else_step, width_stmt_node_step, width_block_step, width_stmt_step}
use Rattle.jav_tree.specs.WithParens.{expr_with_parens}
use Rattle.jav_tree.proofs.StatementFolds.{StmtFold, folded_else, folded_node, folded_stmt, fold-node-Block, fold-node-Let, fold-node-Do, fold-node-If, fold-node-While, fold-node-For, fold-node-Each, fold-node-Return, fold-node-Throw, fold-node-Break, fold-node-Continue, fold-node-Empty, fold-node-SuperInit, fold-no-else, fold-else-block, fold-else-if, fold-block, fold-stmt}
use Rattle.jav_print_laws.proofs.layout_lemmas.BlockPhrases.{Unplacing, plain_step, plain_else, plain_node, plain_block, plain_stmt, Blocked, Bodied, Stated, AllStated, Noted, Chosen, AfterBranch, no_items_phrase, more_items_phrase, block_phrase, braced_text, usual_body, super_phrase, no_else_phrase, block_else_phrase, if_else_phrase, if_phrase}
use Rattle.jav_print_laws.proofs.layout_lemmas.Derivations.{Made}
use Rattle.jav_print_laws.proofs.layout_lemmas.ExpressionPhrases.{and3, and4, whole}
use Rattle.jav_print_laws.proofs.layout_lemmas.LinePhrases.{indented, comments}
use Rattle.jav_print_laws.proofs.layout_lemmas.Phrases.{Phrase, Any, Then, makes, next_to}
use Rattle.jav_print_laws.proofs.layout_lemmas.StatementParts.{plain_expr, plain_start, value, effect, updates, maybe_value, declaration, start}
use Rattle.jav_print_laws.proofs.layout_lemmas.StatementPhrases.{block_stmt, choice_stmt, let_stmt, do_stmt, while_stmt, for_stmt, each_stmt, return_nothing, return_value, throw_stmt, break_stmt, continue_stmt, empty_stmt, super_init, together_exprs}

-- the folds that test, count widths and write
abbrev Testing : StmtFold
Testing = record { Other = Bool; Node = NodeUses; Whole = BlockUses; Line = StmtUses; of_else = else_uses_step; of_block = block_uses_step; of_stmt = stmt_uses_step }

abbrev Counting : StmtFold
Counting = record { Other = ℕ; Node = ℕ; Whole = ℕ; Line = ℕ; of_else = width_else_step; of_block = width_block_step; of_stmt = width_stmt_step }

abbrev Writing : StmtFold
Writing = record { Other = Deep; Node = Deep; Whole = Deep; Line = StmtText; of_else = else_text_step; of_block = block_text_step; of_stmt = stmt_text_step }

-- # What is known of each part

abbrev ElsePhrases : ℕ → Bool → Deep → Else → Type 0
ElsePhrases limit u t y = u ≡ true → (d : ℕ) → Phrase (AfterBranch limit y) Any (t d)

record NodePhrases (limit : ℕ) (u : NodeUses) (t : Deep) (y : StmtNode) : Type 0 where
  statement : u.is_statement ≡ true → (d : ℕ) → Phrase (Stated limit y) Any (t d)
  super : u.is_super ≡ true → (d : ℕ) → Phrase (Made unplaced_stmt_node (SuperStart limit) y) Any (t d)
  choice : u.is_choice ≡ true → (d : ℕ) → Phrase (Chosen limit y) Any (t d)

pub record BlockPhrases (limit : ℕ) (u : BlockUses) (t : Deep) (y : Block) : Type 0 where
  pub block : u.is_block ≡ true → (d : ℕ) → Phrase (Blocked limit y) Any (t d)
  pub body : u.is_constructor_block ≡ true → (d : ℕ) → Phrase (Bodied limit y) Any (t d)

record StmtPhrases (limit : ℕ) (u : StmtUses) (t : StmtText) (y : Stmt) : Type 0 where
  notes : List (List ℕ)
  plain : StmtNode
  is : y ≡ commented notes 0 plain
  own_text : ℕ → List ℕ
  lines_are : (d : ℕ) → t.lines d ≡ own_text d ++ line_end
  statement : u.is_statement ≡ true → (d : ℕ) → Phrase (Noted limit notes plain) Any (own_text d)
  super : u.is_super ≡ true → (d : ℕ) → Phrase (Then (Comments notes) (Made unplaced_stmt_node (SuperStart limit) plain)) Any (own_text d)
  after_else : u.follows_else ≡ true → (d : ℕ) → Phrase (Chosen limit plain) Any (t.text d)
  no_notes : u.follows_else ≡ true → notes ≡ []

abbrev OfElse : ℕ → Else → Type 0
OfElse limit e = folded_else Counting width_stmt_node_step e ≤ limit → ElsePhrases limit (folded_else Testing stmt_node_uses_step e) (folded_else Writing stmt_node_text_step e) (plain_else e)

abbrev WithElse : ℕ → Type 0
WithElse limit = (e : Else) × OfElse limit e

abbrev OfNode : ℕ → StmtNode → Type 0
OfNode limit n = folded_node Counting width_stmt_node_step n ≤ limit → NodePhrases limit (folded_node Testing stmt_node_uses_step n) (stmt_node_text n) (plain_node n)

abbrev WithNode : ℕ → Type 0
WithNode limit = (n : StmtNode) × OfNode limit n

abbrev OfBlock : ℕ → Block → Type 0
OfBlock limit b = block_width b ≤ limit → BlockPhrases limit (block_uses b) (block_text b) (plain_block b)

abbrev WithBlock : ℕ → Type 0
WithBlock limit = (b : Block) × OfBlock limit b

abbrev OfStmt : ℕ → Stmt → Type 0
OfStmt limit s = folded_stmt Counting width_stmt_node_step s ≤ limit → StmtPhrases limit (folded_stmt Testing stmt_node_uses_step s) (stmt_text s) (plain_stmt s)

abbrev WithStmt : ℕ → Type 0
WithStmt limit = (s : Stmt) × OfStmt limit s

-- # Statements without their comments

node_by : {limit : ℕ} (u v : NodeUses) (t s : Deep) (y z : StmtNode) → u ≡ v → t ≡ s → y ≡ z → NodePhrases limit v s z → NodePhrases limit u t y
node_by u v t s y z e f g p = rw (e, f, g) p

stated : {limit : ℕ} {t : Deep} {y : StmtNode} (b : Bool) → (b ≡ true → (d : ℕ) → Phrase (Stated limit y) Any (t d)) → NodePhrases limit (statement_where b) t y
stated b p = record { statement = p; super = λ h. absurd cc; choice = λ h. absurd cc }

of-Block : {limit : ℕ} (b : WithBlock limit) → OfNode limit (node.Block b.0)
of-Block {limit} b wide = let w = fold-node-Block Counting width_stmt_node_step b.0 in
    node_by _ _ _ _ _ _ (fold-node-Block Testing stmt_node_uses_step b.0) (fold-node-Block Writing stmt_node_text_step b.0) (fold-node-Block Unplacing plain_step b.0)
    (stated _ (λ h d. block_stmt limit _ _ ((b.1 (omega (arith, w, wide))).block h d)))

of-If : {limit : ℕ} (e : Expr) (b : WithBlock limit) (alternative : WithElse limit) → OfNode limit (node.If e b.0 alternative.0)
of-If {limit} e b alternative wide =
    node_by _ _ _ _ _ _ (fold-node-If Testing stmt_node_uses_step e b.0 alternative.0) (fold-node-If Writing stmt_node_text_step e b.0 alternative.0) (fold-node-If Unplacing plain_step e b.0 alternative.0)
    (record { statement = λ h d. choice_stmt limit _ _ (chosen h d); super = λ h. absurd cc; choice = chosen })
  where
    w : folded_node Counting width_stmt_node_step (node.If e b.0 alternative.0) ≡ max (expr_width e) (max (block_width b.0) (folded_else Counting width_stmt_node_step alternative.0))
    w = fold-node-If Counting width_stmt_node_step e b.0 alternative.0

    chosen : (is_value e && (block_uses b.0).is_block && folded_else Testing stmt_node_uses_step alternative.0) ≡ true → (d : ℕ)
        → Phrase (Chosen limit (node.If (plain_expr e) (plain_block b.0) (plain_else alternative.0))) Any (codes "if (" ++ expr_text e ++ codes ") " ++ block_text b.0 d ++ folded_else Writing stmt_node_text_step alternative.0 d)
    chosen h d =
        let p = and3 (is_value e) (block_uses b.0).is_block (folded_else Testing stmt_node_uses_step alternative.0) h in
        if_phrase limit e (plain_block b.0) (plain_else alternative.0) (block_text b.0 d) (folded_else Writing stmt_node_text_step alternative.0 d) (value limit e (omega (arith, w, wide)) p.0)
        ((b.1 (omega (arith, w, wide))).block p.1 d) (alternative.1 (omega (arith, w, wide)) p.2 d)

of-While : {limit : ℕ} (e : Expr) (b : WithBlock limit) → OfNode limit (node.While e b.0)
of-While {limit} e b wide = let w = fold-node-While Counting width_stmt_node_step e b.0 in
    node_by _ _ _ _ _ _ (fold-node-While Testing stmt_node_uses_step e b.0) (fold-node-While Writing stmt_node_text_step e b.0) (fold-node-While Unplacing plain_step e b.0)
    (stated _ (λ h d. let p = and_parts (is_value e) _ h in while_stmt limit e (plain_block b.0) (block_text b.0 d) (value limit e (omega (arith, w, wide)) p.0) ((b.1 (omega (arith, w, wide))).block p.1 d)))

together_maybe : (e : Option Expr) → option_map unplaced_expr (option_map expr_with_parens e) ≡ option_map plain_expr e
together_maybe None = refl
together_maybe (Some e) = refl

of-For : {limit : ℕ} (s : ForStart) (test : Option Expr) (steps : List Expr) (b : WithBlock limit) → OfNode limit (node.For s test steps b.0)
of-For {limit} s test steps b wide = let w = fold-node-For Counting width_stmt_node_step s test steps b.0 in
    node_by _ _ _ _ _ _ (fold-node-For Testing stmt_node_uses_step s test steps b.0) (fold-node-For Writing stmt_node_text_step s test steps b.0)
    (fold-node-For Unplacing plain_step s test steps b.0 ∙ ap (λ x. node.For (plain_start s) x (map unplaced_expr (map expr_with_parens steps)) (plain_block b.0)) (together_maybe test)
    ∙ ap (λ x. node.For (plain_start s) (option_map plain_expr test) x (plain_block b.0)) (together_exprs steps))
    (stated _ (λ h d. let p = and4 (is_start s) (if_any is_value test) (list_all is_effect steps) (block_uses b.0).is_block h in
    for_stmt limit s test steps (plain_block b.0) (block_text b.0 d) (start limit s (omega (arith, w, wide)) p.0) (maybe_value limit test (omega (arith, w, wide)) p.1) (updates limit steps (omega (arith, w, wide)) p.2)
    ((b.1 (omega (arith, w, wide))).block p.3 d)))

of-Each : {limit : ℕ} (is_final : Bool) (to : TypeName) (name : List ℕ) (e : Expr) (b : WithBlock limit) → OfNode limit (node.Each is_final to name e b.0)
of-Each {limit} is_final to name e b wide = let w = fold-node-Each Counting width_stmt_node_step is_final to name e b.0 in
    node_by _ _ _ _ _ _ (fold-node-Each Testing stmt_node_uses_step is_final to name e b.0) (fold-node-Each Writing stmt_node_text_step is_final to name e b.0) (fold-node-Each Unplacing plain_step is_final to name e b.0)
    (stated _ (λ h d. let p = and4 (type_uses to).is_type (is_name name) (is_value e) (block_uses b.0).is_block h in
    each_stmt limit is_final to name e (plain_block b.0) (block_text b.0 d) (whole limit to (omega (arith, w, wide)) p.0) p.1 (value limit e (omega (arith, w, wide)) p.2) ((b.1 (omega (arith, w, wide))).block p.3 d)))

of-Return : {limit : ℕ} (e : Option Expr) → OfNode limit (node.Return e)
of-Return {limit} None wide =
    node_by _ _ _ _ _ _ (fold-node-Return Testing stmt_node_uses_step None) (fold-node-Return Writing stmt_node_text_step None) (fold-node-Return Unplacing plain_step None)
    (stated _ (λ h d. return_nothing limit (maybe_value limit None (omega arith) refl)))
of-Return {limit} (Some e) wide = let w = fold-node-Return Counting width_stmt_node_step (Some e) in
    node_by _ _ _ _ _ _ (fold-node-Return Testing stmt_node_uses_step (Some e)) (fold-node-Return Writing stmt_node_text_step (Some e)) (fold-node-Return Unplacing plain_step (Some e))
    (stated _ (λ h d. return_value limit e (maybe_value limit (Some e) (omega (arith, w, wide)) h) (value limit e (omega (arith, w, wide)) h)))

of-SuperInit : {limit : ℕ} (args : List Expr) → OfNode limit (node.SuperInit args)
of-SuperInit {limit} args wide = let w = fold-node-SuperInit Counting width_stmt_node_step args in let n = length-map args expr_width in
    node_by _ _ _ _ _ _ (fold-node-SuperInit Testing stmt_node_uses_step args) (fold-node-SuperInit Writing stmt_node_text_step args) (fold-node-SuperInit Unplacing plain_step args ∙ ap node.SuperInit (together_exprs args))
    (record { statement = λ h. absurd cc; super = λ h d. super_init limit args (omega (arith, w, wide, n)) (omega (arith, w, wide)) h; choice = λ h. absurd cc })

node_layer : {limit : ℕ} (y : StmtNode-F (WithElse limit) (WithNode limit) (WithBlock limit) (WithStmt limit)) → OfNode limit (roll-StmtNode (map-StmtNode _ _ _ _ _ _ _ _ (λ p. p.0) (λ p. p.0) (λ p. p.0) (λ p. p.0) y))
node_layer {limit} (StmtNode-F.StmtNode::Block b) = subst (OfNode limit) (sym (node.rolls-Block b.0)) (of-Block b)
node_layer {limit} (StmtNode-F.Let l) = subst (OfNode limit) (sym (node.rolls-Let l)) (λ wide. let w = fold-node-Let Counting width_stmt_node_step l in
    node_by _ _ _ _ _ _ (fold-node-Let Testing stmt_node_uses_step l) (fold-node-Let Writing stmt_node_text_step l) (fold-node-Let Unplacing plain_step l) (stated _ (λ h d. let_stmt limit l (declaration limit l (omega (arith, w, wide)) h))))
node_layer {limit} (StmtNode-F.Do e) = subst (OfNode limit) (sym (node.rolls-Do e)) (λ wide. let w = fold-node-Do Counting width_stmt_node_step e in
    node_by _ _ _ _ _ _ (fold-node-Do Testing stmt_node_uses_step e) (fold-node-Do Writing stmt_node_text_step e) (fold-node-Do Unplacing plain_step e) (stated _ (λ h d. do_stmt limit e (effect limit e (omega (arith, w, wide)) h))))
node_layer {limit} (StmtNode-F.StmtNode::If e b alternative) = subst (OfNode limit) (sym (node.rolls-If e b.0 alternative.0)) (of-If e b alternative)
node_layer {limit} (StmtNode-F.While e b) = subst (OfNode limit) (sym (node.rolls-While e b.0)) (of-While e b)
node_layer {limit} (StmtNode-F.For s test steps b) = subst (OfNode limit) (sym (node.rolls-For s test steps b.0)) (of-For s test steps b)
node_layer {limit} (StmtNode-F.Each is_final to name e b) = subst (OfNode limit) (sym (node.rolls-Each is_final to name e b.0)) (of-Each is_final to name e b)
node_layer {limit} (StmtNode-F.Return e) = subst (OfNode limit) (sym (node.rolls-Return e)) (of-Return e)
node_layer {limit} (StmtNode-F.Throw e) = subst (OfNode limit) (sym (node.rolls-Throw e)) (λ wide. let w = fold-node-Throw Counting width_stmt_node_step e in
    node_by _ _ _ _ _ _ (fold-node-Throw Testing stmt_node_uses_step e) (fold-node-Throw Writing stmt_node_text_step e) (fold-node-Throw Unplacing plain_step e) (stated _ (λ h d. throw_stmt limit e (value limit e (omega (arith, w, wide)) h))))
node_layer {limit} StmtNode-F.Break = subst (OfNode limit) (sym node.rolls-Break) (λ wide.
    node_by _ _ _ _ _ _ (fold-node-Break Testing stmt_node_uses_step) (fold-node-Break Writing stmt_node_text_step) (fold-node-Break Unplacing plain_step) (stated _ (λ h d. break_stmt limit)))
node_layer {limit} StmtNode-F.Continue = subst (OfNode limit) (sym node.rolls-Continue) (λ wide.
    node_by _ _ _ _ _ _ (fold-node-Continue Testing stmt_node_uses_step) (fold-node-Continue Writing stmt_node_text_step) (fold-node-Continue Unplacing plain_step) (stated _ (λ h d. continue_stmt limit)))
node_layer {limit} StmtNode-F.Empty = subst (OfNode limit) (sym node.rolls-Empty) (λ wide.
    node_by _ _ _ _ _ _ (fold-node-Empty Testing stmt_node_uses_step) (fold-node-Empty Writing stmt_node_text_step) (fold-node-Empty Unplacing plain_step) (stated _ (λ h d. empty_stmt limit)))
node_layer {limit} (StmtNode-F.SuperInit args) = subst (OfNode limit) (sym (node.rolls-SuperInit args)) (of-SuperInit args)

-- # Statements with their comments

stmt_by : {limit : ℕ} (u v : StmtUses) (t s : StmtText) (y z : Stmt) → u ≡ v → t ≡ s → y ≡ z → StmtPhrases limit v s z → StmtPhrases limit u t y
stmt_by u v t s y z e f g p = rw (e, f, g) p

stmt_phrases : (limit at : ℕ) (notes : List (List ℕ)) (u : NodeUses) (t : Deep) (n : StmtNode) → NodePhrases limit u t n
    → StmtPhrases limit (stmt_uses_step (record { notes = notes; at = at; node = u })) (stmt_text_step (record { notes = notes; at = at; node = t })) (commented notes 0 n)
stmt_phrases limit at notes u t n p = record {
  notes = notes;
  plain = n;
  is = refl;
  own_text = λ d. comment_lines d notes ++ indent d ++ t d;
  lines_are = λ d. refl;
  statement = λ h d. let q = and_parts (are_comments notes) u.is_statement h in makes (next_to (comments d notes q.0) (indented d (p.statement q.1 d))) (sym (append_assoc (comment_lines d notes) (indent d) (t d))) (λ ts x. x);
  super = λ h d. let q = and_parts (are_comments notes) u.is_super h in makes (next_to (comments d notes q.0) (indented d (p.super q.1 d))) (sym (append_assoc (comment_lines d notes) (indent d) (t d))) (λ ts x. x);
  after_else = λ h d. p.choice (and_parts _ u.is_choice h).1 d;
  no_notes = bare notes;
}
  where
    bare : (xs : List (List ℕ)) → (stmt_uses_step (record { notes = xs; at = at; node = u })).follows_else ≡ true → xs ≡ []
    bare [] h = refl
    bare (x ∷ xs) h = absurd cc

stmt_layer : {limit : ℕ} (y : Stmt-F (WithElse limit) (WithNode limit) (WithBlock limit) (WithStmt limit)) → OfStmt limit (record { notes = y.notes; at = y.at; node = y.node.0 })
stmt_layer {limit} y wide = let w = fold-stmt Counting width_stmt_node_step y.notes y.at y.node.0 in
    stmt_by _ _ _ _ _ _ (fold-stmt Testing stmt_node_uses_step y.notes y.at y.node.0) (fold-stmt Writing stmt_node_text_step y.notes y.at y.node.0) (fold-stmt Unplacing plain_step y.notes y.at y.node.0)
    (stmt_phrases limit y.at y.notes _ _ _ (y.node.1 (omega (arith, w, wide))))

-- # What follows a branch

else_by : {limit : ℕ} (u v : Bool) (t s : Deep) (y z : Else) → u ≡ v → t ≡ s → y ≡ z → ElsePhrases limit v s z → ElsePhrases limit u t y
else_by u v t s y z e f g p = rw (e, f, g) p

else_if_phrase : {limit : ℕ} (u : StmtUses) (t : StmtText) (y : Stmt) → StmtPhrases limit u t y → u.follows_else ≡ true → (d : ℕ) → Phrase (AfterBranch limit (otherwise.If y)) Any (codes " else " ++ t.text d)
else_if_phrase {limit} u t y p h d =
    let e : y ≡ commented [] 0 p.plain = p.is ∙ ap (λ notes. commented notes 0 p.plain) (p.no_notes h) in
    rw e (if_else_phrase limit p.plain (t.text d) (p.after_else h d))

else_layer : {limit : ℕ} (y : Else-F (WithElse limit) (WithNode limit) (WithBlock limit) (WithStmt limit)) → OfElse limit (roll-Else (map-Else _ _ _ _ _ _ _ _ (λ p. p.0) (λ p. p.0) (λ p. p.0) (λ p. p.0) y))
else_layer {limit} Else-F.None = subst (OfElse limit) (sym otherwise.rolls-None) (λ wide.
    else_by _ _ _ _ _ _ (fold-no-else Testing stmt_node_uses_step) (fold-no-else Writing stmt_node_text_step) (fold-no-else Unplacing plain_step) (λ h d. no_else_phrase limit))
else_layer {limit} (Else-F.Else::Block b) = subst (OfElse limit) (sym (otherwise.rolls-Block b.0)) (λ wide. let w = fold-else-block Counting width_stmt_node_step b.0 in
    else_by _ _ _ _ _ _ (fold-else-block Testing stmt_node_uses_step b.0) (fold-else-block Writing stmt_node_text_step b.0) (fold-else-block Unplacing plain_step b.0)
    (λ h d. block_else_phrase limit (plain_block b.0) (block_text b.0 d) ((b.1 (omega (arith, w, wide))).block h d)))
else_layer {limit} (Else-F.Else::If s) = subst (OfElse limit) (sym (otherwise.rolls-If s.0)) (λ wide. let w = fold-else-if Counting width_stmt_node_step s.0 in
    else_by _ _ _ _ _ _ (fold-else-if Testing stmt_node_uses_step s.0) (fold-else-if Writing stmt_node_text_step s.0) (fold-else-if Unplacing plain_step s.0)
    (else_if_phrase _ _ _ (s.1 (omega (arith, w, wide)))))

-- # Blocks

items_of : {limit : ℕ} (ss : List (WithStmt limit)) → tallest (map (folded_stmt Counting width_stmt_node_step) (map (λ p. p.0) ss)) ≤ limit
    → are_statements (map (folded_stmt Testing stmt_node_uses_step) (map (λ p. p.0) ss)) ≡ true → (d : ℕ)
    → Phrase (AllStated limit (map plain_stmt (map (λ p. p.0) ss))) Any (all_of (at_depth d (map stmt_text (map (λ p. p.0) ss))))
items_of {limit} [] wide all d = no_items_phrase limit
items_of {limit} (s ∷ ss) wide all d =
    let p = and_parts (folded_stmt Testing stmt_node_uses_step s.0).is_statement _ all in
    let q = s.1 (omega arith) in
    rw (q.is, q.lines_are d) (more_items_phrase limit q.notes q.plain _ (q.own_text d) _ (q.statement p.0 d) (items_of ss (omega arith) p.1 d))

block_by : {limit : ℕ} (u v : BlockUses) (t s : Deep) (y z : Block) → u ≡ v → t ≡ s → y ≡ z → BlockPhrases limit v s z → BlockPhrases limit u t y
block_by u v t s y z e f g p = rw (e, f, g) p

body_of : {limit : ℕ} (ss : List (WithStmt limit)) (tail : List (List ℕ)) → tallest (map (folded_stmt Counting width_stmt_node_step) (map (λ p. p.0) ss)) ≤ limit
    → are_constructor_statements (map (folded_stmt Testing stmt_node_uses_step) (map (λ p. p.0) ss)) ≡ true → are_comments tail ≡ true → (d : ℕ)
    → Phrase (Bodied limit (block_of (map plain_stmt (map (λ p. p.0) ss)) tail)) Any (braced_text d (all_of (at_depth (suc d) (map stmt_text (map (λ p. p.0) ss)))) tail)
body_of {limit} [] tail wide all noted d = makes (block_phrase limit d [] tail [] (no_items_phrase limit) noted) refl (usual_body limit _)
body_of {limit} (s ∷ ss) tail wide all noted d = elim (or_cases uses.is_statement uses.is_super parts.0) [
  | inl plain ↦ makes (block_phrase limit d _ tail _ (items_of (s ∷ ss) wide (rw (plain, parts.1) refl) (suc d)) noted) refl (usual_body limit _)
  | inr super ↦ first super
]
  where
    uses : StmtUses
    uses = folded_stmt Testing stmt_node_uses_step s.0

    parts : ((folded_stmt Testing stmt_node_uses_step s.0).is_statement || (folded_stmt Testing stmt_node_uses_step s.0).is_super ≡ true) × (are_statements (map (folded_stmt Testing stmt_node_uses_step) (map (λ p. p.0) ss)) ≡ true)
    parts = let p = and_parts ((folded_stmt Testing stmt_node_uses_step s.0).is_statement || (folded_stmt Testing stmt_node_uses_step s.0).is_super) _ all in (p.0, p.1)

    first : (folded_stmt Testing stmt_node_uses_step s.0).is_super ≡ true
        → Phrase (Bodied limit (block_of (plain_stmt s.0 ∷ map plain_stmt (map (λ p. p.0) ss)) tail)) Any (braced_text d ((stmt_text s.0).lines (suc d) ++ all_of (at_depth (suc d) (map stmt_text (map (λ p. p.0) ss)))) tail)
    first super =
        let q = s.1 (omega arith) in
        rw (q.is, q.lines_are (suc d)) (super_phrase limit d q.notes q.plain _ tail (q.own_text (suc d)) _ (q.super super (suc d)) (items_of ss (omega arith) parts.1 (suc d)) noted)

block_layer : {limit : ℕ} (y : Block-F (WithElse limit) (WithNode limit) (WithBlock limit) (WithStmt limit)) → OfBlock limit (block_of (map (λ p. p.0) y.items) y.tail)
block_layer {limit} y wide =
    let items : List Stmt = map (λ p. p.0) y.items in
    let w = fold-block Counting width_stmt_node_step items y.tail in
    block_by _ _ _ _ _ _ (fold-block Testing stmt_node_uses_step items y.tail) (fold-block Writing stmt_node_text_step items y.tail) (fold-block Unplacing plain_step items y.tail) (record {
      block = λ h d. let p = and_parts (are_statements (map (folded_stmt Testing stmt_node_uses_step) items)) (are_comments y.tail) h in block_phrase limit d _ y.tail _ (items_of y.items (omega (arith, w, wide)) p.0 (suc d)) p.1;
      body = λ h d. let p = and_parts (are_constructor_statements (map (folded_stmt Testing stmt_node_uses_step) items)) (are_comments y.tail) h in body_of y.items y.tail (omega (arith, w, wide)) p.0 p.1 d;
    })

-- what is printed of a block, by what it may be used as
pub block_phrases : (limit : ℕ) (b : Block) → block_width b ≤ limit → BlockPhrases limit (block_uses b) (block_text b) (plain_block b)
block_phrases limit = ind-Block (OfElse limit) (OfNode limit) (OfBlock limit) (OfStmt limit)
    (λ x y is. subst (λ z. OfElse limit (roll-Else z)) is (else_layer y))
    (λ x y is. subst (λ z. OfNode limit (roll-StmtNode z)) is (node_layer y))
    (λ x y is. subst (λ z. OfBlock limit (roll-Block z)) is (block_layer y))
    (λ x y is. subst (λ z. OfStmt limit (roll-Stmt z)) is (stmt_layer y))
