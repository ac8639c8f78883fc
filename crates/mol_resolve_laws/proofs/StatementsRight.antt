-- What a body reads as has the form of its text, and mentions what stands in the view.
use Rattle.std.proofs.Common.{◌≡◌, ℕ, ◌≤◌, Bool, true, false, ◌&&◌, List, [], ◌∷◌, ◌++◌, map, length, Option, Some, None, refl, sym, ◌∙◌, ap, subst, arith}
use Rattle.std.proofs.lemmas.Bool.{and_from, le-leb}
use Rattle.std.specs.List.{list_all, flat_map}
use Rattle.std.proofs.lemmas.List.{length-map}
use Rattle.mol_base.specs.Limits.{max_items}
use Rattle.jav_tree.specs.Blocks as blocks
use Rattle.jav_tree.specs.Height.{tallest}
use Rattle.jav_tree.specs.PrintableExpressions.{type_uses, ExprUses, is_not_empty, expr_uses}
use Rattle.jav_tree.specs.PrintableStatements as printable
use Rattle.jav_tree.specs.PrintableStatements.{if_any, is_first_value, is_value, is_effect, is_declaration, NodeUses, statement_where, StmtUses, BlockUses, are_statements, are_constructor_statements, else_uses_step, stmt_node_uses_step, block_uses_step, stmt_uses_step, block_uses}
use Rattle.jav_tree.specs.TokenTexts as texts
use Rattle.jav_tree.specs.Widths.{counted, expr_width, maybe_width, declarator_width, let_width, start_width, width_else_step, width_stmt_node_step, width_block_step, width_stmt_step, block_width}
use Rattle.jav_tree.specs.declared.expr.Expr.{Expr}
use Rattle.jav_tree.specs.declared.stmt.Block.{Block}
use Rattle.jav_tree.specs.declared.stmt.Declarator.{Declarator}
use Rattle.jav_tree.specs.declared.stmt.Else.{Else, fold-Else}
use Rattle.jav_tree.specs.declared.stmt.Else.TheFolds.{fold-roll-Else, fold-roll-StmtNode, fold-roll-Block, fold-roll-Stmt, map-Else, map-StmtNode, ind-Block}
use Rattle.jav_tree.specs.declared.stmt.Else.TheOpen.{Else-F, StmtNode-F, Block-F, Stmt-F}
use Rattle.jav_tree.specs.declared.stmt.Else.TheViews.{roll-Else, roll-StmtNode, roll-Block, roll-Stmt}
use Rattle.jav_tree.specs.declared.stmt.ForStart.{ForStart}
use Rattle.jav_tree.specs.declared.stmt.ForStart.TheVariants as for_start
use Rattle.jav_tree.specs.declared.stmt.Let.{Let}
use Rattle.jav_tree.specs.declared.stmt.Stmt.{Stmt, fold-Stmt}
use Rattle.jav_tree.specs.declared.stmt.StmtNode.{StmtNode, fold-StmtNode}
use Rattle.jav_names.proofs.FoundNames.{names_stand}
use Rattle.jav_names.proofs.NamesAnswered.{names_answered}
use Rattle.jav_names.specs.LookUps.{super_constructor}
use Rattle.jav_names.specs.Members.{Constructor, declared_constructor, default_constructor}
use Rattle.jav_names.specs.Standing.{IsConstructorIn}
use Rattle.jav_names.specs.Views.{ViewType, ViewDeclaration, Found, found, outside, not_found}
use Rattle.mol_resolve_rules.specs.FaultKinds.{unknown_member}
use Rattle.mol_resolve_rules.specs.Locals.{Locals, no_locals}
use Rattle.mol_resolve_rules.specs.Outcomes.{mapped, beside, both, put_first}
use Rattle.mol_resolve_rules.specs.Readers.{Reader}
use Rattle.mol_resolve_rules.specs.ReadStatements as statements
use Rattle.mol_resolve_rules.specs.ReadStatements.{ReadOn, ReadsTo, declaring_none, mapped_on, followed_by, then_next, each, in_block, ReadNode, ReadStatement, plain, statement_of, branching, redeclared_faults, declaring, read_exprs, read_maybe, read_declarator, let_of, read_let, super_read, super_if, read_start, read_header, read_each, else_of, read_initial, read_body, block_reading}
use Rattle.mol_resolve_rules.specs.ReadTrees.{with_params, read_expr}
use Rattle.mol_resolve_rules.specs.ReadTypes.{ReadType, read_type, seen_type}
use Rattle.mol_table_rules.proofs.KeptBlocks.{block_mentions}
use Rattle.mol_table_rules.specs.ExpressionForms.{are_arguments, is_statement}
use Rattle.mol_table_rules.specs.Mentions.{Mention, a_class, a_constructor, named, type_mentions, expr_mentions, exprs_mentions, arguments_mentions, maybe_mentions, start_mentions}
use Rattle.mol_table_rules.specs.StatementForms.{is_declarator}
use Rattle.mol_values_types.specs.Blocks.{branch_of}
use Rattle.mol_values_types.specs.declared.iblock.IBlock.{IBlock}
use Rattle.mol_values_types.specs.declared.iblock.IBody.{IBody}
use Rattle.mol_values_types.specs.declared.iblock.IDeclarator.{IDeclarator}
use Rattle.mol_values_types.specs.declared.iblock.IElse.{IElse}
use Rattle.mol_values_types.specs.declared.iblock.IElse.TheOpen.{IStmtNode-F}
use Rattle.mol_values_types.specs.declared.iblock.IElse.TheVariants as elses
use Rattle.mol_values_types.specs.declared.iblock.IForStart.{IForStart}
use Rattle.mol_values_types.specs.declared.iblock.IForStart.TheVariants as starts
use Rattle.mol_values_types.specs.declared.iblock.IStmtNode.{IStmtNode}
use Rattle.mol_values_types.specs.declared.iblock.IStmtNode.TheVariants as nodes
use Rattle.mol_values_types.specs.declared.iexpr.IExpr.{IExpr}
use Rattle.mol_resolve_laws.proofs.BlocksRight.{exprs-mentioned, not-empty-some, joined-arguments, argument-shapes, all-mapped, MaybeRight, DeclaratorRight, DeclaratorsRight, LetRight, StartRight, ElseRight, NodeRight, StmtRight, ItemsRight, BlockRight, node-ordinary, node-super, node-if, branch-of, statement-right, items-none, items-more, block-right, else-none, else-block, else-statement}
use Rattle.mol_resolve_laws.proofs.ExpressionsRight.{typed, gives-expr}
use Rattle.mol_resolve_laws.proofs.Gives.{Gives, gives-fine, gives-refused, gives-with_faults, gives-mapped, gives-both, gives-beside, gives-given}
use Rattle.mol_resolve_laws.proofs.NamesRight.{answered}
use Rattle.mol_resolve_laws.proofs.Right.{Takes, ReadsRightly, passes-both, passes-named}
use Rattle.mol_resolve_laws.proofs.TreesRight.{ExprRight, ListRight, right-none, right-more, right-arguments, right-outside, argument-mentions}
use Rattle.mol_resolve_laws.proofs.TypesRight.{IsReadRightly, type-gives}
use Rattle.mol_resolve_laws.proofs.Tests.{never, first-of, last-of, and-imp}

-- what is read from any locals on
abbrev GivesTo : {C A : Type 0} → (A → Type 0) → ReadsTo C A → Type 0
GivesTo {C} P part = (locals : Locals C) → Gives P (part locals).outcome

module _ {C M : Type 0} (test : Mention → Bool) (reader : Reader C M) (right : ReadsRightly test reader) where
  abbrev Line : Expr → IExpr → Type 0
  Line e read = ExprRight test (expr_uses e) read

  -- ---- expressions

  line-statement : (e : Expr) (read : IExpr) → Line e read → is_effect e ≡ true → is_statement read ≡ true
  line-statement e read r is = let may = r.shape.statement is in and_from _ _ may.0 may.1

  gives-maybe : (locals : Locals C) (e : Option Expr) → maybe_width e ≤ max_items → Gives (MaybeRight test e) (read_maybe reader locals e)
  gives-maybe locals None few = gives-fine (MaybeRight test None) None (record { value = λ is. refl; first = λ is. refl; mentions = refl })
  gives-maybe locals (Some e) few = gives-mapped (Line e) (MaybeRight test (Some e)) (λ e. Some e) (read_expr reader locals e)
      (gives-expr test reader right locals e few)
      (λ read r. record { value = r.shape.value; first = r.shape.first; mentions = r.mentions })

  gives-exprs : (locals : Locals C) (es : List Expr) → tallest (map expr_width es) ≤ max_items
      → Gives (ListRight test (map expr_uses es)) (read_exprs reader locals es)
  gives-exprs locals [] few = gives-fine (ListRight test []) [] (right-none test)
  gives-exprs locals (e ∷ es) few = gives-mapped (λ (pair : IExpr × List IExpr). Line e pair.0 × ListRight test (map expr_uses es) pair.1)
      (ListRight test (map expr_uses (e ∷ es))) put_first (both (read_expr reader locals e) (read_exprs reader locals es))
      (gives-both (Line e) (ListRight test (map expr_uses es)) (read_expr reader locals e) (read_exprs reader locals es)
      (gives-expr test reader right locals e (omega (arith, few))) (gives-exprs locals es (omega (arith, few))))
      (λ pair is. right-more test (expr_uses e) pair.0 (map expr_uses es) pair.1 is.0 is.1)

  -- ---- declarations

  declarator-right : (d : Declarator) (init : Option IExpr) → MaybeRight test d.init init
      → printable.is_declarator d ≡ true → is_declarator (record { name = d.name; init = init }) ≡ true
  declarator-right d init r is = and_from _ _ (first-of _ _ is) (r.first (last-of _ _ is))

  gives-declarators : (at : ℕ) (type : ViewType C) (ds : List Declarator) → tallest (map declarator_width ds) ≤ max_items
      → GivesTo (DeclaratorsRight test ds) (each (map (read_declarator reader at type) ds))
  gives-declarators at type [] few locals = gives-fine (DeclaratorsRight test []) []
      (record { formed = λ is. refl; mentions = refl; some = never })
  gives-declarators at type (d ∷ ds) few locals =
      let inside = declaring reader type d.name locals in
      gives-mapped (λ (pair : IDeclarator × List IDeclarator). DeclaratorRight test d pair.0 × DeclaratorsRight test ds pair.1)
      (DeclaratorsRight test (d ∷ ds)) put_first _
      (gives-both (DeclaratorRight test d) (DeclaratorsRight test ds) (read_declarator reader at type d locals).outcome _
      (gives-with_faults (DeclaratorRight test d) (redeclared_faults reader at d.name locals) _
      (gives-mapped (MaybeRight test d.init) (DeclaratorRight test d) _ (read_maybe reader inside d.init)
      (gives-maybe inside d.init (omega (arith, few)))
      (λ init r. record { formed = declarator-right d init r; mentions = r.mentions })))
      (gives-declarators at type ds (omega (arith, few)) inside))
      (λ pair is. record {
        formed = and-imp _ _ _ _ is.0.formed is.1.formed;
        mentions = passes-both test (maybe_mentions pair.0.init) (flat_map (λ (d : IDeclarator). maybe_mentions d.init) pair.1)
            is.0.mentions is.1.mentions;
        some = λ some. le-leb _ _ (omega arith);
      })

  gives-let : (at : ℕ) (declared : Let) → let_width declared ≤ max_items
      → GivesTo (LetRight test (is_declaration declared)) (read_let reader at declared)
  gives-let at declared few locals = gives-mapped
      (λ (pair : ReadType C × List IDeclarator). IsReadRightly test reader right declared.ty pair.0
      × DeclaratorsRight test declared.names pair.1)
      (LetRight test (is_declaration declared)) (let_of reader declared.is_final) _
      (gives-both (IsReadRightly test reader right declared.ty) (DeclaratorsRight test declared.names) (read_type reader at declared.ty) _
      (type-gives test reader right at declared.ty)
      (gives-declarators at (seen_type reader declared.ty) declared.names (omega (arith, few)) locals))
      (λ pair is. record {
        formed = λ holds. and_from _ _ (and_from _ _
            (typed test reader right declared.ty pair.0.tree is.0.as_written (omega (arith, few)) (first-of _ _ (first-of _ _ holds)))
            (is.1.some (last-of _ _ (first-of _ _ holds)))) (is.1.formed (last-of _ _ holds));
        mentions = passes-both test (type_mentions pair.0.tree) (flat_map (λ (d : IDeclarator). maybe_mentions d.init) pair.1)
            is.0.as_written.mentions is.1.mentions;
      })

  -- ---- `super(..)`

  effects-listed : (es : List Expr) (read : List IExpr) → ListRight test (map expr_uses es) read → list_all is_effect es ≡ true
      → list_all is_statement read ≡ true
  effects-listed es read r is = r.statements (all-mapped (λ (u : ExprUses). u.is_statement) expr_uses es ∙ is)

  as_many : (es : List Expr) → length (map expr_uses es) ≡ length es
  as_many es = length-map es expr_uses

  module _ (es : List Expr) (few : counted (map expr_width es) ≤ max_items) where
    abbrev Super : ReadNode → Type 0
    Super = NodeRight test (record { is_statement = false; is_super = list_all is_value es; is_choice = false })

    abbrev SuperNode : IStmtNode → Type 0
    SuperNode n = Super (plain n)

    few-uses : length (map expr_uses es) ≤ max_items
    few-uses = let uses = length-map es expr_uses in let widths = length-map es expr_width in omega (arith, few, uses, widths)

    values-of : list_all is_value es ≡ true → list_all (λ (u : ExprUses). u.is_value) (map expr_uses es) ≡ true
    values-of is = all-mapped (λ (u : ExprUses). u.is_value) expr_uses es ∙ is

    gives-super : (at : ℕ) (args : Option (List IExpr)) → ((read : List IExpr) → args ≡ Some read → ListRight test (map expr_uses es) read)
        → (arity : ℕ) → Gives SuperNode (super_read reader at args (super_constructor reader.view reader.class arity))
    gives-super at args listed arity = by (super_constructor reader.view reader.class arity) refl where
      stands-in : (c : Constructor C M) → super_constructor reader.view reader.class arity ≡ found c
          → (above : C) × IsConstructorIn reader.view above arity c
      stands-in c is = let stands = (names_stand C M).super_constructors reader.view reader.class arity c
          (answered ((names_answered C M).super_constructors reader.view reader.class arity right.ordered) (found c) is) in
          (stands.0, stands.2)

      declared-right : (above : C) (declared : ViewDeclaration C M) → IsConstructorIn reader.view above arity
          (declared_constructor declared)
          → Takes test a_constructor (reader.ids.method_id declared)
      declared-right above declared (IsConstructorIn.is_declared stands of) =
          right.constructors declared stands of.declares.is_constructor

      default-right : (above class : C) → IsConstructorIn reader.view above arity (default_constructor class)
          → Takes test a_class (reader.ids.class_id class)
      default-right above class (IsConstructorIn.is_default stands default) = right.classes class stands

      by : (f : Found (Constructor C M)) → super_constructor reader.view reader.class arity ≡ f
          → Gives SuperNode (super_read reader at args f)
      by (found (declared_constructor declared)) is = gives-given (ListRight test (map expr_uses es)) SuperNode args _ listed
          (λ read r.
          let id = reader.ids.method_id declared in
          let arguments = with_params (reader.ids.param_ids declared) read in
          let takes = (let stands = stands-in (declared_constructor declared) is in declared-right stands.0 declared stands.1) in
          gives-fine SuperNode (nodes.Super id arguments)
          (subst SuperNode (nodes.rolls-Super id arguments)
          (node-super test (list_all is_value es) _ (IStmtNode-F.Super id arguments) refl
          (λ holds. ap are_arguments (sym (argument-shapes arguments))
          ∙ right-arguments test (map expr_uses es) read r few-uses (values-of holds) (reader.ids.param_ids declared))
          (passes-both test (named a_constructor id) (arguments_mentions arguments) (passes-named test a_constructor id takes)
          (ap (list_all test) (sym (joined-arguments arguments))
          ∙ argument-mentions test (reader.ids.param_ids declared) read r.mentions)))))
      by (found (default_constructor class)) is =
          let id = reader.ids.class_id class in
          let stands = stands-in (default_constructor class) is in
          gives-fine SuperNode (nodes.SuperDefault id) (subst SuperNode (nodes.rolls-SuperDefault id)
          (node-super test (list_all is_value es) true (IStmtNode-F.SuperDefault id) refl (λ holds. refl)
          (passes-named test a_class id (default-right stands.0 class stands.1))))
      by outside is = gives-given (ListRight test (map expr_uses es)) SuperNode args _ listed
          (λ read r. gives-fine SuperNode (nodes.SuperOutside read) (subst SuperNode (nodes.rolls-SuperOutside read)
          (node-super test (list_all is_value es) _ (IStmtNode-F.SuperOutside read) refl
          (λ holds. right-outside test (map expr_uses es) read r few-uses (values-of holds)) (exprs-mentioned test read r.mentions))))
      by not_found is = gives-refused SuperNode unknown_member at

    gives-super_if : (in_constructor : Bool) (at : ℕ) (args : Option (List IExpr))
        → ((read : List IExpr) → args ≡ Some read → ListRight test (map expr_uses es) read) → (arity : ℕ)
        → Gives SuperNode (super_if reader in_constructor at args (super_constructor reader.view reader.class arity))
    gives-super_if true at args listed arity = gives-super at args listed arity
    gives-super_if false at args listed arity = gives-refused SuperNode unknown_member at

    gives-super_init : (at : ℕ) (locals : Locals C) → Gives Super (mapped plain (beside (read_exprs reader locals es)
        (λ values. super_if reader reader.in_constructor at values (super_constructor reader.view reader.class (length es)))))
    gives-super_init at locals = gives-mapped SuperNode Super plain _
        (gives-beside (ListRight test (map expr_uses es)) SuperNode (read_exprs reader locals es)
        (λ values. super_if reader reader.in_constructor at values (super_constructor reader.view reader.class (length es)))
        (gives-exprs locals es (omega (arith, few)))
        (λ args listed. gives-super_if reader.in_constructor at args listed (length es))) (λ n is. is)

  -- ---- headers of `for`

  gives-start : (at : ℕ) (start : ForStart) → start_width start ≤ max_items
      → GivesTo (StartRight test (printable.is_start start)) (read_start reader at start)
  gives-start at for_start.None few locals = gives-fine (StartRight test true) starts.None (record { formed = λ is. refl; mentions = refl })
  gives-start at (for_start.Let declared) few locals = gives-mapped (LetRight test (is_declaration declared))
      (StartRight test (is_declaration declared)) (λ declared. starts.Let declared) (read_let reader at declared locals).outcome
      (gives-let at declared few locals) (λ l r. record { formed = r.formed; mentions = r.mentions })
  gives-start at (for_start.Do es) few locals = gives-mapped (ListRight test (map expr_uses es))
      (StartRight test (is_not_empty es && list_all is_effect es)) (λ es. starts.Do es) (read_exprs reader locals es)
      (gives-exprs locals es few)
      (λ read r. record {
        formed = λ is. and_from _ _ (not-empty-some es read (r.count ∙ as_many es) (first-of _ _ is))
            (effects-listed es read r (last-of _ _ is));
        mentions = exprs-mentioned test read r.mentions;
      })

  -- ---- all statements

  abbrev ElseTo : Bool → ℕ → ReadsTo C IElse → Type 0
  ElseTo uses width read = width ≤ max_items → GivesTo (ElseRight test uses) read

  abbrev NodeTo : NodeUses → ℕ → (ℕ → ReadsTo C ReadNode) → Type 0
  NodeTo uses width read = width ≤ max_items → (at : ℕ) → GivesTo (NodeRight test uses) (read at)

  abbrev BlockTo : BlockUses → ℕ → ReadsTo C IBlock → Type 0
  BlockTo uses width read = width ≤ max_items → GivesTo (BlockRight test uses) read

  abbrev StmtTo : StmtUses → ℕ → ReadsTo C ReadStatement → Type 0
  StmtTo uses width read = width ≤ max_items → GivesTo (StmtRight test uses) read

  abbrev else_reading : Else → ReadsTo C IElse
  else_reading = fold-Else (ReadsTo C IElse) (ℕ → ReadsTo C ReadNode) (ReadsTo C IBlock) (ReadsTo C ReadStatement)
      (statements.else_step reader) (statements.node_step reader) (statements.block_step reader) (statements.stmt_step reader)

  abbrev node_reading : StmtNode → ℕ → ReadsTo C ReadNode
  node_reading = fold-StmtNode (ReadsTo C IElse) (ℕ → ReadsTo C ReadNode) (ReadsTo C IBlock) (ReadsTo C ReadStatement)
      (statements.else_step reader) (statements.node_step reader) (statements.block_step reader) (statements.stmt_step reader)

  abbrev stmt_reading : Stmt → ReadsTo C ReadStatement
  stmt_reading = fold-Stmt (ReadsTo C IElse) (ℕ → ReadsTo C ReadNode) (ReadsTo C IBlock) (ReadsTo C ReadStatement)
      (statements.else_step reader) (statements.node_step reader) (statements.block_step reader) (statements.stmt_step reader)

  abbrev else_uses : Else → Bool
  else_uses = fold-Else Bool NodeUses BlockUses StmtUses else_uses_step stmt_node_uses_step block_uses_step stmt_uses_step

  abbrev node_uses : StmtNode → NodeUses
  node_uses = fold-StmtNode Bool NodeUses BlockUses StmtUses else_uses_step stmt_node_uses_step block_uses_step stmt_uses_step

  abbrev stmt_uses : Stmt → StmtUses
  stmt_uses = fold-Stmt Bool NodeUses BlockUses StmtUses else_uses_step stmt_node_uses_step block_uses_step stmt_uses_step

  abbrev else_width : Else → ℕ
  else_width = fold-Else ℕ ℕ ℕ ℕ width_else_step width_stmt_node_step width_block_step width_stmt_step

  abbrev node_width : StmtNode → ℕ
  node_width = fold-StmtNode ℕ ℕ ℕ ℕ width_else_step width_stmt_node_step width_block_step width_stmt_step

  abbrev stmt_width : Stmt → ℕ
  stmt_width = fold-Stmt ℕ ℕ ℕ ℕ width_else_step width_stmt_node_step width_block_step width_stmt_step

  abbrev IsElse : Else → Type 0
  IsElse e = ElseTo (else_uses e) (else_width e) (else_reading e)

  abbrev IsNode : StmtNode → Type 0
  IsNode n = NodeTo (node_uses n) (node_width n) (node_reading n)

  abbrev IsBlock : Block → Type 0
  IsBlock b = BlockTo (block_uses b) (block_width b) (block_reading reader b)

  abbrev IsStmt : Stmt → Type 0
  IsStmt s = StmtTo (stmt_uses s) (stmt_width s) (stmt_reading s)

  moved : {U R : Type 0} (P : U → ℕ → R → Type 0) {u v : U} {m n : ℕ} {r s : R} → u ≡ v → m ≡ n → r ≡ s → P u m r → P v n s
  moved P {u} {v} {m} {n} {r} {s} p q w holds =
      subst (λ x. P x n s) p (subst (λ x. P u x s) q (subst (P u m) w holds))

  abbrev WithElse : Type 0
  WithElse = (e : Else) × IsElse e

  abbrev WithNode : Type 0
  WithNode = (n : StmtNode) × IsNode n

  abbrev WithBlock : Type 0
  WithBlock = (b : Block) × IsBlock b

  abbrev WithStmt : Type 0
  WithStmt = (s : Stmt) × IsStmt s

  node-from : (x : StmtNode-F Else StmtNode Block Stmt)
      → NodeTo (stmt_node_uses_step (map-StmtNode _ _ _ _ _ _ _ _ else_uses node_uses block_uses stmt_uses x))
      (width_stmt_node_step (map-StmtNode _ _ _ _ _ _ _ _ else_width node_width block_width stmt_width x))
      (statements.node_step reader (map-StmtNode _ _ _ _ _ _ _ _ else_reading node_reading (block_reading reader) stmt_reading x))
      → IsNode (roll-StmtNode x)
  node-from x = moved NodeTo
      (sym (fold-roll-StmtNode Bool NodeUses BlockUses StmtUses else_uses_step stmt_node_uses_step block_uses_step stmt_uses_step x))
      (sym (fold-roll-StmtNode ℕ ℕ ℕ ℕ width_else_step width_stmt_node_step width_block_step width_stmt_step x))
      (sym (fold-roll-StmtNode (ReadsTo C IElse) (ℕ → ReadsTo C ReadNode) (ReadsTo C IBlock) (ReadsTo C ReadStatement)
      (statements.else_step reader) (statements.node_step reader) (statements.block_step reader) (statements.stmt_step reader) x))

  abbrev Plain : Bool → IStmtNode → Type 0
  Plain a n = NodeRight test (statement_where a) (plain n)

  node_right : (y : StmtNode-F WithElse WithNode WithBlock WithStmt)
      → IsNode (roll-StmtNode (map-StmtNode _ _ _ _ _ _ _ _ (λ p. p.0) (λ p. p.0) (λ p. p.0) (λ p. p.0) y))
  node_right (StmtNode-F.StmtNode::Block b) = node-from (StmtNode-F.StmtNode::Block b.0) (λ few at locals.
      gives-mapped (BlockRight test (block_uses b.0)) (NodeRight test (statement_where (block_uses b.0).is_block)) _
      (block_reading reader b.0 locals).outcome (b.1 few locals)
      (λ block r. subst (Plain (block_uses b.0).is_block) (nodes.rolls-Block block)
      (node-ordinary test (block_uses b.0).is_block _ (IStmtNode-F.IStmtNode::Block block) refl r.formed r.mentions)))
  node_right (StmtNode-F.Let declared) = node-from (StmtNode-F.Let declared) (λ few at locals.
      gives-mapped (LetRight test (is_declaration declared)) (NodeRight test (statement_where (is_declaration declared))) _
      (read_let reader at declared locals).outcome (gives-let at declared few locals)
      (λ l r. subst (Plain (is_declaration declared)) (nodes.rolls-Let l)
      (node-ordinary test (is_declaration declared) _ (IStmtNode-F.Let l) refl r.formed r.mentions)))
  node_right (StmtNode-F.Do e) = node-from (StmtNode-F.Do e) (λ few at locals.
      gives-mapped (Line e) (NodeRight test (statement_where (is_effect e))) _ (read_expr reader locals e)
      (gives-expr test reader right locals e few)
      (λ read r. subst (Plain (is_effect e)) (nodes.rolls-Do read)
      (node-ordinary test (is_effect e) _ (IStmtNode-F.Do read) refl (line-statement e read r) r.mentions)))
  node_right (StmtNode-F.StmtNode::If e b rest) = node-from (StmtNode-F.StmtNode::If e b.0 rest.0) (λ few at locals.
      gives-mapped (λ (parts : (IExpr × IBlock) × IElse). (Line e parts.0.0 × BlockRight test (block_uses b.0) parts.0.1)
      × ElseRight test (else_uses rest.0) parts.1) _ _ _
      (gives-both (λ (parts : IExpr × IBlock). Line e parts.0 × BlockRight test (block_uses b.0) parts.1)
      (ElseRight test (else_uses rest.0)) _ _
      (gives-both (Line e) (BlockRight test (block_uses b.0)) (read_expr reader locals e) _
      (gives-expr test reader right locals e (omega (arith, few))) (b.1 (omega (arith, few)) locals))
      (rest.1 (omega (arith, few)) _))
      (λ parts is. node-if test _ (branch_of parts.0.0 parts.0.1 parts.1)
      (branch-of test (is_value e) (block_uses b.0) (else_uses rest.0) parts.0.0 parts.0.1 parts.1 is.0.0.shape.value is.0.0.mentions
      is.0.1 is.1)))
  node_right (StmtNode-F.While e b) = node-from (StmtNode-F.While e b.0) (λ few at locals.
      gives-mapped (λ (parts : IExpr × IBlock). Line e parts.0 × BlockRight test (block_uses b.0) parts.1) _ _ _
      (gives-both (Line e) (BlockRight test (block_uses b.0)) (read_expr reader locals e) _
      (gives-expr test reader right locals e (omega (arith, few))) (b.1 (omega (arith, few)) locals))
      (λ parts is. subst (Plain (is_value e && (block_uses b.0).is_block)) (nodes.rolls-While parts.0 parts.1)
      (node-ordinary test _ _ (IStmtNode-F.While parts.0 parts.1) refl
      (and-imp _ _ _ _ is.0.shape.value is.1.formed)
      (passes-both test (expr_mentions parts.0) (block_mentions parts.1) is.0.mentions is.1.mentions))))
  node_right (StmtNode-F.For start e steps b) = node-from (StmtNode-F.For start e steps b.0) (λ few at locals.
      gives-mapped (λ (parts : (IForStart × (Option IExpr × List IExpr)) × IBlock).
      (StartRight test (printable.is_start start) parts.0.0 × (MaybeRight test e parts.0.1.0
      × ListRight test (map expr_uses steps) parts.0.1.1))
      × BlockRight test (block_uses b.0) parts.1) _ _ _
      (gives-both (λ (parts : IForStart × (Option IExpr × List IExpr)).
      StartRight test (printable.is_start start) parts.0 × (MaybeRight test e parts.1.0 × ListRight test (map expr_uses steps) parts.1.1))
      (BlockRight test (block_uses b.0)) _ _
      (gives-both (StartRight test (printable.is_start start))
      (λ (parts : Option IExpr × List IExpr). MaybeRight test e parts.0 × ListRight test (map expr_uses steps) parts.1)
      (read_start reader at start locals).outcome _ (gives-start at start (omega (arith, few)) locals)
      (gives-both (MaybeRight test e) (ListRight test (map expr_uses steps)) _ _
      (gives-maybe _ e (omega (arith, few))) (gives-exprs _ steps (omega (arith, few)))))
      (b.1 (omega (arith, few)) _))
      (λ parts is. subst (Plain (printable.is_start start && if_any is_value e && list_all is_effect steps && (block_uses b.0).is_block))
      (nodes.rolls-For parts.0.0 parts.0.1.0 parts.0.1.1 parts.1)
      (node-ordinary test _ _ (IStmtNode-F.For parts.0.0 parts.0.1.0 parts.0.1.1 parts.1) refl
      (and-imp _ _ _ _ (and-imp _ _ _ _ (and-imp _ _ _ _ is.0.0.formed is.0.1.0.value) (effects-listed steps parts.0.1.1 is.0.1.1))
      is.1.formed)
      (passes-both test (start_mentions parts.0.0 ++ maybe_mentions parts.0.1.0 ++ exprs_mentions parts.0.1.1) (block_mentions parts.1)
      (passes-both test (start_mentions parts.0.0 ++ maybe_mentions parts.0.1.0) (exprs_mentions parts.0.1.1)
      (passes-both test (start_mentions parts.0.0) (maybe_mentions parts.0.1.0) is.0.0.mentions is.0.1.0.mentions)
      (exprs-mentioned test parts.0.1.1 is.0.1.1.mentions)) is.1.mentions))))
  node_right (StmtNode-F.Each is_final type name e b) = node-from (StmtNode-F.Each is_final type name e b.0) (λ few at locals.
      gives-mapped (λ (parts : (ReadType C × IExpr) × IBlock). (IsReadRightly test reader right type parts.0.0 × Line e parts.0.1)
      × BlockRight test (block_uses b.0) parts.1) _ _ _
      (gives-both (λ (parts : ReadType C × IExpr). IsReadRightly test reader right type parts.0 × Line e parts.1)
      (BlockRight test (block_uses b.0)) _ _
      (gives-both (IsReadRightly test reader right type) (Line e) (read_type reader at type) (read_expr reader locals e)
      (type-gives test reader right at type) (gives-expr test reader right locals e (omega (arith, few))))
      (gives-with_faults (BlockRight test (block_uses b.0)) (redeclared_faults reader at name locals) _ (b.1 (omega (arith, few)) _)))
      (λ parts is. subst (Plain ((type_uses type).is_type && texts.is_name name && is_value e && (block_uses b.0).is_block))
      (nodes.rolls-Each is_final parts.0.0.tree name parts.0.1 parts.1)
      (node-ordinary test _ _ (IStmtNode-F.Each is_final parts.0.0.tree name parts.0.1 parts.1) refl
      (and-imp _ _ _ _ (and-imp _ _ _ _
      (and-imp _ _ _ _ (typed test reader right type parts.0.0.tree is.0.0.as_written (omega (arith, few))) (λ named. named))
      is.0.1.shape.value)
      is.1.formed)
      (passes-both test (type_mentions parts.0.0.tree ++ expr_mentions parts.0.1) (block_mentions parts.1)
      (passes-both test (type_mentions parts.0.0.tree) (expr_mentions parts.0.1) is.0.0.as_written.mentions is.0.1.mentions)
      is.1.mentions))))
  node_right (StmtNode-F.Return e) = node-from (StmtNode-F.Return e) (λ few at locals.
      gives-mapped (MaybeRight test e) (NodeRight test (statement_where (if_any is_value e))) _ (read_maybe reader locals e)
      (gives-maybe locals e few)
      (λ read r. subst (Plain (if_any is_value e)) (nodes.rolls-Return read)
      (node-ordinary test (if_any is_value e) _ (IStmtNode-F.Return read) refl r.value r.mentions)))
  node_right (StmtNode-F.Throw e) = node-from (StmtNode-F.Throw e) (λ few at locals.
      gives-mapped (Line e) (NodeRight test (statement_where (is_value e))) _ (read_expr reader locals e)
      (gives-expr test reader right locals e few)
      (λ read r. subst (Plain (is_value e)) (nodes.rolls-Throw read)
      (node-ordinary test (is_value e) _ (IStmtNode-F.Throw read) refl r.shape.value r.mentions)))
  node_right StmtNode-F.Break = node-from StmtNode-F.Break (λ few at locals. gives-fine (NodeRight test (statement_where true))
      (plain nodes.Break)
      (subst (Plain true) nodes.rolls-Break (node-ordinary test true true IStmtNode-F.Break refl (λ is. is) refl)))
  node_right StmtNode-F.Continue = node-from StmtNode-F.Continue (λ few at locals.
      gives-fine (NodeRight test (statement_where true)) (plain nodes.Continue)
      (subst (Plain true) nodes.rolls-Continue (node-ordinary test true true IStmtNode-F.Continue refl (λ is. is) refl)))
  node_right StmtNode-F.Empty = node-from StmtNode-F.Empty (λ few at locals. gives-fine (NodeRight test (statement_where true))
      (plain nodes.Empty)
      (subst (Plain true) nodes.rolls-Empty (node-ordinary test true true IStmtNode-F.Empty refl (λ is. is) refl)))
  node_right (StmtNode-F.SuperInit args) = node-from (StmtNode-F.SuperInit args) (λ few at locals. gives-super_init args few at locals)

  else-from : (x : Else-F Else StmtNode Block Stmt)
      → ElseTo (else_uses_step (map-Else _ _ _ _ _ _ _ _ else_uses node_uses block_uses stmt_uses x))
      (width_else_step (map-Else _ _ _ _ _ _ _ _ else_width node_width block_width stmt_width x))
      (statements.else_step reader (map-Else _ _ _ _ _ _ _ _ else_reading node_reading (block_reading reader) stmt_reading x))
      → IsElse (roll-Else x)
  else-from x = moved ElseTo
      (sym (fold-roll-Else Bool NodeUses BlockUses StmtUses else_uses_step stmt_node_uses_step block_uses_step stmt_uses_step x))
      (sym (fold-roll-Else ℕ ℕ ℕ ℕ width_else_step width_stmt_node_step width_block_step width_stmt_step x))
      (sym (fold-roll-Else (ReadsTo C IElse) (ℕ → ReadsTo C ReadNode) (ReadsTo C IBlock) (ReadsTo C ReadStatement)
      (statements.else_step reader) (statements.node_step reader) (statements.block_step reader) (statements.stmt_step reader) x))

  else_right : (y : Else-F WithElse WithNode WithBlock WithStmt)
      → IsElse (roll-Else (map-Else _ _ _ _ _ _ _ _ (λ p. p.0) (λ p. p.0) (λ p. p.0) (λ p. p.0) y))
  else_right Else-F.None = else-from Else-F.None (λ few locals. gives-fine (ElseRight test true) elses.None (else-none test))
  else_right (Else-F.Else::Block b) = else-from (Else-F.Else::Block b.0) (λ few locals.
      gives-mapped (BlockRight test (block_uses b.0)) (ElseRight test (block_uses b.0).is_block) (λ block. elses.Block block)
      (block_reading reader b.0 locals).outcome (b.1 few locals) (λ block r. else-block test (block_uses b.0) block r))
  else_right (Else-F.Else::If s) = else-from (Else-F.Else::If s.0) (λ few locals.
      gives-mapped (StmtRight test (stmt_uses s.0)) (ElseRight test (stmt_uses s.0).follows_else) (else_of reader)
      (stmt_reading s.0 locals).outcome (s.1 few locals) (λ read r. else-statement test reader (stmt_uses s.0) read r))

  abbrev trees : List WithStmt → List Stmt
  trees ss = map (λ p. p.0) ss

  gives-items : (ss : List WithStmt) → tallest (map stmt_width (trees ss)) ≤ max_items
      → GivesTo (ItemsRight test (map stmt_uses (trees ss))) (each (map stmt_reading (trees ss)))
  gives-items [] few locals = gives-fine (ItemsRight test []) [] (items-none test)
  gives-items (s ∷ ss) few locals = gives-mapped
      (λ (pair : ReadStatement × List ReadStatement). StmtRight test (stmt_uses s.0) pair.0
      × ItemsRight test (map stmt_uses (trees ss)) pair.1)
      (ItemsRight test (map stmt_uses (trees (s ∷ ss)))) put_first _
      (gives-both (StmtRight test (stmt_uses s.0)) (ItemsRight test (map stmt_uses (trees ss))) (stmt_reading s.0 locals).outcome _
      (s.1 (omega (arith, few)) locals) (gives-items ss (omega (arith, few)) (stmt_reading s.0 locals).locals))
      (λ pair is. items-more test (stmt_uses s.0) pair.0 (map stmt_uses (trees ss)) pair.1 is.0 is.1)

  block_right : (y : Block-F WithElse WithNode WithBlock WithStmt) → IsBlock (blocks.block_of (trees y.items) y.tail)
  block_right y = moved BlockTo
      (sym (fold-roll-Block Bool NodeUses BlockUses StmtUses else_uses_step stmt_node_uses_step block_uses_step stmt_uses_step
      (record { items = trees y.items; tail = y.tail })))
      (sym (fold-roll-Block ℕ ℕ ℕ ℕ width_else_step width_stmt_node_step width_block_step width_stmt_step
      (record { items = trees y.items; tail = y.tail })))
      (sym (fold-roll-Block (ReadsTo C IElse) (ℕ → ReadsTo C ReadNode) (ReadsTo C IBlock) (ReadsTo C ReadStatement)
      (statements.else_step reader) (statements.node_step reader) (statements.block_step reader) (statements.stmt_step reader)
      (record { items = trees y.items; tail = y.tail })))
      (λ few locals. gives-mapped (ItemsRight test (map stmt_uses (trees y.items)))
      (BlockRight test (block_uses_step (record { items = map stmt_uses (trees y.items); tail = y.tail }))) _
      (each (map stmt_reading (trees y.items)) locals).outcome (gives-items y.items few locals)
      (λ reads r. block-right test (map stmt_uses (trees y.items)) reads y.tail r))

  stmt_right : (y : Stmt-F WithElse WithNode WithBlock WithStmt) → IsStmt (record { notes = y.notes; at = y.at; node = y.node.0 })
  stmt_right y = moved StmtTo
      (sym (fold-roll-Stmt Bool NodeUses BlockUses StmtUses else_uses_step stmt_node_uses_step block_uses_step stmt_uses_step
      (record { notes = y.notes; at = y.at; node = y.node.0 })))
      (sym (fold-roll-Stmt ℕ ℕ ℕ ℕ width_else_step width_stmt_node_step width_block_step width_stmt_step
      (record { notes = y.notes; at = y.at; node = y.node.0 })))
      (sym (fold-roll-Stmt (ReadsTo C IElse) (ℕ → ReadsTo C ReadNode) (ReadsTo C IBlock) (ReadsTo C ReadStatement)
      (statements.else_step reader) (statements.node_step reader) (statements.block_step reader) (statements.stmt_step reader)
      (record { notes = y.notes; at = y.at; node = y.node.0 })))
      (λ few locals. gives-mapped (NodeRight test (node_uses y.node.0))
      (StmtRight test (stmt_uses_step (record { notes = y.notes; at = y.at; node = node_uses y.node.0 }))) (statement_of y.notes)
      (node_reading y.node.0 y.at locals).outcome (y.node.1 few y.at locals)
      (λ read r. statement-right test y.notes y.at (node_uses y.node.0) read r))

  all_right : (b : Block) → IsBlock b
  all_right = ind-Block IsElse IsNode IsBlock IsStmt
      (λ x y is. subst (λ z. IsElse (roll-Else z)) is (else_right y))
      (λ x y is. subst (λ z. IsNode (roll-StmtNode z)) is (node_right y))
      (λ x y is. subst (λ z. IsBlock (roll-Block z)) is (block_right y))
      (λ x y is. subst (λ z. IsStmt (roll-Stmt z)) is (stmt_right y))

  -- ---- what members hold

  pub gives-initial : (init : Option Expr) → maybe_width init ≤ max_items → Gives (MaybeRight test init) (read_initial reader init)
  gives-initial init few = gives-maybe no_locals init few

  pub gives-body : (block : Block) → block_width block ≤ max_items
      → Gives (λ (body : IBody). BlockRight test (block_uses block) body.block) (read_body reader block)
  gives-body block few = gives-mapped (BlockRight test (block_uses block))
      (λ (body : IBody). BlockRight test (block_uses block) body.block) _
      (block_reading reader block no_locals).outcome (all_right block few no_locals) (λ read r. r)
