-- Blocks and statements with the form that their text has, whose mentions pass a test.
use Rattle.std.proofs.Common.{◌≡◌, ℕ, Bool, true, false, ◌&&◌, ◌||◌, not, nat_le, List, [], ◌∷◌, ◌++◌, map, length, drop, Option, Some, None, refl, sym, ◌∙◌, ap, subst, arith, true≢false}
use Rattle.std.proofs.lemmas.Bool.{and_from, or_from, le-leb}
use Rattle.std.specs.List.{list_all, flat_map}
use Rattle.std.specs.Option.{option_map_or}
use Rattle.jav_tree.specs.PrintableExpressions.{is_not_empty}
use Rattle.jav_tree.specs.PrintableStatements as printable
use Rattle.jav_tree.specs.PrintableStatements.{if_any, is_first_value, is_value, is_effect, is_declaration, NodeUses, statement_where, StmtUses, BlockUses, are_statements, are_constructor_statements, else_uses_step, stmt_node_uses_step, block_uses_step, stmt_uses_step, block_uses}
use Rattle.jav_tree.specs.TokenTexts as texts
use Rattle.jav_tree.specs.declared.expr.Expr.{Expr}
use Rattle.jav_tree.specs.declared.stmt.Declarator.{Declarator}
use Rattle.jav_names.specs.DottedNames.{Name}
use Rattle.mol_resolve_rules.specs.Readers.{Reader}
use Rattle.mol_resolve_rules.specs.ReadStatements.{ReadNode, ReadStatement, plain, statement_of, branching, else_of}
use Rattle.mol_table_rules.proofs.KeptBlocks.{else_form, node_shape, if_form, statement_shape, else_mentions, node_mentions, block_mentions, if_mentions, statement_mentions}
use Rattle.mol_table_rules.specs.ExpressionForms.{shape_of, is_initial, is_expression}
use Rattle.mol_table_rules.specs.Mentions as mention
use Rattle.mol_table_rules.specs.Mentions.{Mention, a_class, a_constructor, named, joined, type_mentions, expr_mentions, exprs_mentions, arguments_mentions, maybe_mentions, let_mentions, start_mentions}
use Rattle.mol_table_rules.specs.StatementForms as forms
use Rattle.mol_table_rules.specs.StatementForms.{StatementShape, BlockShape, ordinary, super_first, is_maybe, is_declarator, is_let, is_start, are_formed, has_super, block_shape, is_body}
use Rattle.mol_values_types.specs.Blocks.{block_of, branch_of}
use Rattle.mol_values_types.specs.declared.iblock.IBlock.{IBlock}
use Rattle.mol_values_types.specs.declared.iblock.IDeclarator.{IDeclarator}
use Rattle.mol_values_types.specs.declared.iblock.IElse.{IElse}
use Rattle.mol_values_types.specs.declared.iblock.IElse.TheFolds.{fold-roll-IElse, fold-roll-IStmtNode, fold-roll-IBlock, fold-roll-IIf, fold-roll-IStmt, map-IElse, map-IStmtNode}
use Rattle.mol_values_types.specs.declared.iblock.IElse.TheOpen.{IElse-F, IStmtNode-F}
use Rattle.mol_values_types.specs.declared.iblock.IElse.TheVariants as elses
use Rattle.mol_values_types.specs.declared.iblock.IElse.TheViews.{roll-IElse, roll-IStmtNode}
use Rattle.mol_values_types.specs.declared.iblock.IForStart.{IForStart}
use Rattle.mol_values_types.specs.declared.iblock.IIf.{IIf}
use Rattle.mol_values_types.specs.declared.iblock.ILet.{ILet}
use Rattle.mol_values_types.specs.declared.iblock.IStmt.{IStmt}
use Rattle.mol_values_types.specs.declared.iblock.IStmtNode.{IStmtNode}
use Rattle.mol_values_types.specs.declared.iblock.IStmtNode.TheVariants as nodes
use Rattle.mol_values_types.specs.declared.iexpr.Argument.{Argument}
use Rattle.mol_values_types.specs.declared.iexpr.IExpr.{IExpr}
use Rattle.mol_resolve_rules.proofs.FilesStand.{some-same}
use Rattle.mol_resolve_laws.proofs.Gives.{none-some}
use Rattle.mol_resolve_laws.proofs.Right.{Passes, passes-both}
use Rattle.mol_resolve_laws.proofs.TreesRight.{argument_shape, argument_mentions, shape-is, mentions-are}
use Rattle.mol_resolve_laws.proofs.Tests.{never, first-of, last-of, and-imp}

-- the mentions of a list, one after the other
pub joined-exprs : (es : List IExpr) → joined (map expr_mentions es) ≡ exprs_mentions es
joined-exprs [] = refl
joined-exprs (e ∷ es) = ap (λ rest. expr_mentions e ++ rest) (joined-exprs es)

pub exprs-mentioned : (test : Mention → Bool) (es : List IExpr) → Passes test (joined (map expr_mentions es))
    → Passes test (exprs_mentions es)
exprs-mentioned test es passes = ap (list_all test) (sym (joined-exprs es)) ∙ passes

pub not-empty-some : {X : Type 0} (xs : List X) (ys : List IExpr) → length ys ≡ length xs → is_not_empty xs ≡ true
    → nat_le 1 (length ys) ≡ true
not-empty-some [] ys same is = never is
not-empty-some (x ∷ xs) ys same is = le-leb _ _ (omega (arith, same))

pub joined-arguments : (args : List Argument) → joined (map argument_mentions args) ≡ arguments_mentions args
joined-arguments [] = refl
joined-arguments (argument ∷ args) = λ i. mentions-are argument i ++ joined-arguments args i

pub argument-shapes : (args : List Argument) → map argument_shape args ≡ map (λ (argument : Argument). shape_of argument.value) args
argument-shapes [] = refl
argument-shapes (argument ∷ args) = λ i. shape-is argument i ∷ argument-shapes args i

pub all-mapped : {X Y : Type 0} (p : Y → Bool) (f : X → Y) (xs : List X) → list_all p (map f xs) ≡ list_all (λ x. p (f x)) xs
all-mapped p f [] = refl
all-mapped p f (x ∷ xs) = ap (λ b. p (f x) && b) (all-mapped p f xs)

-- ---- what is read

module _ (test : Mention → Bool) where
  -- an expression that there may be
  pub record MaybeRight (e : Option Expr) (read : Option IExpr) : Type 0 where
    pub value : if_any is_value e ≡ true → is_maybe read ≡ true
    pub first : if_any is_first_value e ≡ true → option_map_or is_initial read true ≡ true
    pub mentions : Passes test (maybe_mentions read)

  pub record DeclaratorRight (d : Declarator) (read : IDeclarator) : Type 0 where
    pub formed : printable.is_declarator d ≡ true → is_declarator read ≡ true
    pub mentions : Passes test (maybe_mentions read.init)

  pub record DeclaratorsRight (ds : List Declarator) (read : List IDeclarator) : Type 0 where
    pub formed : list_all printable.is_declarator ds ≡ true → list_all is_declarator read ≡ true
    pub mentions : Passes test (flat_map (λ (d : IDeclarator). maybe_mentions d.init) read)
    pub some : is_not_empty ds ≡ true → nat_le 1 (length read) ≡ true

  pub record LetRight (uses : Bool) (read : ILet) : Type 0 where
    pub formed : uses ≡ true → is_let read ≡ true
    pub mentions : Passes test (let_mentions read)

  pub record StartRight (uses : Bool) (read : IForStart) : Type 0 where
    pub formed : uses ≡ true → is_start read ≡ true
    pub mentions : Passes test (start_mentions read)

  pub record BranchRight (uses : Bool) (branch : IIf) : Type 0 where
    pub formed : uses ≡ true → if_form branch ≡ true
    pub mentions : Passes test (if_mentions branch)

  pub record ElseRight (uses : Bool) (read : IElse) : Type 0 where
    pub formed : uses ≡ true → else_form read ≡ true
    pub mentions : Passes test (else_mentions read)

  pub record IsOrdinary (shape : StatementShape) : Type 0 where
    pub formed : shape.formed ≡ true
    pub no_super : shape.is_super ≡ false

  pub record NodeRight (uses : NodeUses) (read : ReadNode) : Type 0 where
    pub statement : uses.is_statement ≡ true → IsOrdinary (node_shape read.node)
    pub super : uses.is_super ≡ true → (node_shape read.node).formed ≡ true
    pub choice : uses.is_choice ≡ true → IsOrdinary (node_shape read.node)
    pub branches : (branch : IIf) → read.branches ≡ Some branch → BranchRight uses.is_choice branch
    pub mentions : Passes test (node_mentions read.node)

  pub record StmtRight (uses : StmtUses) (read : ReadStatement) : Type 0 where
    pub statement : uses.is_statement ≡ true → IsOrdinary (statement_shape read.statement)
    pub super : uses.is_super ≡ true → (statement_shape read.statement).formed ≡ true
    pub choice : uses.follows_else ≡ true → IsOrdinary (statement_shape read.statement)
    pub branches : (branch : IIf) → read.branches ≡ Some branch → BranchRight uses.follows_else branch
    pub mentions : Passes test (statement_mentions read.statement)

  abbrev pub shapes : List ReadStatement → List StatementShape
  shapes reads = map statement_shape (map (λ (read : ReadStatement). read.statement) reads)

  pub record ItemsRight (uses : List StmtUses) (reads : List ReadStatement) : Type 0 where
    pub formed : are_statements uses ≡ true → are_formed (shapes reads) ≡ true
    pub no_super : are_statements uses ≡ true → has_super (shapes reads) ≡ false
    pub constructor_formed : are_constructor_statements uses ≡ true → are_formed (shapes reads) ≡ true
    pub no_later_super : are_constructor_statements uses ≡ true → has_super (drop 1 (shapes reads)) ≡ false
    pub mentions : Passes test (joined (map statement_mentions (map (λ (read : ReadStatement). read.statement) reads)))

  pub record BlockRight (uses : BlockUses) (read : IBlock) : Type 0 where
    pub formed : uses.is_block ≡ true → (block_shape read).formed ≡ true
    pub body : uses.is_block ≡ true → (block_shape read).body ≡ true
    pub constructor : uses.is_constructor_block ≡ true → (block_shape read).body ≡ true
    pub mentions : Passes test (block_mentions read)

  -- ---- nodes

  abbrev pub shaped : IStmtNode-F IElse IStmtNode IBlock IIf IStmt → StatementShape
  shaped x = forms.node_step (map-IStmtNode _ _ _ _ _ _ _ _ _ _ else_form node_shape block_shape if_form statement_shape x)

  abbrev pub mentioned : IStmtNode-F IElse IStmtNode IBlock IIf IStmt → List Mention
  mentioned x = mention.node_step
      (map-IStmtNode _ _ _ _ _ _ _ _ _ _ else_mentions node_mentions block_mentions if_mentions statement_mentions x)

  shape-rolled : (x : IStmtNode-F IElse IStmtNode IBlock IIf IStmt) → node_shape (roll-IStmtNode x) ≡ shaped x
  shape-rolled x = fold-roll-IStmtNode Bool StatementShape BlockShape Bool StatementShape forms.else_step forms.node_step forms.block_step
      forms.if_step forms.statement_step x

  mentions-rolled : (x : IStmtNode-F IElse IStmtNode IBlock IIf IStmt) → node_mentions (roll-IStmtNode x) ≡ mentioned x
  mentions-rolled x = fold-roll-IStmtNode (List Mention) (List Mention) (List Mention) (List Mention) (List Mention) mention.else_step
      mention.node_step mention.block_step mention.if_step mention.statement_step x

  no-branches : (uses : Bool) (branch : IIf) → None ≡ Some branch → BranchRight uses branch
  no-branches uses branch is = absurd (none-some is)

  -- a statement that is neither an `if` nor `super(..)`
  pub node-ordinary : (a b : Bool) (x : IStmtNode-F IElse IStmtNode IBlock IIf IStmt) → shaped x ≡ ordinary b → (a ≡ true → b ≡ true)
      → Passes test (mentioned x) → NodeRight (statement_where a) (plain (roll-IStmtNode x))
  node-ordinary a b x shape holds mentions = record {
    statement = λ is. record {
      formed = ap (λ (s : StatementShape). s.formed) (shape-rolled x ∙ shape) ∙ holds is;
      no_super = ap (λ (s : StatementShape). s.is_super) (shape-rolled x ∙ shape);
    };
    super = never;
    choice = never;
    branches = no-branches false;
    mentions = ap (list_all test) (mentions-rolled x) ∙ mentions;
  }

  -- `super(..)`
  pub node-super : (a b : Bool) (x : IStmtNode-F IElse IStmtNode IBlock IIf IStmt) → shaped x ≡ super_first b → (a ≡ true → b ≡ true)
      → Passes test (mentioned x)
      → NodeRight (record { is_statement = false; is_super = a; is_choice = false }) (plain (roll-IStmtNode x))
  node-super a b x shape holds mentions = record {
    statement = never;
    super = λ is. ap (λ (s : StatementShape). s.formed) (shape-rolled x ∙ shape) ∙ holds is;
    choice = never;
    branches = no-branches false;
    mentions = ap (list_all test) (mentions-rolled x) ∙ mentions;
  }

  pub node-if : (a : Bool) (branch : IIf) → BranchRight a branch
      → NodeRight (record { is_statement = a; is_super = false; is_choice = a }) (branching branch)
  node-if a branch right = record {
    statement = λ is. by is;
    super = never;
    choice = λ is. by is;
    branches = λ other same. subst (BranchRight a) (some-same same) right;
    mentions = ap (λ n. list_all test (node_mentions n)) (sym (nodes.rolls-If branch))
        ∙ ap (list_all test) (mentions-rolled (IStmtNode-F.IStmtNode::If branch)) ∙ right.mentions;
  } where
    shape : node_shape (nodes.If branch) ≡ ordinary (if_form branch)
    shape = ap node_shape (sym (nodes.rolls-If branch)) ∙ shape-rolled (IStmtNode-F.IStmtNode::If branch)

    by : a ≡ true → IsOrdinary (node_shape (nodes.If branch))
    by is = record {
      formed = ap (λ (s : StatementShape). s.formed) shape ∙ right.formed is;
      no_super = ap (λ (s : StatementShape). s.is_super) shape;
    }

  pub branch-of : (e : Bool) (b : BlockUses) (o : Bool) (t : IExpr) (then : IBlock) (rest : IElse) → (e ≡ true → is_expression t ≡ true)
      → Passes test (expr_mentions t) → BlockRight b then → ElseRight o rest
      → BranchRight (e && b.is_block && o) (branch_of t then rest)
  branch-of e b o t then rest value passes block other = record {
    formed = λ is. fold-roll-IIf Bool StatementShape BlockShape Bool StatementShape forms.else_step forms.node_step forms.block_step
        forms.if_step forms.statement_step (record { test = t; then = then; rest = rest })
        ∙ and_from _ _ (and_from _ _ (value (first-of _ _ (first-of _ _ is))) (block.formed (last-of _ _ (first-of _ _ is))))
        (other.formed (last-of _ _ is));
    mentions = ap (list_all test) (fold-roll-IIf (List Mention) (List Mention) (List Mention) (List Mention) (List Mention)
        mention.else_step mention.node_step mention.block_step mention.if_step mention.statement_step
        (record { test = t; then = then; rest = rest }))
        ∙ passes-both test (expr_mentions t ++ block_mentions then) (else_mentions rest)
        (passes-both test (expr_mentions t) (block_mentions then) passes block.mentions) other.mentions;
  }

  -- ---- statements and blocks

  statement-shape : (notes : List Name) (n : IStmtNode) → statement_shape (record { notes = notes; node = n })
      ≡ forms.statement_step (record { notes = notes; node = node_shape n })
  statement-shape notes n = fold-roll-IStmt Bool StatementShape BlockShape Bool StatementShape forms.else_step forms.node_step
      forms.block_step forms.if_step forms.statement_step (record { notes = notes; node = n })

  statement-mentions : (notes : List Name) (n : IStmtNode) → statement_mentions (record { notes = notes; node = n }) ≡ node_mentions n
  statement-mentions notes n = fold-roll-IStmt (List Mention) (List Mention) (List Mention) (List Mention) (List Mention)
      mention.else_step mention.node_step mention.block_step mention.if_step mention.statement_step (record { notes = notes; node = n })

  pub statement-right : (notes : List Name) (at : ℕ) (uses : NodeUses) (read : ReadNode) → NodeRight uses read
      → StmtRight (stmt_uses_step (record { notes = notes; at = at; node = uses })) (statement_of notes read)
  statement-right notes at uses read right = record {
    statement = λ is. made (first-of _ _ is) (right.statement (last-of _ _ is));
    super = λ is. ap (λ (s : StatementShape). s.formed) (statement-shape notes read.node)
        ∙ and_from _ _ (first-of _ _ is) (right.super (last-of _ _ is));
    choice = follows notes made;
    branches = λ branch same. let b = right.branches branch same in record {
      formed = λ is. b.formed (last-of _ _ is);
      mentions = b.mentions;
    };
    mentions = ap (list_all test) (statement-mentions notes read.node) ∙ right.mentions;
  } where
    made : texts.are_comments notes ≡ true → IsOrdinary (node_shape read.node)
        → IsOrdinary (statement_shape (record { notes = notes; node = read.node }))
    made comments ordinary = record {
      formed = ap (λ (s : StatementShape). s.formed) (statement-shape notes read.node) ∙ and_from _ _ comments ordinary.formed;
      no_super = ap (λ (s : StatementShape). s.is_super) (statement-shape notes read.node) ∙ ordinary.no_super;
    }

    follows : (xs : List Name) → (texts.are_comments xs ≡ true → IsOrdinary (node_shape read.node)
        → IsOrdinary (statement_shape (record { notes = xs; node = read.node })))
        → (stmt_uses_step (record { notes = xs; at = at; node = uses })).follows_else ≡ true
        → IsOrdinary (statement_shape (record { notes = xs; node = read.node }))
    follows [] made is = made refl (right.choice is)
    follows (x ∷ xs) made is = never is

  pub items-none : ItemsRight [] []
  items-none = record {
    formed = λ is. refl;
    no_super = λ is. refl;
    constructor_formed = λ is. refl;
    no_later_super = λ is. refl;
    mentions = refl;
  }

  pub items-more : (u : StmtUses) (read : ReadStatement) (uses : List StmtUses) (reads : List ReadStatement) → StmtRight u read
      → ItemsRight uses reads → ItemsRight (u ∷ uses) (read ∷ reads)
  items-more u read uses reads right rest = record {
    formed = and-imp _ _ _ _ (λ is. (right.statement is).formed) rest.formed;
    no_super = λ is. or_from _ _ (right.statement (first-of _ _ is)).no_super (rest.no_super (last-of _ _ is));
    constructor_formed = and-imp _ _ _ _ (either u.is_statement u.is_super refl refl) rest.formed;
    no_later_super = λ is. rest.no_super (last-of _ _ is);
    mentions = passes-both test (statement_mentions read.statement)
        (joined (map statement_mentions (map (λ (read : ReadStatement). read.statement) reads))) right.mentions rest.mentions;
  } where
    either : (a b : Bool) → u.is_statement ≡ a → u.is_super ≡ b → (a || b) ≡ true → (statement_shape read.statement).formed ≡ true
    either true b statement super is = (right.statement statement).formed
    either false b statement super is = right.super (super ∙ is)

  pub block-right : (uses : List StmtUses) (reads : List ReadStatement) (tail : List Name) → ItemsRight uses reads
      → BlockRight (block_uses_step (record { items = uses; tail = tail }))
      (block_of (map (λ (read : ReadStatement). read.statement) reads) tail)
  block-right uses reads tail right = record {
    formed = λ is. ap (λ (s : BlockShape). s.formed) shape ∙ and_from _ _ (and_from _ _ (right.formed (first-of _ _ is)) (last-of _ _ is))
        (ap not (right.no_super (first-of _ _ is)));
    body = λ is. ap (λ (s : BlockShape). s.body) shape ∙ and_from _ _ (and_from _ _ (right.formed (first-of _ _ is)) (last-of _ _ is))
        (ap not (later (shapes reads) (right.no_super (first-of _ _ is))));
    constructor = λ is. ap (λ (s : BlockShape). s.body) shape
        ∙ and_from _ _ (and_from _ _ (right.constructor_formed (first-of _ _ is)) (last-of _ _ is))
        (ap not (right.no_later_super (first-of _ _ is)));
    mentions = ap (list_all test) (fold-roll-IBlock (List Mention) (List Mention) (List Mention) (List Mention) (List Mention)
        mention.else_step mention.node_step mention.block_step mention.if_step mention.statement_step
        (record { items = map (λ (read : ReadStatement). read.statement) reads; tail = tail })) ∙ right.mentions;
  } where
    shape : block_shape (block_of (map (λ (read : ReadStatement). read.statement) reads) tail)
        ≡ forms.block_step (record { items = shapes reads; tail = tail })
    shape = fold-roll-IBlock Bool StatementShape BlockShape Bool StatementShape forms.else_step forms.node_step forms.block_step
        forms.if_step forms.statement_step (record { items = map (λ (read : ReadStatement). read.statement) reads; tail = tail })

    later : (ss : List StatementShape) → has_super ss ≡ false → has_super (drop 1 ss) ≡ false
    later [] is = refl
    later (s ∷ ss) is = by s.is_super is where
      by : (b : Bool) → (b || has_super ss) ≡ false → has_super ss ≡ false
      by true none = absurd (true≢false none)
      by false none = none

  -- ---- what follows `else`

  else-rolled : (x : IElse-F IElse IStmtNode IBlock IIf IStmt) (a : Bool)
      → (a ≡ true → forms.else_step (map-IElse _ _ _ _ _ _ _ _ _ _ else_form node_shape block_shape if_form statement_shape x) ≡ true)
      → Passes test (mention.else_step
      (map-IElse _ _ _ _ _ _ _ _ _ _ else_mentions node_mentions block_mentions if_mentions statement_mentions x))
      → ElseRight a (roll-IElse x)
  else-rolled x a formed mentions = record {
    formed = λ is. fold-roll-IElse Bool StatementShape BlockShape Bool StatementShape forms.else_step forms.node_step forms.block_step
        forms.if_step forms.statement_step x ∙ formed is;
    mentions = ap (list_all test) (fold-roll-IElse (List Mention) (List Mention) (List Mention) (List Mention) (List Mention)
        mention.else_step mention.node_step mention.block_step mention.if_step mention.statement_step x) ∙ mentions;
  }

  pub else-none : ElseRight true elses.None
  else-none = subst (ElseRight true) elses.rolls-None (else-rolled IElse-F.None true (λ is. refl) refl)

  pub else-block : (uses : BlockUses) (block : IBlock) → BlockRight uses block → ElseRight uses.is_block (elses.Block block)
  else-block uses block right = subst (ElseRight uses.is_block) (elses.rolls-Block block)
      (else-rolled (IElse-F.IElse::Block block) uses.is_block right.formed right.mentions)

  else-branch : (a : Bool) (branch : IIf) → BranchRight a branch → ElseRight a (elses.If branch)
  else-branch a branch right = subst (ElseRight a) (elses.rolls-If branch)
      (else-rolled (IElse-F.IElse::If branch) a right.formed right.mentions)

  pub else-statement : {C M : Type 0} (reader : Reader C M) (uses : StmtUses) (read : ReadStatement) → StmtRight uses read
      → ElseRight uses.follows_else (else_of reader read)
  else-statement reader uses read right = by read.branches refl where
    by : (branches : Option IIf) → read.branches ≡ branches → ElseRight uses.follows_else
        (option_map_or (λ branches. elses.If branches) branches (elses.Block (block_of (read.statement ∷ []) [])))
    by (Some branch) is = else-branch uses.follows_else branch (right.branches branch is)
    by None is = let single = block-right (record { is_statement = uses.follows_else; is_super = false; follows_else = false } ∷ [])
        (read ∷ []) []
        (items-more (record { is_statement = uses.follows_else; is_super = false; follows_else = false }) read [] []
        (record {
          statement = right.choice;
          super = never;
          choice = never;
          branches = λ b same. absurd (none-some (sym is ∙ same));
          mentions = right.mentions;
        }) items-none) in
        subst (ElseRight uses.follows_else) (elses.rolls-Block (block_of (read.statement ∷ []) []))
        (else-rolled (IElse-F.IElse::Block (block_of (read.statement ∷ []) [])) uses.follows_else
        (λ holds. single.formed (and_from _ true (and_from _ true holds refl) refl)) single.mentions)
