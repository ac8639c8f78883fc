-- The statements and bodies that are read have their forms.
use Rattle.std.specs.Prelude.{◌≡◌, Bool, true, false, ◌&&◌, ◌||◌, not, List, [], ◌∷◌, ◌++◌, map, drop, Some}
use Rattle.std.proofs.Common.{refl, sym, ap, ◌∙◌, true≢false}
use Rattle.std.specs.List.{list_all}
use Rattle.std.proofs.lemmas.List.Folds.{list_all-append}
use Rattle.mol_table_rules.specs.ExpressionForms.{is_expression, is_statement, are_arguments, shape_of}
use Rattle.mol_table_rules.specs.StatementForms.{StatementShape, BlockShape, ordinary, super_first, is_let, are_formed, has_super}
use Rattle.mol_table_rules.specs.StatementForms.{is_body, block_shape, else_step, node_step, block_step, if_step, statement_step}
use Rattle.mol_base.specs.declared.ident.Id.{Id}
use Rattle.mol_values_types.specs.Blocks.{block_of}
use Rattle.mol_values_types.specs.declared.iblock.IBody.{IBody}
use Rattle.mol_values_types.specs.declared.iblock.IElse.TheFolds.{fold-roll-IStmtNode, fold-roll-IBlock, fold-roll-IStmt}
use Rattle.mol_values_types.specs.declared.iblock.IElse.TheOpen.{IStmtNode-F}
use Rattle.mol_values_types.specs.declared.iblock.IElse.TheViews.{roll-IStmt}
use Rattle.mol_values_types.specs.declared.iblock.ILet.{ILet}
use Rattle.mol_values_types.specs.declared.iblock.IStmt.{IStmt}
use Rattle.mol_values_types.specs.declared.iblock.IStmtNode.{IStmtNode}
use Rattle.mol_values_types.specs.declared.iblock.IStmtNode.TheVariants as nodes
use Rattle.mol_values_types.specs.declared.iexpr.Argument.{Argument}
use Rattle.mol_values_types.specs.declared.iexpr.IExpr.{IExpr}
use Rattle.test_op.specs.Given.{are_given, is_first, is_later, are_a_body, node_shape, statement_shape}
use Rattle.test_op.proofs.Shapes.{and-of, given-shapes}

-- ---- statements

pub do_ordinary : (e : IExpr) → is_statement e ≡ true → node_shape (nodes.Do e) ≡ ordinary true
do_ordinary e is =
    ap node_shape (sym (nodes.rolls-Do e))
    ∙ fold-roll-IStmtNode Bool StatementShape BlockShape Bool StatementShape else_step node_step block_step if_step statement_step
    (IStmtNode-F.Do e)
    ∙ ap ordinary is

pub return_ordinary : (e : IExpr) → is_expression e ≡ true → node_shape (nodes.Return (Some e)) ≡ ordinary true
return_ordinary e is =
    ap node_shape (sym (nodes.rolls-Return (Some e)))
    ∙ fold-roll-IStmtNode Bool StatementShape BlockShape Bool StatementShape else_step node_step block_step if_step statement_step
    (IStmtNode-F.Return (Some e))
    ∙ ap ordinary is

pub let_ordinary : (declared : ILet) → is_let declared ≡ true → node_shape (nodes.Let declared) ≡ ordinary true
let_ordinary declared is =
    ap node_shape (sym (nodes.rolls-Let declared))
    ∙ fold-roll-IStmtNode Bool StatementShape BlockShape Bool StatementShape else_step node_step block_step if_step statement_step
    (IStmtNode-F.Let declared)
    ∙ ap ordinary is

pub ruleset ordinaries = (do_ordinary, return_ordinary, let_ordinary)

abbrev stated : IStmtNode → IStmt
stated node = roll-IStmt (record { notes = []; node = node })

stated-shape : (node : IStmtNode) → statement_shape (stated node) ≡ node_shape node
stated-shape node =
    fold-roll-IStmt Bool StatementShape BlockShape Bool StatementShape else_step node_step block_step if_step statement_step
    (record { notes = []; node = node })

pub stated_first : (node : IStmtNode) → node_shape node ≡ ordinary true → is_first (stated node) ≡ true
stated_first node is = ap (λ (shape : StatementShape). shape.formed) (stated-shape node ∙ is)

pub stated_later : (node : IStmtNode) → node_shape node ≡ ordinary true → is_later (stated node) ≡ true
stated_later node is = ap (λ (shape : StatementShape). shape.formed && not shape.is_super) (stated-shape node ∙ is)

pub super_is_first : (constructor : Id) (arguments : List Argument) → are_given arguments ≡ true
    → is_first (stated (nodes.Super constructor arguments)) ≡ true
super_is_first constructor arguments are =
    ap (λ (shape : StatementShape). shape.formed)
    (stated-shape (nodes.Super constructor arguments)
    ∙ ap node_shape (sym (nodes.rolls-Super constructor arguments))
    ∙ fold-roll-IStmtNode Bool StatementShape BlockShape Bool StatementShape else_step node_step block_step if_step statement_step
    (IStmtNode-F.Super constructor arguments))
    ∙ given-shapes arguments are

pub super_default_is_first : (class : Id) → is_first (stated (nodes.SuperDefault class)) ≡ true
super_default_is_first class =
    ap (λ (shape : StatementShape). shape.formed)
    (stated-shape (nodes.SuperDefault class)
    ∙ ap node_shape (sym (nodes.rolls-SuperDefault class))
    ∙ fold-roll-IStmtNode Bool StatementShape BlockShape Bool StatementShape else_step node_step block_step if_step statement_step
    (IStmtNode-F.SuperDefault class))

-- ---- bodies

both : (a b : Bool) → (a && b) ≡ true → (a ≡ true) × (b ≡ true)
both true b e = (refl, e)
both false b e = absurd (true≢false (sym e))

later-first : (item : IStmt) → is_later item ≡ true → is_first item ≡ true
later-first item is = (both (statement_shape item).formed (not (statement_shape item).is_super) is).0

-- a first statement alone
pub body_of_first : (first : IStmt) → is_first first ≡ true → are_a_body (first ∷ []) ≡ true
body_of_first first is = ap (λ b. b && true) is

-- statements, and one more that is no `super(..)`
pub body_and_later : (items : List IStmt) (item : IStmt) → are_a_body items ≡ true → is_later item ≡ true
    → are_a_body (items ++ item ∷ []) ≡ true
body_and_later [] item are is = body_of_first item (later-first item is)
body_and_later (first ∷ rest) item are is =
    let parts = both (is_first first) (list_all is_later rest) are in
    and-of (is_first first) (list_all is_later (rest ++ item ∷ [])) parts.0
    (list_all-append is_later rest (item ∷ []) ∙ and-of (list_all is_later rest) (is_later item && true) parts.1 (ap (λ b. b && true) is))

later-formed : (items : List IStmt) → list_all is_later items ≡ true → are_formed (map statement_shape items) ≡ true
later-formed [] are = refl
later-formed (item ∷ items) are =
    let parts = both (is_later item) (list_all is_later items) are in
    and-of (is_first item) (are_formed (map statement_shape items)) (later-first item parts.0) (later-formed items parts.1)

no-super : (items : List IStmt) → list_all is_later items ≡ true → has_super (map statement_shape items) ≡ false
no-super [] are = refl
no-super (item ∷ items) are =
    let parts = both (is_later item) (list_all is_later items) are in
    neither (statement_shape item).is_super (has_super (map statement_shape items))
    (both (statement_shape item).formed (not (statement_shape item).is_super) parts.0).1 (no-super items parts.1)
  where
    neither : (a b : Bool) → not a ≡ true → b ≡ false → (a || b) ≡ false
    neither true b e f = absurd (true≢false (sym e))
    neither false b e f = f

all-formed : (items : List IStmt) → are_a_body items ≡ true → are_formed (map statement_shape items) ≡ true
all-formed [] are = refl
all-formed (first ∷ rest) are =
    let parts = both (is_first first) (list_all is_later rest) are in
    and-of (is_first first) (are_formed (map statement_shape rest)) parts.0 (later-formed rest parts.1)

no-later-super : (items : List IStmt) → are_a_body items ≡ true → has_super (drop 1 (map statement_shape items)) ≡ false
no-later-super [] are = refl
no-later-super (first ∷ rest) are = no-super rest (both (is_first first) (list_all is_later rest) are).1

abbrev made_body : List IStmt → IBody
made_body items = record { block = block_of items [] }

made-shape : (items : List IStmt) → block_shape (block_of items []) ≡ block_step (record { items = map statement_shape items; tail = [] })
made-shape items =
    fold-roll-IBlock Bool StatementShape BlockShape Bool StatementShape else_step node_step block_step if_step statement_step
    (record { items = items; tail = [] })

-- they are a body
pub body_formed : (items : List IStmt) → are_a_body items ≡ true → is_body (made_body items) ≡ true
body_formed items are =
    ap (λ (shape : BlockShape). shape.body) (made-shape items)
    ∙ and-of (are_formed (map statement_shape items) && true) (not (has_super (drop 1 (map statement_shape items))))
    (and-of (are_formed (map statement_shape items)) true (all-formed items are) refl) (ap not (no-later-super items are))
