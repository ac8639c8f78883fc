-- Bodies that words spell have the forms of the bodies in values.
use Rattle.std.proofs.Common.{◌≡◌, ℕ, List, [], ◌∷◌, map, drop, length, Bool, true, false, Option, None, refl, sym, ap, ◌∙◌, arith}
use Rattle.std.specs.Prelude.{◌&&◌, ◌||◌, not, nat_le, if◌then◌else◌}
use Rattle.std.specs.List.{list_all}
use Rattle.std.specs.Option.{option_map_or}
use Rattle.std.proofs.lemmas.Bool.Decides.{nat_tests}
use Rattle.mol_base.proofs.Tags.{both_true}
use Rattle.mol_table_rules.specs.ExpressionForms.{shape_of, are_values, is_initial, is_expression, is_statement}
use Rattle.mol_table_rules.specs.StatementForms.{StatementShape, BlockShape, is_maybe, is_declarator, is_let, is_start, are_formed, has_super}
use Rattle.mol_table_rules.specs.StatementForms.{else_step, node_step, block_step, if_step, statement_step, block_shape, is_body}
use Rattle.mol_values_types.specs.TokenForms.{is_comment}
use Rattle.mol_table_rules.proofs.KeptBlocks.{else_form, node_shape, if_form, statement_shape}
use Rattle.mol_values_types.specs.Blocks.{block_of, branch_of}
use Rattle.mol_values_types.specs.declared.iblock.IBlock.{IBlock}
use Rattle.mol_values_types.specs.declared.iblock.IBody.{IBody}
use Rattle.mol_values_types.specs.declared.iblock.IDeclarator.{IDeclarator}
use Rattle.mol_values_types.specs.declared.iblock.IElse.{IElse}
use Rattle.mol_values_types.specs.declared.iblock.IElse.TheFolds.{fold-roll-IElse, fold-roll-IStmtNode, fold-roll-IBlock, fold-roll-IIf}
use Rattle.mol_values_types.specs.declared.iblock.IElse.TheFolds.{fold-roll-IStmt, map-IElse, map-IStmtNode}
use Rattle.mol_values_types.specs.declared.iblock.IElse.TheOpen.{IElse-F, IStmtNode-F}
use Rattle.mol_values_types.specs.declared.iblock.IElse.TheVariants as elses
use Rattle.mol_values_types.specs.declared.iblock.IElse.TheViews.{roll-IElse, roll-IStmtNode}
use Rattle.mol_values_types.specs.declared.iblock.IForStart.{IForStart}
use Rattle.mol_values_types.specs.declared.iblock.IIf.{IIf}
use Rattle.mol_values_types.specs.declared.iblock.ILet.{ILet}
use Rattle.mol_values_types.specs.declared.iblock.IStmt.{IStmt}
use Rattle.mol_values_types.specs.declared.iblock.IStmtNode.{IStmtNode}
use Rattle.mol_values_types.specs.declared.iblock.IStmtNode.TheVariants as nodes
use Rattle.mol_values_types.specs.declared.iexpr.Argument.{Argument}
use Rattle.mol_values_types.specs.declared.iexpr.IExpr.{IExpr}
use Rattle.mol_log_words.specs.Words.{Word, within}
use Rattle.mol_log_words.specs.declared.bounds.Bounds.TheVariants.{Positive}
use Rattle.mol_log_expr.specs.Expressions.{AreArguments, no_arguments, more_arguments}
use Rattle.mol_log_expr.specs.Scope.{Scope}
use Rattle.mol_log_expr.specs.declared.expr_role.ExprRole.TheVariants as role
use Rattle.mol_log_body.specs.Bodies.{stmt_of, IsMaybe, without, with, AreDeclared, no_names, more_names, IsLet, variables, IsStart}
use Rattle.mol_log_body.specs.Bodies.{no_start, let_start, do_start, IsSimple, does, returns, throws, breaks, continues, empties}
use Rattle.mol_log_body.specs.Bodies.{IsSuper, super_by, super_default, super_outside, IsNode, simple, parent, block, lets, branch}
use Rattle.mol_log_body.specs.Bodies.{while_loop, for_loop, each_loop, IsBlock, blocks, AreStmts, no_stmts, more_stmts, IsStmt, stmt}
use Rattle.mol_log_body.specs.Bodies.{IsIf, branches, IsElse, no_else, otherwise, else_if, IsBody}
use Rattle.mol_log_body.specs.declared.stmt_head.Choice.{Choice}
use Rattle.mol_log.proofs.entries_lemmas.SpelledExpressions.{fits_role, fits, fit_exprs, few}
use Rattle.mol_log.proofs.entries_lemmas.SpelledTypes.{and-of, value_type}

-- ---- what has no statement in it

some_names : (n : ℕ) → within Positive n ≡ true → nat_le 1 n ≡ true
some_names n is = grind (arith, nat_tests)

maybe_value : {c : Choice} {d : ℕ} {s : List ℕ} {e : Option IExpr} {ts : List Word} → IsMaybe c role.Value d s e ts → is_maybe e ≡ true
maybe_value without = refl
maybe_value (with x) = fits x

maybe_first : {c : Choice} {d : ℕ} {s : List ℕ} {e : Option IExpr} {ts : List Word} → IsMaybe c role.First d s e ts
    → option_map_or is_initial e true ≡ true
maybe_first without = refl
maybe_first (with x) = fits x

declared : {d : ℕ} {s s' : Scope} {ds : List IDeclarator} {ts : List Word} → AreDeclared d s ds s' ts → list_all is_declarator ds ≡ true
declared no_names = refl
declared (more_names h i list) = and-of _ _ (and-of _ _ h (maybe_first i)) (declared list)

let_formed : {d : ℕ} {s s' : Scope} {l : ILet} {ts : List Word} → IsLet d s l s' ts → is_let l ≡ true
let_formed (variables k {ds = ds} t c list) = and-of _ _ (and-of _ _ (value_type t) (some_names (length ds) c.1)) (declared list)

are_statements : (es : List IExpr) → list_all (fits_role role.Statement) (map shape_of es) ≡ true → list_all is_statement es ≡ true
are_statements [] is = refl
are_statements (e ∷ es) is = let parts = both_true (is_statement e) _ is in and-of _ _ parts.0 (are_statements es parts.1)

start_formed : {d : ℕ} {s s' : Scope} {x : IForStart} {ts : List Word} → IsStart d s x s' ts → is_start x ≡ true
start_formed no_start = refl
start_formed (let_start l) = let_formed l
start_formed (do_start {es = es} c list) = and-of _ _ (some_names (length es) c.1) (are_statements es (fit_exprs list))

argument_values : {d : ℕ} {s : List ℕ} {args : List Argument} {ts : List Word} → AreArguments d s args ts
    → are_values (map (λ (argument : Argument). shape_of argument.value) args) ≡ true
argument_values no_arguments = refl
argument_values (more_arguments i x list) = and-of _ _ (fits x) (argument_values list)

-- ---- statements

-- the shape of a statement without its comments, by those of its parts
node_is : {x : IStmtNode} (y : IStmtNode-F IElse IStmtNode IBlock IIf IStmt) → roll-IStmtNode y ≡ x
    → node_shape x ≡ node_step (map-IStmtNode _ _ _ _ _ _ _ _ _ _ else_form node_shape block_shape if_form statement_shape y)
node_is y is =
    ap node_shape (sym is)
    ∙ fold-roll-IStmtNode Bool StatementShape BlockShape Bool StatementShape else_step node_step block_step if_step statement_step y

else_is : {x : IElse} (y : IElse-F IElse IStmtNode IBlock IIf IStmt) → roll-IElse y ≡ x
    → else_form x ≡ else_step (map-IElse _ _ _ _ _ _ _ _ _ _ else_form node_shape block_shape if_form statement_shape y)
else_is y is =
    ap else_form (sym is)
    ∙ fold-roll-IElse Bool StatementShape BlockShape Bool StatementShape else_step node_step block_step if_step statement_step y

block_is : (items : List IStmt) (tail : List Word) → block_shape (block_of items tail)
    ≡ block_step (record { items = map statement_shape items; tail = tail })
block_is items tail =
    fold-roll-IBlock Bool StatementShape BlockShape Bool StatementShape else_step node_step block_step if_step statement_step
    (record { items = items; tail = tail })

if_is : (test : IExpr) (chosen : IBlock) (rest : IElse) → if_form (branch_of test chosen rest)
    ≡ (is_expression test && (block_shape chosen).formed && else_form rest)
if_is test chosen rest =
    fold-roll-IIf Bool StatementShape BlockShape Bool StatementShape else_step node_step block_step if_step statement_step
    (record { test = test; then = chosen; rest = rest })

stmt_is : (notes : List Word) (node : IStmtNode) → statement_shape (stmt_of notes node)
    ≡ statement_step (record { notes = notes; node = node_shape node })
stmt_is notes node =
    fold-roll-IStmt Bool StatementShape BlockShape Bool StatementShape else_step node_step block_step if_step statement_step
    (record { notes = notes; node = node })

-- a statement that may stand first in a body, or anywhere
abbrev stands : Bool → StatementShape → Bool
stands first shape = shape.formed && (first || not shape.is_super)

-- a block that may be a body, or stand anywhere
abbrev block_stands : Bool → BlockShape → Bool
block_stands true shape = shape.body
block_stands false shape = shape.formed

formed : (first : Bool) (shape : StatementShape) → stands first shape ≡ true → shape.formed ≡ true
formed first shape is = (both_true shape.formed (first || not shape.is_super) is).0

-- what is no `super(..)` stands anywhere
anywhere : (first b : Bool) → b ≡ true → (b && (first || true)) ≡ true
anywhere true b is = and-of b true is refl
anywhere false b is = and-of b true is refl

ordinary : {x : IStmtNode} (first : Bool) (y : IStmtNode-F IElse IStmtNode IBlock IIf IStmt) → roll-IStmtNode y ≡ x
    → stands first (node_step (map-IStmtNode _ _ _ _ _ _ _ _ _ _ else_form node_shape block_shape if_form statement_shape y)) ≡ true
    → stands first (node_shape x) ≡ true
ordinary first y is holds = ap (stands first) (node_is y is) ∙ holds

simple_stands : (first : Bool) {d : ℕ} {s : List ℕ} {x : IStmtNode} {ts : List Word} → IsSimple d s x ts
    → stands first (node_shape x) ≡ true
simple_stands first (does {e = e} x) = ordinary first (IStmtNode-F.Do e) (nodes.rolls-Do e) (anywhere first _ (fits x))
simple_stands first (returns {e = e} x) =
    ordinary first (IStmtNode-F.Return e) (nodes.rolls-Return e) (anywhere first _ (maybe_value x))
simple_stands first (throws {e = e} x) = ordinary first (IStmtNode-F.Throw e) (nodes.rolls-Throw e) (anywhere first _ (fits x))
simple_stands first breaks = ordinary first IStmtNode-F.Break nodes.rolls-Break (anywhere first _ refl)
simple_stands first continues = ordinary first IStmtNode-F.Continue nodes.rolls-Continue (anywhere first _ refl)
simple_stands first empties = ordinary first IStmtNode-F.Empty nodes.rolls-Empty (anywhere first _ refl)

super_stands : {d : ℕ} {s : List ℕ} {x : IStmtNode} {ts : List Word} → IsSuper d s x ts → stands true (node_shape x) ≡ true
super_stands (super_by {id = id} {args = args} i c list) =
    ordinary true (IStmtNode-F.Super id args) (nodes.rolls-Super id args)
    (and-of _ true (few (λ (argument : Argument). shape_of argument.value) args (argument_values list) c.1) refl)
super_stands (super_default {id = id} i) = ordinary true (IStmtNode-F.SuperDefault id) (nodes.rolls-SuperDefault id) refl
super_stands (super_outside {es = es} c list) =
    ordinary true (IStmtNode-F.SuperOutside es) (nodes.rolls-SuperOutside es) (and-of _ true (few shape_of es (fit_exprs list) c.1) refl)

-- statements of which the first may be `super(..)`
abbrev list_stands : Bool → List StatementShape → Bool
list_stands true shapes = are_formed shapes && not (has_super (drop 1 shapes))
list_stands false shapes = are_formed shapes && not (has_super shapes)

more_stand : (first : Bool) (shape : StatementShape) (shapes : List StatementShape) → stands first shape ≡ true
    → list_stands false shapes ≡ true → list_stands first (shape ∷ shapes) ≡ true
more_stand true shape shapes is more =
    let parts = both_true (are_formed shapes) (not (has_super shapes)) more in
    and-of _ _ (and-of _ _ (formed true shape is) parts.0) parts.1
more_stand false shape shapes is more =
    let parts = both_true (are_formed shapes) (not (has_super shapes)) more in
    and-of _ _ (and-of _ _ (formed false shape is) parts.0)
    (neither shape.is_super (has_super shapes) (both_true shape.formed (not shape.is_super) is).1 parts.1) where
      neither : (a b : Bool) → not a ≡ true → not b ≡ true → not (a || b) ≡ true
      neither true b x y = x
      neither false b x y = y

block_fits : (first : Bool) (shapes : List StatementShape) (tail : List Word) → list_stands first shapes ≡ true
    → list_all is_comment tail ≡ true → block_stands first (block_step (record { items = shapes; tail = tail })) ≡ true
block_fits true shapes tail is comments =
    let parts = both_true (are_formed shapes) (not (has_super (drop 1 shapes))) is in and-of _ _ (and-of _ _ parts.0 comments) parts.1
block_fits false shapes tail is comments =
    let parts = both_true (are_formed shapes) (not (has_super shapes)) is in and-of _ _ (and-of _ _ parts.0 comments) parts.1

mutual
  node_stands : {first : Bool} {d : ℕ} {s s' : Scope} {x : IStmtNode} {ts : List Word} → IsNode first d s x s' ts
      → stands first (node_shape x) ≡ true
  node_stands {first = first} (simple x) = simple_stands first x
  node_stands (parent x) = super_stands x
  node_stands {first = first} (block {b = b} x) =
      ordinary first (IStmtNode-F.IStmtNode::Block b) (nodes.rolls-Block b) (anywhere first _ (block_formed x))
  node_stands {first = first} (lets {l = l} x) = ordinary first (IStmtNode-F.Let l) (nodes.rolls-Let l) (anywhere first _ (let_formed x))
  node_stands {first = first} (branch {i = i} x) =
      ordinary first (IStmtNode-F.IStmtNode::If i) (nodes.rolls-If i) (anywhere first _ (if_formed x))
  node_stands {first = first} (while_loop {e = e} {b = b} x y) =
      ordinary first (IStmtNode-F.While e b) (nodes.rolls-While e b) (anywhere first _ (and-of _ _ (fits x) (block_formed y)))
  node_stands {first = first} (for_loop {x = x} {e = e} k {es = es} {b = b} starts test c list y) =
      ordinary first (IStmtNode-F.For x e es b) (nodes.rolls-For x e es b)
      (anywhere first _
      (and-of _ _ (and-of _ _ (and-of _ _ (start_formed starts) (maybe_value test)) (are_statements es (fit_exprs list))) (block_formed y)))
  node_stands {first = first} (each_loop {is_final = is_final} {t = t} name {e = e} {b = b} ty h x y) =
      ordinary first (IStmtNode-F.Each is_final t name e b) (nodes.rolls-Each is_final t name e b)
      (anywhere first _ (and-of _ _ (and-of _ _ (and-of _ _ (value_type ty) h) (fits x)) (block_formed y)))

  block_formed : {first : Bool} {d : ℕ} {s s' : Scope} {b : IBlock} {ts : List Word} → IsBlock first d s b s' ts
      → block_stands first (block_shape b) ≡ true
  block_formed {first = first} (blocks {items = items} n tail c list t comments) =
      ap (block_stands first) (block_is items tail) ∙ block_fits first (map statement_shape items) tail (stmts_stand list) comments

  stmts_stand : {first : Bool} {d : ℕ} {s s' : Scope} {xs : List IStmt} {ts : List Word} → AreStmts first d s xs s' ts
      → list_stands first (map statement_shape xs) ≡ true
  stmts_stand {first = true} no_stmts = refl
  stmts_stand {first = false} no_stmts = refl
  stmts_stand {first = first} (more_stmts {x = x} {xs = xs} y list) =
      more_stand first (statement_shape x) (map statement_shape xs) (stmt_stands y) (stmts_stand list)

  stmt_stands : {first : Bool} {d : ℕ} {s s' : Scope} {x : IStmt} {ts : List Word} → IsStmt first d s x s' ts
      → stands first (statement_shape x) ≡ true
  stmt_stands {first = first} (stmt {notes = notes} {x = x} ts comments y) =
      let parts = both_true (node_shape x).formed (first || not (node_shape x).is_super) (node_stands y) in
      ap (stands first) (stmt_is notes x) ∙ and-of _ _ (and-of _ _ comments parts.0) parts.1

  if_formed : {d : ℕ} {s s' : Scope} {i : IIf} {ts : List Word} → IsIf d s i s' ts → if_form i ≡ true
  if_formed (branches {e = e} {b = b} {x = x} test chosen rest) =
      if_is e b x ∙ and-of _ _ (and-of _ _ (fits test) (block_formed chosen)) (else_formed rest)

  else_formed : {d : ℕ} {s s' : Scope} {x : IElse} {ts : List Word} → IsElse d s x s' ts → else_form x ≡ true
  else_formed no_else = else_is IElse-F.None elses.rolls-None
  else_formed (otherwise {b = b} x) = else_is (IElse-F.IElse::Block b) (elses.rolls-Block b) ∙ block_formed x
  else_formed (else_if {i = i} x) = else_is (IElse-F.IElse::If i) (elses.rolls-If i) ∙ if_formed x

pub body_formed : {d : ℕ} {body : IBody} {ts : List Word} → IsBody d body ts → is_body body ≡ true
body_formed x = block_formed x.1
