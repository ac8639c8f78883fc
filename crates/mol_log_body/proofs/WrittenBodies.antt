-- The written words of a body are in the form.
use Rattle.std.proofs.Common.{◌≡◌, ℕ, Bool, true, List, [], ◌∷◌, ◌++◌, map, length, codes, ap, subst, sym, ◌∙◌, Option}
use Rattle.std.proofs.Common.{append_assoc}
use Rattle.std.proofs.lemmas.List.{length-map}
use Rattle.mol_base.specs.Identity.{spelled_id}
use Rattle.mol_base.specs.declared.ident.Id.{Id}
use Rattle.mol_values_types.specs.Blocks.{block_of, branch_of}
use Rattle.mol_values_types.specs.declared.iblock.IBlock.{IBlock}
use Rattle.mol_values_types.specs.declared.iblock.IBody.{IBody}
use Rattle.mol_values_types.specs.declared.iblock.IDeclarator.{IDeclarator}
use Rattle.mol_values_types.specs.declared.iblock.IElse.{IElse}
use Rattle.mol_values_types.specs.declared.iblock.IElse.TheFolds.{fold-roll-IElse, fold-roll-IStmtNode, fold-roll-IBlock, fold-roll-IIf}
use Rattle.mol_values_types.specs.declared.iblock.IElse.TheFolds.{fold-roll-IStmt}
use Rattle.mol_values_types.specs.declared.iblock.IElse.TheOpen.{IElse-F, IStmtNode-F}
use Rattle.mol_values_types.specs.declared.iblock.IElse.TheVariants as elses
use Rattle.mol_values_types.specs.declared.iblock.IForStart.{IForStart}
use Rattle.mol_values_types.specs.declared.iblock.IIf.{IIf}
use Rattle.mol_values_types.specs.declared.iblock.ILet.{ILet}
use Rattle.mol_values_types.specs.declared.iblock.IStmt.{IStmt}
use Rattle.mol_values_types.specs.declared.iblock.IStmtNode.{IStmtNode}
use Rattle.mol_values_types.specs.declared.iblock.IStmtNode.TheVariants as nodes
use Rattle.mol_values_types.specs.declared.iexpr.Argument.{Argument}
use Rattle.mol_values_types.specs.declared.iexpr.IExpr.{IExpr}
use Rattle.mol_values_types.specs.declared.itype.IType.{IType}
use Rattle.mol_log_expr.specs.Scope.{Scope, no_locals}
use Rattle.mol_log_words.specs.Words.{Word, numeral}
use Rattle.mol_log_body.specs.Bodies.{stmt_of, noted, IsMaybe, without, with, AreDeclared}
use Rattle.mol_log_body.specs.Bodies.{no_names, more_names, IsLet, variables, IsStart, no_start, let_start, do_start, IsSimple, does}
use Rattle.mol_log_body.specs.Bodies.{returns, throws, breaks, continues, empties, IsSuper, super_by, super_default, super_outside}
use Rattle.mol_log_body.specs.Bodies.{IsNode, simple, parent, block, lets, branch, while_loop, for_loop, each_loop, IsBlock, blocks}
use Rattle.mol_log_body.specs.Bodies.{AreStmts, no_stmts, more_stmts, IsStmt, stmt, IsIf, branches, IsElse, no_else, otherwise, else_if}
use Rattle.mol_log_body.specs.Bodies.{IsBody}
use Rattle.mol_log_body.specs.BodyWords.{else_step, node_step, block_step, if_step, statement_step, maybe_words, exprs_words}
use Rattle.mol_log_body.specs.BodyWords.{declarator_words, let_words, body_words, start_words, else_words}
use Rattle.mol_log_body.specs.BodyWords.{node_words, block_words, if_words, statement_words}
use Rattle.mol_log_expr.specs.ExpressionWords.{Ws, expr_words, argument_words, joined}
use Rattle.mol_log_body.specs.StatementHeads.{choice_spelled}
use Rattle.mol_log_words.specs.TypeWords.{type_words}
use Rattle.mol_log_expr.specs.declared.expr_role.ExprRole.{ExprRole}
use Rattle.mol_log_body.specs.declared.stmt_head.Choice.{Choice}
use Rattle.mol_log_body.specs.declared.stmt_head.Choice.TheVariants as choice
use Rattle.mol_log_words.proofs.Numerals.{counts_numeral}
use Rattle.mol_log_words.proofs.Single.{id_again}
use Rattle.mol_log_words.specs.declared.bounds.Bounds.TheVariants as bound
use Rattle.mol_log_body.proofs.Openings.{noted_append}
use Rattle.mol_log_expr.proofs.WrittenExpressions.{written, written_arguments, written_exprs, recount}
use Rattle.mol_log_words.proofs.WrittenTypes.{written_type}

node_block : (b : IBlock) → node_words (nodes.Block b) ≡ block_words b
node_block b = ap node_words (sym (nodes.rolls-Block b))
    ∙ fold-roll-IStmtNode Ws Ws Ws Ws Ws else_step node_step block_step if_step statement_step (IStmtNode-F.IStmtNode::Block b)

node_let : (l : ILet) → node_words (nodes.Let l) ≡ codes "let" ∷ let_words l
node_let l = ap node_words (sym (nodes.rolls-Let l))
    ∙ fold-roll-IStmtNode Ws Ws Ws Ws Ws else_step node_step block_step if_step statement_step (IStmtNode-F.Let l)

node_do : (e : IExpr) → node_words (nodes.Do e) ≡ codes "do" ∷ expr_words e
node_do e = ap node_words (sym (nodes.rolls-Do e))
    ∙ fold-roll-IStmtNode Ws Ws Ws Ws Ws else_step node_step block_step if_step statement_step (IStmtNode-F.Do e)

node_if : (i : IIf) → node_words (nodes.If i) ≡ codes "if" ∷ if_words i
node_if i = ap node_words (sym (nodes.rolls-If i))
    ∙ fold-roll-IStmtNode Ws Ws Ws Ws Ws else_step node_step block_step if_step statement_step (IStmtNode-F.IStmtNode::If i)

node_while : (e : IExpr) (b : IBlock) → node_words (nodes.While e b) ≡ codes "while" ∷ (expr_words e ++ block_words b)
node_while e b = ap node_words (sym (nodes.rolls-While e b))
    ∙ fold-roll-IStmtNode Ws Ws Ws Ws Ws else_step node_step block_step if_step statement_step (IStmtNode-F.While e b)

node_for : (x : IForStart) (e : Option IExpr) (es : List IExpr) (b : IBlock)
    → node_words (nodes.For x e es b) ≡ codes "for" ∷ (start_words x ++ (maybe_words choice.Some e ++ (exprs_words es ++ block_words b)))
node_for x e es b = ap node_words (sym (nodes.rolls-For x e es b))
    ∙ fold-roll-IStmtNode Ws Ws Ws Ws Ws else_step node_step block_step if_step statement_step (IStmtNode-F.For x e es b)

node_each : (f : Bool) (t : IType) (name : Word) (e : IExpr) (b : IBlock) → node_words (nodes.Each f t name e b) ≡ codes "each" ∷
    choice_spelled choice.Final f ∷ (type_words t ++ name ∷ (expr_words e ++ block_words b))
node_each f t name e b = ap node_words (sym (nodes.rolls-Each f t name e b))
    ∙ fold-roll-IStmtNode Ws Ws Ws Ws Ws else_step node_step block_step if_step statement_step (IStmtNode-F.Each f t name e b)

node_return : (e : Option IExpr) → node_words (nodes.Return e) ≡ codes "return" ∷ maybe_words choice.Some e
node_return e = ap node_words (sym (nodes.rolls-Return e))
    ∙ fold-roll-IStmtNode Ws Ws Ws Ws Ws else_step node_step block_step if_step statement_step (IStmtNode-F.Return e)

node_throw : (e : IExpr) → node_words (nodes.Throw e) ≡ codes "throw" ∷ expr_words e
node_throw e = ap node_words (sym (nodes.rolls-Throw e))
    ∙ fold-roll-IStmtNode Ws Ws Ws Ws Ws else_step node_step block_step if_step statement_step (IStmtNode-F.Throw e)

node_break : node_words nodes.Break ≡ codes "break" ∷ []
node_break = ap node_words (sym nodes.rolls-Break)
    ∙ fold-roll-IStmtNode Ws Ws Ws Ws Ws else_step node_step block_step if_step statement_step IStmtNode-F.Break

node_continue : node_words nodes.Continue ≡ codes "continue" ∷ []
node_continue = ap node_words (sym nodes.rolls-Continue)
    ∙ fold-roll-IStmtNode Ws Ws Ws Ws Ws else_step node_step block_step if_step statement_step IStmtNode-F.Continue

node_empty : node_words nodes.Empty ≡ codes "empty" ∷ []
node_empty = ap node_words (sym nodes.rolls-Empty)
    ∙ fold-roll-IStmtNode Ws Ws Ws Ws Ws else_step node_step block_step if_step statement_step IStmtNode-F.Empty

node_super : (id : Id) (args : List Argument) → node_words (nodes.Super id args) ≡ codes "superc" ∷ spelled_id id ∷ numeral
    (length (map argument_words args)) ∷ joined (map argument_words args)
node_super id args = ap node_words (sym (nodes.rolls-Super id args))
    ∙ fold-roll-IStmtNode Ws Ws Ws Ws Ws else_step node_step block_step if_step statement_step (IStmtNode-F.Super id args)

node_super_default : (id : Id) → node_words (nodes.SuperDefault id) ≡ codes "superd" ∷ spelled_id id ∷ []
node_super_default id = ap node_words (sym (nodes.rolls-SuperDefault id))
    ∙ fold-roll-IStmtNode Ws Ws Ws Ws Ws else_step node_step block_step if_step statement_step (IStmtNode-F.SuperDefault id)

node_super_outside : (es : List IExpr) → node_words (nodes.SuperOutside es) ≡ codes "superout" ∷ exprs_words es
node_super_outside es = ap node_words (sym (nodes.rolls-SuperOutside es))
    ∙ fold-roll-IStmtNode Ws Ws Ws Ws Ws else_step node_step block_step if_step statement_step (IStmtNode-F.SuperOutside es)

else_none : else_words elses.None ≡ codes "none" ∷ []
else_none = ap else_words (sym elses.rolls-None)
    ∙ fold-roll-IElse Ws Ws Ws Ws Ws else_step node_step block_step if_step statement_step IElse-F.None

else_block : (b : IBlock) → else_words (elses.Block b) ≡ codes "else" ∷ block_words b
else_block b = ap else_words (sym (elses.rolls-Block b))
    ∙ fold-roll-IElse Ws Ws Ws Ws Ws else_step node_step block_step if_step statement_step (IElse-F.IElse::Block b)

else_if' : (i : IIf) → else_words (elses.If i) ≡ codes "elif" ∷ if_words i
else_if' i = ap else_words (sym (elses.rolls-If i))
    ∙ fold-roll-IElse Ws Ws Ws Ws Ws else_step node_step block_step if_step statement_step (IElse-F.IElse::If i)

block_is : (items : List IStmt) (tail : List Word) → block_words (block_of items tail)
    ≡ codes "block" ∷ ((numeral (length (map statement_words items)) ∷ joined (map statement_words items)) ++ numeral (length tail) ∷ tail)
block_is items tail = fold-roll-IBlock Ws Ws Ws Ws Ws else_step node_step block_step if_step statement_step
    (record { items = items; tail = tail })

if_is : (e : IExpr) (b : IBlock) (x : IElse) → if_words (branch_of e b x) ≡ expr_words e ++ (block_words b ++ else_words x)
if_is e b x = fold-roll-IIf Ws Ws Ws Ws Ws else_step node_step block_step if_step statement_step (record { test = e; then = b; rest = x })

stmt_is : (notes : List Word) (x : IStmtNode) → statement_words (stmt_of notes x) ≡ noted notes (node_words x)
stmt_is notes x = fold-roll-IStmt Ws Ws Ws Ws Ws else_step node_step block_step if_step statement_step (record { notes = notes; node = x })

-- what is added for the comments before a statement, and then for it, are the words of the whole
pub added_statement : (old mid last : Ws) (notes : List Word) (x : IStmt) → notes ≡ x.notes → mid ≡ old ++ noted notes []
    → last ≡ mid ++ node_words x.node → last ≡ old ++ statement_words x
added_statement old mid last notes x same begun ended =
    ended ∙ ap (λ (ws : Ws). ws ++ node_words x.node) (begun ∙ ap (λ (ns : List Word). old ++ noted ns []) same)
    ∙ append_assoc old (noted x.notes []) (node_words x.node)
    ∙ ap (λ (ws : Ws). old ++ ws) (noted_append x.notes [] (node_words x.node) ∙ sym (stmt_is x.notes x.node))

written_maybe : {c : Choice} {r : ExprRole} {d : ℕ} {s : List ℕ} {e : Option IExpr} {ts : List Word} → IsMaybe c r d s e ts
    → IsMaybe c r d s e (maybe_words c e)
written_maybe without = without
written_maybe (with x) = with (written x)

written_declared : {d : ℕ} {s s' : Scope} {ds : List IDeclarator} {ts : List Word} → AreDeclared d s ds s' ts
    → AreDeclared d s ds s' (joined (map declarator_words ds))
written_declared no_names = no_names
written_declared (more_names h i list) = more_names h (written_maybe i) (written_declared list)

written_let : {d : ℕ} {s s' : Scope} {l : ILet} {ts : List Word} → IsLet d s l s' ts → IsLet d s l s' (let_words l)
written_let (variables k {ds = ds} t c list) = rw (length-map ds declarator_words)
    (variables (numeral (length ds)) (written_type t) (recount bound.Positive k (length ds) c) (written_declared list))

written_start : {d : ℕ} {s s' : Scope} {x : IForStart} {ts : List Word} → IsStart d s x s' ts → IsStart d s x s' (start_words x)
written_start no_start = no_start
written_start (let_start l) = let_start (written_let l)
written_start (do_start {k = k} {es = es} c list) =
    rw (length-map es expr_words) (do_start (recount bound.Positive k (length es) c) (written_exprs list))

written_simple : {d : ℕ} {s : List ℕ} {x : IStmtNode} {ts : List Word} → IsSimple d s x ts → IsSimple d s x (node_words x)
written_simple (does x) = rw node_do (does (written x))
written_simple (returns x) = rw node_return (returns (written_maybe x))
written_simple (throws x) = rw node_throw (throws (written x))
written_simple breaks = rw node_break breaks
written_simple continues = rw node_continue continues
written_simple empties = rw node_empty empties

written_super : {d : ℕ} {s : List ℕ} {x : IStmtNode} {ts : List Word} → IsSuper d s x ts → IsSuper d s x (node_words x)
written_super (super_by {id = id} {w = w} {k = k} {args = args} i c list) =
    rw (node_super, length-map args argument_words)
    (super_by (id_again w id i) (recount bound.Few k (length args) c) (written_arguments list))
written_super (super_default {id = id} {w = w} i) = rw node_super_default (super_default (id_again w id i))
written_super (super_outside {k = k} {es = es} c list) = rw (node_super_outside, length-map es expr_words)
    (super_outside (recount bound.Few k (length es) c) (written_exprs list))

mutual
  pub written_node : {first : Bool} {d : ℕ} {s s' : Scope} {x : IStmtNode} {ts : List Word} → IsNode first d s x s' ts
      → IsNode first d s x s' (node_words x)
  written_node (simple x) = simple (written_simple x)
  written_node (parent x) = parent (written_super x)
  written_node (block x) = rw node_block (block (written_block x))
  written_node (lets l) = rw node_let (lets (written_let l))
  written_node (branch i) = rw node_if (branch (written_if i))
  written_node (while_loop x y) = rw node_while (while_loop (written x) (written_block y))
  written_node (for_loop k {es = es} x y c list z) =
      rw (node_for, length-map es expr_words) (for_loop (numeral (length es)) (written_start x) (written_maybe y)
      (recount bound.Any k (length es) c) (written_exprs list) (written_block z))
  written_node (each_loop name t h x z) = rw node_each (each_loop name (written_type t) h (written x) (written_block z))

  pub written_block : {first : Bool} {d : ℕ} {s s' : Scope} {b : IBlock} {ts : List Word} → IsBlock first d s b s' ts
      → IsBlock first d s b s' (block_words b)
  written_block (blocks {items = items} n tail c list t a) =
      rw (block_is, length-map items statement_words)
      (blocks (numeral (length tail)) tail (counts_numeral (length items)) (written_stmts list) (counts_numeral (length tail)) a)

  written_stmts : {first : Bool} {d : ℕ} {s s' : Scope} {xs : List IStmt} {ts : List Word} → AreStmts first d s xs s' ts
      → AreStmts first d s xs s' (joined (map statement_words xs))
  written_stmts no_stmts = no_stmts
  written_stmts (more_stmts x list) = more_stmts (written_stmt x) (written_stmts list)

  written_stmt : {first : Bool} {d : ℕ} {s s' : Scope} {x : IStmt} {ts : List Word} → IsStmt first d s x s' ts
      → IsStmt first d s x s' (statement_words x)
  written_stmt (stmt {x = x} ts c y) = rw stmt_is (stmt (node_words x) c (written_node y))

  written_if : {d : ℕ} {s s' : Scope} {i : IIf} {ts : List Word} → IsIf d s i s' ts → IsIf d s i s' (if_words i)
  written_if (branches x y z) = rw if_is (branches (written x) (written_block y) (written_else z))

  written_else : {d : ℕ} {s s' : Scope} {x : IElse} {ts : List Word} → IsElse d s x s' ts → IsElse d s x s' (else_words x)
  written_else no_else = rw else_none no_else
  written_else (otherwise b) = rw else_block (otherwise (written_block b))
  written_else (else_if i) = rw else_if' (else_if (written_if i))

pub form_of : (body : IBody) (words : List Word) → words ≡ body_words body → (d : ℕ) (ts : List Word) → IsBody d body ts
    → IsBody d body words
form_of body words same d ts h = (h.0, subst (λ ws. IsBlock true d no_locals body.block h.0 ws) (sym same) (written_block h.1))
