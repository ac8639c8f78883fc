-- The word form of bodies as a function.
use Rattle.std.specs.Prelude.{ℕ, zero, suc, Bool, true, false, if◌then◌else◌, nat_lt, List, [], ◌∷◌, ◌++◌, Ok, Err, Option, Some, None}
use Rattle.mol_base.specs.Spelled.{id_of}
use Rattle.mol_values_types.specs.Blocks.{block_of, branch_of}
use Rattle.mol_values_types.specs.declared.iblock.IBlock.{IBlock}
use Rattle.mol_values_types.specs.declared.iblock.IBody.{IBody}
use Rattle.mol_values_types.specs.declared.iblock.IDeclarator.{IDeclarator}
use Rattle.mol_values_types.specs.declared.iblock.IElse.{IElse}
use Rattle.mol_values_types.specs.declared.iblock.IElse.TheVariants as elses
use Rattle.mol_values_types.specs.declared.iblock.IForStart.{IForStart}
use Rattle.mol_values_types.specs.declared.iblock.IForStart.TheVariants as starts
use Rattle.mol_values_types.specs.declared.iblock.IIf.{IIf}
use Rattle.mol_values_types.specs.declared.iblock.ILet.{ILet}
use Rattle.mol_values_types.specs.declared.iblock.IStmt.{IStmt}
use Rattle.mol_values_types.specs.declared.iblock.IStmtNode.{IStmtNode}
use Rattle.mol_values_types.specs.declared.iblock.IStmtNode.TheVariants as nodes
use Rattle.mol_values_types.specs.declared.iexpr.IExpr.{IExpr}
use Rattle.mol_log_words.specs.Words.{Word, has_form, count_of}
use Rattle.mol_log_expr.specs.Scope.{Scope, declaring, closed, no_locals}
use Rattle.mol_log_words.specs.Reader.{Outcome, Parser, ◌>>=◌, pure, refuse, take, passing, repeat}
use Rattle.mol_log_words.specs.TypeReader.{type_name}
use Rattle.mol_log_words.specs.Types.{most_dimensions}
use Rattle.mol_log_expr.specs.ExpressionReader.{expr, exprs_in, arguments}
use Rattle.mol_log_body.specs.Bodies.{declarator_of, let_of, stmt_of, body_of}
use Rattle.mol_log_body.specs.StatementHeads.{is_block, is_note, marked, choice_of, else_head_of, start_head_of, node_head_of}
use Rattle.mol_log_words.specs.declared.bounds.Bounds.TheVariants as bound
use Rattle.mol_log_body.specs.declared.branches.Branches.{Branches}
use Rattle.mol_log_body.specs.declared.lists.Opening.{Opening}
use Rattle.mol_log_body.specs.declared.loop_header.LoopHeader.{LoopHeader}
use Rattle.mol_log_body.specs.declared.loop_header.LoopHeader.TheVariants as header
use Rattle.mol_log_expr.specs.declared.expr_role.ExprRole.{ExprRole}
use Rattle.mol_log_expr.specs.declared.expr_role.ExprRole.TheVariants as role
use Rattle.mol_log_words.specs.declared.type_role.TypeRole.TheVariants as type_role
use Rattle.mol_log_body.specs.declared.stmt_head.Choice.{Choice}
use Rattle.mol_log_body.specs.declared.stmt_head.Choice.TheVariants as choice
use Rattle.mol_log_body.specs.declared.stmt_head.NodeHead.{NodeHead}
use Rattle.mol_log_body.specs.declared.stmt_head.NodeHead.TheVariants.{Block, Let, If, Loop, Simple, Super}
use Rattle.mol_log_body.specs.declared.stmt_head.LoopHead.{LoopHead}
use Rattle.mol_log_body.specs.declared.stmt_head.LoopHead.TheVariants as repeated
use Rattle.mol_log_body.specs.declared.stmt_head.SimpleHead.{SimpleHead}
use Rattle.mol_log_body.specs.declared.stmt_head.SimpleHead.TheVariants as simple
use Rattle.mol_log_body.specs.declared.stmt_head.SuperHead.{SuperHead}
use Rattle.mol_log_body.specs.declared.stmt_head.SuperHead.TheVariants as parent
use Rattle.mol_log_body.specs.declared.stmt_head.ElseHead.{ElseHead}
use Rattle.mol_log_body.specs.declared.stmt_head.ElseHead.TheVariants as otherwise
use Rattle.mol_log_body.specs.declared.stmt_head.StartHead.{StartHead}
use Rattle.mol_log_body.specs.declared.stmt_head.StartHead.TheVariants as start
use Rattle.mol_log_words.specs.declared.text_form.TextForm.TheVariants as form

abbrev pub after : {A : Type 0} → Scope → A → A × Scope
after s a = (a, s)

-- ---- comments

abbrev pub comment : Parser Word
comment = take (passing (has_form form.Comment))

abbrev pub comments : Parser (List Word)
comments = do
  n ← take (count_of bound.Any true)
  repeat comment n []

-- whether the next word is `note`
unfoldable pub at_note : List Word → Bool
at_note [] = false
at_note (w ∷ ts) = is_note w

abbrev pub opened : List Word → NodeHead → Opening
opened notes head = record { notes = notes; head = head }

abbrev pub headed : List Word → Word → List Word → Option NodeHead → Outcome Opening
headed notes w ts (Some head) = Ok (opened notes head, ts)
headed notes w ts None = Err (w ∷ ts)

-- any number of comments, each after the word `note`, and then the first word of a statement
unfoldable pub opening : Bool → ℕ → List Word → Parser Opening
opening first d notes [] = Err []
opening first d notes (w ∷ []) = if is_note w then Err [] else headed notes w [] (node_head_of first d w)
opening first d notes (w ∷ c ∷ ts) =
    if is_note w then (if has_form form.Comment c then opening first d (notes ++ c ∷ []) ts else Err (c ∷ ts))
    else headed notes w (c ∷ ts) (node_head_of first d w)

-- ---- parts of statements, with expressions no higher than d

abbrev pub maybe_by : ExprRole → ℕ → List ℕ → Bool → Parser (Option IExpr)
maybe_by role d locals false = pure None
maybe_by role d locals true = do
  e ← expr d locals role
  pure (Some e)

abbrev pub maybe : Choice → ExprRole → ℕ → List ℕ → Parser (Option IExpr)
maybe choice role d locals = take (choice_of choice (nat_lt 0 d)) >>= maybe_by role d locals

abbrev pub declarator : ℕ → Scope → Parser (IDeclarator × Scope)
declarator d s = do
  name ← take (passing (has_form form.Name))
  init ← maybe choice.Init role.First d (declaring s).locals
  pure (after (declaring s) (declarator_of name init))

-- n variables after others
unfoldable pub declared : ℕ → ℕ → List IDeclarator → Scope → Parser (List IDeclarator × Scope)
declared d zero all s = pure (after s all)
declared d (suc n) all s = declarator d s >>= (λ x. declared d n (all ++ x.0 ∷ []) x.1)

abbrev pub declarators : ℕ → Scope → Parser (List IDeclarator × Scope)
declarators d s = do
  n ← take (count_of bound.Positive true)
  declared d n [] s

abbrev pub variables : ℕ → Scope → Parser (ILet × Scope)
variables d s = do
  is_final ← take (choice_of choice.Final true)
  t ← type_name type_role.Value most_dimensions
  names ← declarators d s
  pure (after names.1 (let_of is_final t names.0))

abbrev pub start_by : ℕ → Scope → StartHead → Parser (IForStart × Scope)
start_by d s start.None = pure (after s starts.None)
start_by d s start.Let = do
  l ← variables d s
  pure (after l.1 (starts.Let l.0))
start_by d s start.Do = do
  es ← exprs_in d (expr d s.locals) bound.Positive role.Statement
  pure (after s (starts.Do es))

abbrev pub for_start : ℕ → Scope → Parser (IForStart × Scope)
for_start d s = take (start_head_of d) >>= start_by d s

abbrev pub simple_by : ℕ → List ℕ → SimpleHead → Parser IStmtNode
simple_by d locals simple.Do = do
  e ← expr d locals role.Statement
  pure (nodes.Do e)
simple_by d locals simple.Return = do
  e ← maybe choice.Some role.Value d locals
  pure (nodes.Return e)
simple_by d locals simple.Throw = do
  e ← expr d locals role.Value
  pure (nodes.Throw e)
simple_by d locals simple.Break = pure nodes.Break
simple_by d locals simple.Continue = pure nodes.Continue
simple_by d locals simple.Empty = pure nodes.Empty

abbrev pub super_by : ℕ → List ℕ → SuperHead → Parser IStmtNode
super_by d locals parent.Constructor = do
  id ← take id_of
  args ← arguments d (expr d locals)
  pure (nodes.Super id args)
super_by d locals parent.Default = do
  id ← take id_of
  pure (nodes.SuperDefault id)
super_by d locals parent.Outside = do
  es ← exprs_in d (expr d locals) bound.Few role.Value
  pure (nodes.SuperOutside es)

-- ---- what stands before the block of a loop

abbrev pub for_header : ℕ → Scope → Parser (LoopHeader × Scope)
for_header d s = do
  x ← for_start d s
  e ← maybe choice.Some role.Value d x.1.locals
  es ← exprs_in d (expr d x.1.locals) bound.Any role.Statement
  pure (after x.1 (header.For x.0 e es))

abbrev pub each_parts : ℕ → List ℕ → Parser LoopHeader
each_parts d locals = do
  is_final ← take (choice_of choice.Final true)
  t ← type_name type_role.Value most_dimensions
  name ← take (passing (has_form form.Name))
  e ← expr d locals role.Value
  pure (header.Each is_final t name e)

abbrev pub each_header : ℕ → Scope → Parser (LoopHeader × Scope)
each_header d s = do
  x ← each_parts d s.locals
  pure (after (declaring s) x)

abbrev pub header_by : ℕ → Scope → LoopHead → Parser (LoopHeader × Scope)
header_by d s repeated.While = do
  e ← expr d s.locals role.Value
  pure (after s (header.While e))
header_by d s repeated.For = for_header d s
header_by d s repeated.Each = each_header d s

abbrev pub looped : LoopHeader → IBlock → IStmtNode
looped (header.While e) b = nodes.While e b
looped (header.For x e es) b = nodes.For x e es b
looped (header.Each is_final t name e) b = nodes.Each is_final t name e b

-- ---- statements and blocks

-- readers of what is no higher than some height: a statement, what stands after the word `block`, and what follows the branch of an `if`
pub record Level : Type 0 where
  pub stmt : Bool → Scope → Parser (IStmt × Scope)
  pub items' : Bool → Scope → Parser (IBlock × Scope)
  pub else_part : Scope → Parser (IElse × Scope)

abbrev pub block_by : (Scope → Parser (IBlock × Scope)) → Scope → Parser (IBlock × Scope)
block_by rest s = take (marked is_block) >>= (λ mark. rest s)

-- n statements after others, of which the next is the first one of a body or not
unfoldable pub statements : (Bool → Scope → Parser (IStmt × Scope)) → Bool → ℕ → List IStmt → Scope → Parser (List IStmt × Scope)
statements stmt first zero all s = pure (after s all)
statements stmt first (suc n) all s = stmt first s >>= (λ x. statements stmt false n (all ++ x.0 ∷ []) x.1)

-- a count, and so many statements no higher than d
abbrev pub counted_statements : ℕ → (Bool → Scope → Parser (IStmt × Scope)) → Bool → Scope → Parser (List IStmt × Scope)
counted_statements d stmt first s = do
  n ← take (count_of bound.Any (nat_lt 0 d))
  statements stmt first n [] s

-- the comments before the last brace of a block of these statements
abbrev pub block_after : List IStmt → Parser IBlock
block_after xs = do
  tail ← comments
  pure (block_of xs tail)

-- what stands after the word `block`, with statements no higher than d
abbrev pub items : ℕ → (Bool → Scope → Parser (IStmt × Scope)) → Bool → Scope → Parser (IBlock × Scope)
items d stmt first s = do
  xs ← counted_statements d stmt first s
  b ← block_after xs.0
  pure (after (closed s xs.1) b)

abbrev pub branches_of : IBlock → IElse → Branches
branches_of b x = record { then = b; rest = x }

abbrev pub if_of : IExpr → Branches → IIf
if_of e all = branch_of e all.then all.rest

-- low reads what is no higher than d
abbrev pub branches_by : Level → Scope → Parser (Branches × Scope)
branches_by low s = do
  b ← block_by (low.items' false) s
  x ← low.else_part b.1
  pure (after x.1 (branches_of b.0 x.0))

module _ (d : ℕ) (low : Level) (s : Scope) where
  abbrev pub if_by : Parser (IIf × Scope)
  if_by = do
    e ← expr d s.locals role.Value
    all ← branches_by low s
    pure (after all.1 (if_of e all.0))

  -- the locals of a loop are those of its header and of its block
  abbrev pub loop_by : LoopHead → Parser (IStmtNode × Scope)
  loop_by head = do
    h ← header_by d s head
    b ← block_by (low.items' false) h.1
    pure (after (closed s b.1) (looped h.0 b.0))

  abbrev pub node_by : NodeHead → Parser (IStmtNode × Scope)
  node_by Block = do
    b ← low.items' false s
    pure (after b.1 (nodes.Block b.0))
  node_by Let = do
    l ← variables d s
    pure (after l.1 (nodes.Let l.0))
  node_by If = do
    i ← if_by
    pure (after i.1 (nodes.If i.0))
  node_by (Loop head) = loop_by head
  node_by (Simple head) = do
    x ← simple_by d s.locals head
    pure (after s x)
  node_by (Super head) = do
    x ← super_by d s.locals head
    pure (after s x)

  abbrev pub stmt_by : Bool → Parser (IStmt × Scope)
  stmt_by first = do
    o ← opening first d []
    x ← node_by o.head
    pure (after x.1 (stmt_of o.notes x.0))

  -- `here` reads blocks that are one higher
  abbrev pub else_by : (Bool → Scope → Parser (IBlock × Scope)) → ElseHead → Parser (IElse × Scope)
  else_by here otherwise.None = pure (after s elses.None)
  else_by here otherwise.Block = do
    b ← block_by (here false) s
    pure (after b.1 (elses.Block b.0))
  else_by here otherwise.If = do
    i ← if_by
    pure (after i.1 (elses.If i.0))

unfoldable pub level : ℕ → Level
level zero = record { stmt = λ first s. refuse; items' = λ first s. refuse; else_part = λ s. refuse }
level (suc d) = record {
  stmt = λ first s. stmt_by d (level d) s first;
  items' = items d (level d).stmt;
  else_part = λ s. take (else_head_of d) >>= else_by d (level d) s (items d (level d).stmt);
}

-- a body: a block no higher than d
abbrev pub body : ℕ → Parser IBody
body d = block_by ((level d).items' true) no_locals >>= (λ b. pure (body_of b.0))
