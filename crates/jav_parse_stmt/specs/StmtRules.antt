-- The rules of blocks and statements.
use Rattle.std.specs.Prelude.{ℕ, zero, suc, ◌+◌, ◌-◌, max, ◌||◌, not, Bool, true, false, if◌then◌else◌, nat_eq, nat_le, List, [], ◌∷◌, ◌++◌, Option, Some, None}
use Rattle.mol_base.specs.Token.{Token}
use Rattle.jav_tree.specs.declared.types.TypeName.{TypeName}
use Rattle.jav_tree.specs.declared.expr.Expr.{Expr}
use Rattle.jav_tree.specs.declared.stmt.Let.{Let}
use Rattle.jav_tree.specs.declared.stmt.ForStart.{ForStart}
use Rattle.jav_tree.specs.declared.stmt.ForStart.TheVariants as for_start
use Rattle.jav_tree.specs.declared.stmt.Else.{Else}
use Rattle.jav_tree.specs.declared.stmt.Else.TheVariants as otherwise
use Rattle.jav_tree.specs.declared.stmt.StmtNode.{StmtNode}
use Rattle.jav_tree.specs.declared.stmt.StmtNode.TheVariants as node
use Rattle.jav_tree.specs.declared.stmt.Stmt.{Stmt}
use Rattle.jav_tree.specs.Blocks.{block_of}
use Rattle.jav_tree.specs.Statements.{commented, stmt_at}
use Rattle.jav_parse_expr.specs.declared.action.Lead.{Lead}
use Rattle.jav_parse_expr.specs.declared.action.Lead.TheVariants.{Declaration, Part}
use Rattle.jav_parse_stmt.specs.declared.flow.HeaderPart.{HeaderPart}
use Rattle.jav_parse_stmt.specs.declared.flow.HeaderPart.TheVariants.{Start, Each}
use Rattle.jav_parse_stmt.specs.declared.flow.TallElse.{TallElse}
use Rattle.jav_parse_stmt.specs.declared.flow.Maybe.{Maybe}
use Rattle.jav_parse_cursor.specs.declared.limits.Limits.{Limits}
use Rattle.jav_parse_stmt.specs.declared.local.VariableList.{VariableList}
use Rattle.jav_parse_expr.specs.declared.primary.Goal.TheVariants.{Level}
use Rattle.jav_parse_cursor.specs.declared.sort.Sort.{Sort}
use Rattle.jav_parse_cursor.specs.declared.sort.Sort.TheVariants as sort
use Rattle.jav_parse_stmt.specs.declared.stmt.Place.{Place}
use Rattle.jav_parse_stmt.specs.declared.stmt.Place.TheVariants.{Item, Branch, Plain, Chain}
use Rattle.jav_parse_stmt.specs.declared.stmt.Several.{Several}
use Rattle.jav_parse_stmt.specs.declared.stmt_tall.TallBlock.{TallBlock}
use Rattle.jav_parse_stmt.specs.declared.stmt_tall.TallStmt.{TallStmt}
use Rattle.jav_parse_cursor.specs.declared.tall.Tall.{Tall}
use Rattle.jav_parse_cursor.specs.declared.tall.Listed.{Listed}
use Rattle.jav_parse_expr.specs.ActionRules.{action, acting_on, super_action, type_or_part, actions, actions_after}
use Rattle.jav_parse_expr.specs.ExprRules.{expr}
use Rattle.jav_parse_stmt.specs.LocalRules.{variables, declarators}
use Rattle.jav_parse_cursor.specs.Nodes.{no_exprs}
use Rattle.jav_parse_expr.specs.PrimaryRules.{arguments}
use Rattle.jav_parse_cursor.specs.Reading.{Parser, ◌>>=◌, ◌>>◌, pure, refuse, peek, place, take_token, expect, when_next, comments}
use Rattle.jav_parse_cursor.specs.Sorts.{same_sort}
use Rattle.jav_parse_cursor.specs.TypeRules.{whole_type}

abbrev pub closed : ℕ → StmtNode → ℕ → TallStmt
closed at n h = record { at = at; node = n; height = h; is_open = false; after = [] }

-- a branch that is this statement alone, with comments before it
abbrev pub wrapped : List (List ℕ) → TallStmt → TallBlock
wrapped notes s = record { items = commented notes s.at s.node ∷ []; tail = []; height = s.height + 1; is_open = s.is_open; after = s.after }

abbrev pub nothing : List (List ℕ) → Several
nothing notes = record { items = []; height = 0; notes = notes }

abbrev pub added_to : List Stmt → ℕ → List (List ℕ) → TallStmt → Several
added_to items height notes s = record { items = items ++ commented notes s.at s.node ∷ []; height = max height s.height; notes = s.after }

abbrev pub braced : List Stmt → ℕ → List (List ℕ) → TallBlock
braced items height tail = record { items = items; tail = tail; height = height + 1; is_open = false; after = [] }

unfoldable pub condition : Limits → ℕ → Parser Tall
condition l top = do
  expect sort.Open
  x ← expr l top (Level 1)
  expect sort.Close
  pure x

-- `super(..);` after its first word
unfoldable pub super_start : Limits → ℕ → ℕ → Parser TallStmt
super_start l top at = do
  args ← arguments l.most top (expr l (top - 1) (Level 1))
  expect sort.Semi
  pure (closed at (node.SuperInit args.exprs) (args.height + 1))

-- the end of an expression statement
unfoldable pub done : ℕ → Tall → Parser TallStmt
done at x = expect sort.Semi >> pure (closed at (node.Do x.expr) (x.height + 1))

unfoldable pub super_first : Limits → ℕ → Parser TallStmt
super_first l top = if nat_eq top 0 then refuse else (do
  word ← take_token
  when_next sort.Open (super_start l top word.start)
      (super_action l (top - 1) word.start >>= done word.start))

-- the rest of a declaration after its type
unfoldable pub local_of : Limits → ℕ → ℕ → Bool → TypeName → Parser TallStmt
local_of l top at is_final to = do
  first ← expect sort.Name
  all ← variables l (top - 1) first
  expect sort.Semi
  pure (closed at (node.Let (record { is_final = is_final; ty = to; names = declarators all.items })) (all.height + 1))

unfoldable pub local : Limits → ℕ → Parser TallStmt
local l top = do
  at ← place
  when_next sort.Final
      (do
        take_token
        to ← whole_type l
        local_of l top at true to)
      (whole_type l >>= local_of l top at false)

abbrev pub led : Limits → ℕ → ℕ → Lead → Parser TallStmt
led l top at (Declaration to) = local_of l top at false to
led l top at (Part first) = acting_on l (top - 1) first >>= done at

-- a declaration or an expression, which begins with a name
unfoldable pub named : Limits → ℕ → Parser TallStmt
named l top = do
  at ← place
  lead ← type_or_part l (top - 1)
  led l top at lead

unfoldable pub expression : Limits → ℕ → Parser TallStmt
expression l top = do
  at ← place
  x ← action l (top - 1)
  done at x

unfoldable pub return_stmt : Limits → ℕ → Parser TallStmt
return_stmt l top = do
  word ← take_token
  when_next sort.Semi (take_token >> pure (closed word.start (node.Return None) 1))
      (if nat_le top 1 then refuse else (do
        x ← expr l (top - 1) (Level 1)
        expect sort.Semi
        pure (closed word.start (node.Return (Some x.expr)) (x.height + 1))))

unfoldable pub throw_stmt : Limits → ℕ → Parser TallStmt
throw_stmt l top = if nat_le top 1 then refuse else (do
  word ← take_token
  x ← expr l (top - 1) (Level 1)
  expect sort.Semi
  pure (closed word.start (node.Throw x.expr) (x.height + 1)))

unfoldable pub word_stmt : StmtNode → Parser TallStmt
word_stmt n = do
  word ← take_token
  expect sort.Semi
  pure (closed word.start n 1)

unfoldable pub empty_stmt : Parser TallStmt
empty_stmt = do
  semi ← take_token
  pure (closed semi.start node.Empty 1)

-- ---- the header of a `for`

unfoldable pub header_let : Limits → ℕ → Bool → TypeName → Token → Parser HeaderPart
header_let l top is_final to first = do
  all ← variables l top first
  pure (Start (for_start.Let (record { is_final = is_final; ty = to; names = declarators all.items })) all.height)

unfoldable pub header_of : Limits → ℕ → Bool → TypeName → Parser HeaderPart
header_of l top is_final to = do
  first ← expect sort.Name
  when_next sort.Colon (pure (Each is_final to first.text)) (header_let l top is_final to first)

abbrev pub doing : Listed → HeaderPart
doing all = Start (for_start.Do all.exprs) all.height

abbrev pub header_led : Limits → ℕ → Lead → Parser HeaderPart
header_led l top (Declaration to) = header_of l top false to
header_led l top (Part first) = do
  x ← acting_on l top first
  all ← actions_after l top x
  pure (doing all)

unfoldable pub header_named : Limits → ℕ → Parser HeaderPart
header_named l top = type_or_part l top >>= header_led l top

abbrev pub header_by : Limits → ℕ → Sort → Parser HeaderPart
header_by l top sort.Semi = pure (Start for_start.None 0)
header_by l top sort.Final = take_token >> (whole_type l >>= header_of l top true)
header_by l top sort.Prim = whole_type l >>= header_of l top false
header_by l top sort.Name = header_named l top
header_by l top _ = actions l top >>= (λ all. pure (doing all))

unfoldable pub header : Limits → ℕ → Parser HeaderPart
header l top = peek >>= header_by l top

unfoldable pub for_test : Limits → ℕ → Parser Maybe
for_test l top = when_next sort.Semi (pure (record { expr = None; height = 0 }))
    (expr l top (Level 1) >>= (λ x. pure (record { expr = Some x.expr; height = x.height })))

unfoldable pub updates : Limits → ℕ → Parser Listed
updates l top = when_next sort.Close (pure no_exprs) (actions l top)

-- ---- `if`

abbrev pub chained : TallStmt → TallElse
chained s = record { branch = otherwise.If (stmt_at s.at s.node); height = s.height; is_open = s.is_open; after = s.after }

abbrev pub second_branch : TallBlock → TallElse
second_branch b = record { branch = otherwise.Block (block_of b.items b.tail); height = b.height; is_open = b.is_open; after = b.after }

abbrev pub short_if : ℕ → Expr → ℕ → TallBlock → List (List ℕ) → TallStmt
short_if at test height first notes = record { at = at; node = node.If test (block_of first.items first.tail) otherwise.None; height = max height first.height + 1; is_open = true; after = notes }

abbrev pub long_if : ℕ → Expr → ℕ → TallBlock → List (List ℕ) → TallElse → TallStmt
long_if at test height first notes second = record { at = at; node = node.If test (block_of first.items (first.tail ++ notes)) second.branch; height = max (max height first.height) second.height + 1; is_open = second.is_open; after = second.after }

-- ---- what holds statements. `once` reads a statement that may be one less high than the whole, `twice` one that may be two
-- less high.
-- a statement of a block, after the comments before it
unfoldable pub next_item : Parser TallStmt → ℕ → List Stmt → ℕ → List (List ℕ) → Parser Several
next_item one room items height notes = if nat_eq room 0 then refuse else (one >>= (λ s. pure (added_to items height notes s)))

-- statements up to the last brace of their block; `one` reads each of them
unfoldable pub statements : Limits → Parser TallStmt → ℕ → ℕ → Several → Parser TallBlock
statements l one room zero all = refuse
statements l one room (suc n) all = do
  notes ← comments l.turns all.notes
  when_next sort.Finish (take_token >> pure (braced all.items all.height notes))
      (next_item one room all.items all.height notes >>= statements l one room n)

-- a block that may be `room` high, with comments before it
unfoldable pub block : Limits → Parser TallStmt → ℕ → List (List ℕ) → Parser TallBlock
block l one room notes = if nat_eq room 0 then refuse else (expect sort.Begin >> statements l one (room - 1) l.turns (nothing notes))

-- the statements of a constructor, the first of which begins with `super`
unfoldable pub from_super : Limits → Parser TallStmt → ℕ → List (List ℕ) → Parser TallBlock
from_super l one room notes = do
  s ← super_first l room
  statements l one room l.turns (added_to [] 0 notes s)

-- the block of a constructor
unfoldable pub constructor_block : Limits → Parser TallStmt → ℕ → List (List ℕ) → Parser TallBlock
constructor_block l one room before = if nat_eq room 0 then refuse else (do
  expect sort.Begin
  notes ← comments l.turns before
  when_next sort.Super (from_super l one (room - 1) notes) (statements l one (room - 1) l.turns (nothing notes)))

module _ (l : Limits) (top : ℕ) (once twice : Place → Parser TallStmt) where
  -- a branch or loop body, which may be one less high than the whole
  unfoldable pub branch : Place → Parser TallBlock
  branch kind = do
    notes ← comments l.turns []
    when_next sort.Begin (block l (twice Item) (top - 1) notes)
        (if nat_le top 2 then refuse else (twice kind >>= (λ s. pure (wrapped notes s))))

  unfoldable pub block_stmt : Parser TallStmt
  block_stmt = if nat_le top 1 then refuse else (do
    at ← place
    b ← block l (twice Item) (top - 1) []
    pure (closed at (node.Block (block_of b.items b.tail)) (b.height + 1)))

  unfoldable pub else_branch : Parser TallElse
  else_branch = when_next sort.If (once Chain >>= (λ s. pure (chained s))) (branch Plain >>= (λ b. pure (second_branch b)))

  -- `else` and its branch
  abbrev pub with_else : ℕ → Expr → ℕ → TallBlock → List (List ℕ) → Parser TallStmt
  with_else at test height first notes = do
    take_token
    second ← else_branch
    pure (long_if at test height first notes second)

  -- what follows the first branch of an `if` and the comments after it
  abbrev pub chosen_after : ℕ → Expr → ℕ → TallBlock → List (List ℕ) → Parser TallStmt
  chosen_after at test height first notes = do
    s ← peek
    if first.is_open || not (same_sort s sort.Else) then pure (short_if at test height first notes) else with_else at test height first notes

  -- what follows the first branch of an `if`
  unfoldable pub chosen : ℕ → Expr → ℕ → TallBlock → Parser TallStmt
  chosen at test height first = do
    notes ← comments l.turns first.after
    chosen_after at test height first notes

  unfoldable pub if_stmt : Parser TallStmt
  if_stmt = if nat_le top 1 then refuse else (do
    word ← take_token
    test ← condition l (top - 1)
    first ← branch Branch
    chosen word.start test.expr test.height first)

  unfoldable pub while_stmt : Parser TallStmt
  while_stmt = if nat_le top 1 then refuse else (do
    word ← take_token
    test ← condition l (top - 1)
    body ← branch Branch
    pure (record { at = word.start; node = node.While test.expr (block_of body.items body.tail); height = max test.height body.height + 1; is_open = body.is_open; after = body.after }))

  unfoldable pub counted_body : ℕ → ForStart → ℕ → Maybe → Listed → Parser TallStmt
  counted_body at start height test all = do
    body ← branch Branch
    pure (record { at = at; node = node.For start test.expr all.exprs (block_of body.items body.tail); height = max height (max test.height (max all.height body.height)) + 1; is_open = body.is_open; after = body.after })

  -- the rest of a `for` from its second semicolon on
  abbrev pub counted_after : ℕ → ForStart → ℕ → Maybe → Parser TallStmt
  counted_after at start height test = do
    expect sort.Semi
    all ← updates l (top - 1)
    expect sort.Close
    counted_body at start height test all

  unfoldable pub counted : ℕ → ForStart → ℕ → Parser TallStmt
  counted at start height = do
    expect sort.Semi
    test ← for_test l (top - 1)
    counted_after at start height test

  unfoldable pub each : ℕ → Bool → TypeName → List ℕ → Parser TallStmt
  each at is_final to name = do
    expect sort.Colon
    x ← expr l (top - 1) (Level 1)
    expect sort.Close
    body ← branch Branch
    pure (record { at = at; node = node.Each is_final to name x.expr (block_of body.items body.tail); height = max x.height body.height + 1; is_open = body.is_open; after = body.after })

  abbrev pub for_by : ℕ → HeaderPart → Parser TallStmt
  for_by at (Start start height) = counted at start height
  for_by at (Each is_final to name) = each at is_final to name

  unfoldable pub for_stmt : Parser TallStmt
  for_stmt = if nat_le top 1 then refuse else (do
    word ← take_token
    expect sort.Open
    h ← header l (top - 1)
    for_by word.start h)

  abbrev pub plain_by : Sort → Parser TallStmt
  plain_by sort.While = while_stmt
  plain_by sort.For = for_stmt
  plain_by sort.Return = return_stmt l top
  plain_by sort.Throw = throw_stmt l top
  plain_by sort.Break = word_stmt node.Break
  plain_by sort.Continue = word_stmt node.Continue
  plain_by sort.Semi = empty_stmt
  plain_by _ = expression l top

  unfoldable pub plain : Parser TallStmt
  plain = peek >>= plain_by

  abbrev pub item_by : Sort → Parser TallStmt
  item_by sort.Begin = block_stmt
  item_by sort.Final = local l top
  item_by sort.Prim = local l top
  item_by sort.Name = named l top
  item_by _ = plain

  unfoldable pub item : Parser TallStmt
  item = peek >>= item_by

  abbrev pub if_at : Place → Parser TallStmt
  if_at Item = if_stmt
  if_at Branch = if_stmt
  if_at Plain = refuse
  if_at Chain = if_stmt

  abbrev pub standing : Place → Parser TallStmt
  standing Item = item
  standing Branch = plain
  standing Plain = plain
  standing Chain = refuse

  unfoldable pub statement_at : Place → Parser TallStmt
  statement_at kind = when_next sort.If (if_at kind) (standing kind)

-- a statement of at most this height
unfoldable pub stmt : Limits → ℕ → Place → Parser TallStmt
stmt l zero kind = refuse
stmt l (suc zero) kind = statement_at l 1 (stmt l zero) (stmt l zero) kind
stmt l (suc (suc d)) kind = statement_at l (suc (suc d)) (stmt l (suc d)) (stmt l d) kind
