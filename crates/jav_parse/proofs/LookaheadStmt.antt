-- Each rule depends on the tokens that it read and on the next one alone: variables, statements and blocks.
use Rattle.std.proofs.Common.{ℕ, zero, suc, ◌-◌, Bool, false, List}
use Rattle.mol_base.specs.Token.{Token}
use Rattle.jav_tree.specs.declared.types.TypeName.{TypeName}
use Rattle.jav_tree.specs.declared.expr.Expr.{Expr}
use Rattle.jav_tree.specs.declared.stmt.ForStart.{ForStart}
use Rattle.jav_tree.specs.declared.stmt.StmtNode.{StmtNode}
use Rattle.jav_tree.specs.declared.stmt.StmtNode.TheVariants as node
use Rattle.jav_parse_expr.specs.declared.action.Lead.{Lead}
use Rattle.jav_parse_expr.specs.declared.action.Lead.TheVariants.{Declaration, Part}
use Rattle.jav_parse_stmt.specs.declared.flow.HeaderPart.{HeaderPart}
use Rattle.jav_parse_stmt.specs.declared.flow.HeaderPart.TheVariants.{Start, Each}
use Rattle.jav_parse_stmt.specs.declared.flow.Maybe.{Maybe}
use Rattle.jav_parse_cursor.specs.declared.limits.Limits.{Limits}
use Rattle.jav_parse_stmt.specs.declared.local.VariableList.{VariableList}
use Rattle.jav_parse_expr.specs.declared.primary.Goal.TheVariants.{Level}
use Rattle.jav_parse_cursor.specs.declared.sort.Sort.{Sort}
use Rattle.jav_parse_cursor.specs.declared.sort.Sort.TheVariants as sort
use Rattle.jav_parse_stmt.specs.declared.stmt.Place.{Place}
use Rattle.jav_parse_stmt.specs.declared.stmt.Place.TheVariants.{Item, Branch, Plain, Chain}
use Rattle.jav_parse_stmt.specs.declared.stmt.Several.{Several}
use Rattle.jav_parse_stmt.specs.declared.stmt_tall.TallBlock.{TallBlock}
use Rattle.jav_parse_stmt.specs.declared.stmt_tall.TallStmt.{TallStmt}
use Rattle.jav_parse_cursor.specs.declared.tall.Tall.{Tall}
use Rattle.jav_parse_cursor.specs.declared.tall.Listed.{Listed}
use Rattle.jav_parse_expr.specs.ExprRules.{expr}
use Rattle.jav_parse_stmt.specs.LocalRules.{with_variable, further_variables, variables}
use Rattle.jav_parse_cursor.specs.Reading.{Parser}
use Rattle.jav_parse_stmt.specs.StmtRules as rules
use Rattle.jav_parse_stmt.specs.StmtRules.{condition, super_start, done, super_first, local_of, local, led, expression, return_stmt, throw_stmt, word_stmt, empty_stmt, header_let, header_of, header_led, header_named, header_by, header, for_test, updates, next_item, statements, block, from_super, constructor_block, branch, block_stmt, else_branch, chosen, if_stmt, while_stmt, counted_body, counted, each, for_by, for_stmt, plain_by, plain, item_by, item, if_at, standing, statement_at, stmt}
use Rattle.jav_parse.proofs.Lookahead.{Local, local_refuse, local_bind, local_when, steps}
use Rattle.jav_parse.proofs.LookaheadExpr.{local_expr, local_action, local_acting_on, local_super_action, local_type_or_part, local_actions, local_actions_after}
use Rattle.jav_parse.proofs.LookaheadPrimary.{local_arguments}
use Rattle.jav_parse.proofs.LookaheadTypes.{local_whole_type}

-- ---- variables

module _ (l : Limits) (top : ℕ) where
  local_with_variable : (all : VariableList) (name : Token) → Local (with_variable l top all name)
  unfolding with_variable
  local_with_variable all name = search (steps, local_expr) depth 20

  local_further_variables : (n : ℕ) (all : VariableList) → Local (further_variables l top n all)
  unfolding further_variables
  local_further_variables zero all = search steps
  local_further_variables (suc n) all = search (steps, local_with_variable, local_further_variables n) depth 20

  pub local_variables : (first : Token) → Local (variables l top first)
  unfolding variables
  local_variables first = search (steps, local_with_variable, local_further_variables)

-- ---- simple statements

local_condition : (l : Limits) (top : ℕ) → Local (condition l top)
unfolding condition
local_condition l top = search (steps, local_expr) depth 20

local_done : (at : ℕ) (x : Tall) → Local (done at x)
unfolding done
local_done at x = search steps

local_super_start : (l : Limits) (top at : ℕ) → Local (super_start l top at)
unfolding super_start
local_super_start l top at = local_bind (local_arguments (expr l (top - 1) (Level 1)) (local_expr l (top - 1) (Level 1)) l.most top) (λ args. search steps)

local_super_first : (l : Limits) (top : ℕ) → Local (super_first l top)
unfolding super_first
local_super_first l top = search (steps, local_super_start, local_super_action, local_done) depth 20

local_local_of : (l : Limits) (top at : ℕ) (is_final : Bool) (to : TypeName) → Local (local_of l top at is_final to)
unfolding local_of
local_local_of l top at is_final to = search (steps, local_variables) depth 20

local_local : (l : Limits) (top : ℕ) → Local (local l top)
unfolding local
local_local l top = search (steps, local_whole_type, local_local_of) depth 20

local_led : (l : Limits) (top at : ℕ) (lead : Lead) → Local (led l top at lead)
local_led l top at (Declaration to) = local_local_of l top at false to
local_led l top at (Part first) = search (steps, local_acting_on, local_done)

local_named : (l : Limits) (top : ℕ) → Local (rules.named l top)
unfolding rules.named
local_named l top = search (steps, local_type_or_part, local_led) depth 20

local_expression : (l : Limits) (top : ℕ) → Local (expression l top)
unfolding expression
local_expression l top = search (steps, local_action, local_done) depth 20

local_return : (l : Limits) (top : ℕ) → Local (return_stmt l top)
unfolding return_stmt
local_return l top = search (steps, local_expr) depth 20

local_throw : (l : Limits) (top : ℕ) → Local (throw_stmt l top)
unfolding throw_stmt
local_throw l top = search (steps, local_expr) depth 20

local_word : (n : StmtNode) → Local (word_stmt n)
unfolding word_stmt
local_word n = search steps depth 20

local_empty : Local empty_stmt
unfolding empty_stmt
local_empty = search steps

-- ---- the header of a `for`

module _ (l : Limits) (top : ℕ) where
  local_header_of : (is_final : Bool) (to : TypeName) → Local (header_of l top is_final to)
  unfolding header_of header_let
  local_header_of is_final to = search (steps, local_variables) depth 20

  local_header_led : (lead : Lead) → Local (header_led l top lead)
  local_header_led (Declaration to) = local_header_of false to
  local_header_led (Part first) = search (steps, local_acting_on, local_actions_after) depth 20

  local_header_rest : Local (header_by l top sort.End)
  local_header_rest = local_bind (local_actions l top) (λ all. search steps)

  local_header_by : (s : Sort) → Local (header_by l top s)
  unfolding header_named
  local_header_by sort.Semi = search steps
  local_header_by sort.Final = search (steps, local_whole_type, local_header_of) depth 20
  local_header_by sort.Prim = search (steps, local_whole_type, local_header_of) depth 20
  local_header_by sort.Name = search (steps, local_type_or_part, local_header_led) depth 20
  local_header_by s = local_header_rest

  local_header : Local (header l top)
  unfolding header
  local_header = search (steps, local_header_by)

  local_for_test : Local (for_test l top)
  unfolding for_test
  local_for_test = search (steps, local_expr) depth 20

  local_updates : Local (updates l top)
  unfolding updates
  local_updates = local_when sort.Close (search steps) (local_actions l top)

-- ---- what holds statements

module _ (l : Limits) (p : Parser TallStmt) (inner : Local p) where
  local_statements : (room n : ℕ) (all : Several) → Local (statements l p room n all)
  unfolding statements next_item
  local_statements room zero all = search steps
  local_statements room (suc n) all = search (steps, local_statements room n) depth 20

  pub local_block : (room : ℕ) (notes : List (List ℕ)) → Local (block l p room notes)
  unfolding block
  local_block room notes = search (steps, local_statements) depth 20

  local_from_super : (room : ℕ) (notes : List (List ℕ)) → Local (from_super l p room notes)
  unfolding from_super
  local_from_super room notes = search (steps, local_super_first, local_statements) depth 20

  pub local_constructor_block : (room : ℕ) (before : List (List ℕ)) → Local (constructor_block l p room before)
  unfolding constructor_block
  local_constructor_block room before = search (steps, local_from_super, local_statements) depth 20

module _ (l : Limits) (top : ℕ) (once twice : Place → Parser TallStmt) (first : (kind : Place) → Local (once kind)) (second : (kind : Place) → Local (twice kind)) where
  local_branch : (kind : Place) → Local (branch l top once twice kind)
  unfolding branch
  local_branch kind = search (steps, local_block l (twice Item) (second Item)) depth 20

  local_block_stmt : Local (block_stmt l top once twice)
  unfolding block_stmt
  local_block_stmt = search (steps, local_block l (twice Item) (second Item)) depth 20

  local_other : Local (else_branch l top once twice)
  unfolding else_branch
  local_other = search (steps, local_branch) depth 20

  local_chosen : (at : ℕ) (test : Expr) (height : ℕ) (b : TallBlock) → Local (chosen l top once twice at test height b)
  unfolding chosen
  local_chosen at test height b = search (steps, local_other) depth 20

  local_if_stmt : Local (if_stmt l top once twice)
  unfolding if_stmt
  local_if_stmt = search (steps, local_condition, local_branch, local_chosen) depth 20

  local_while_stmt : Local (while_stmt l top once twice)
  unfolding while_stmt
  local_while_stmt = search (steps, local_condition, local_branch) depth 20

  local_counted_body : (at : ℕ) (start : ForStart) (height : ℕ) (test : Maybe) (all : Listed) → Local (counted_body l top once twice at start height test all)
  unfolding counted_body
  local_counted_body at start height test all = search (steps, local_branch) depth 20

  local_counted : (at : ℕ) (start : ForStart) (height : ℕ) → Local (counted l top once twice at start height)
  unfolding counted
  local_counted at start height = search (steps, local_for_test, local_updates, local_counted_body) depth 20

  local_each : (at : ℕ) (is_final : Bool) (to : TypeName) (name : List ℕ) → Local (each l top once twice at is_final to name)
  unfolding each
  local_each at is_final to name = search (steps, local_expr, local_branch) depth 20

  local_for_by : (at : ℕ) (h : HeaderPart) → Local (for_by l top once twice at h)
  local_for_by at (Start start height) = local_counted at start height
  local_for_by at (Each is_final to name) = local_each at is_final to name

  local_for_stmt : Local (for_stmt l top once twice)
  unfolding for_stmt
  local_for_stmt = search (steps, local_header, local_for_by) depth 20

  local_plain_by : (s : Sort) → Local (plain_by l top once twice s)
  local_plain_by sort.While = local_while_stmt
  local_plain_by sort.For = local_for_stmt
  local_plain_by sort.Return = local_return l top
  local_plain_by sort.Throw = local_throw l top
  local_plain_by sort.Break = local_word node.Break
  local_plain_by sort.Continue = local_word node.Continue
  local_plain_by sort.Semi = local_empty
  local_plain_by s = local_expression l top

  local_plain : Local (plain l top once twice)
  unfolding plain
  local_plain = search (steps, local_plain_by)

  local_item_by : (s : Sort) → Local (item_by l top once twice s)
  local_item_by sort.Begin = local_block_stmt
  local_item_by sort.Final = local_local l top
  local_item_by sort.Prim = local_local l top
  local_item_by sort.Name = local_named l top
  local_item_by s = local_plain

  local_item : Local (item l top once twice)
  unfolding item
  local_item = search (steps, local_item_by)

  local_if_at : (kind : Place) → Local (if_at l top once twice kind)
  local_if_at Item = local_if_stmt
  local_if_at Branch = local_if_stmt
  local_if_at Plain = local_refuse
  local_if_at Chain = local_if_stmt

  local_standing : (kind : Place) → Local (standing l top once twice kind)
  local_standing Item = local_item
  local_standing Branch = local_plain
  local_standing Plain = local_plain
  local_standing Chain = local_refuse

  local_one : (kind : Place) → Local (statement_at l top once twice kind)
  unfolding statement_at
  local_one kind = search (steps, local_if_at, local_standing)

-- at the height and at one less
both_stmts : (l : Limits) (d : ℕ) → ((kind : Place) → Local (stmt l d kind)) × ((kind : Place) → Local (stmt l (suc d) kind))
unfolding stmt
both_stmts l zero = (λ kind. local_refuse, local_one l 1 (stmt l zero) (stmt l zero) (λ k. local_refuse) (λ k. local_refuse))
both_stmts l (suc d) = let h = both_stmts l d in (h.1, local_one l (suc (suc d)) (stmt l (suc d)) (stmt l d) h.1 h.0)

pub local_stmt : (l : Limits) (d : ℕ) (kind : Place) → Local (stmt l d kind)
local_stmt l d = (both_stmts l d).0
