-- Each rule depends on the tokens that it read and on the next one alone: operators, casts and whole expressions, and those
-- that may be statements.
use Rattle.std.proofs.Common.{ℕ, zero, suc, ◌-◌, nat_eq, List}
use Rattle.mol_base.specs.Token.{Token}
use Rattle.jav_tree.specs.declared.types.TypeName.{TypeName}
use Rattle.jav_parse_cursor.specs.declared.limits.Limits.{Limits}
use Rattle.jav_parse_expr.specs.declared.primary.Goal.{Goal}
use Rattle.jav_parse_expr.specs.declared.primary.Goal.TheVariants.{Level, Target, Init, After}
use Rattle.jav_parse_expr.specs.declared.primary.Rooms.{Rooms}
use Rattle.jav_parse_cursor.specs.declared.sort.Sort.{Sort}
use Rattle.jav_parse_cursor.specs.declared.sort.Sort.TheVariants as sort
use Rattle.jav_parse_cursor.specs.declared.tall.Tall.{Tall}
use Rattle.jav_parse_cursor.specs.declared.tall.Listed.{Listed}
use Rattle.jav_parse_expr.specs.ActionRules as acts
use Rattle.jav_parse_expr.specs.ActionRules.{ending, action, acting_on, super_action, indexed_or_array, lead_by, type_or_part, further_actions, actions_after, actions}
use Rattle.jav_parse_expr.specs.ExprRules.{inside_by, inside, step_after, postfix, assign_to, assignment, instance_of, binary, operation, climb, choice, operators, cast, array_cast, primitive_cast, after_parens, closed, goes_on, name_closed, opened_by, opened_name, opened_at, opened, prefixed, operand_by, operand, level, after, target, init, asked, expr}
use Rattle.jav_parse_expr.specs.PrimaryRules.{free, stepping, acting}
use Rattle.jav_parse_cursor.specs.Reading.{Parser}
use Rattle.jav_parse.proofs.Lookahead.{Local, local_refuse, local_bind, local_if, local_when, steps}
use Rattle.jav_parse.proofs.LookaheadPrimary.{LocalInside, local_items, local_super_call, local_chain, local_part, local_named, local_named_item}
use Rattle.jav_parse.proofs.LookaheadTypes.{local_primitive, local_brackets, local_whole_type, local_qualified}

pub local_inside_by : (i t r : Goal → Parser Tall) → ((g : Goal) → Local (i g)) → ((g : Goal) → Local (t g)) → ((g : Goal) → Local (r g)) → LocalInside (inside_by i t r)
local_inside_by i t r hi ht hr = record { argument = hi (Level 1); index = ht (Level 1); within = hr (Level 1); init = hr Init }

module _ (l : Limits) (top : ℕ) (once twice : Goal → Parser Tall) (one : (g : Goal) → Local (once g)) (two : (g : Goal) → Local (twice g)) where
  pub local_step_after : (left : Tall) → Local (step_after l top once twice left)
  unfolding step_after
  local_step_after left = search steps

  local_postfix : (left : Tall) → Local (postfix l top once twice left)
  unfolding postfix
  local_postfix left = search (steps, local_step_after)

  pub local_assignment : (left : Tall) → Local (assignment l top once twice left)
  unfolding assignment assign_to
  local_assignment left = search steps depth 20

  local_operation : (left : Tall) (own : ℕ) → Local (operation l top once twice left own)
  unfolding operation instance_of binary
  local_operation left own = search (steps, local_whole_type) depth 20

  local_climb : (n least cap : ℕ) (left : Tall) → Local (climb l top once twice n least cap left)
  unfolding climb
  local_climb zero least cap left = search steps
  local_climb (suc n) least cap left = search (steps, local_operation, local_climb n) depth 20

  local_choice : (test : Tall) → Local (choice l top once twice test)
  unfolding choice
  local_choice test = search steps depth 20

  local_operators : (k : ℕ) (first : Tall) → Local (operators l top once twice k first)
  unfolding operators
  local_operators k first = search (steps, local_assignment, local_climb, local_choice) depth 20

  local_cast : (at : ℕ) (to : TypeName) → Local (cast l top once twice at to)
  unfolding cast
  local_cast at to = search steps

  local_array_cast : (at : ℕ) (base : TypeName) (n : ℕ) → Local (array_cast l top once twice at base n)
  unfolding array_cast
  local_array_cast at base n = search (steps, local_cast) depth 20

  local_primitive_cast : (at : ℕ) → Local (primitive_cast l top once twice at)
  unfolding primitive_cast
  local_primitive_cast at = search (steps, local_primitive, local_brackets, local_cast, local_array_cast) depth 20

  inside_once : LocalInside (inside_by once once once)
  inside_once = local_inside_by once once once one one one

  inside_twice : LocalInside (inside_by twice twice twice)
  inside_twice = local_inside_by twice twice twice two two two

  local_after_parens : (left : Tall) → Local (after_parens l top once twice left)
  unfolding after_parens
  local_after_parens left = search (steps, local_chain l top (free top) (inside_by once once once) inside_once, local_postfix)

  local_closed : (at : ℕ) (x : Tall) → Local (closed l top once twice at x)
  unfolding closed
  local_closed at x = search (steps, local_after_parens)

  local_goes_on : (at : ℕ) (first : Tall) → Local (goes_on l top once twice at first)
  unfolding goes_on
  local_goes_on at first = search (steps, local_closed)

  local_name_closed : (at : ℕ) (names : List Token) → Local (name_closed l top once twice at names)
  unfolding name_closed
  local_name_closed at names = search (steps, local_cast, local_after_parens) depth 20

  local_named_on : (at : ℕ) (names : List Token) → Local (opened_by l top once twice at names sort.End)
  local_named_on at names = search (steps, local_named l (top - 1) (free (top - 1)) (inside_by twice twice twice) inside_twice, local_goes_on)

  local_opened_by : (at : ℕ) (names : List Token) (s : Sort) → Local (opened_by l top once twice at names s)
  local_opened_by at names sort.Close = search (steps, local_name_closed)
  local_opened_by at names sort.Left = search (steps, local_brackets, local_array_cast, local_named_item l (top - 1) (free (top - 1)) (inside_by twice twice twice) inside_twice, local_goes_on) depth 20
  local_opened_by at names s = local_named_on at names

  local_opened_name : (at : ℕ) → Local (opened_name l top once twice at)
  unfolding opened_name
  local_opened_name at = search (steps, local_qualified, local_opened_by) depth 20

  local_opened_rest : (at : ℕ) → Local (opened_at l top once twice at sort.End)
  local_opened_rest at = search (steps, local_closed)

  local_opened_at : (at : ℕ) (s : Sort) → Local (opened_at l top once twice at s)
  local_opened_at at sort.Prim = local_primitive_cast at
  local_opened_at at sort.Name = local_opened_name at
  local_opened_at at s = local_opened_rest at

  local_opened : Local (opened l top once twice)
  unfolding opened
  local_opened = search (steps, local_opened_at) depth 20

  pub local_prefixed : (goal : Goal) → Local (prefixed l top once twice goal)
  unfolding prefixed
  local_prefixed goal = search steps depth 20

  local_operand_rest : Local (operand_by l top once twice sort.End)
  local_operand_rest = search (steps, local_part l top (free top) (inside_by once once once) inside_once, local_postfix)

  local_operand_by : (s : Sort) → Local (operand_by l top once twice s)
  local_operand_by sort.Sign = local_prefixed (Level 13)
  local_operand_by sort.Not = local_prefixed (Level 13)
  local_operand_by sort.Step = local_prefixed Target
  local_operand_by sort.Open = search (steps, local_opened)
  local_operand_by s = local_operand_rest

  local_level : (k : ℕ) → Local (level l top once twice k)
  unfolding level operand
  local_level k = search (steps, local_operand_by, local_operators) depth 20

  local_after : (first : Tall) → Local (after l top once twice first)
  unfolding after
  local_after first = search (steps, local_chain l top (free top) (inside_by once once once) inside_once, local_postfix, local_operators) depth 20

  local_target : Local (target l top once twice)
  unfolding target
  local_target = local_bind (local_part l top (stepping top) (inside_by twice once twice) (local_inside_by twice once twice two one two)) (λ x. search steps)

  local_init : Local (init l top once twice)
  unfolding init
  local_init = search (steps, local_items (once Init) (one Init), local_level) depth 20

  local_asked : (goal : Goal) → Local (asked l top once twice goal)
  local_asked (Level k) = local_level k
  local_asked Target = local_target
  local_asked Init = local_init
  local_asked (After first) = local_after first

-- at the height and at one less
both_exprs : (l : Limits) (d : ℕ) → ((goal : Goal) → Local (expr l d goal)) × ((goal : Goal) → Local (expr l (suc d) goal))
unfolding expr
both_exprs l zero = (λ goal. local_refuse, local_asked l 1 (expr l zero) (expr l zero) (λ g. local_refuse) (λ g. local_refuse))
both_exprs l (suc d) = let h = both_exprs l d in (h.1, local_asked l (suc (suc d)) (expr l (suc d)) (expr l d) h.1 h.0)

pub local_expr : (l : Limits) (d : ℕ) (goal : Goal) → Local (expr l d goal)
local_expr l d = (both_exprs l d).0

-- ---- expressions that may be statements

local_inside : (l : Limits) (rooms : Rooms) → LocalInside (inside l rooms)
local_inside l rooms = local_inside_by _ _ _ (local_expr l (rooms.invocation - 1)) (local_expr l (rooms.target - 1)) (local_expr l (rooms.rest - 1))

module _ (l : Limits) (top : ℕ) where
  local_ending : (left : Tall) → Local (ending l top left)
  unfolding ending
  local_ending left = search (
    steps,
    local_step_after l top (expr l (top - 1)) (expr l (top - 1 - 1)) (local_expr l (top - 1)) (local_expr l (top - 1 - 1)),
    local_assignment l top (expr l (top - 1)) (expr l (top - 1 - 1)) (local_expr l (top - 1)) (local_expr l (top - 1 - 1)),
  ) depth 20

  local_acting : (first : Tall) → Local (acts.goes_on l top first)
  unfolding acts.goes_on
  local_acting first = search (steps, local_chain l top (acting top) (inside l (acting top)) (local_inside l (acting top)), local_ending) depth 20

  local_acts : Local (acts.acts l top)
  unfolding acts.acts
  local_acts = local_when sort.Step
      (local_prefixed l top (expr l (top - 1)) (expr l (top - 1 - 1)) (local_expr l (top - 1)) (local_expr l (top - 1 - 1)) Target)
      (local_bind (local_part l top (acting top) (inside l (acting top)) (local_inside l (acting top))) local_ending)

  pub local_action : Local (action l top)
  unfolding action
  local_action = local_if (nat_eq top 0) local_refuse local_acts

  pub local_acting_on : (first : Tall) → Local (acting_on l top first)
  unfolding acting_on
  local_acting_on first = search (steps, local_acting)

  pub local_super_action : (at : ℕ) → Local (super_action l top at)
  unfolding super_action
  local_super_action at = search (steps, local_super_call l top (acting top) (inside l (acting top)) (local_inside l (acting top)), local_acting) depth 20

  local_indexed_or_array : (names : List Token) → Local (indexed_or_array l top names)
  unfolding indexed_or_array
  local_indexed_or_array names = search (steps, local_brackets, local_named_item l top (acting top) (inside l (acting top)) (local_inside l (acting top))) depth 20

  local_led : (names : List Token) → Local (lead_by l top names sort.End)
  local_led names = search (steps, local_named l top (acting top) (inside l (acting top)) (local_inside l (acting top))) depth 20

  local_lead_by : (names : List Token) (s : Sort) → Local (lead_by l top names s)
  local_lead_by names sort.Name = search steps
  local_lead_by names sort.Left = search (steps, local_indexed_or_array)
  local_lead_by names s = local_led names

  pub local_type_or_part : Local (type_or_part l top)
  unfolding type_or_part
  local_type_or_part = search (steps, local_qualified, local_lead_by) depth 20

  local_further_actions : (n : ℕ) (all : Listed) → Local (further_actions l top n all)
  unfolding further_actions
  local_further_actions zero all = search steps
  local_further_actions (suc n) all = search (steps, local_action, local_further_actions n) depth 20

  pub local_actions_after : (first : Tall) → Local (actions_after l top first)
  unfolding actions_after
  local_actions_after first = search local_further_actions

  pub local_actions : Local (actions l top)
  unfolding actions
  local_actions = search (steps, local_action, local_actions_after)
