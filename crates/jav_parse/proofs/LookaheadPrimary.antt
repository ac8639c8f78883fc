-- Each rule depends on the tokens that it read and on the next one alone: expressions of level 15 and array creations.
use Rattle.std.proofs.Common.{ℕ, zero, suc, List}
use Rattle.mol_base.specs.Token.{Token}
use Rattle.jav_tree.specs.declared.types.TypeName.{TypeName}
use Rattle.jav_parse_cursor.specs.declared.limits.Limits.{Limits}
use Rattle.jav_parse_expr.specs.declared.primary.Rooms.{Rooms}
use Rattle.jav_parse_cursor.specs.declared.sort.Sort.{Sort}
use Rattle.jav_parse_cursor.specs.declared.sort.Sort.TheVariants as sort
use Rattle.jav_parse_cursor.specs.declared.tall.Tall.{Tall}
use Rattle.jav_parse_cursor.specs.declared.tall.Listed.{Listed}
use Rattle.jav_parse_expr.specs.PrimaryRules.{further_arguments, some_arguments, arguments_after, arguments, further_items, some_items, items_after, items, member_name, Inside, filled, empty_pairs, further_sizes, sized, array, creation, super_call, name, parens, primary_by, primary, call_on, member_named, member, index, item, link_by, link, chain, part, named, named_item}
use Rattle.jav_parse_cursor.specs.Reading.{Parser}
use Rattle.jav_parse.proofs.Lookahead.{Local, local_refuse, steps}
use Rattle.jav_parse.proofs.LookaheadTypes.{local_primitive, local_base_type, local_brackets}

module _ (e : Parser Tall) (inner : Local e) where
  pub local_further_arguments : (n : ℕ) (all : Listed) → Local (further_arguments e n all)
  unfolding further_arguments
  local_further_arguments zero all = search steps
  local_further_arguments (suc n) all = search (steps, local_further_arguments n) depth 20

  pub local_arguments_after : (most room : ℕ) → Local (arguments_after most room e)
  unfolding arguments_after some_arguments
  local_arguments_after most room = search (steps, local_further_arguments) depth 20

  pub local_arguments : (most room : ℕ) → Local (arguments most room e)
  unfolding arguments
  local_arguments most room = search (steps, local_arguments_after)

  pub local_further_items : (n : ℕ) (all : Listed) → Local (further_items e n all)
  unfolding further_items
  local_further_items zero all = search steps
  local_further_items (suc n) all = search (steps, local_further_items n) depth 20

  pub local_items : (turns room : ℕ) → Local (items turns room e)
  unfolding items items_after some_items
  local_items turns room = search (steps, local_further_items) depth 20

pub local_member_name : (top height : ℕ) → Local (member_name top height)
unfolding member_name
local_member_name top height = search steps

-- what stands inside depends on no more
pub record LocalInside (e : Inside) : Type 0 where
  pub argument : Local e.argument
  pub index : Local e.index
  pub within : Local e.within
  pub init : Local e.init

module _ (l : Limits) (top : ℕ) (rooms : Rooms) (e : Inside) (inner : LocalInside e) where
  local_filled : (at : ℕ) (base : TypeName) → Local (filled l top rooms e at base)
  unfolding filled
  local_filled at base = search (steps, local_brackets, local_items e.init inner.init) depth 20

  local_empty_pairs : (at : ℕ) (base : TypeName) (all : Listed) (k : ℕ) → Local (empty_pairs l top rooms e at base all k)
  unfolding empty_pairs
  local_empty_pairs at base all k = search (steps, local_brackets) depth 20

  local_further_sizes : (at : ℕ) (base : TypeName) (n k : ℕ) (all : Listed) → Local (further_sizes l top rooms e at base n k all)
  unfolding further_sizes
  local_further_sizes at base zero k all = search steps
  local_further_sizes at base (suc n) k all = search (steps, local_empty_pairs, local_further_sizes at base n) depth 20

  local_array : (at : ℕ) (base : TypeName) → Local (array l top rooms e at base)
  unfolding array sized
  local_array at base = search (steps, local_filled, local_further_sizes) depth 20

  local_creation : Local (creation l top rooms e)
  unfolding creation
  local_creation = search (steps, local_primitive, local_base_type, local_array, local_arguments e.argument inner.argument) depth 20

  pub local_super_call : (at : ℕ) → Local (super_call l top rooms e at)
  unfolding super_call
  local_super_call at = search (steps, local_arguments e.argument inner.argument) depth 20

  local_name : Local (name l top rooms e)
  unfolding name
  local_name = search (steps, local_arguments e.argument inner.argument) depth 20

  local_parens : Local (parens l top rooms e)
  unfolding parens
  local_parens = search steps depth 20

  local_primary_by : (s : Sort) → Local (primary_by l top rooms e s)
  local_primary_by sort.Name = local_name
  local_primary_by sort.Literal = search steps
  local_primary_by sort.This = search steps
  local_primary_by sort.Super = search (steps, local_super_call) depth 20
  local_primary_by sort.New = local_creation
  local_primary_by sort.Open = local_parens
  local_primary_by s = local_refuse

  local_primary : Local (primary l top rooms e)
  unfolding primary
  local_primary = search (steps, local_primary_by)

  pub local_index : (left : Tall) → Local (index l top rooms e left)
  unfolding index
  local_index left = search steps depth 20

  local_member : (left : Tall) → Local (member l top rooms e left)
  unfolding member member_named call_on
  local_member left = search (steps, local_member_name, local_arguments e.argument inner.argument) depth 20

  local_link_by : (left : Tall) (s : Sort) → Local (link_by l top rooms e left s)
  unfolding item
  local_link_by left sort.Dot = local_member left
  local_link_by left sort.Left = search (steps, local_index) depth 20
  local_link_by left s = local_refuse

  pub local_chain : (n : ℕ) (left : Tall) → Local (chain l top rooms e n left)
  unfolding chain link
  local_chain zero left = search steps
  local_chain (suc n) left = search (steps, local_link_by left, local_chain n) depth 20

  pub local_part : Local (part l top rooms e)
  unfolding part
  local_part = search (steps, local_primary, local_chain)

  pub local_named : (names : List Token) → Local (named l top rooms e names)
  unfolding named
  local_named names = search (steps, local_arguments e.argument inner.argument) depth 20

  pub local_named_item : (names : List Token) → Local (named_item l top rooms e names)
  unfolding named_item
  local_named_item names = search (steps, local_index) depth 20
