-- Each rule depends on the tokens that it read and on the next one alone: names with dots and types.
use Rattle.std.proofs.Common.{ℕ, zero, suc, List}
use Rattle.mol_base.specs.Token.{Token}
use Rattle.jav_tree.specs.declared.types.TypeName.{TypeName}
use Rattle.jav_parse_cursor.specs.declared.limits.Limits.{Limits}
use Rattle.jav_parse_cursor.specs.TypeRules.{further_names, qualified, primitive, base_type, brackets, type_after, whole_type}
use Rattle.jav_parse.proofs.Lookahead.{Local, steps}

pub local_further_names : (n : ℕ) (names : List Token) → Local (further_names n names)
unfolding further_names
local_further_names zero names = search steps
local_further_names (suc n) names = search (steps, local_further_names n)

pub local_qualified : (n : ℕ) → Local (qualified n)
unfolding qualified
local_qualified n = search (steps, local_further_names)

pub local_primitive : Local primitive
unfolding primitive
local_primitive = search steps

pub local_base_type : (n : ℕ) → Local (base_type n)
unfolding base_type
local_base_type n = search (steps, local_primitive, local_qualified)

pub local_brackets : (n k : ℕ) → Local (brackets n k)
unfolding brackets
local_brackets zero k = search steps
local_brackets (suc n) k = search (steps, local_brackets n)

pub local_type_after : (l : Limits) (base : TypeName) (k : ℕ) → Local (type_after l base k)
unfolding type_after
local_type_after l base k = search (steps, local_brackets)

pub local_whole_type : (l : Limits) → Local (whole_type l)
unfolding whole_type
local_whole_type l = search (steps, local_base_type, local_type_after)
