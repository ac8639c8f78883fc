-- The laws of the grammar's trees are lemmas.
use Rattle.jav_print_laws.proofs.printable_lemmas.GrammarTrees.{units_are_printable, members_are_printable, bodies_are_printable, exprs_are_printable, types_are_printable}
use Rattle.jav_print_laws.proofs.printable_lemmas.OneTokens.{sources_have_tokens}
use Rattle.jav_print_laws.proofs.printable.grammar_is_printable.Goals as goal

pub returns : goal.returns
returns c = record { tokens = sources_have_tokens; units = units_are_printable; members = members_are_printable; bodies = bodies_are_printable; exprs = exprs_are_printable; types = types_are_printable }
