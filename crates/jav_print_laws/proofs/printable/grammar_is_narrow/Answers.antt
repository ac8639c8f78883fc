-- The laws of widths are lemmas.
use Rattle.jav_print_laws.proofs.printable_lemmas.GrammarTrees.{units_are_narrow, members_are_narrow, bodies_are_narrow, exprs_are_narrow, types_are_narrow}
use Rattle.jav_print_laws.proofs.printable.grammar_is_narrow.Goals as goal

pub returns : goal.returns
returns c = record { units = units_are_narrow; members = members_are_narrow; bodies = bodies_are_narrow; exprs = exprs_are_narrow; types = types_are_narrow }
