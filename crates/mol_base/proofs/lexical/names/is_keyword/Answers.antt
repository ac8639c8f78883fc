use Rattle.std.proofs.Common.{◌∙◌, sym, arith}
use Rattle.std.proofs.lemmas.Bool.Decides.{nat_tests}
use Rattle.mol_base.specs.Lexical.Names.{keywords}
use Rattle.mol_base.proofs.Keywords.{is_length, is_keyword-length, is_keyword-no_length}
use Rattle.mol_base.proofs.lexical.names.is_keyword.Goals as goal

pub returns-in-2 : goal.returns-in-2
unfolding keywords
returns-in-2 c = c.is_one_of.ensures ∙ sym (is_keyword-length c.args.name.now 2 c.in-2.is)

pub returns-in-3 : goal.returns-in-3
unfolding keywords
returns-in-3 c = c.is_one_of-in-3.ensures ∙ sym (is_keyword-length c.args.name.now 3 c.in-3.is)

pub returns-in-4 : goal.returns-in-4
unfolding keywords
returns-in-4 c = c.is_one_of-in-4.ensures ∙ sym (is_keyword-length c.args.name.now 4 c.in-4.is)

pub returns-in-5 : goal.returns-in-5
unfolding keywords
returns-in-5 c = c.is_one_of-in-5.ensures ∙ sym (is_keyword-length c.args.name.now 5 c.in-5.is)

pub returns-in-6 : goal.returns-in-6
unfolding keywords
returns-in-6 c = c.is_one_of-in-6.ensures ∙ sym (is_keyword-length c.args.name.now 6 c.in-6.is)

pub returns-in-7 : goal.returns-in-7
unfolding keywords
returns-in-7 c = c.is_one_of-in-7.ensures ∙ sym (is_keyword-length c.args.name.now 7 c.in-7.is)

pub returns-in-8 : goal.returns-in-8
unfolding keywords
returns-in-8 c = c.is_one_of-in-8.ensures ∙ sym (is_keyword-length c.args.name.now 8 c.in-8.is)

pub returns-in-9 : goal.returns-in-9
unfolding keywords
returns-in-9 c = c.is_one_of-in-9.ensures ∙ sym (is_keyword-length c.args.name.now 9 c.in-9.is)

pub returns-in-10 : goal.returns-in-10
unfolding keywords
returns-in-10 c = c.is_one_of-in-10.ensures ∙ sym (is_keyword-length c.args.name.now 10 c.in-10.is)

pub returns-in-12 : goal.returns-in-12
unfolding keywords
returns-in-12 c = c.is_one_of-in-12.ensures ∙ sym (is_keyword-length c.args.name.now 12 c.in-12.is)

pub returns-in_default : goal.returns-in_default
unfolding is_length
returns-in_default c = sym (is_keyword-no_length c.args.name.now (grind (arith, nat_tests, c.in_default)))
