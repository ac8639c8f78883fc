use Rattle.std.proofs.Common.{sym, ◌∙◌, ap}
use Rattle.mol_table_rules.specs.Renumber.{base_id}
use Rattle.mol_resolve_members.specs.places.Listings.{key_of}
use Rattle.mol_resolve_members.proofs.numbers_lemmas.IdsFound.{method-id}
use Rattle.mol_resolve_members.proofs.numbers_lemmas.MethodNumbers.{method-fits}
use Rattle.mol_resolve_members.proofs.numbers.numbers.Numbers.method_id.Goals as goal

pub number-requires-clause-fits : goal.number-requires-clause-fits
number-requires-clause-fits c = method-fits c.args.self.now (key_of c.args.at)

pub returns : goal.returns
returns c = λ declared found.
    c.base_id.ensures ∙ ap base_id c.number.ensures ∙ sym (method-id c.args.self.now (key_of c.args.at) declared found)
