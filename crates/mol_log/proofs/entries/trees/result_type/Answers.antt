use Rattle.mol_log_words.specs.declared.type_role.TypeRole.TheVariants.{Result}
use Rattle.mol_log.proofs.entries_lemmas.Refusals.{type-seen}
use Rattle.mol_log.proofs.entries.trees.result_type.Goals as goal

pub returns : goal.returns
returns c = type-seen Result c.args.words.now _ c.read_type.result c.items.ensures c.read_type.ensures
