use Rattle.mol_log.proofs.entries_lemmas.Refusals.{refused, parent-read, parent-failed, none-read}
use Rattle.mol_log_words.specs.declared.type_role.TypeRole.TheVariants.{Super}
use Rattle.mol_log.specs.entries.Trees.{SpellsType}
use Rattle.mol_log.proofs.entries.trees.parent_of.Goals as goal

pub returns-in_err-read_type-in-Some : goal.returns-in_err-read_type-in-Some
returns-in_err-read_type-in-Some c =
    refused _ _ c.from_residual.result _ c.from_residual.ensures.1
    (parent-failed c.args.words.now _ _ _ c.in-Some.is c.items.ensures c.in_err-read_type-in-Some.ensures)

pub returns-in_ok-read_type-in-Some : goal.returns-in_ok-read_type-in-Some
returns-in_ok-read_type-in-Some c = parent-read c.args.words.now _ _ _ c.in-Some.is c.items.ensures c.in_ok-read_type-in-Some.ensures

pub returns-in-None : goal.returns-in-None
returns-in-None c = none-read (SpellsType Super) c.args.words.now c.in-None.is
