use Rattle.std.proofs.Common.{sym, ◌∙◌, ap}
use Rattle.mol_resolve_members.specs.members.Rows.{kept_row}
use Rattle.mol_resolve_members.specs.sources.Sources.{files_of}
use Rattle.mol_resolve_classes.specs.related.Compared.{has_fault}
use Rattle.mol_resolve_classes.proofs.related_lemmas.FaultsAbove.{none-above}
use Rattle.mol_resolve_classes.proofs.related.related.Related.faulty_above.Goals as goal

pub returns-else-has_fault : goal.returns-else-has_fault
returns-else-has_fault c =
    c.in-Some.ensures
    ∙ none-above (files_of c.args.self.now) c.args.unit (kept_row c.args.row.now)
    (ap has_fault (sym c.in-Some.ensures) ∙ sym c.has_fault.ensures ∙ c.if-has_fault.false)
