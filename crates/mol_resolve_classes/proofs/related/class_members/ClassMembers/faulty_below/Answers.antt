use Rattle.mol_resolve_classes.proofs.related_lemmas.KeptFaults.{methods-kept}
use Rattle.mol_resolve_classes.proofs.related.class_members.ClassMembers.faulty_below.Goals as goal

pub returns : goal.returns
returns c = λ rows kept. c.faulty_beside.ensures rows (methods-kept c.args.self.now rows kept)
