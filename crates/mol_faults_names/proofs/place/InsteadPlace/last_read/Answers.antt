use Rattle.std.proofs.Common.{◌∙◌, option_map, ap}
use Rattle.mol_faults_names.specs.Reads.{Reads}
use Rattle.mol_faults_names.proofs.place.InsteadPlace.last_read.Goals as goal

pub returns-in-Ok : goal.returns-in-Ok
returns-in-Ok c = λ leftmost is.
    c.named.ensures ∙ ap (option_map (λ (value : Reads). value.target)) (c.in-Ok.ensures leftmost is)
