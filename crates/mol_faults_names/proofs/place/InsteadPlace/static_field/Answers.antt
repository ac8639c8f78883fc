use Rattle.std.proofs.Common.{◌+◌, ◌-◌, ◌∙◌, [], ◌∷◌, ◌++◌, arith}
use Rattle.std.proofs.lemmas.Result.{IfOk-weaker}
use Rattle.mol_faults_names.proofs.NamesCut.{first-name, names-after, one-longer, with-last}
use Rattle.mol_faults_names.proofs.Said.{left}
use Rattle.mol_faults_names.proofs.SaidInstead.{field-value}
use Rattle.mol_faults_names.specs.Kept.{locals_at, program_at, reader_at}
use Rattle.mol_faults_names.specs.Reads.{target_read}
use Rattle.mol_faults_names.proofs.place.InsteadPlace.static_field.Goals as goal

pub returns : goal.returns
returns c =
    let self = c.args.self.now in
    let place = self.names.now in
    let locals = locals_at self in
    IfOk-weaker c.last_read.result _ _ (λ answer said path name follow is many.
    let longer = path.rest ++ name ∷ [] in
    let all = with-last c.args.names.now path.first name path.rest follow is in
    let read = left place locals path.first (longer ++ follow) in
    let first = first-name c.args.names.now path.first c.index-names-0.result (longer ++ follow) c.index-names-0.is all in
    let one_more = one-longer path.rest name in
    let rest = names-after c.args.names.now path.first longer follow ((c.args.count + 1) - 1) all (omega (arith, many, one_more)) in
    said read (c.first-first.ensures path.first (longer ++ follow) all)
    ∙ (λ i. target_read (program_at self) (reader_at self) locals (first i) (rest i) read)
    ∙ field-value place locals path name follow)
    c.last_read.ensures
