use Rattle.std.proofs.Common.{◌∙◌, ◌++◌, ap}
use Rattle.mol_faults_support.specs.Cells.{address_of}
use Rattle.mol_faults_support.proofs.ByFault.{same-rests}
use Rattle.mol_faults_support.proofs.pairs.same_address.Goals as goal

pub returns : goal.returns
returns c =
    let program = c.args.table.now in
    let first = c.args.first.now in
    let second = c.args.second.now in
    same-rests program first second _
    (c.in_ok-add_addresses.ensures ∙ ap (λ cs. cs ++ (address_of program first ++ address_of program second)) c.new-cells.ensures.items)
