use Rattle.std.proofs.Common.{◌∙◌, ◌++◌, sym, ap, map}
use Rattle.std.proofs.lemmas.List.{take_all}
use Rattle.mol_faults_rules.specs.Kept.{kept_target}
use Rattle.mol_faults.proofs.MetMore.{more-made}
use Rattle.mol_faults.specs.Met.{met_among, met_in}
use Rattle.mol_faults_misread.specs.misread_faults.Found.{kept_name}
use Rattle.mol_faults_misread.specs.declared.misread_faults.names.MisreadName.{MisreadName}
use Rattle.std.specs.Prelude.{List}
use Rattle.mol_faults.proofs.supports.met_among.Goals as goal

pub loop-name-preserved : goal.loop-name-preserved
loop-name-preserved c =
    let make = met_in c.args.at.now c.args.number (kept_target c.args.target.now) in
    c.in_ok-add_met.ensures
    ∙ ap (λ met. met ++ make (kept_name c.name-item.result)) c.loop-name.invariant
    ∙ sym (more-made kept_name make c.args.names.now c.loop-name.name-index c.name-item.result c.loop-name-test.true c.name-item.is)

pub returns : goal.returns
returns c =
    c.loop-name.invariant
    ∙ ap (λ (names : List MisreadName). met_among c.args.at.now c.args.number (kept_target c.args.target.now) (map kept_name names))
    (take_all c.loop-name.name-index c.args.names.now c.loop-name-test.false)
