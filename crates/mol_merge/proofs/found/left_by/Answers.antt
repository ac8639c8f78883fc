use Rattle.std.proofs.Common.{◌≡◌, sym, subst}
use Rattle.std.specs.Prelude.{IfOk}
use Rattle.mol_log_rules.specs.Histories.{AppliesOn, after}
use Rattle.mol_log_rules.specs.Logs.{history}
use Rattle.mol_merge.proofs.found.left_by.Goals as goal
use Rattle.mol_table_rules.specs.Program.{Program}

pub unite_onto-requires : goal.unite_onto-requires
unite_onto-requires c =
    subst (λ (p : Program). AppliesOn p (history c.args.log.now)) (sym c.in_ok-copy.ensures) c.requires

pub returns : goal.returns
returns c =
    subst (λ (p : Program). IfOk c.unite_onto.result (λ left. left ≡ after p (history c.args.log.now))) c.in_ok-copy.ensures
    c.unite_onto.ensures
