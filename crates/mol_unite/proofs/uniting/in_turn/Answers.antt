use Rattle.std.proofs.Common.{◌∙◌, ap}
use Rattle.mol_log_rules.specs.Histories.{after}
use Rattle.mol_log_rules.specs.Logs.{history}
use Rattle.mol_table_rules.specs.Program.{Program}
use Rattle.mol_unite.proofs.InTurn.{answered-in-turn, applies-behind}
use Rattle.mol_unite.proofs.uniting.in_turn.Goals as goal

pub unite_onto-requires-2 : goal.unite_onto-requires-2
unite_onto-requires-2 c =
    applies-behind c.args.base.now c.args.one.now c.args.other.now c.requires.one c.requires.other c.requires.apart c.in_ok-left.left
    (c.in_ok-left.ensures ∙ ap (λ (p : Program). after p (history c.args.one.now)) c.in_ok-copy.ensures)

pub returns : goal.returns
returns c =
    answered-in-turn c.args.base.now c.in_ok-left.left c.args.one.now c.args.other.now c.unite_onto-2.result
    (c.in_ok-left.ensures ∙ ap (λ (p : Program). after p (history c.args.one.now)) c.in_ok-copy.ensures) c.unite_onto-2.ensures
