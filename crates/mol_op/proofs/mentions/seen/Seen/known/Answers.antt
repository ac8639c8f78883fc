use Rattle.std.proofs.Common.{◌∙◌, sym, ap}
use Rattle.std.specs.Option.{option_or}
use Rattle.mol_op.specs.Changes.{first_name}
use Rattle.mol_op.specs.Seen.{added_names}
use Rattle.mol_op.specs.ChangeLaws.{get-know_all}
use Rattle.mol_op.proofs.mentions.seen.Seen.known.Goals as goal

pub returns-in-Some : goal.returns-in-Some
returns-in-Some c =
    let seen = c.args.self.now in
    sym (get-know_all (added_names seen) seen.table.now.known c.args.id.now
    ∙ ap (λ o. option_or o (first_name (added_names seen) c.args.id.now)) (sym c.known.ensures ∙ c.in-Some.is))

pub returns-in-None : goal.returns-in-None
returns-in-None c =
    let seen = c.args.self.now in
    c.added.ensures
    ∙ sym (get-know_all (added_names seen) seen.table.now.known c.args.id.now
    ∙ ap (λ o. option_or o (first_name (added_names seen) c.args.id.now)) (sym c.known.ensures ∙ c.in-None.is))
