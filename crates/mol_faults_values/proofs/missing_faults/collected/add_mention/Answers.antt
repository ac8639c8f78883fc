use Rattle.std.proofs.Common.{◌∙◌, [], ◌∷◌, sym, ap, if◌then◌else◌}
use Rattle.mol_faults_values.proofs.missing_faults.collected.add_mention.Goals as goal
use Rattle.mol_faults_values.specs.declared.missing_faults.gone.Gone.{Gone}
use Rattle.mol_base.proofs.Added.{adds, adds-none}

pub returns-then-is_there : goal.returns-then-is_there
returns-then-is_there c =
    let gone : Gone = record { at = c.args.at.now; target = c.args.mention.now.id } in
    adds-none c.args.gone.now.items _ (ap (λ there. if there then [] else gone ∷ []) (sym c.is_there.ensures ∙ c.if-is_there.true))

pub returns : goal.returns
returns c =
    let gone : Gone = record { at = c.args.at.now; target = c.args.mention.now.id } in
    adds c.args.gone.now.items _ _ _ (ap (λ there. if there then [] else gone ∷ []) (sym c.is_there.ensures ∙ c.if-is_there.false))
    c.in_ok-push.ensures.items
