use Rattle.std.proofs.Common.{◌∷◌, ap, ◌∙◌}
use Rattle.mol_faults_expr.proofs.FollowersKept.{one-more}
use Rattle.mol_faults_expr.proofs.followers.Followers.push_front.Goals as goal

pub returns : goal.returns
returns c =
    one-more _ _ _ c.in_ok-push.ensures.items ∙ ap (λ names. c.args.name.now ∷ names) c.self.view_is
