use Rattle.std.proofs.Common.{◌≡◌, ◌∙◌, sym, ap, subst}
use Rattle.std.specs.Prelude.{IsOkAnd}
use Rattle.mol_spell_body.proofs.headers.looped.Goals as goal
use Rattle.mol_spell_body.specs.Loops.{loop_node}

pub returns : goal.returns
returns c =
    subst (λ r. IsOkAnd r (λ body. c.with_body.result ≡ loop_node (c.args.header, body))) (sym c.in_ok-body.was)
    (c.with_body.ensures ∙ ap (λ header. loop_node (header, c.in_ok-body.body)) c.into_inner.ensures)
