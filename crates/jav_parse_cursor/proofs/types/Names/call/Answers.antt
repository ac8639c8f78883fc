use Rattle.std.proofs.Common.{◌≡◌, ◌∙◌, ◌∷◌, IfOk, sym, ap, subst, arith}
use Rattle.jav_lex.specs.Token.{seen, all_seen}
use Rattle.jav_parse_cursor.specs.Nodes.{called, called_on, named_call}
use Rattle.jav_parse_cursor.proofs.Chains.{call_is, call_on_is}
use Rattle.jav_parse_cursor.proofs.types.Names.call.Goals as goal

pub returns-in_default-clause-made : goal.returns-in_default-clause-made
returns-in_default-clause-made c =
    let builds = c.args.limits.builds in
    let args = c.args.args in
    let v : seen c.self.inside.first.now ∷ all_seen c.self.inside.rest.now ≡ c.args.self.now = c.self.view_is in
    let k = call_is builds (seen c.self.inside.first.now) c.self.inside.rest.now args (omega (arith, c.in_default.len_below)) in
    subst (λ z. IfOk c.called.result (λ x. x ≡ z)) (sym k ∙ ap (λ ts. named_call builds ts args) v) c.called.ensures

pub returns-in_ok-on-in-len2-up-clause-made : goal.returns-in_ok-on-in-len2-up-clause-made
returns-in_ok-on-in-len2-up-clause-made c =
    let builds = c.args.limits.builds in
    let args = c.args.args in
    let last = c.last-item.result in
    let v : seen c.self.inside.first.now ∷ all_seen c.self.inside.rest.now ≡ c.args.self.now = c.self.view_is in
    let m = c.in_ok-on-in-len2-up.ensures.made in
    let k = call_on_is builds (seen c.self.inside.first.now) c.self.inside.rest.now last args c.in-len2-up.len_at_least c.last-item.is in
    subst (λ z. IfOk c.called_on.result (λ x. x ≡ z)) (ap (λ o. called_on o (seen last) args) m ∙ sym k ∙ ap (λ ts. named_call builds ts args) v) c.called_on.ensures
