use Rattle.std.proofs.Common.{◌≡◌, ◌∙◌, ◌-◌, ◌++◌, ap, length, rules, take}
use Rattle.mol_spell_places.specs.scope_names.Few.{names_of}
use Rattle.mol_spell_places.proofs.scope_names_lemmas.FewFirst.{taken}
use Rattle.mol_spell_places.proofs.scope_names.scope_names.ScopeNames.end_block.Goals as goal

pub returns : goal.returns
returns c =
    let few = c.self.inside.few.items in
    let more = c.self.inside.more in
    let many : c.len.result ≡ length few = search rules in
    (λ i. names_of (c.truncate-2.ensures.items i)
    ++ (c.truncate.ensures ∙ ap (λ mark. take mark more) (c.saturating_sub.ensures ∙ ap (λ n. c.args.mark - n) many)) i)
    ∙ taken few more c.args.mark
    ∙ ap (take c.args.mark) c.self.view_is
