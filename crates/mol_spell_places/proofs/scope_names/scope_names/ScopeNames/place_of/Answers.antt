use Rattle.std.proofs.Common.{◌≡◌, ◌∙◌, ◌+◌, Some, ap, length, rules, sym}
use Rattle.jav_names.specs.LookUps.{last_place}
use Rattle.mol_spell_places.specs.scope_names.Few.{names_of}
use Rattle.mol_spell_places.proofs.scope_names_lemmas.FewFirst.{last-in-few, last-in-more}
use Rattle.mol_spell_places.proofs.scope_names.scope_names.ScopeNames.place_of.Goals as goal

pub returns-in-Some : goal.returns-in-Some
returns-in-Some c =
    let many : c.len.result ≡ length c.self.inside.few.items = search rules in
    ap (λ many. Some (many + c.in-Some.place)) many
    ∙ last-in-more c.self.inside.few.items c.self.inside.more c.args.name.now c.in-Some.place (sym c.in-Some.ensures.is)
    ∙ ap (last_place c.args.name.now) c.self.view_is

pub returns-in-None : goal.returns-in-None
returns-in-None c =
    c.last_of.ensures
    ∙ ap (λ names. last_place c.args.name.now (names_of names)) c.as_slice.ensures.value
    ∙ last-in-few c.self.inside.few.items c.self.inside.more c.args.name.now (sym c.in-None.ensures.is)
    ∙ ap (last_place c.args.name.now) c.self.view_is
