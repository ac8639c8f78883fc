use Rattle.std.proofs.Common.{◌<◌, ◌∙◌, ap, length, rules}
use Rattle.jav_names.specs.LookUps.{first_place}
use Rattle.mol_spell_places.specs.scope_names.Few.{few}
use Rattle.mol_spell_places.proofs.scope_names_lemmas.FirstNamed.{first-named}
use Rattle.mol_spell_places.proofs.scope_names.param_names.ParamNames.place_of.Goals as goal

pub returns-then-self-gt-FEW : goal.returns-then-self-gt-FEW
returns-then-self-gt-FEW c =
    let many : few < length c.self.inside.params.now = search rules in
    c.found_at.ensures ∙ c.self.invariant many c.args.name.now ∙ ap (first_place c.args.name.now) c.self.view_is

pub returns-else-self-gt-FEW : goal.returns-else-self-gt-FEW
returns-else-self-gt-FEW c =
    c.first_of.ensures ∙ first-named c.args.name.now c.self.inside.params.now ∙ ap (first_place c.args.name.now) c.self.view_is
