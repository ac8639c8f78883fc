use Rattle.std.proofs.Common.{◌≤◌, ◌^◌, ◌∙◌, ap, arith, length, rules}
use Rattle.std.proofs.lemmas.List.{length-map}
use Rattle.jav_names.specs.LookUps.{last_place}
use Rattle.mol_spell_places.specs.scope_names.Scopes.{names_in}
use Rattle.mol_spell_places.specs.declared.scope_names.scope.InScope.{InScope}
use Rattle.mol_spell_places.proofs.scope_names_lemmas.FewFirst.{last-small}
use Rattle.mol_spell_places.proofs.scope_names.indexed_names.IndexedNames.place_of.Goals as goal

pub returns-clause-is : goal.returns-clause-is
returns-clause-is c =
    c.found_at.ensures ∙ c.self.invariant.found c.args.name.now ∙ ap (last_place c.args.name.now) c.self.view_is

pub returns-clause-small : goal.returns-clause-small
returns-clause-small c =
    let in_scope = c.self.inside.in_scope.items in
    let many : length in_scope ≤ 2 ^ 63 = search rules in
    last-small c.args.name.now (names_in in_scope) c.found_at.result (2 ^ 63)
    (c.found_at.ensures ∙ c.self.invariant.found c.args.name.now)
    (omega (arith, many, length-map in_scope (λ (local : InScope). local.name.now)))
