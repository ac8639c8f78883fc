use Rattle.std.proofs.Common.{◌∙◌, take, sym, ap}
use Rattle.std.proofs.lemmas.List.{take-map}
use Rattle.mol_spell_places.specs.scope_names.Scopes.{names_in}
use Rattle.mol_spell_places.specs.declared.scope_names.scope.InScope.{InScope}
use Rattle.mol_spell_places.proofs.scope_names.indexed_names.IndexedNames.truncate.Goals as goal

pub leave_from-requires : goal.leave_from-requires
leave_from-requires c = c.self.invariant

pub invariant_of-self : goal.invariant_of-self
invariant_of-self c = c.leave_from.ensures.stands

pub returns : goal.returns
returns c =
    ap names_in c.leave_from.ensures.scope
    ∙ sym (take-map (λ (l : InScope). l.name.now) c.args.mark c.self.inside.in_scope.items)
    ∙ ap (take c.args.mark) c.self.view_is
