use Rattle.std.proofs.Common.{◌≡◌, ◌∙◌, ◌||◌, List, [], ◌∷◌, bytes_eq, refl, ap}
use Rattle.std.specs.List.{list_any}
use Rattle.jav_names.specs.DottedNames.{Name}
use Rattle.mol_resolve_names.specs.chains.InMembers.{names_of_params}
use Rattle.mol_resolve_names.specs.declared.chains.parameter.Parameter.{Parameter}
use Rattle.mol_resolve_names.proofs.names.names.MemberNamesNames.is_param.Goals as goal

-- a parameter has the name where that is one of their names
any-named : (name : Name) (params : List Parameter)
    → list_any (λ (param : Parameter). bytes_eq name param.name) params ≡ list_any (bytes_eq name) (names_of_params params)
any-named name [] = refl
any-named name (param ∷ params) = ap (λ later. bytes_eq name param.name || later) (any-named name params)

pub returns : goal.returns
returns c =
    let params = c.args.self.now.params.items in
    c.is_named.ensures ∙ ap (λ (params : List Parameter). list_any (λ (param : Parameter). bytes_eq c.args.name.now param.name) params)
    c.as_slice.ensures.value ∙ any-named c.args.name.now params
