use Rattle.std.proofs.Common.{◌∙◌, List, subst, sym}
use Rattle.jav_scope.specs.declared.source.SourceUnit.{SourceUnit}
use Rattle.mol_resolve_members.specs.numbers.Members.{HasArity}
use Rattle.mol_resolve.proofs.AtPlaces.{method-ids}
use Rattle.mol_resolve.proofs.file_reader.FileReader.method_ids.Goals as goal

pub param_ids-requires-clause-arity : goal.param_ids-requires-clause-arity
param_ids-requires-clause-arity c =
    let arity = c.requires.count in
    subst (λ (all : List SourceUnit). HasArity all c.args.at c.in_ok-arity.arity) (sym (c.self.invariant.numbers_see ∙ c.self.view_is))
    (record { declared = arity.declared; stands = arity.stands; takes = arity.takes ∙ sym c.in_ok-arity.ensures.ok })

pub returns : goal.returns
returns c =
    method-ids c.args.self.now c.self.inside.numbers.now (c.self.invariant.numbers_see ∙ c.self.view_is) c.args.at c.args.count _
    c.requires.count c.method_id.ensures c.in_ok-params.ensures c.is_top.ensures
