use Rattle.std.proofs.Common.{◌≡◌, ◌∙◌, sym, ap, Bool}
use Rattle.std.specs.Prelude.{List, unwrap_or}
use Rattle.std.specs.List.{position}
use Rattle.mol_base.specs.declared.ident.Id.{Id}
use Rattle.mol_values_types.specs.Order.{id_eq}
use Rattle.mol_table_rules.specs.Program.{same_id}
use Rattle.mol_values_types.specs.declared.param.Param.{Param}
use Rattle.mol_values_types.proofs.Ties.{id_ties}
use Rattle.mol_table_numbers.proofs.order.place_in.Goals as goal

-- the place of a parameter, by both tests
same_place : (id : Id) (params : List Param) → position (λ (param : Param). id_eq id param.id) params ≡ position (λ (param : Param). same_id id param.id) params
same_place id params = ap (λ (test : Param → Bool). position test params) (λ i param. id_ties id param.id i)

pub returns-in-Some-clause-place : goal.returns-in-Some-clause-place
returns-in-Some-clause-place c =
    ap (λ o. unwrap_or o 0) (sym c.in-Some.is ∙ c.place_of.ensures.place ∙ same_place c.args.param.now c.params.result.now
    ∙ ap (λ params. position (λ (param : Param). same_id c.args.param.now param.id) params) c.params.ensures)

pub returns-in-None-clause-place : goal.returns-in-None-clause-place
returns-in-None-clause-place c =
    ap (λ o. unwrap_or o 0) (sym c.in-None.is ∙ c.place_of.ensures.place ∙ same_place c.args.param.now c.params.result.now
    ∙ ap (λ params. position (λ (param : Param). same_id c.args.param.now param.id) params) c.params.ensures)
