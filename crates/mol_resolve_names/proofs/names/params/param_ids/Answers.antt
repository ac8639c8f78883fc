use Rattle.std.proofs.Common.{◌∙◌, length, ap}
use Rattle.std.proofs.lemmas.Result.{IfOk-weaker}
use Rattle.mol_resolve_members.proofs.numbers_lemmas.MemberKeys.{has-member}
use Rattle.mol_resolve_members.specs.numbers.Members.{HasArity}
use Rattle.mol_resolve_names.proofs.names_lemmas.DeclaredIds.{ctor-arity, field-ids, ids-declared, method-arity}
use Rattle.mol_resolve_names.proofs.names.params.param_ids.Goals as goal

pub param_ids-requires : goal.param_ids-requires
param_ids-requires c = record {
  member = has-member c.args.numbers.now c.args.at c.args.member.now c.requires;
  arity = method-arity c.args.numbers.now c.args.at c.args.member.now c.requires c.in-Method.field-0 c.in_ok-number_of-in-Method.field-0
      c.in-Method.is (c.in_ok-number_of-in-Method.ensures.ok ∙ ap length c.params_of.ensures);
}

pub param_ids-requires-in-Ctor : goal.param_ids-requires-in-Ctor
param_ids-requires-in-Ctor c = record {
  member = has-member c.args.numbers.now c.args.at c.args.member.now c.requires;
  arity = ctor-arity c.args.numbers.now c.args.at c.args.member.now c.requires c.in-Ctor.field-0 c.in_ok-number_of-in-Ctor.field-0
      c.in-Ctor.is (c.in_ok-number_of-in-Ctor.ensures.ok ∙ ap length c.params_of-in-Ctor.ensures);
}

pub returns-in-Field : goal.returns-in-Field
returns-in-Field c =
    c.new.ensures.items ∙ field-ids c.args.numbers.now c.args.at c.args.member.now c.requires c.in-Field.field-0 c.in-Field.is

pub returns-in_ok-number_of-in-Method : goal.returns-in_ok-number_of-in-Method
returns-in_ok-number_of-in-Method c =
    let arity : HasArity c.args.numbers.now c.args.at c.in_ok-number_of-in-Method.field-0 =
    method-arity c.args.numbers.now c.args.at c.args.member.now c.requires c.in-Method.field-0 c.in_ok-number_of-in-Method.field-0
    c.in-Method.is (c.in_ok-number_of-in-Method.ensures.ok ∙ ap length c.params_of.ensures) in
    IfOk-weaker c.param_ids.result _ _ (λ ids are. ids-declared c.args.numbers.now c.args.at c.in_ok-number_of-in-Method.field-0 arity
    ids.items are) c.param_ids.ensures

pub returns-in_ok-number_of-in-Ctor : goal.returns-in_ok-number_of-in-Ctor
returns-in_ok-number_of-in-Ctor c =
    let arity : HasArity c.args.numbers.now c.args.at c.in_ok-number_of-in-Ctor.field-0 =
    ctor-arity c.args.numbers.now c.args.at c.args.member.now c.requires c.in-Ctor.field-0 c.in_ok-number_of-in-Ctor.field-0
    c.in-Ctor.is (c.in_ok-number_of-in-Ctor.ensures.ok ∙ ap length c.params_of-in-Ctor.ensures) in
    IfOk-weaker c.param_ids-in-Ctor.result _ _ (λ ids are. ids-declared c.args.numbers.now c.args.at c.in_ok-number_of-in-Ctor.field-0
    arity ids.items are) c.param_ids-in-Ctor.ensures
