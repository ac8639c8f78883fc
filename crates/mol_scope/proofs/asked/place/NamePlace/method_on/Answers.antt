use Rattle.std.proofs.Common.{◌∙◌, cond, None, Some, sym, ap}
use Rattle.jav_names.specs.LookUps.{method_on}
use Rattle.jav_names.specs.Members.{is_object_method}
use Rattle.mol_scope.proofs.asked_lemmas.MembersAnswered.{array-member}
use Rattle.mol_scope.specs.asked.Places.{reader_of}
use Rattle.mol_spell_rules.specs.references.References.{outside_target}
use Rattle.mol_spell_rules.specs.Answers.{method_of, on_value_answer}
use Rattle.mol_scope.specs.types.Kept.{view_value}
use Rattle.mol_scope.specs.declared.types.static_type.StaticType.{StaticType}
use Rattle.mol_scope.proofs.asked.place.NamePlace.method_on.Goals as goal

pub returns-in-Array : goal.returns-in-Array
returns-in-Array c = λ locals.
    let reader = reader_of c.args.self.now in
    c.written_if.ensures
    ∙ (λ i. cond (c.is_object_method.ensures i) (Some (outside_target (c.as_str-in-Array.ensures i))) None)
    ∙ array-member reader c.args.name.now (method_of reader) (is_object_method c.args.name.now c.args.arity)
    ∙ ap (λ (ty : StaticType). on_value_answer reader c.args.name.now (method_of reader)
    (method_on reader.view c.args.name.now c.args.arity (view_value ty))) (sym c.in-Array.is)
