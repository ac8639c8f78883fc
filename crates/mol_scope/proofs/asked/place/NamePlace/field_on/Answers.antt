use Rattle.std.proofs.Common.{◌∙◌, cond, None, Some, sym, ap, bytes_eq, codes}
use Rattle.jav_names.specs.LookUps.{field_on}
use Rattle.mol_scope.proofs.asked_lemmas.MembersAnswered.{array-member}
use Rattle.mol_scope.specs.asked.Places.{reader_of}
use Rattle.mol_spell_rules.specs.references.References.{outside_target}
use Rattle.mol_spell_rules.specs.Answers.{field_of, on_value_answer}
use Rattle.mol_scope.specs.types.Kept.{view_value}
use Rattle.mol_scope.specs.declared.types.static_type.StaticType.{StaticType}
use Rattle.mol_scope.proofs.asked.place.NamePlace.field_on.Goals as goal

pub returns-in-Array : goal.returns-in-Array
returns-in-Array c = λ locals.
    let reader = reader_of c.args.self.now in
    c.written_if.ensures ∙ ap (λ b. cond b (Some (outside_target c.args.name.now)) None) c.eq.ensures
    ∙ array-member reader c.args.name.now (field_of reader) (bytes_eq c.args.name.now (codes "length"))
    ∙ ap (λ (ty : StaticType). on_value_answer reader c.args.name.now (field_of reader)
    (field_on reader.view c.args.name.now (view_value ty))) (sym c.in-Array.is)
