use Rattle.std.proofs.Common.{◌∙◌, ◌∷◌, Some, ap}
use Rattle.mol_scope.proofs.asked_lemmas.StaticMembers.{nowhere-field, whole}
use Rattle.mol_scope.specs.asked.Places.{reader_of}
use Rattle.mol_resolve_rules.specs.ReadTrees.{path_of}
use Rattle.mol_spell_rules.specs.Answers.{field_through_answer}
use Rattle.mol_scope.proofs.asked.place.NamePlace.static_field.Goals as goal

pub returns-in-Some : goal.returns-in-Some
returns-in-Some c = λ locals names follow at is.
    let path = path_of (reader_of c.args.self.now) locals (Some names) (c.args.name.now ∷ follow) in
    c.field_through.ensures
    ∙ ap (field_through_answer (reader_of c.args.self.now) c.args.name.now)
    (whole path c.in-Some.class (c.in-Some.ensures locals names (c.args.name.now ∷ follow) at is))

pub returns-in-None : goal.returns-in-None
returns-in-None c = λ locals names follow at is.
    let path = path_of (reader_of c.args.self.now) locals (Some names) (c.args.name.now ∷ follow) in
    nowhere-field c.args.self.now c.args.name.now path
    (c.in-None.ensures locals names (c.args.name.now ∷ follow) at is)
