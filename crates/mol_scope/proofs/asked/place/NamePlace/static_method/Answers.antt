use Rattle.std.proofs.Common.{◌∙◌, [], Some, ap}
use Rattle.mol_scope.proofs.asked_lemmas.StaticMembers.{nowhere-method, whole}
use Rattle.mol_scope.specs.asked.Places.{reader_of}
use Rattle.mol_resolve_rules.specs.ReadTrees.{path_of}
use Rattle.mol_spell_rules.specs.Answers.{method_through_answer}
use Rattle.mol_scope.proofs.asked.place.NamePlace.static_method.Goals as goal

pub returns-in-Some : goal.returns-in-Some
returns-in-Some c = λ locals names at is.
    let path = path_of (reader_of c.args.self.now) locals (Some names) [] in
    c.method_through.ensures
    ∙ ap (method_through_answer (reader_of c.args.self.now) c.args.name.now c.args.arity)
    (whole path c.in-Some.class (c.in-Some.ensures locals names [] at is))

pub returns-in-None : goal.returns-in-None
returns-in-None c = λ locals names at is.
    let path = path_of (reader_of c.args.self.now) locals (Some names) [] in
    nowhere-method c.args.self.now c.args.name.now c.args.arity path
    (c.in-None.ensures locals names [] at is)
