use Rattle.std.proofs.Common.{◌∙◌, ap}
use Rattle.jav_names.specs.LookUps.{class_named, class_or_imported}
use Rattle.jav_scope.specs.Answers.{reading_of}
use Rattle.jav_scope.specs.Entries.{classes_in}
use Rattle.jav_scope.proofs.TypesFound.{imported-class, imported-outside}
use Rattle.jav_scope.proofs.type_names.TypeNames.class_or_imported.Goals as goal

pub returns-in-Some : goal.returns-in-Some
returns-in-Some c =
    imported-class (class_named (classes_in c.args.self.now) c.bytes.result.now) c.in-Some.class c.args.full.now c.in-Some.ensures
    ∙ ap (λ name. reading_of (class_or_imported (class_named (classes_in c.args.self.now) name) c.args.full.now)) c.bytes.ensures.bytes

pub returns-in-None : goal.returns-in-None
returns-in-None c =
    imported-outside (class_named (classes_in c.args.self.now) c.bytes.result.now) c.args.full.now c.in-None.ensures
    ∙ ap (λ name. reading_of (class_or_imported (class_named (classes_in c.args.self.now) name) c.args.full.now)) c.bytes.ensures.bytes
