use Rattle.std.proofs.Common.{◌∙◌, ap}
use Rattle.jav_names.specs.DottedNames.{Name}
use Rattle.jav_names.specs.LookUps.{class_named, class_or_imported}
use Rattle.mol_scope.proofs.typenames_lemmas.SimpleTypes.{imported-class, imported-outside}
use Rattle.mol_scope.specs.typenames.Readings.{classes_of}
use Rattle.mol_scope.proofs.typenames.class_file.ClassFile.class_or_imported.Goals as goal

pub returns-in-Some : goal.returns-in-Some
returns-in-Some c = λ text.
    imported-class (class_named (classes_of c.args.self.now) c.bytes.result.now) c.in-Some.class c.args.full.now c.in-Some.ensures
    ∙ ap (λ (name : Name). class_or_imported (class_named (classes_of c.args.self.now) name) c.args.full.now) c.bytes.ensures.bytes

pub returns-in-None : goal.returns-in-None
returns-in-None c = λ text.
    imported-outside (class_named (classes_of c.args.self.now) c.bytes.result.now) c.args.full.now c.in-None.ensures
    ∙ ap (λ (name : Name). class_or_imported (class_named (classes_of c.args.self.now) name) c.args.full.now) c.bytes.ensures.bytes
