use Rattle.jav_names.specs.index.Spelled.{spelled}
use Rattle.jav_names.specs.LookUps.{class_named}
use Rattle.mol_scope.proofs.typenames_lemmas.SimpleTypes.{written-class, written-outside}
use Rattle.mol_scope.specs.typenames.Readings.{classes_of}
use Rattle.mol_scope.proofs.typenames.class_file.ClassFile.class_or_written.Goals as goal

pub returns-in-Some : goal.returns-in-Some
returns-in-Some c = λ text.
    written-class (class_named (classes_of c.args.self.now) (spelled c.args.name.now)) c.in-Some.class text c.in-Some.ensures

pub returns-in-None : goal.returns-in-None
returns-in-None c = λ text.
    written-outside (class_named (classes_of c.args.self.now) (spelled c.args.name.now)) text c.in-None.ensures
