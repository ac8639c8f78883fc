use Rattle.jav_names.specs.LookUps.{class_named}
use Rattle.jav_names.specs.index.Spelled.{spelled}
use Rattle.jav_scope.specs.Entries.{classes_in}
use Rattle.jav_scope.proofs.TypesFound.{written-class, written-outside}
use Rattle.jav_scope.proofs.type_names.TypeNames.class_or_written.Goals as goal

pub returns-in-Some : goal.returns-in-Some
returns-in-Some c = λ text. written-class (class_named (classes_in c.args.self.now) (spelled c.args.name.now)) c.in-Some.class text
    c.in-Some.ensures

pub returns-in-None : goal.returns-in-None
returns-in-None c = λ text. written-outside (class_named (classes_in c.args.self.now) (spelled c.args.name.now)) text c.in-None.ensures
