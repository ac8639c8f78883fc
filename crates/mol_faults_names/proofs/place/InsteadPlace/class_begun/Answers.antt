use Rattle.std.proofs.Common.{sym, ap, subst}
use Rattle.mol_faults_names.specs.Kept.{leftmost_of, locals_at, reader_at}
use Rattle.mol_faults_names.specs.declared.first.First.{First}
use Rattle.mol_scope.specs.first_names.Readings.{IsRead}
use Rattle.mol_spell_rules.specs.ReadInstead.{class_begun}
use Rattle.mol_faults_names.proofs.place.InsteadPlace.class_begun.Goals as goal

pub returns-in-Class : goal.returns-in-Class
returns-in-Class c = λ read is.
    let at = subst (λ (first : First). IsRead (leftmost_of first) read) c.in-Class.is is in
    ap (class_begun (reader_at c.args.self.now) (locals_at c.args.self.now)) (sym at)
