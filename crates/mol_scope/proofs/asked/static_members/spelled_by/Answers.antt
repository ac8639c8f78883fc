use Rattle.std.proofs.Common.{◌∙◌, sym, ap}
use Rattle.mol_scope.proofs.asked_lemmas.PathsSpelled.{spelled-else, spelled-so, spelled_by}
use Rattle.mol_scope.specs.first_names.Readings.{type_read}
use Rattle.mol_scope.specs.declared.first_names.reading.FirstType.{FirstType}
use Rattle.mol_scope.proofs.asked.static_members.spelled_by.Goals as goal

pub returns-then-spelling-count : goal.returns-then-spelling-count
returns-then-spelling-count c =
    spelled-so c.args.count c.in-Class.spelling c.in-Class.class c.if-spelling-count.true
    ∙ ap (λ (first : FirstType). spelled_by c.args.count (type_read first)) (sym c.in-Class.is)

pub returns-else-spelling-count : goal.returns-else-spelling-count
returns-else-spelling-count c =
    spelled-else c.args.count c.in-Class.spelling c.in-Class.class c.if-spelling-count.false
    ∙ ap (λ (first : FirstType). spelled_by c.args.count (type_read first)) (sym c.in-Class.is)
