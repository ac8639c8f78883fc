use Rattle.std.proofs.Common.{sym}
use Rattle.jav_scope.specs.typenames.Readings.{type_read}
use Rattle.jav_scope.proofs.typenames_lemmas.OutsideRead.{class-read, nothing-read}
use Rattle.jav_scope.proofs.typenames.reading.type_reading.Goals as goal

pub returns-in-Found : goal.returns-in-Found
returns-in-Found c = λ source at.
    class-read (type_read c.args.scope.now c.args.unit source c.args.text.now) c.in-Found.class (c.in-Found.ensures source at)

pub outside_reading-requires-clause-outside : goal.outside_reading-requires-clause-outside
outside_reading-requires-clause-outside c = λ source at. sym (c.in-Outside.ensures source at)

pub returns-in-NotFound : goal.returns-in-NotFound
returns-in-NotFound c = λ source at.
    nothing-read (type_read c.args.scope.now c.args.unit source c.args.text.now) (c.in-NotFound.ensures source at)
