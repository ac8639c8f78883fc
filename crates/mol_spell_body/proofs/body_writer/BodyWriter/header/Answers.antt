use Rattle.std.proofs.Common.{ap}
use Rattle.std.proofs.lemmas.Result.{IfOk-weaker}
use Rattle.mol_spell_body.proofs.InTurn.{said_so}
use Rattle.mol_spell_body.proofs.Looped.{while-goes}
use Rattle.mol_spell_body.proofs.body_writer.BodyWriter.header.Goals as goal
use Rattle.mol_spell_body.specs.Loops.{header_of}
use Rattle.mol_spell_places.specs.body_locals.Kept.{locals_of}

pub returns-in-While : goal.returns-in-While
returns-in-While g c =
    let writer = g.P.Places.writer c.args.self.now.places.now in
    let locals = locals_of c.args.locals.now in
    IfOk-weaker c.while_header.result _ _ (λ header is.
    said_so _ (header_of writer c.args.kind) header locals locals (ap (λ kind. header_of writer kind locals) c.in-While.is)
    (while-goes writer locals _ header is)) c.while_header.ensures

pub returns-in-For : goal.returns-in-For
returns-in-For g c =
    let writer = g.P.Places.writer c.args.self.now.places.now in
    let locals = locals_of c.args.locals.now in
    IfOk-weaker c.for_header.result _ _ (λ header goes.
    said_so _ (header_of writer c.args.kind) header locals _ (ap (λ kind. header_of writer kind locals) c.in-For.is) goes)
    c.for_header.ensures

pub returns-in-Each : goal.returns-in-Each
returns-in-Each g c =
    let writer = g.P.Places.writer c.args.self.now.places.now in
    let locals = locals_of c.args.locals.now in
    IfOk-weaker c.each_header.result _ _ (λ header goes.
    said_so _ (header_of writer c.args.kind) header locals _ (ap (λ kind. header_of writer kind locals) c.in-Each.is) goes)
    c.each_header.ensures
