use Rattle.std.proofs.Common.{ap}
use Rattle.std.proofs.lemmas.Result.{IfOk-weaker}
use Rattle.mol_resolve_readings.specs.locals.Scoped.{locals_of}
use Rattle.mol_resolve_stmt.proofs.InTurn.{goes_as, none_declared}
use Rattle.mol_resolve_stmt.proofs.stmt_reader.StmtReader.header.Goals as goal
use Rattle.mol_resolve_stmt.specs.Loops.{header_of}

pub returns-in-While : goal.returns-in-While
returns-in-While g c =
    let reader = g.N.Names.reader c.args.self.now.names.now in
    let locals = locals_of c.args.locals.now in
    IfOk-weaker c.while_header.result _ _ (λ header read.
    goes_as _ _ _ _ _ _ _ (ap (λ kind. header_of reader kind c.args.at locals) c.in-While.is) (none_declared _ header locals _ _ read))
    c.while_header.ensures

pub returns-in-For : goal.returns-in-For
returns-in-For g c =
    let reader = g.N.Names.reader c.args.self.now.names.now in
    let locals = locals_of c.args.locals.now in
    IfOk-weaker c.for_header.result _ _ (λ header goes.
    goes_as _ _ _ _ _ _ _ (ap (λ kind. header_of reader kind c.args.at locals) c.in-For.is) goes) c.for_header.ensures

pub returns-in-Each : goal.returns-in-Each
returns-in-Each g c =
    let reader = g.N.Names.reader c.args.self.now.names.now in
    let locals = locals_of c.args.locals.now in
    IfOk-weaker c.each_header.result _ _ (λ header goes.
    goes_as _ _ _ _ _ _ _ (ap (λ kind. header_of reader kind c.args.at locals) c.in-Each.is) goes) c.each_header.ensures
