use Rattle.std.proofs.Common.{length, subst, sym}
use Rattle.std.proofs.lemmas.List.{length_push}
use Rattle.std.proofs.lemmas.Slice.Zip.{zip_end, zip_turn}
use Rattle.mol_resolve.proofs.member_headers_lemmas.ParamsRead.{one-read, so_many, whole-read}
use Rattle.mol_resolve.proofs.member_headers.params.read_all.Goals as goal

pub loop-id-preserved : goal.loop-id-preserved
loop-id-preserved g c =
    let reader = g.N.Names.reader c.args.names.now in
    let ids = c.args.ids.now in
    let params = c.args.params.now in
    let done = c.loop-id.yielded in
    let turn = zip_turn ids params done c.into_iter-id-iterator.result c.loop-id.id-iterator c.next.new.self c.next.result (cc) (cc)
    c.loop-id.yielded_by (c.in-Some.id, c.in-Some.param) c.in-Some.is c.next.ensures.steps in
    subst (λ count. so_many reader c.args.at ids params count c.in_ok-list.list c.args.faults.now c.read_type.new.faults)
    (sym (length_push done (c.in-Some.id, c.in-Some.param)))
    (one-read reader c.args.at ids params (length done) c.in-Some.id.now c.in-Some.param.now turn.0 turn.1
    (turn.2 c.in-Some.id.now) (turn.3 c.in-Some.param.now) c.loop-id.list c.in_ok-list.list _ c.args.faults.now c.loop-id.faults
    c.read_type.new.faults c.loop-id.invariant c.in_ok-read.ensures c.in_ok-list.ensures)

pub returns : goal.returns
returns g c =
    let reader = g.N.Names.reader c.args.names.now in
    let ids = c.args.ids.now in
    let params = c.args.params.now in
    let done = c.loop-id.yielded in
    whole-read reader c.args.at ids params (length done)
    (zip_end ids params done c.into_iter-id-iterator.result c.loop-id.id-iterator c.next.new.self c.next.result (cc) (cc)
    c.loop-id.yielded_by c.in-None.is c.next.ensures.steps)
    c.loop-id.list c.args.faults.now c.loop-id.faults c.loop-id.invariant
