use Rattle.std.proofs.Common.{rules, ◌≡◌, ◌∙◌, ℕ, List, ap, length}
use Rattle.std.proofs.lemmas.Iterator.Adapters.{YieldsList-from_vec}
use Rattle.std.proofs.lemmas.Iterator.Consumers.{YieldsList-turn}
use Rattle.std.proofs.lemmas.List.{length_push}
use Rattle.std.proofs.lemmas.List.Elements.{Contains-get_or}
use Rattle.std.proofs.lemmas.Result.{err_from_is_err_and}
use Rattle.mol_top.proofs.Carrying.{Carries-more}
use Rattle.mol_top.proofs.ReadingFiles.{HasRead-more, absent-next, large-next, Contains-joined}
use Rattle.mol_top.proofs.Stopping.{Stops-later}
use Rattle.mol_top.specs.Carried.{NoPath}
use Rattle.mol_top.specs.Outside.{store}
use Rattle.mol_top.specs.Refusals.{absent_input, files_refusal}
use Rattle.mol_top.specs.Steps.{IsAmong, Only}
use Rattle.mol_top.proofs.store.read_files.Goals as goal

pub returns-in_err-bytes-clause-stop : goal.returns-in_err-bytes-clause-stop
returns-in_err-bytes-clause-stop g c =
    let base = c.args.base.now in
    let paths = c.args.paths.items in
    let done = c.loop-path.yielded in
    let p = err_from_is_err_and c.from_residual-in_err-bytes.result c.from_residual-in_err-bytes.ensures.1 in
    let turn = YieldsList-turn (YieldsList-from_vec {s = c.into_iter-path-iterator.result} paths (search rules) (search rules)) done c.loop-path.path-iterator c.loop-path.yielded_by _ c.next.new.self c.in-Some.path c.in-Some.is c.next.ensures.steps in
    let among : (q : List ℕ) → Only c.in_ok-full.full q → IsAmong base paths q = λ q is.
    rw (is, c.in_ok-full.ensures) (Contains-joined base paths _ (rw turn.1 (Contains-get_or paths (length done) _ turn.0))) in
    rw (p.1, p.2) (Stops-later (IsAmong base paths) (Only c.in_ok-full.full) (store g.F.Files c.args.files.now) (store g.F.Files c.loop-path.files) (store g.F.Files c.read_input.new.files)
    (λ h. files_refusal base h 0 paths) (absent_input c.in_ok-full.full) _ among c.loop-path.invariant.only_reads
    (λ h e st. absent-next base h paths (length done) c.loop-path.total c.in-Some.path _ (c.loop-path.invariant.told h e).0 turn.0 turn.1 (rw c.in_ok-full.ensures at st))
    c.in_err-bytes.ensures.stop)

pub returns-in_err-bytes-clause-carries : goal.returns-in_err-bytes-clause-carries
returns-in_err-bytes-clause-carries g c =
    let base = c.args.base.now in
    let paths = c.args.paths.items in
    let done = c.loop-path.yielded in
    let p = err_from_is_err_and c.from_residual-in_err-bytes.result c.from_residual-in_err-bytes.ensures.1 in
    let turn = YieldsList-turn (YieldsList-from_vec {s = c.into_iter-path-iterator.result} paths (search rules) (search rules)) done c.loop-path.path-iterator c.loop-path.yielded_by _ c.next.new.self c.in-Some.path c.in-Some.is c.next.ensures.steps in
    let among : (q : List ℕ) → Only c.in_ok-full.full q → IsAmong base paths q = λ q is.
    rw (is, c.in_ok-full.ensures) (Contains-joined base paths _ (rw turn.1 (Contains-get_or paths (length done) _ turn.0))) in
    rw (p.1, p.2) (Carries-more (IsAmong base paths) (Only c.in_ok-full.full) (IsAmong base paths) (Only c.in_ok-full.full) NoPath NoPath _ among among (λ q none. none) c.in_err-bytes.ensures.carries)

pub returns-in_err-total-clause-stop : goal.returns-in_err-total-clause-stop
returns-in_err-total-clause-stop g c =
    let base = c.args.base.now in
    let paths = c.args.paths.items in
    let done = c.loop-path.yielded in
    let p = err_from_is_err_and c.from_residual-in_err-total.result c.from_residual-in_err-total.ensures.1 in
    let turn = YieldsList-turn (YieldsList-from_vec {s = c.into_iter-path-iterator.result} paths (search rules) (search rules)) done c.loop-path.path-iterator c.loop-path.yielded_by _ c.next.new.self c.in-Some.path c.in-Some.is c.next.ensures.steps in
    let size : length c.items.result.now ≡ length c.in_ok-bytes.bytes = ap length c.items.ensures in
    rw (p.1, p.2) (λ h e. large-next base h paths (length done) c.loop-path.total c.in-Some.path c.in_ok-bytes.bytes _ (c.loop-path.invariant.told h e).0 turn.0 turn.1
    (rw (← c.in_ok-full.ensures) (c.in_ok-bytes.ensures.bytes h (c.loop-path.invariant.only_reads.held ∙ e))) (rw (← size) c.in_err-total.ensures.refused))

pub loop-path-preserved : goal.loop-path-preserved
loop-path-preserved g c =
    let base = c.args.base.now in
    let paths = c.args.paths.items in
    let done = c.loop-path.yielded in
    let turn = YieldsList-turn (YieldsList-from_vec {s = c.into_iter-path-iterator.result} paths (search rules) (search rules)) done c.loop-path.path-iterator c.loop-path.yielded_by _ c.next.new.self c.in-Some.path c.in-Some.is c.next.ensures.steps in
    let size : length c.items.result.now ≡ length c.in_ok-bytes.bytes = ap length c.items.ensures in
    rw (length_push done c.in-Some.path, c.in_ok-push.ensures.items)
    (HasRead-more (store g.F.Files c.args.files.now) (store g.F.Files c.loop-path.files) _ base paths (length done) c.loop-path.total c.in_ok-total.total _ _ c.loop-path.invariant turn.0 turn.1
    c.read_input.ensures.only_reads (λ h e. rw (← c.in_ok-full.ensures) (c.in_ok-bytes.ensures.bytes h e))
    (rw (← size) c.in_ok-total.ensures.allowed) (rw (← size) c.in_ok-total.ensures.sum.0) c.in_ok-total.ensures.sum.1 (rw (← size) c.in_ok-total.ensures.small))
