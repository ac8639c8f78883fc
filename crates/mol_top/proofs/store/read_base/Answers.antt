use Rattle.std.proofs.Common.{arith, ◌≡◌, ◌<◌, ◌≤◌, ◌∙◌, ℕ, List, sym, ap, length, inr, subst}
use Rattle.std.specs.Prelude.{filter}
use Rattle.std.proofs.lemmas.Bool.Decides.{nat_tests}
use Rattle.std.proofs.lemmas.Result.{err_from_is_err_and}
use Rattle.mol_base.specs.Limits.{most}
use Rattle.mol_base.specs.declared.limit.Which.TheVariants.{Files}
use Rattle.mol_top.specs.Carried.{IsSourcePath, NoPath}
use Rattle.mol_top.specs.Files.{is_java, base_paths}
use Rattle.mol_top.specs.Outside.{IfTold, store}
use Rattle.mol_top.specs.Refusals.{files_refusal, reading_refusal}
use Rattle.mol_top.specs.Steps.{IsAmong, IsBelow}
use Rattle.mol_top.proofs.Carrying.{Carries-more, java_among}
use Rattle.mol_top.proofs.ReadingFiles.{reading-listed}
use Rattle.mol_top.proofs.SortedPaths.{paths_apart}
use Rattle.mol_top.proofs.Stopping.{Stops-later}
use Rattle.mol_top.proofs.store.read_base.Goals as goal

pub returns-in_err-read-clause-stop : goal.returns-in_err-read-clause-stop
returns-in_err-read-clause-stop g c =
    let base = c.args.base.now in
    let old = store g.F.Files c.args.files.now in
    let p = err_from_is_err_and c.from_residual-in_err-read.result c.from_residual-in_err-read.ensures.1 in
    let ps = c.in_ok-paths.paths in
    let some : 0 < length ps.items = grind (arith, nat_tests, ps.ok.0, c.is_empty.ensures, c.if-is_empty.false) in
    let few : length ps.items ≤ most Files = grind (arith, ps.ok.0, c.len-count.ensures, c.most.ensures, c.if-count-most.false) in
    let listed : IfTold old.held (λ h. base_paths base h ≡ ps.items) = λ h e. sym (c.in_ok-paths.ensures ∙ ap (filter is_java) (c.items.ensures ∙ c.in_ok-listed.ensures.paths h e)) in
    rw (p.1, p.2) (Stops-later (IsBelow base old.held) (IsAmong base ps.items) old (store g.F.Files c.list_folder.new.files) (store g.F.Files c.read_files.new.files) (reading_refusal base) (λ h. files_refusal base h 0 ps.items) _
    (λ q among. inr (λ h e. rw (listed h e) among)) c.list_folder.ensures.only_reads
    (λ h e st. reading-listed base h ps.items (listed h e) some few ∙ st) c.in_err-read.ensures.stop)

pub returns-in_err-read-clause-carries : goal.returns-in_err-read-clause-carries
returns-in_err-read-clause-carries g c =
    let base = c.args.base.now in
    let p = err_from_is_err_and c.from_residual-in_err-read.result c.from_residual-in_err-read.ensures.1 in
    let paths = c.in_ok-paths.paths.items in
    let below : (q : List ℕ) → IsAmong base paths q → IsSourcePath base q = λ q among. java_among base c.items.result.now q (subst (λ xs. IsAmong base xs q) c.in_ok-paths.ensures among) in
    rw (p.1, p.2) (Carries-more (IsSourcePath base) (IsAmong base paths) (IsSourcePath base) (IsAmong base paths) NoPath NoPath _ below below (λ q none. none) c.in_err-read.ensures.carries)

pub returns-clause-apart : goal.returns-clause-apart
returns-clause-apart g c = paths_apart c.in_ok-listed.listed is_java c.in_ok-read.read.items c.in_ok-listed.ensures.ascending
    (c.in_ok-read.ensures.paths ∙ c.in_ok-paths.ensures ∙ ap (filter is_java) c.items.ensures)
