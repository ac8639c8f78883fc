use Rattle.std.proofs.Common.{◌≡◌, ◌∙◌, ap, refl, map, arith}
use Rattle.std.proofs.lemmas.List.{length-map}
use Rattle.mol_base.specs.Files.{file_pair, file_pairs}
use Rattle.mol_top.proofs.FilesBelow.{named_with, with_push}
use Rattle.mol_top.proofs.merging.merged_work.Goals as goal
use Rattle.mol_top.specs.Command.{joined}
use Rattle.mol_top.specs.Merging.{with_log}
use Rattle.mol_top.specs.Output.{failure_of}

pub returns : goal.returns
returns c =
    let out = c.args.out.now in
    let texts = file_pairs c.args.files.items in
    let log = c.args.log.now in
    let files : file_pairs c.push.new.self.items ≡ with_log out texts log =
    ap file_pairs c.in_ok-push.ensures.items ∙ with_push c.in_ok-files.files.items _ out texts log c.in_ok-files.ensures
    (c.in_ok-path.ensures ∙ ap (joined out) c.in_ok-from_str.ensures) c.in_ok-bytes.ensures.text in
    record {
      conflicts = refl;
      files = files;
      report = c.in_ok-report.ensures ∙ rw (c.len.ensures, c.items.ensures, c.args.files.ok.0, ← length-map c.args.files.items file_pair) refl;
      failures = c.in_ok-failures.ensures ∙ ap (map failure_of) c.as_slice.ensures.value;
      named = named_with c.push.new.self.items out texts log files;
      apart = λ some. absurd (omega (arith, some));
    }
