use Rattle.std.proofs.Common.{[], refl}
use Rattle.mol_log_rows.specs.lines.Lines.{lines_left}
use Rattle.mol_log_rows.specs.declared.lines.fault.LogFault.TheVariants.{OutOfMemory}
use Rattle.mol_log_rows.proofs.rows_lemmas.LineFaults.{answers_err}
use Rattle.mol_log.proofs.EntriesRead.{none_read, stands, none_left, some_left, fault_read, one_more, fewer_left}
use Rattle.mol_log.specs.LogLines.{SayEntries, HaveFault}
use Rattle.mol_log.proofs.reading.entries_of.Goals as goal

pub lines-init : goal.lines-init
lines-init c =
    let start = c.args.start.now in
    none_read start.header.tags (lines_left start.rest) c.in_ok-rows.rows c.new-entries.result c.new-entries.ensures c.in_ok-rows.ensures

pub next_entry-requires : goal.next_entry-requires
next_entry-requires c =
    let start = c.args.start.now in
    stands start.header.tags (lines_left start.rest) c.lines.rows c.lines.entries c.lines.invariant

pub returns-in_err-next : goal.returns-in_err-next
returns-in_err-next c =
    let tags = c.args.start.now.header.tags in
    let all = lines_left c.args.start.now.rest in
    let read = c.lines.invariant in
    answers_err (SayEntries tags [] 2 all) (HaveFault tags [] 2 all) c.from_residual-in_err-next.result _
    c.from_residual-in_err-next.ensures.1
    (fault_read tags all c.lines.rows c.lines.entries read _
    (c.in_err-next.ensures tags read.earlier read.number read.lines read.on))

pub lines-preserved : goal.lines-preserved
lines-preserved c =
    let tags = c.args.start.now.header.tags in
    let all = lines_left c.args.start.now.rest in
    let read = c.lines.invariant in
    let takes = some_left tags all c.lines.rows c.lines.entries read c.next_entry.new.rows c.in_ok-next.next
    (c.in_ok-next.ensures tags read.earlier read.number read.lines read.on) c.in-Some.entry c.in-Some.is in
    one_more tags all c.lines.rows c.lines.entries read c.in-Some.entry c.next_entry.new.rows takes c.add.new.self
    c.in_ok-add-in-Some.ensures.ok

pub lines-smaller : goal.lines-smaller
lines-smaller c =
    let tags = c.args.start.now.header.tags in
    let all = lines_left c.args.start.now.rest in
    let read = c.lines.invariant in
    let takes = some_left tags all c.lines.rows c.lines.entries read c.next_entry.new.rows c.in_ok-next.next
    (c.in_ok-next.ensures tags read.earlier read.number read.lines read.on) c.in-Some.entry c.in-Some.is in
    fewer_left tags all c.lines.rows c.lines.entries read c.in-Some.entry c.next_entry.new.rows takes

pub returns-in-None : goal.returns-in-None
returns-in-None c =
    let tags = c.args.start.now.header.tags in
    let all = lines_left c.args.start.now.rest in
    let read = c.lines.invariant in
    none_left tags all c.lines.rows c.lines.entries read c.next_entry.new.rows c.in_ok-next.next
    (c.in_ok-next.ensures tags read.earlier read.number read.lines read.on) c.in-None.is

pub returns-in_err-rows : goal.returns-in_err-rows
returns-in_err-rows c =
    let tags = c.args.start.now.header.tags in
    let all = lines_left c.args.start.now.rest in
    answers_err (SayEntries tags [] 2 all) (HaveFault tags [] 2 all) c.from_residual.result OutOfMemory c.from_residual.ensures.1
    (λ enough. absurd (enough refl))

pub returns-in_err-add-in-Some : goal.returns-in_err-add-in-Some
returns-in_err-add-in-Some c =
    let tags = c.args.start.now.header.tags in
    let all = lines_left c.args.start.now.rest in
    answers_err (SayEntries tags [] 2 all) (HaveFault tags [] 2 all) c.from_residual-in_err-add-in-Some.result OutOfMemory
    c.from_residual-in_err-add-in-Some.ensures.1
    (λ enough. absurd (enough refl))
