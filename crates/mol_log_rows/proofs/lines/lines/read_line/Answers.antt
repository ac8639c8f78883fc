use Rattle.std.proofs.Common.{ap, ◌∙◌, sym, rules}
use Rattle.serde_json.specs.Read.{read}
use Rattle.mol_log_rows.specs.lines.Lines.{seen, or_fault}
use Rattle.mol_log_rows.specs.declared.lines.fault.LogFault.TheVariants.{NotJson}
use Rattle.mol_log_rows.proofs.lines_lemmas.LineData.{not_utf8, utf8_said}
use Rattle.mol_log_rows.proofs.lines.lines.read_line.Goals as goal

pub returns-in_default : goal.returns-in_default
returns-in_default c = λ enough. not_utf8 c.args.number (seen c.args.line) (search rules) c.in_default.ensures.cases.0

pub returns-in-Ok-from_str : goal.returns-in-Ok-from_str
returns-in-Ok-from_str c =
    utf8_said c.args.number (seen c.args.line) (search rules) c.in-Ok.ensures.cases.1
    ∙ ap (or_fault (NotJson c.args.number)) (ap read (sym c.in-Ok.ensures.cases.0) ∙ c.in-Ok-from_str.ensures.ok)

pub returns-else-is_memory : goal.returns-else-is_memory
returns-else-is_memory c = λ enough.
    utf8_said c.args.number (seen c.args.line) (search rules) c.in-Ok.ensures.cases.1
    ∙ ap (or_fault (NotJson c.args.number))
    (ap read (sym c.in-Ok.ensures.cases.0) ∙ c.in-Err.ensures.err (λ memory. let clash = sym c.if-is_memory.false ∙ c.is_memory.ensures.1 memory in absurd cc))
