use Rattle.std.proofs.Common.{arith}
use Rattle.jav_print.proofs.Pages.{imports_all}
use Rattle.jav_print.proofs.page.Page.import_lines.Goals as goal

pub returns : goal.returns
returns c = imports_all c.args.imports.now c.loop-import.import-index c.args.self.now c.loop-import.self (omega arith) c.loop-import.invariant
