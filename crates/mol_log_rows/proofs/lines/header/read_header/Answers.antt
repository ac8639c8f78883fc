use Rattle.mol_log_rows.proofs.lines_lemmas.HeaderLaws.{header_is, no_header}
use Rattle.mol_log_rows.proofs.lines.header.read_header.Goals as goal

pub returns-clause-is : goal.returns-clause-is
returns-clause-is c = header_is _ c.header_in.result c.header_in.ensures

pub returns-clause-none : goal.returns-clause-none
returns-clause-none c = no_header _ c.header_in.result c.header_in.ensures
