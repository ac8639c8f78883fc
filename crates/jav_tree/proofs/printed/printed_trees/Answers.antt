use Rattle.jav_tree.proofs.PrintedUnits.{prints_as_printed, drops_to_the_same, drops_before_printing, settled_when_printed}
use Rattle.jav_tree.proofs.printed.printed_trees.Goals as goal

pub returns-clause-layout : goal.returns-clause-layout
returns-clause-layout c = prints_as_printed

pub returns-clause-dropped : goal.returns-clause-dropped
returns-clause-dropped c = drops_to_the_same

pub returns-clause-blind : goal.returns-clause-blind
returns-clause-blind c = drops_before_printing

pub returns-clause-settled : goal.returns-clause-settled
returns-clause-settled c = settled_when_printed
