use Rattle.jav_parse_stmt.proofs.stmt.+stmt.Given as goal

abbrev pub decreases-stmt : goal.decreases-stmt
decreases-stmt l = l.top
