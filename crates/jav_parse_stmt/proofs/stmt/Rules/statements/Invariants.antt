use Rattle.std.proofs.Common.{◌≡◌, ◌-◌, ◌≤◌, ◌<◌, Some, []}
use Rattle.jav_parse_stmt.specs.StmtRules.{statements, stmt}
use Rattle.jav_parse_stmt.specs.declared.stmt.Place.TheVariants.{Item}
use Rattle.jav_parse_stmt.proofs.stmt.Rules.statements.Given as goal

abbrev pub invariant-loop-turn : goal.invariant-loop-turn
invariant-loop-turn g l = record {
  same : statements l.self.limits (stmt l.self.limits l.room Item) l.room l.self.limits.turns l.fn.before l.fn.tokens ≡ statements l.self.limits (stmt l.self.limits l.room Item) l.room (l._turn-end - l._turn) l.all l.tokens;
  low : l.all.height ≤ l.room;
}
