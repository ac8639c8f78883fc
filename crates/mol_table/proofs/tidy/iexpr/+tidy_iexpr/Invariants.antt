use Rattle.std.proofs.Common.{◌≡◌, map, take, drop}
use Rattle.mol_table_rules.specs.Tidy.{arguments_for, value_of}
use Rattle.mol_table.specs.Tidying.{expr_by, argument_by}
use Rattle.mol_table.proofs.tidy.iexpr.+tidy_iexpr.Given as goal

abbrev pub invariant-tidy_all-loop-item : goal.invariant-tidy_all-loop-item
invariant-tidy_all-loop-item l = l.all ≡ map (expr_by l.maps l.index.entries) (take l.item-index l.items)

abbrev pub invariant-tidy_arguments-loop-param : goal.invariant-tidy_arguments-loop-param
invariant-tidy_arguments-loop-param l =
    l.all ≡ arguments_for (take l.param-index l.param-items) (map (argument_by l.maps l.index.entries) l.args)

abbrev pub invariant-value_for-loop-arg : goal.invariant-value_for-loop-arg
invariant-value_for-loop-arg l =
    value_of (map (argument_by l.maps l.index.entries) (drop l.arg-index l.args)) l.param
    ≡ value_of (map (argument_by l.maps l.index.entries) l.args) l.param
