use Rattle.std.proofs.Common.{◌∙◌, ap, sym, subst}
use Rattle.std.specs.Prelude.{IfOk, ◌≡◌}
use Rattle.mol_base.specs.Order.{id_cmp, id_cmp-total}
use Rattle.mol_table.specs.Maps.{program_in}
use Rattle.mol_values_types.specs.Order.{id_eq}
use Rattle.mol_table_rules.specs.Program.{params_at}
use Rattle.mol_table_rules.specs.Tidy.{creation}
use Rattle.mol_table.specs.Tidying.{bare_in, expr_by}
use Rattle.mol_values_types.proofs.Lookups.{get_is}
use Rattle.mol_values_types.proofs.Ties.{id_ties}
use Rattle.mol_table_rules.proofs.Tidied.{tidied-NewDefault, first-found, next-found}
use Rattle.mol_table.proofs.tidy.iexpr.+tidy_iexpr.Goals as goal

pub tidy_expr-returns-in-NewDefault : goal.tidy_expr-returns-in-NewDefault
tidy_expr-returns-in-NewDefault t c =
    let class = c.in-NewDefault.class in
    let index = c.args.index.now.entries in
    c.creation.ensures ∙ ap (creation class) (c.get-in-NewDefault.ensures.value ∙ get_is id_cmp id_eq id_ties id_cmp-total class index)
    ∙ sym (tidied-NewDefault (params_at (program_in c.args.maps.now)) (bare_in index) class)
    ∙ ap (expr_by c.args.maps.now index) (sym c.in-NewDefault.is)

pub value_for-returns-then-eq : goal.value_for-returns-then-eq
value_for-returns-then-eq t c =
    let found = first-found (params_at (program_in c.args.maps.now)) (bare_in c.args.index.now.entries) c.args.param.now c.args.args.now c.loop-arg.arg-index c.arg-item.result
    c.loop-arg-test.true c.arg-item.is (sym c.eq.ensures ∙ c.if-eq.true) in
    subst (λ value. IfOk c.tidy_expr.result (λ e. e ≡ value)) (sym found ∙ c.loop-arg.invariant) c.tidy_expr.ensures

pub value_for-loop-arg-preserved : goal.value_for-loop-arg-preserved
value_for-loop-arg-preserved t c =
    next-found (params_at (program_in c.args.maps.now)) (bare_in c.args.index.now.entries) c.args.param.now c.args.args.now c.loop-arg.arg-index c.arg-item.result
    c.loop-arg-test.true c.arg-item.is (sym c.eq.ensures ∙ c.if-eq.false)
    ∙ c.loop-arg.invariant
