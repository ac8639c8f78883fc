-- What each part uses, put together as the definitions do it.
use Rattle.std.proofs.Common.{◌∙◌, ◌++◌, length, refl, sym, ap}
use Rattle.std.proofs.lemmas.Result.{on_ok_weaker}
use Rattle.mol_resolve_rules.specs.StaticTypes.{class_of_only_declaration}
use Rattle.mol_spell_rules.specs.SpelledExpressions.{static_call_form}
use Rattle.mol_spell_uses.proofs.uses_lemmas.Added.{adds, adds-both, adds-more, adds-none, adds-whole}
use Rattle.mol_spell_uses.proofs.uses_lemmas.UsesNodes as nodes
use Rattle.mol_spell_uses.proofs.uses.expr_uses.ExprUses.+expr_uses.Goals as goal
use Rattle.mol_spell_uses.specs.uses.Uses.{all_uses, argument_uses, created_uses, expr_uses, form_uses, type_uses}
use Rattle.mol_values_types.specs.declared.iexpr.Argument.{Argument}

-- # Each kind of expression

pub add_expr-returns-in-Lit : goal.add_expr-returns-in-Lit
add_expr-returns-in-Lit g t c =
    let writer = g.N.Names.writer c.args.self.now.names.now in
    let locals = g.N.Names.locals c.args.self.now.names.now in
    adds-none c.args.uses.now _ (nodes.uses-Lit writer locals c.args.e.now _ c.in-Lit.is)

pub add_expr-returns-in-This : goal.add_expr-returns-in-This
add_expr-returns-in-This g t c =
    let writer = g.N.Names.writer c.args.self.now.names.now in
    let locals = g.N.Names.locals c.args.self.now.names.now in
    adds-none c.args.uses.now _ (nodes.uses-This writer locals c.args.e.now c.in-This.is)

pub add_expr-returns-in-Local : goal.add_expr-returns-in-Local
add_expr-returns-in-Local g t c =
    let writer = g.N.Names.writer c.args.self.now.names.now in
    let locals = g.N.Names.locals c.args.self.now.names.now in
    adds-none c.args.uses.now _ (nodes.uses-Local writer locals c.args.e.now _ c.in-Local.is)

pub add_expr-returns-in-Param : goal.add_expr-returns-in-Param
add_expr-returns-in-Param g t c =
    let writer = g.N.Names.writer c.args.self.now.names.now in
    let locals = g.N.Names.locals c.args.self.now.names.now in
    adds-none c.args.uses.now _ (nodes.uses-Param writer locals c.args.e.now _ c.in-Param.is)

pub add_expr-returns-in-Own : goal.add_expr-returns-in-Own
add_expr-returns-in-Own g t c =
    let writer = g.N.Names.writer c.args.self.now.names.now in
    let locals = g.N.Names.locals c.args.self.now.names.now in
    adds-none c.args.uses.now _ (nodes.uses-Own writer locals c.args.e.now _ c.in-Own.is)

pub add_expr-returns-in-StaticField : goal.add_expr-returns-in-StaticField
add_expr-returns-in-StaticField g t c =
    let writer = g.N.Names.writer c.args.self.now.names.now in
    let locals = g.N.Names.locals c.args.self.now.names.now in
    on_ok_weaker c.add_static_field.result (adds c.args.uses.now _ _ _
    (nodes.uses-StaticField writer locals c.args.e.now _ c.in-StaticField.is)) c.add_static_field.ensures

pub add_expr-returns-in-Field : goal.add_expr-returns-in-Field
add_expr-returns-in-Field g t c =
    let writer = g.N.Names.writer c.args.self.now.names.now in
    let locals = g.N.Names.locals c.args.self.now.names.now in
    on_ok_weaker c.add_expr.result (adds c.args.uses.now _ _ _
    (nodes.uses-Field writer locals c.args.e.now _ _ c.in-Field.is ∙ ap (expr_uses writer locals) (sym c.get.ensures))) c.add_expr.ensures

pub add_expr-returns-in-Call : goal.add_expr-returns-in-Call
add_expr-returns-in-Call g t c =
    let writer = g.N.Names.writer c.args.self.now.names.now in
    let locals = g.N.Names.locals c.args.self.now.names.now in
    on_ok_weaker c.add_arguments.result (adds c.args.uses.now _ _ _
    (nodes.uses-Call writer locals c.args.e.now _ _ c.in-Call.is ∙ ap (argument_uses writer locals) (sym c.items.ensures)))
    c.add_arguments.ensures

pub add_expr-returns-in-StaticCall : goal.add_expr-returns-in-StaticCall
add_expr-returns-in-StaticCall g t c =
    let writer = g.N.Names.writer c.args.self.now.names.now in
    let locals = g.N.Names.locals c.args.self.now.names.now in
    on_ok_weaker c.add_static_call.result (adds c.args.uses.now _ _ _
    (nodes.uses-StaticCall writer locals c.args.e.now _ _ c.in-StaticCall.is
    ∙ ap (λ args. form_uses writer locals (static_call_form writer locals c.in-StaticCall.method (length args)) ++ argument_uses writer
    locals args)
    (sym c.items-in-StaticCall.ensures))) c.add_static_call.ensures

pub add_expr-returns-in-CallOn : goal.add_expr-returns-in-CallOn
add_expr-returns-in-CallOn g t c =
    let writer = g.N.Names.writer c.args.self.now.names.now in
    let locals = g.N.Names.locals c.args.self.now.names.now in
    on_ok_weaker c.add_call_on.result (adds c.args.uses.now _ _ _
    (nodes.uses-CallOn writer locals c.args.e.now _ _ _ c.in-CallOn.is
    ∙ (λ i. expr_uses writer locals (sym c.get-in-CallOn.ensures i) ++ argument_uses writer locals (sym c.items-in-CallOn.ensures i))))
    c.add_call_on.ensures

pub add_expr-returns-in-SuperCall : goal.add_expr-returns-in-SuperCall
add_expr-returns-in-SuperCall g t c =
    let writer = g.N.Names.writer c.args.self.now.names.now in
    let locals = g.N.Names.locals c.args.self.now.names.now in
    on_ok_weaker c.add_arguments-in-SuperCall.result (adds c.args.uses.now _ _ _
    (nodes.uses-SuperCall writer locals c.args.e.now _ _ c.in-SuperCall.is
    ∙ ap (argument_uses writer locals) (sym c.items-in-SuperCall.ensures))) c.add_arguments-in-SuperCall.ensures

pub add_expr-returns-in-New : goal.add_expr-returns-in-New
add_expr-returns-in-New g t c =
    let writer = g.N.Names.writer c.args.self.now.names.now in
    let locals = g.N.Names.locals c.args.self.now.names.now in
    on_ok_weaker c.add_creation.result (adds c.args.uses.now _ _ _
    (nodes.uses-New writer locals c.args.e.now _ _ c.in-New.is
    ∙ ap (λ args. created_uses writer locals (class_of_only_declaration writer.program c.in-New.constructor) ++ argument_uses writer
    locals args) (sym c.items-in-New.ensures))) c.add_creation.ensures

pub add_expr-returns-in-NewDefault : goal.add_expr-returns-in-NewDefault
add_expr-returns-in-NewDefault g t c =
    let writer = g.N.Names.writer c.args.self.now.names.now in
    let locals = g.N.Names.locals c.args.self.now.names.now in
    on_ok_weaker c.add_class.result (adds c.args.uses.now _ _ _
    (nodes.uses-NewDefault writer locals c.args.e.now _ c.in-NewDefault.is)) c.add_class.ensures

pub add_expr-returns-in-Cond : goal.add_expr-returns-in-Cond
add_expr-returns-in-Cond g t c =
    let writer = g.N.Names.writer c.args.self.now.names.now in
    let locals = g.N.Names.locals c.args.self.now.names.now in
    on_ok_weaker c.add_choice.result (adds c.args.uses.now _ _ _
    (nodes.uses-Cond writer locals c.args.e.now _ _ _ c.in-Cond.is
    ∙ (λ i. (expr_uses writer locals (sym c.get-in-Cond.ensures i) ++ expr_uses writer locals (sym c.get-in-Cond-2.ensures i)) ++ expr_uses
    writer locals (sym c.get-in-Cond-3.ensures i)))) c.add_choice.ensures

pub add_expr-returns-in-OutsideName : goal.add_expr-returns-in-OutsideName
add_expr-returns-in-OutsideName g t c =
    let writer = g.N.Names.writer c.args.self.now.names.now in
    let locals = g.N.Names.locals c.args.self.now.names.now in
    on_ok_weaker c.add_written.result (adds c.args.uses.now _ _ _
    (nodes.uses-OutsideName writer locals c.args.e.now _ c.in-OutsideName.is)) c.add_written.ensures

pub add_expr-returns-in-OutsideClass : goal.add_expr-returns-in-OutsideClass
add_expr-returns-in-OutsideClass g t c =
    let writer = g.N.Names.writer c.args.self.now.names.now in
    let locals = g.N.Names.locals c.args.self.now.names.now in
    on_ok_weaker c.add_import.result (adds c.args.uses.now _ _ _
    (nodes.uses-OutsideClass writer locals c.args.e.now _ c.in-OutsideClass.is)) c.add_import.ensures

pub add_expr-returns-in-OutsideField : goal.add_expr-returns-in-OutsideField
add_expr-returns-in-OutsideField g t c =
    let writer = g.N.Names.writer c.args.self.now.names.now in
    let locals = g.N.Names.locals c.args.self.now.names.now in
    on_ok_weaker c.add_expr-in-OutsideField.result (adds c.args.uses.now _ _ _
    (nodes.uses-OutsideField writer locals c.args.e.now _ _ c.in-OutsideField.is
    ∙ ap (expr_uses writer locals) (sym c.get-in-OutsideField.ensures))) c.add_expr-in-OutsideField.ensures

pub add_expr-returns-in-OutsideCall : goal.add_expr-returns-in-OutsideCall
add_expr-returns-in-OutsideCall g t c =
    let writer = g.N.Names.writer c.args.self.now.names.now in
    let locals = g.N.Names.locals c.args.self.now.names.now in
    on_ok_weaker c.add_all.result (adds c.args.uses.now _ _ _
    (nodes.uses-OutsideCall writer locals c.args.e.now _ _ c.in-OutsideCall.is
    ∙ ap (all_uses writer locals) (sym c.items-in-OutsideCall.ensures))) c.add_all.ensures

pub add_expr-returns-in-OutsideCallOn : goal.add_expr-returns-in-OutsideCallOn
add_expr-returns-in-OutsideCallOn g t c =
    let writer = g.N.Names.writer c.args.self.now.names.now in
    let locals = g.N.Names.locals c.args.self.now.names.now in
    on_ok_weaker c.add_outside_on.result (adds c.args.uses.now _ _ _
    (nodes.uses-OutsideCallOn writer locals c.args.e.now _ _ _ c.in-OutsideCallOn.is
    ∙ (λ i. expr_uses writer locals (sym c.get-in-OutsideCallOn.ensures i) ++ all_uses writer locals
    (sym c.items-in-OutsideCallOn.ensures i)))) c.add_outside_on.ensures

pub add_expr-returns-in-OutsideSuperCall : goal.add_expr-returns-in-OutsideSuperCall
add_expr-returns-in-OutsideSuperCall g t c =
    let writer = g.N.Names.writer c.args.self.now.names.now in
    let locals = g.N.Names.locals c.args.self.now.names.now in
    on_ok_weaker c.add_all-in-OutsideSuperCall.result (adds c.args.uses.now _ _ _
    (nodes.uses-OutsideSuperCall writer locals c.args.e.now _ _ c.in-OutsideSuperCall.is
    ∙ ap (all_uses writer locals) (sym c.items-in-OutsideSuperCall.ensures))) c.add_all-in-OutsideSuperCall.ensures

pub add_expr-returns-in-NewOutside : goal.add_expr-returns-in-NewOutside
add_expr-returns-in-NewOutside g t c =
    let writer = g.N.Names.writer c.args.self.now.names.now in
    let locals = g.N.Names.locals c.args.self.now.names.now in
    on_ok_weaker c.add_typed.result (adds c.args.uses.now _ _ _
    (nodes.uses-NewOutside writer locals c.args.e.now _ _ c.in-NewOutside.is
    ∙ ap (λ es. type_uses writer locals c.in-NewOutside.ty ++ all_uses writer locals es) (sym c.items-in-NewOutside.ensures)))
    c.add_typed.ensures

pub add_expr-returns-in-NewArray : goal.add_expr-returns-in-NewArray
add_expr-returns-in-NewArray g t c =
    let writer = g.N.Names.writer c.args.self.now.names.now in
    let locals = g.N.Names.locals c.args.self.now.names.now in
    on_ok_weaker c.add_typed-in-NewArray.result (adds c.args.uses.now _ _ _
    (nodes.uses-NewArray writer locals c.args.e.now _ _ _ c.in-NewArray.is
    ∙ ap (λ es. type_uses writer locals c.in-NewArray.ty ++ all_uses writer locals es) (sym c.items-in-NewArray.ensures)))
    c.add_typed-in-NewArray.ensures

pub add_expr-returns-in-ArrayLit : goal.add_expr-returns-in-ArrayLit
add_expr-returns-in-ArrayLit g t c =
    let writer = g.N.Names.writer c.args.self.now.names.now in
    let locals = g.N.Names.locals c.args.self.now.names.now in
    on_ok_weaker c.add_typed-in-ArrayLit.result (adds c.args.uses.now _ _ _
    (nodes.uses-ArrayLit writer locals c.args.e.now _ _ c.in-ArrayLit.is
    ∙ ap (λ es. type_uses writer locals c.in-ArrayLit.ty ++ all_uses writer locals es) (sym c.items-in-ArrayLit.ensures)))
    c.add_typed-in-ArrayLit.ensures

pub add_expr-returns-in-Braces : goal.add_expr-returns-in-Braces
add_expr-returns-in-Braces g t c =
    let writer = g.N.Names.writer c.args.self.now.names.now in
    let locals = g.N.Names.locals c.args.self.now.names.now in
    on_ok_weaker c.add_all-in-Braces.result (adds c.args.uses.now _ _ _
    (nodes.uses-Braces writer locals c.args.e.now _ c.in-Braces.is ∙ ap (all_uses writer locals) (sym c.items-in-Braces.ensures)))
    c.add_all-in-Braces.ensures

pub add_expr-returns-in-Index : goal.add_expr-returns-in-Index
add_expr-returns-in-Index g t c =
    let writer = g.N.Names.writer c.args.self.now.names.now in
    let locals = g.N.Names.locals c.args.self.now.names.now in
    on_ok_weaker c.add_two.result (adds c.args.uses.now _ _ _
    (nodes.uses-Index writer locals c.args.e.now _ _ c.in-Index.is
    ∙ (λ i. expr_uses writer locals (sym c.get-in-Index.ensures i) ++ expr_uses writer locals (sym c.get-in-Index-2.ensures i))))
    c.add_two.ensures

pub add_expr-returns-in-Unary : goal.add_expr-returns-in-Unary
add_expr-returns-in-Unary g t c =
    let writer = g.N.Names.writer c.args.self.now.names.now in
    let locals = g.N.Names.locals c.args.self.now.names.now in
    on_ok_weaker c.add_expr-in-Unary.result (adds c.args.uses.now _ _ _
    (nodes.uses-Unary writer locals c.args.e.now _ _ c.in-Unary.is ∙ ap (expr_uses writer locals) (sym c.get-in-Unary.ensures)))
    c.add_expr-in-Unary.ensures

pub add_expr-returns-in-Post : goal.add_expr-returns-in-Post
add_expr-returns-in-Post g t c =
    let writer = g.N.Names.writer c.args.self.now.names.now in
    let locals = g.N.Names.locals c.args.self.now.names.now in
    on_ok_weaker c.add_expr-in-Post.result (adds c.args.uses.now _ _ _
    (nodes.uses-Post writer locals c.args.e.now _ _ c.in-Post.is ∙ ap (expr_uses writer locals) (sym c.get-in-Post.ensures)))
    c.add_expr-in-Post.ensures

pub add_expr-returns-in-Binary : goal.add_expr-returns-in-Binary
add_expr-returns-in-Binary g t c =
    let writer = g.N.Names.writer c.args.self.now.names.now in
    let locals = g.N.Names.locals c.args.self.now.names.now in
    on_ok_weaker c.add_two-in-Binary.result (adds c.args.uses.now _ _ _
    (nodes.uses-Binary writer locals c.args.e.now _ _ _ c.in-Binary.is
    ∙ (λ i. expr_uses writer locals (sym c.get-in-Binary.ensures i) ++ expr_uses writer locals (sym c.get-in-Binary-2.ensures i))))
    c.add_two-in-Binary.ensures

pub add_expr-returns-in-Assign : goal.add_expr-returns-in-Assign
add_expr-returns-in-Assign g t c =
    let writer = g.N.Names.writer c.args.self.now.names.now in
    let locals = g.N.Names.locals c.args.self.now.names.now in
    on_ok_weaker c.add_two-in-Assign.result (adds c.args.uses.now _ _ _
    (nodes.uses-Assign writer locals c.args.e.now _ _ _ c.in-Assign.is
    ∙ (λ i. expr_uses writer locals (sym c.get-in-Assign.ensures i) ++ expr_uses writer locals (sym c.get-in-Assign-2.ensures i))))
    c.add_two-in-Assign.ensures

pub add_expr-returns-in-Cast : goal.add_expr-returns-in-Cast
add_expr-returns-in-Cast g t c =
    let writer = g.N.Names.writer c.args.self.now.names.now in
    let locals = g.N.Names.locals c.args.self.now.names.now in
    on_ok_weaker c.add_cast.result (adds c.args.uses.now _ _ _
    (nodes.uses-Cast writer locals c.args.e.now _ _ c.in-Cast.is
    ∙ ap (λ e. type_uses writer locals c.in-Cast.ty ++ expr_uses writer locals e) (sym c.get-in-Cast.ensures))) c.add_cast.ensures

pub add_expr-returns-in-InstanceOf : goal.add_expr-returns-in-InstanceOf
add_expr-returns-in-InstanceOf g t c =
    let writer = g.N.Names.writer c.args.self.now.names.now in
    let locals = g.N.Names.locals c.args.self.now.names.now in
    on_ok_weaker c.add_test.result (adds c.args.uses.now _ _ _
    (nodes.uses-InstanceOf writer locals c.args.e.now _ _ c.in-InstanceOf.is
    ∙ ap (λ e. expr_uses writer locals e ++ type_uses writer locals c.in-InstanceOf.ty) (sym c.get-in-InstanceOf.ensures)))
    c.add_test.ensures

-- # One part, and then another

pub add_two-returns : goal.add_two-returns
add_two-returns g t c =
    on_ok_weaker c.add_expr-2.result (adds-both c.args.uses.now _ _ _ _ c.in_ok-add_expr.ensures) c.add_expr-2.ensures

pub add_choice-returns : goal.add_choice-returns
add_choice-returns g t c =
    on_ok_weaker c.add_expr.result (adds-both c.args.uses.now _ _ _ _ c.in_ok-add_two.ensures) c.add_expr.ensures

pub add_cast-returns : goal.add_cast-returns
add_cast-returns g t c =
    on_ok_weaker c.add_expr.result (adds-both c.args.uses.now _ _ _ _ c.in_ok-add_type.ensures) c.add_expr.ensures

pub add_test-returns : goal.add_test-returns
add_test-returns g t c =
    on_ok_weaker c.add_type.result (adds-both c.args.uses.now _ _ _ _ c.in_ok-add_expr.ensures) c.add_type.ensures

pub add_call_on-returns : goal.add_call_on-returns
add_call_on-returns g t c =
    on_ok_weaker c.add_arguments.result (adds-both c.args.uses.now _ _ _ _ c.in_ok-add_expr.ensures) c.add_arguments.ensures

pub add_outside_on-returns : goal.add_outside_on-returns
add_outside_on-returns g t c =
    on_ok_weaker c.add_all.result (adds-both c.args.uses.now _ _ _ _ c.in_ok-add_expr.ensures) c.add_all.ensures

pub add_static_call-returns : goal.add_static_call-returns
add_static_call-returns g t c =
    on_ok_weaker c.add_arguments.result (adds-both c.args.uses.now _ _ _ _ c.in_ok-add_static_method.ensures) c.add_arguments.ensures

pub add_creation-returns : goal.add_creation-returns
add_creation-returns g t c =
    on_ok_weaker c.add_arguments.result (adds-both c.args.uses.now _ _ _ _ c.in_ok-add_created.ensures) c.add_arguments.ensures

pub add_typed-returns : goal.add_typed-returns
add_typed-returns g t c =
    on_ok_weaker c.add_all.result (adds-both c.args.uses.now _ _ _ _ c.in_ok-add_type.ensures) c.add_all.ensures

-- # Several

pub add_all-loop-item-init : goal.add_all-loop-item-init
add_all-loop-item-init g t c = adds-none c.args.uses.now _ refl

pub add_all-loop-item-preserved : goal.add_all-loop-item-preserved
add_all-loop-item-preserved g t c =
    adds-more (expr_uses (g.N.Names.writer c.args.self.now.names.now) (g.N.Names.locals c.args.self.now.names.now)) c.args.items.now
    c.loop-item.item-index c.item-item.result _ _ _ c.loop-item-test.true c.item-item.is c.loop-item.invariant c.in_ok-add_expr.ensures

pub add_all-returns : goal.add_all-returns
add_all-returns g t c =
    adds-whole (expr_uses (g.N.Names.writer c.args.self.now.names.now) (g.N.Names.locals c.args.self.now.names.now)) c.args.items.now
    c.loop-item.item-index _ _ c.loop-item-test.false c.loop-item.invariant

pub add_arguments-loop-arg-init : goal.add_arguments-loop-arg-init
add_arguments-loop-arg-init g t c = adds-none c.args.uses.now _ refl

pub add_arguments-loop-arg-preserved : goal.add_arguments-loop-arg-preserved
add_arguments-loop-arg-preserved g t c =
    adds-more (λ (arg : Argument). expr_uses (g.N.Names.writer c.args.self.now.names.now)
    (g.N.Names.locals c.args.self.now.names.now) arg.value)
    c.args.args.now c.loop-arg.arg-index c.arg-item.result _ _ _ c.loop-arg-test.true c.arg-item.is c.loop-arg.invariant
    c.in_ok-add_expr.ensures

pub add_arguments-returns : goal.add_arguments-returns
add_arguments-returns g t c =
    adds-whole (λ (arg : Argument). expr_uses (g.N.Names.writer c.args.self.now.names.now)
    (g.N.Names.locals c.args.self.now.names.now) arg.value)
    c.args.args.now c.loop-arg.arg-index _ _ c.loop-arg-test.false c.loop-arg.invariant
