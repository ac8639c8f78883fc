-- What each part mentions, put together as the definitions do it.
use Rattle.std.proofs.Common.{◌∙◌, ◌++◌, refl, sym}
use Rattle.std.proofs.lemmas.Result.{on_ok_weaker}
use Rattle.mol_base.proofs.Added.{adds, adds-both, adds-more, adds-none, adds-whole}
use Rattle.mol_faults_mentions.proofs.mentions_lemmas.Nodes as nodes
use Rattle.mol_faults_mentions.proofs.mentions.expressions.+expr.Goals as goal
use Rattle.mol_faults_mentions.specs.mentions.Parts.{argument_mentions, each_argument, each_expr}
use Rattle.mol_table_rules.specs.Mentions.{a_called_method, a_constructor, a_field, a_static_method, expr_mentions, named, type_mentions}

-- # Each kind of expression

pub add_expr-returns-in-Lit : goal.add_expr-returns-in-Lit
add_expr-returns-in-Lit t c = adds-none c.args.mentions.now _ (nodes.mentions-Lit c.args.e.now _ c.in-Lit.is)

pub add_expr-returns-in-This : goal.add_expr-returns-in-This
add_expr-returns-in-This t c = adds-none c.args.mentions.now _ (nodes.mentions-This c.args.e.now c.in-This.is)

pub add_expr-returns-in-Local : goal.add_expr-returns-in-Local
add_expr-returns-in-Local t c = adds-none c.args.mentions.now _ (nodes.mentions-Local c.args.e.now _ c.in-Local.is)

pub add_expr-returns-in-Param : goal.add_expr-returns-in-Param
add_expr-returns-in-Param t c =
    on_ok_weaker c.add.result (adds c.args.mentions.now _ _ _
    (nodes.mentions-Param c.args.e.now _ c.in-Param.is)) c.add.ensures

pub add_expr-returns-in-Own : goal.add_expr-returns-in-Own
add_expr-returns-in-Own t c =
    on_ok_weaker c.add-in-Own.result (adds c.args.mentions.now _ _ _
    (nodes.mentions-Own c.args.e.now _ c.in-Own.is)) c.add-in-Own.ensures

pub add_expr-returns-in-StaticField : goal.add_expr-returns-in-StaticField
add_expr-returns-in-StaticField t c =
    on_ok_weaker c.add-in-StaticField.result (adds c.args.mentions.now _ _ _
    (nodes.mentions-StaticField c.args.e.now _ c.in-StaticField.is)) c.add-in-StaticField.ensures

pub add_expr-returns-in-Field : goal.add_expr-returns-in-Field
add_expr-returns-in-Field t c =
    on_ok_weaker c.add_member.result (adds c.args.mentions.now _ _ _
    (nodes.mentions-Field c.args.e.now _ _ c.in-Field.is
    ∙ (λ i. named a_field c.in-Field.field ++ expr_mentions (sym c.get.ensures i)))) c.add_member.ensures

pub add_expr-returns-in-Call : goal.add_expr-returns-in-Call
add_expr-returns-in-Call t c =
    on_ok_weaker c.add_call.result (adds c.args.mentions.now _ _ _
    (nodes.mentions-Call c.args.e.now _ _ c.in-Call.is
    ∙ (λ i. named a_called_method c.in-Call.method ++ each_argument (sym c.items.ensures i)))) c.add_call.ensures

pub add_expr-returns-in-StaticCall : goal.add_expr-returns-in-StaticCall
add_expr-returns-in-StaticCall t c =
    on_ok_weaker c.add_call-in-StaticCall.result (adds c.args.mentions.now _ _ _
    (nodes.mentions-StaticCall c.args.e.now _ _ c.in-StaticCall.is
    ∙ (λ i. named a_static_method c.in-StaticCall.method ++ each_argument (sym c.items-in-StaticCall.ensures i))))
    c.add_call-in-StaticCall.ensures

pub add_expr-returns-in-CallOn : goal.add_expr-returns-in-CallOn
add_expr-returns-in-CallOn t c =
    on_ok_weaker c.add_call_on.result (adds c.args.mentions.now _ _ _
    (nodes.mentions-CallOn c.args.e.now _ _ _ c.in-CallOn.is
    ∙ (λ i. named a_called_method c.in-CallOn.method ++ expr_mentions (sym c.get-in-CallOn.ensures i) ++ each_argument
    (sym c.items-in-CallOn.ensures i))))
    c.add_call_on.ensures

pub add_expr-returns-in-SuperCall : goal.add_expr-returns-in-SuperCall
add_expr-returns-in-SuperCall t c =
    on_ok_weaker c.add_call-in-SuperCall.result (adds c.args.mentions.now _ _ _
    (nodes.mentions-SuperCall c.args.e.now _ _ c.in-SuperCall.is
    ∙ (λ i. named a_called_method c.in-SuperCall.method ++ each_argument (sym c.items-in-SuperCall.ensures i))))
    c.add_call-in-SuperCall.ensures

pub add_expr-returns-in-New : goal.add_expr-returns-in-New
add_expr-returns-in-New t c =
    on_ok_weaker c.add_call-in-New.result (adds c.args.mentions.now _ _ _
    (nodes.mentions-New c.args.e.now _ _ c.in-New.is
    ∙ (λ i. named a_constructor c.in-New.constructor ++ each_argument (sym c.items-in-New.ensures i)))) c.add_call-in-New.ensures

pub add_expr-returns-in-NewDefault : goal.add_expr-returns-in-NewDefault
add_expr-returns-in-NewDefault t c =
    on_ok_weaker c.add-in-NewDefault.result (adds c.args.mentions.now _ _ _
    (nodes.mentions-NewDefault c.args.e.now _ c.in-NewDefault.is)) c.add-in-NewDefault.ensures

pub add_expr-returns-in-Cond : goal.add_expr-returns-in-Cond
add_expr-returns-in-Cond t c =
    on_ok_weaker c.add_choice.result (adds c.args.mentions.now _ _ _
    (nodes.mentions-Cond c.args.e.now _ _ _ c.in-Cond.is
    ∙ (λ i. expr_mentions (sym c.get-in-Cond.ensures i) ++ expr_mentions (sym c.get-in-Cond-2.ensures i) ++ expr_mentions
    (sym c.get-in-Cond-3.ensures i))))
    c.add_choice.ensures

pub add_expr-returns-in-OutsideName : goal.add_expr-returns-in-OutsideName
add_expr-returns-in-OutsideName t c = adds-none c.args.mentions.now _ (nodes.mentions-OutsideName c.args.e.now _ c.in-OutsideName.is)

pub add_expr-returns-in-OutsideClass : goal.add_expr-returns-in-OutsideClass
add_expr-returns-in-OutsideClass t c = adds-none c.args.mentions.now _ (nodes.mentions-OutsideClass c.args.e.now _ c.in-OutsideClass.is)

pub add_expr-returns-in-OutsideField : goal.add_expr-returns-in-OutsideField
add_expr-returns-in-OutsideField t c =
    on_ok_weaker c.add_expr.result (adds c.args.mentions.now _ _ _
    (nodes.mentions-OutsideField c.args.e.now _ _ c.in-OutsideField.is
    ∙ (λ i. expr_mentions (sym c.get-in-OutsideField.ensures i)))) c.add_expr.ensures

pub add_expr-returns-in-OutsideCall : goal.add_expr-returns-in-OutsideCall
add_expr-returns-in-OutsideCall t c =
    on_ok_weaker c.add_all.result (adds c.args.mentions.now _ _ _
    (nodes.mentions-OutsideCall c.args.e.now _ _ c.in-OutsideCall.is
    ∙ (λ i. each_expr (sym c.items-in-OutsideCall.ensures i)))) c.add_all.ensures

pub add_expr-returns-in-OutsideCallOn : goal.add_expr-returns-in-OutsideCallOn
add_expr-returns-in-OutsideCallOn t c =
    on_ok_weaker c.add_outside_on.result (adds c.args.mentions.now _ _ _
    (nodes.mentions-OutsideCallOn c.args.e.now _ _ _ c.in-OutsideCallOn.is
    ∙ (λ i. expr_mentions (sym c.get-in-OutsideCallOn.ensures i) ++ each_expr (sym c.items-in-OutsideCallOn.ensures i))))
    c.add_outside_on.ensures

pub add_expr-returns-in-OutsideSuperCall : goal.add_expr-returns-in-OutsideSuperCall
add_expr-returns-in-OutsideSuperCall t c =
    on_ok_weaker c.add_all-in-OutsideSuperCall.result (adds c.args.mentions.now _ _ _
    (nodes.mentions-OutsideSuperCall c.args.e.now _ _ c.in-OutsideSuperCall.is
    ∙ (λ i. each_expr (sym c.items-in-OutsideSuperCall.ensures i)))) c.add_all-in-OutsideSuperCall.ensures

pub add_expr-returns-in-NewOutside : goal.add_expr-returns-in-NewOutside
add_expr-returns-in-NewOutside t c =
    on_ok_weaker c.add_typed.result (adds c.args.mentions.now _ _ _
    (nodes.mentions-NewOutside c.args.e.now _ _ c.in-NewOutside.is
    ∙ (λ i. type_mentions c.in-NewOutside.ty ++ each_expr (sym c.items-in-NewOutside.ensures i)))) c.add_typed.ensures

pub add_expr-returns-in-NewArray : goal.add_expr-returns-in-NewArray
add_expr-returns-in-NewArray t c =
    on_ok_weaker c.add_typed-in-NewArray.result (adds c.args.mentions.now _ _ _
    (nodes.mentions-NewArray c.args.e.now _ _ _ c.in-NewArray.is
    ∙ (λ i. type_mentions c.in-NewArray.ty ++ each_expr (sym c.items-in-NewArray.ensures i)))) c.add_typed-in-NewArray.ensures

pub add_expr-returns-in-ArrayLit : goal.add_expr-returns-in-ArrayLit
add_expr-returns-in-ArrayLit t c =
    on_ok_weaker c.add_typed-in-ArrayLit.result (adds c.args.mentions.now _ _ _
    (nodes.mentions-ArrayLit c.args.e.now _ _ c.in-ArrayLit.is
    ∙ (λ i. type_mentions c.in-ArrayLit.ty ++ each_expr (sym c.items-in-ArrayLit.ensures i)))) c.add_typed-in-ArrayLit.ensures

pub add_expr-returns-in-Braces : goal.add_expr-returns-in-Braces
add_expr-returns-in-Braces t c =
    on_ok_weaker c.add_all-in-Braces.result (adds c.args.mentions.now _ _ _
    (nodes.mentions-Braces c.args.e.now _ c.in-Braces.is ∙ (λ i. each_expr (sym c.items-in-Braces.ensures i)))) c.add_all-in-Braces.ensures

pub add_expr-returns-in-Index : goal.add_expr-returns-in-Index
add_expr-returns-in-Index t c =
    on_ok_weaker c.add_two.result (adds c.args.mentions.now _ _ _
    (nodes.mentions-Index c.args.e.now _ _ c.in-Index.is
    ∙ (λ i. expr_mentions (sym c.get-in-Index.ensures i) ++ expr_mentions (sym c.get-in-Index-2.ensures i)))) c.add_two.ensures

pub add_expr-returns-in-Unary : goal.add_expr-returns-in-Unary
add_expr-returns-in-Unary t c =
    on_ok_weaker c.add_expr-in-Unary.result (adds c.args.mentions.now _ _ _
    (nodes.mentions-Unary c.args.e.now _ _ c.in-Unary.is ∙ (λ i. expr_mentions (sym c.get-in-Unary.ensures i)))) c.add_expr-in-Unary.ensures

pub add_expr-returns-in-Post : goal.add_expr-returns-in-Post
add_expr-returns-in-Post t c =
    on_ok_weaker c.add_expr-in-Post.result (adds c.args.mentions.now _ _ _
    (nodes.mentions-Post c.args.e.now _ _ c.in-Post.is ∙ (λ i. expr_mentions (sym c.get-in-Post.ensures i)))) c.add_expr-in-Post.ensures

pub add_expr-returns-in-Binary : goal.add_expr-returns-in-Binary
add_expr-returns-in-Binary t c =
    on_ok_weaker c.add_two-in-Binary.result (adds c.args.mentions.now _ _ _
    (nodes.mentions-Binary c.args.e.now _ _ _ c.in-Binary.is
    ∙ (λ i. expr_mentions (sym c.get-in-Binary.ensures i) ++ expr_mentions (sym c.get-in-Binary-2.ensures i)))) c.add_two-in-Binary.ensures

pub add_expr-returns-in-Assign : goal.add_expr-returns-in-Assign
add_expr-returns-in-Assign t c =
    on_ok_weaker c.add_two-in-Assign.result (adds c.args.mentions.now _ _ _
    (nodes.mentions-Assign c.args.e.now _ _ _ c.in-Assign.is
    ∙ (λ i. expr_mentions (sym c.get-in-Assign.ensures i) ++ expr_mentions (sym c.get-in-Assign-2.ensures i)))) c.add_two-in-Assign.ensures

pub add_expr-returns-in-Cast : goal.add_expr-returns-in-Cast
add_expr-returns-in-Cast t c =
    on_ok_weaker c.add_cast.result (adds c.args.mentions.now _ _ _
    (nodes.mentions-Cast c.args.e.now _ _ c.in-Cast.is
    ∙ (λ i. type_mentions c.in-Cast.ty ++ expr_mentions (sym c.get-in-Cast.ensures i)))) c.add_cast.ensures

pub add_expr-returns-in-InstanceOf : goal.add_expr-returns-in-InstanceOf
add_expr-returns-in-InstanceOf t c =
    on_ok_weaker c.add_test.result (adds c.args.mentions.now _ _ _
    (nodes.mentions-InstanceOf c.args.e.now _ _ c.in-InstanceOf.is
    ∙ (λ i. expr_mentions (sym c.get-in-InstanceOf.ensures i) ++ type_mentions c.in-InstanceOf.ty))) c.add_test.ensures

-- # One part, and then another

pub add_member-returns : goal.add_member-returns
add_member-returns t c = on_ok_weaker c.add_expr.result (adds-both c.args.mentions.now _ _ _ _ c.in_ok-add.ensures) c.add_expr.ensures

pub add_call-returns : goal.add_call-returns
add_call-returns t c =
    on_ok_weaker c.add_arguments.result (adds-both c.args.mentions.now _ _ _ _ c.in_ok-add.ensures) c.add_arguments.ensures

pub add_call_on-returns : goal.add_call_on-returns
add_call_on-returns t c =
    on_ok_weaker c.add_arguments.result (adds-both c.args.mentions.now _ _ _ _ c.in_ok-add_member.ensures) c.add_arguments.ensures

pub add_outside_on-returns : goal.add_outside_on-returns
add_outside_on-returns t c =
    on_ok_weaker c.add_all.result (adds-both c.args.mentions.now _ _ _ _ c.in_ok-add_expr.ensures) c.add_all.ensures

pub add_typed-returns : goal.add_typed-returns
add_typed-returns t c = on_ok_weaker c.add_all.result (adds-both c.args.mentions.now _ _ _ _ c.in_ok-add_type.ensures) c.add_all.ensures

pub add_two-returns : goal.add_two-returns
add_two-returns t c = on_ok_weaker c.add_expr-2.result (adds-both c.args.mentions.now _ _ _ _ c.in_ok-add_expr.ensures) c.add_expr-2.ensures

pub add_choice-returns : goal.add_choice-returns
add_choice-returns t c = on_ok_weaker c.add_expr.result (adds-both c.args.mentions.now _ _ _ _ c.in_ok-add_two.ensures) c.add_expr.ensures

pub add_cast-returns : goal.add_cast-returns
add_cast-returns t c = on_ok_weaker c.add_expr.result (adds-both c.args.mentions.now _ _ _ _ c.in_ok-add_type.ensures) c.add_expr.ensures

pub add_test-returns : goal.add_test-returns
add_test-returns t c = on_ok_weaker c.add_type.result (adds-both c.args.mentions.now _ _ _ _ c.in_ok-add_expr.ensures) c.add_type.ensures

-- # Several

pub add_argument-returns : goal.add_argument-returns
add_argument-returns t c =
    on_ok_weaker c.add_expr.result (adds c.args.mentions.now _ _ _ (nodes.mentions-argument c.args.arg.now)) c.add_expr.ensures

pub add_all-loop-item-preserved : goal.add_all-loop-item-preserved
add_all-loop-item-preserved t c =
    adds-more each_expr expr_mentions refl (λ x rest. refl)
    c.args.items.now c.loop-item.item-index c.item-item.result _ _ _ c.loop-item-test.true c.item-item.is
    c.loop-item.invariant c.in_ok-add_expr.ensures

pub add_all-returns : goal.add_all-returns
add_all-returns t c =
    adds-whole each_expr expr_mentions refl (λ x rest. refl)
    c.args.items.now c.loop-item.item-index _ _ c.loop-item-test.false c.loop-item.invariant

pub add_arguments-loop-arg-preserved : goal.add_arguments-loop-arg-preserved
add_arguments-loop-arg-preserved t c =
    adds-more each_argument argument_mentions refl (λ x rest. refl)
    c.args.args.now c.loop-arg.arg-index c.arg-item.result _ _ _ c.loop-arg-test.true c.arg-item.is
    c.loop-arg.invariant c.in_ok-add_argument.ensures

pub add_arguments-returns : goal.add_arguments-returns
add_arguments-returns t c =
    adds-whole each_argument argument_mentions refl (λ x rest. refl)
    c.args.args.now c.loop-arg.arg-index _ _ c.loop-arg-test.false c.loop-arg.invariant
