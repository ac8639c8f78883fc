-- What each part is written as, put together as the definitions do it.
use Rattle.std.proofs.Common.{◌∙◌, Some, map, ap}
use Rattle.std.proofs.lemmas.Result.{IfOk-weaker}
use Rattle.jav_tree.specs.declared.expr.ExprNode.TheVariants as node
use Rattle.mol_spell_rules.specs.SpelledExpressions.{dot_tree, made, name_tree}
use Rattle.mol_spell_expr.proofs.Nodes as nodes
use Rattle.mol_spell_expr.proofs.WithLast.{with_last}
use Rattle.mol_spell_expr.proofs.expr_writer.ExprWriter.+write_expr.Goals as goal
use Rattle.mol_spell_expr.specs.Calls.{call_node}
use Rattle.mol_spell_expr.specs.Parts.{argument_tree, over_list, over_operand, over_operands, tree_of}

-- # Each kind of expression

pub expr-returns-in-Lit : goal.expr-returns-in-Lit
expr-returns-in-Lit g t c =
    let writer = g.N.Names.writer c.args.self.now.names.now in
    let locals = g.N.Names.locals c.args.self.now.names.now in
    IfOk-weaker c.literal.result _ _ (λ tree written.
    nodes.write-Lit writer locals c.args.e.now tree _ c.in-Lit.is written) c.literal.ensures

pub expr-returns-in-This : goal.expr-returns-in-This
expr-returns-in-This g t c =
    let writer = g.N.Names.writer c.args.self.now.names.now in
    let locals = g.N.Names.locals c.args.self.now.names.now in
    nodes.write-This writer locals c.args.e.now c.made.result c.in-This.is c.made.ensures

pub expr-returns-in-Local : goal.expr-returns-in-Local
expr-returns-in-Local g t c =
    let writer = g.N.Names.writer c.args.self.now.names.now in
    let locals = g.N.Names.locals c.args.self.now.names.now in
    IfOk-weaker c.named.result _ _ (λ tree written.
    nodes.write-Local writer locals c.args.e.now tree _ c.in-Local.is (written ∙ ap name_tree c.local_name.ensures)) c.named.ensures

pub expr-returns-in-Param : goal.expr-returns-in-Param
expr-returns-in-Param g t c =
    let writer = g.N.Names.writer c.args.self.now.names.now in
    let locals = g.N.Names.locals c.args.self.now.names.now in
    IfOk-weaker c.named-in-Param.result _ _ (λ tree written.
    nodes.write-Param writer locals c.args.e.now tree _ c.in-Param.is (written ∙ ap name_tree c.param_name.ensures))
    c.named-in-Param.ensures

pub expr-returns-in-Own : goal.expr-returns-in-Own
expr-returns-in-Own g t c =
    let writer = g.N.Names.writer c.args.self.now.names.now in
    let locals = g.N.Names.locals c.args.self.now.names.now in
    IfOk-weaker c.own_field.result _ _ (λ tree written.
    nodes.write-Own writer locals c.args.e.now tree _ c.in-Own.is written) c.own_field.ensures

pub expr-returns-in-StaticField : goal.expr-returns-in-StaticField
expr-returns-in-StaticField g t c =
    let writer = g.N.Names.writer c.args.self.now.names.now in
    let locals = g.N.Names.locals c.args.self.now.names.now in
    IfOk-weaker c.static_field.result _ _ (λ tree written.
    nodes.write-StaticField writer locals c.args.e.now tree _ c.in-StaticField.is written) c.static_field.ensures

pub expr-returns-in-Field : goal.expr-returns-in-Field
expr-returns-in-Field g t c =
    let writer = g.N.Names.writer c.args.self.now.names.now in
    let locals = g.N.Names.locals c.args.self.now.names.now in
    IfOk-weaker c.field_on.result _ _ (λ tree written.
    nodes.write-Field writer locals c.args.e.now tree _ _ _ c.in-Field.is c.get.ensures written) c.field_on.ensures

pub expr-returns-in-Call : goal.expr-returns-in-Call
expr-returns-in-Call g t c =
    let writer = g.N.Names.writer c.args.self.now.names.now in
    let locals = g.N.Names.locals c.args.self.now.names.now in
    IfOk-weaker c.called.result _ _ (λ tree written.
    nodes.write-Call writer locals c.args.e.now tree _ _ _ c.in-Call.is c.items.ensures written) c.called.ensures

pub expr-returns-in-StaticCall : goal.expr-returns-in-StaticCall
expr-returns-in-StaticCall g t c =
    let writer = g.N.Names.writer c.args.self.now.names.now in
    let locals = g.N.Names.locals c.args.self.now.names.now in
    IfOk-weaker c.called-in-StaticCall.result _ _ (λ tree written.
    nodes.write-StaticCall writer locals c.args.e.now tree _ _ _ c.in-StaticCall.is c.items-in-StaticCall.ensures written)
    c.called-in-StaticCall.ensures

pub expr-returns-in-CallOn : goal.expr-returns-in-CallOn
expr-returns-in-CallOn g t c =
    let writer = g.N.Names.writer c.args.self.now.names.now in
    let locals = g.N.Names.locals c.args.self.now.names.now in
    IfOk-weaker c.method_on.result _ _ (λ tree written.
    nodes.write-CallOn writer locals c.args.e.now tree _ _ _ _ _ c.in-CallOn.is c.get-in-CallOn.ensures c.items-in-CallOn.ensures written)
    c.method_on.ensures

pub expr-returns-in-SuperCall : goal.expr-returns-in-SuperCall
expr-returns-in-SuperCall g t c =
    let writer = g.N.Names.writer c.args.self.now.names.now in
    let locals = g.N.Names.locals c.args.self.now.names.now in
    IfOk-weaker c.called-in-SuperCall.result _ _ (λ tree written.
    nodes.write-SuperCall writer locals c.args.e.now tree _ _ _ c.in-SuperCall.is c.items-in-SuperCall.ensures (written
    ∙ ap (λ name. made (node.SuperCall name
    (map (argument_tree writer locals) c.items-in-SuperCall.result.now))) c.name_of.ensures)) c.called-in-SuperCall.ensures

pub expr-returns-in-New : goal.expr-returns-in-New
expr-returns-in-New g t c =
    let writer = g.N.Names.writer c.args.self.now.names.now in
    let locals = g.N.Names.locals c.args.self.now.names.now in
    IfOk-weaker c.called-in-New.result _ _ (λ tree written.
    nodes.write-New writer locals c.args.e.now tree _ _ _ c.in-New.is c.items-in-New.ensures written) c.called-in-New.ensures

pub expr-returns-in-NewDefault : goal.expr-returns-in-NewDefault
expr-returns-in-NewDefault g t c =
    let writer = g.N.Names.writer c.args.self.now.names.now in
    let locals = g.N.Names.locals c.args.self.now.names.now in
    IfOk-weaker c.default_creation.result _ _ (λ tree written.
    nodes.write-NewDefault writer locals c.args.e.now tree _ c.in-NewDefault.is written) c.default_creation.ensures

pub expr-returns-in-Cond : goal.expr-returns-in-Cond
expr-returns-in-Cond g t c =
    let writer = g.N.Names.writer c.args.self.now.names.now in
    let locals = g.N.Names.locals c.args.self.now.names.now in
    IfOk-weaker c.choice.result _ _ (λ tree written.
    nodes.write-Cond writer locals c.args.e.now tree _ _ _ _ _ _ c.in-Cond.is c.get-in-Cond.ensures c.get-in-Cond-2.ensures
    c.get-in-Cond-3.ensures written) c.choice.ensures

pub expr-returns-in-OutsideName : goal.expr-returns-in-OutsideName
expr-returns-in-OutsideName g t c =
    let writer = g.N.Names.writer c.args.self.now.names.now in
    let locals = g.N.Names.locals c.args.self.now.names.now in
    IfOk-weaker c.named-in-OutsideName.result _ _ (λ tree written.
    nodes.write-OutsideName writer locals c.args.e.now tree _ c.in-OutsideName.is (written ∙ ap name_tree c.as_str.ensures))
    c.named-in-OutsideName.ensures

pub expr-returns-in-OutsideClass : goal.expr-returns-in-OutsideClass
expr-returns-in-OutsideClass g t c =
    let writer = g.N.Names.writer c.args.self.now.names.now in
    let locals = g.N.Names.locals c.args.self.now.names.now in
    IfOk-weaker c.class_tree.result _ _ (λ tree written.
    nodes.write-OutsideClass writer locals c.args.e.now tree _ c.in-OutsideClass.is written) c.class_tree.ensures

pub expr-returns-in-OutsideField : goal.expr-returns-in-OutsideField
expr-returns-in-OutsideField g t c =
    let writer = g.N.Names.writer c.args.self.now.names.now in
    let locals = g.N.Names.locals c.args.self.now.names.now in
    IfOk-weaker c.unary.result _ _ (λ tree written.
    nodes.write-OutsideField writer locals c.args.e.now tree _ _ _ _ c.in-OutsideField.is c.as_str-in-OutsideField.ensures
    c.get-in-OutsideField.ensures written) c.unary.ensures

pub expr-returns-in-OutsideCall : goal.expr-returns-in-OutsideCall
expr-returns-in-OutsideCall g t c =
    let writer = g.N.Names.writer c.args.self.now.names.now in
    let locals = g.N.Names.locals c.args.self.now.names.now in
    IfOk-weaker c.listed.result _ _ (λ tree written.
    nodes.write-OutsideCall writer locals c.args.e.now tree _ _ _ _ c.in-OutsideCall.is c.as_str-in-OutsideCall.ensures
    c.items-in-OutsideCall.ensures written) c.listed.ensures

pub expr-returns-in-OutsideCallOn : goal.expr-returns-in-OutsideCallOn
expr-returns-in-OutsideCallOn g t c =
    let writer = g.N.Names.writer c.args.self.now.names.now in
    let locals = g.N.Names.locals c.args.self.now.names.now in
    IfOk-weaker c.outside_on.result _ _ (λ tree written.
    nodes.write-OutsideCallOn writer locals c.args.e.now tree _ _ _ _ _ _ c.in-OutsideCallOn.is c.as_str-in-OutsideCallOn.ensures
    c.get-in-OutsideCallOn.ensures c.items-in-OutsideCallOn.ensures written) c.outside_on.ensures

pub expr-returns-in-OutsideSuperCall : goal.expr-returns-in-OutsideSuperCall
expr-returns-in-OutsideSuperCall g t c =
    let writer = g.N.Names.writer c.args.self.now.names.now in
    let locals = g.N.Names.locals c.args.self.now.names.now in
    IfOk-weaker c.listed-in-OutsideSuperCall.result _ _ (λ tree written.
    nodes.write-OutsideSuperCall writer locals c.args.e.now tree _ _ _ _ c.in-OutsideSuperCall.is c.as_str-in-OutsideSuperCall.ensures
    c.items-in-OutsideSuperCall.ensures written) c.listed-in-OutsideSuperCall.ensures

pub expr-returns-in-NewOutside : goal.expr-returns-in-NewOutside
expr-returns-in-NewOutside g t c =
    let writer = g.N.Names.writer c.args.self.now.names.now in
    let locals = g.N.Names.locals c.args.self.now.names.now in
    IfOk-weaker c.listed-in-NewOutside.result _ _ (λ tree written.
    nodes.write-NewOutside writer locals c.args.e.now tree _ _ _ c.in-NewOutside.is c.items-in-NewOutside.ensures written)
    c.listed-in-NewOutside.ensures

pub expr-returns-in-ArrayLit : goal.expr-returns-in-ArrayLit
expr-returns-in-ArrayLit g t c =
    let writer = g.N.Names.writer c.args.self.now.names.now in
    let locals = g.N.Names.locals c.args.self.now.names.now in
    IfOk-weaker c.listed-in-ArrayLit.result _ _ (λ tree written.
    nodes.write-ArrayLit writer locals c.args.e.now tree _ _ _ c.in-ArrayLit.is c.items-in-ArrayLit.ensures written)
    c.listed-in-ArrayLit.ensures

pub expr-returns-in-NewArray : goal.expr-returns-in-NewArray
expr-returns-in-NewArray g t c =
    let writer = g.N.Names.writer c.args.self.now.names.now in
    let locals = g.N.Names.locals c.args.self.now.names.now in
    IfOk-weaker c.listed-in-NewArray.result _ _ (λ tree written.
    nodes.write-NewArray writer locals c.args.e.now tree _ _ _ _ c.in-NewArray.is c.items-in-NewArray.ensures written)
    c.listed-in-NewArray.ensures

pub expr-returns-in-Braces : goal.expr-returns-in-Braces
expr-returns-in-Braces g t c =
    let writer = g.N.Names.writer c.args.self.now.names.now in
    let locals = g.N.Names.locals c.args.self.now.names.now in
    IfOk-weaker c.listed-in-Braces.result _ _ (λ tree written.
    nodes.write-Braces writer locals c.args.e.now tree _ _ c.in-Braces.is c.items-in-Braces.ensures written) c.listed-in-Braces.ensures

pub expr-returns-in-Index : goal.expr-returns-in-Index
expr-returns-in-Index g t c =
    let writer = g.N.Names.writer c.args.self.now.names.now in
    let locals = g.N.Names.locals c.args.self.now.names.now in
    IfOk-weaker c.binary.result _ _ (λ tree written.
    nodes.write-Index writer locals c.args.e.now tree _ _ _ _ c.in-Index.is c.get-in-Index.ensures c.get-in-Index-2.ensures written)
    c.binary.ensures

pub expr-returns-in-Unary : goal.expr-returns-in-Unary
expr-returns-in-Unary g t c =
    let writer = g.N.Names.writer c.args.self.now.names.now in
    let locals = g.N.Names.locals c.args.self.now.names.now in
    IfOk-weaker c.unary-in-Unary.result _ _ (λ tree written.
    nodes.write-Unary writer locals c.args.e.now tree _ _ _ c.in-Unary.is c.get-in-Unary.ensures written) c.unary-in-Unary.ensures

pub expr-returns-in-Post : goal.expr-returns-in-Post
expr-returns-in-Post g t c =
    let writer = g.N.Names.writer c.args.self.now.names.now in
    let locals = g.N.Names.locals c.args.self.now.names.now in
    IfOk-weaker c.unary-in-Post.result _ _ (λ tree written.
    nodes.write-Post writer locals c.args.e.now tree _ _ _ c.in-Post.is c.get-in-Post.ensures written) c.unary-in-Post.ensures

pub expr-returns-in-Binary : goal.expr-returns-in-Binary
expr-returns-in-Binary g t c =
    let writer = g.N.Names.writer c.args.self.now.names.now in
    let locals = g.N.Names.locals c.args.self.now.names.now in
    IfOk-weaker c.binary-in-Binary.result _ _ (λ tree written.
    nodes.write-Binary writer locals c.args.e.now tree _ _ _ _ _ c.in-Binary.is c.get-in-Binary.ensures c.get-in-Binary-2.ensures written)
    c.binary-in-Binary.ensures

pub expr-returns-in-Assign : goal.expr-returns-in-Assign
expr-returns-in-Assign g t c =
    let writer = g.N.Names.writer c.args.self.now.names.now in
    let locals = g.N.Names.locals c.args.self.now.names.now in
    IfOk-weaker c.binary-in-Assign.result _ _ (λ tree written.
    nodes.write-Assign writer locals c.args.e.now tree _ _ _ _ _ c.in-Assign.is c.get-in-Assign.ensures c.get-in-Assign-2.ensures written)
    c.binary-in-Assign.ensures

pub expr-returns-in-Cast : goal.expr-returns-in-Cast
expr-returns-in-Cast g t c =
    let writer = g.N.Names.writer c.args.self.now.names.now in
    let locals = g.N.Names.locals c.args.self.now.names.now in
    IfOk-weaker c.unary-in-Cast.result _ _ (λ tree written.
    nodes.write-Cast writer locals c.args.e.now tree _ _ _ c.in-Cast.is c.get-in-Cast.ensures written) c.unary-in-Cast.ensures

pub expr-returns-in-InstanceOf : goal.expr-returns-in-InstanceOf
expr-returns-in-InstanceOf g t c =
    let writer = g.N.Names.writer c.args.self.now.names.now in
    let locals = g.N.Names.locals c.args.self.now.names.now in
    IfOk-weaker c.unary-in-InstanceOf.result _ _ (λ tree written.
    nodes.write-InstanceOf writer locals c.args.e.now tree _ _ _ c.in-InstanceOf.is c.get-in-InstanceOf.ensures written)
    c.unary-in-InstanceOf.ensures

-- # Over operands

pub unary-returns : goal.unary-returns
unary-returns g t c =
    let writer = g.N.Names.writer c.args.self.now.names.now in
    let locals = g.N.Names.locals c.args.self.now.names.now in
    IfOk-weaker c.over_operand.result _ _ (λ tree written. written ∙ ap (over_operand writer locals c.args.kind) c.in_ok-operand.ensures)
    c.over_operand.ensures

pub binary-returns : goal.binary-returns
binary-returns g t c =
    let writer = g.N.Names.writer c.args.self.now.names.now in
    let locals = g.N.Names.locals c.args.self.now.names.now in
    let second = tree_of writer locals c.args.second.now in
    IfOk-weaker c.over_operands.result _ _ (λ tree written.
    with_last c.operand-2.result (over_operands c.args.kind c.in_ok-first.first) second tree written c.operand-2.ensures
    ∙ ap (λ first. over_operands c.args.kind first second) c.in_ok-first.ensures) c.over_operands.ensures

pub choice-returns : goal.choice-returns
choice-returns g t c =
    let writer = g.N.Names.writer c.args.self.now.names.now in
    let locals = g.N.Names.locals c.args.self.now.names.now in
    let second = tree_of writer locals c.args.second.now in
    IfOk-weaker c.choice_of.result _ _ (λ tree written.
    with_last c.operand-3.result (λ second. made (node.Cond c.in_ok-test.test c.in_ok-first.first second)) second tree written
    c.operand-3.ensures
    ∙ (λ i. made (node.Cond (c.in_ok-test.ensures i) (c.in_ok-first.ensures i) second))) c.choice_of.ensures

pub field_on-returns-in-This : goal.field_on-returns-in-This
field_on-returns-in-This g t c =
    let writer = g.N.Names.writer c.args.self.now.names.now in
    let locals = g.N.Names.locals c.args.self.now.names.now in
    IfOk-weaker c.own_field.result _ _ (λ tree written.
    nodes.field_on-this writer locals c.args.field.now c.args.on.now tree c.in-This.is written) c.own_field.ensures

pub field_on-returns-in_default : goal.field_on-returns-in_default
field_on-returns-in_default g t c =
    let writer = g.N.Names.writer c.args.self.now.names.now in
    let locals = g.N.Names.locals c.args.self.now.names.now in
    IfOk-weaker c.unary.result _ _ (λ tree written.
    nodes.field_on-other writer locals c.args.field.now c.args.on.now tree c.in_default.not-This
    (written ∙ ap (dot_tree (tree_of writer locals c.args.on.now)) c.name_of.ensures)) c.unary.ensures

-- # Over several

pub listed-returns : goal.listed-returns
listed-returns g t c =
    let writer = g.N.Names.writer c.args.self.now.names.now in
    let locals = g.N.Names.locals c.args.self.now.names.now in
    IfOk-weaker c.over_list.result _ _ (λ tree written. written ∙ ap (over_list writer locals c.args.kind) c.in_ok-items.ensures)
    c.over_list.ensures

pub called-returns : goal.called-returns
called-returns g t c =
    let writer = g.N.Names.writer c.args.self.now.names.now in
    let locals = g.N.Names.locals c.args.self.now.names.now in
    IfOk-weaker c.over_list.result _ _ (λ tree written. written ∙ ap (over_list writer locals c.args.kind) c.in_ok-args.ensures)
    c.over_list.ensures

pub method_on-returns-in-This : goal.method_on-returns-in-This
method_on-returns-in-This g t c =
    let writer = g.N.Names.writer c.args.self.now.names.now in
    let locals = g.N.Names.locals c.args.self.now.names.now in
    IfOk-weaker c.called.result _ _ (λ tree written.
    nodes.method_on-this writer locals c.args.method.now c.args.on.now (map (argument_tree writer locals) c.args.args.now) tree c.in-This.is
    written) c.called.ensures

pub method_on-returns-in_ok-on-in_default : goal.method_on-returns-in_ok-on-in_default
method_on-returns-in_ok-on-in_default g t c =
    let writer = g.N.Names.writer c.args.self.now.names.now in
    let locals = g.N.Names.locals c.args.self.now.names.now in
    let args = map (argument_tree writer locals) c.args.args.now in
    IfOk-weaker c.call_on.result _ _ (λ tree written.
    nodes.method_on-other writer locals c.args.method.now c.args.on.now args tree c.in_default.not-This
    (with_last c.arguments.result (λ args. call_node (Some c.in_ok-on-in_default.on) c.name_of-name.result.now args) args tree written
    c.arguments.ensures
    ∙ (λ i. call_node (Some (c.in_ok-on-in_default.ensures i)) (c.name_of-name.ensures i) args))) c.call_on.ensures

pub outside_on-returns : goal.outside_on-returns
outside_on-returns g t c =
    let writer = g.N.Names.writer c.args.self.now.names.now in
    let locals = g.N.Names.locals c.args.self.now.names.now in
    let args = map (tree_of writer locals) c.args.args.now in
    IfOk-weaker c.call_on.result _ _ (λ tree written.
    with_last c.exprs.result (λ args. call_node (Some c.in_ok-on.on) c.args.name.now args) args tree written c.exprs.ensures
    ∙ ap (λ on. call_node (Some on) c.args.name.now args) c.in_ok-on.ensures) c.call_on.ensures
