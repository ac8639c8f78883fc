-- What is noted of each kind of expression, put together from what is noted of its parts.
use Rattle.std.proofs.Common.{[], ◌∷◌, ◌++◌, None, Some, length, refl, sym, ap, ◌∙◌, if◌then◌else◌}
use Rattle.std.proofs.lemmas.Result.{IfOk-weaker, on_ok_weaker}
use Rattle.jav_names.specs.OnValues.{class_value, primitive_value}
use Rattle.jav_names.specs.StaticTypes.{common, item, outside_call, outside_field}
use Rattle.mol_faults_expr.proofs.ModeFree.{mode-free}
use Rattle.mol_faults_expr.proofs.NotedMore.{noted-both, noted-first, noted-more, noted-value, noted-whole}
use Rattle.mol_faults_expr.proofs.ReadHere.{class-is, reads-so}
use Rattle.mol_faults_expr.specs.Names.{field_on_reference, index_reference, method_on_reference, outside_call_reference, outside_field_reference, outside_on_reference, outside_super_reference, super_reference}
use Rattle.mol_faults_expr.specs.Noted.{noted_after}
use Rattle.mol_faults_expr.specs.References.{all_references, argument_references, expr_references, outside_field_references, outside_received, received_references, references_as, static_type, type_references, value_field_references}
use Rattle.mol_spell_rules.specs.references.References.{index_target}
use Rattle.mol_resolve_rules.specs.ProgramViews.{program_view}
use Rattle.mol_resolve_rules.specs.StaticTypes.{class_of_only_declaration, field_value, result_value}
use Rattle.mol_spell_rules.specs.SpelledExpressions.{call_form, call_reference, constructor_reference, name_of, static_call_form}
use Rattle.mol_spell_rules.specs.Writers.{index_asked}
use Rattle.mol_values_types.specs.declared.iexpr.Argument.{Argument}
use Rattle.mol_faults_expr.proofs.expr_reader.ExprReader.+expr_misreads.Goals as goal
use Rattle.mol_faults_expr.proofs.Nodes as nodes
use Rattle.mol_values_types.specs.declared.iexpr.IExpr.TheVariants as exprs
use Rattle.mol_spell_expr.specs.declared.type_place.TypePlace.TheVariants as places

pub expr-returns-in-Lit : goal.expr-returns-in-Lit
expr-returns-in-Lit g t c =
    let writer = g.N.Names.writer c.args.self.now.names.now in
    let locals = g.N.Names.locals c.args.self.now.names.now in
    nodes.read-so writer locals c.args.e.now None _ _ (nodes.says-Lit writer locals c.args.e.now _ c.in-Lit.is) _ _ _
    (record { noted = refl; typed = c.of_literal.ensures })

pub expr-returns-in-This : goal.expr-returns-in-This
expr-returns-in-This g t c =
    let writer = g.N.Names.writer c.args.self.now.names.now in
    let locals = g.N.Names.locals c.args.self.now.names.now in
    let place = c.args.self.now.place in
    let kept = c.args.self.now.locals.now in
    nodes.read-so writer locals c.args.e.now None _ _ (nodes.says-This writer locals c.args.e.now c.in-This.is) _ _ _
    (record { noted = refl; typed = ap (λ class. class_value class) (class-is writer locals place kept c.requires) })

pub expr-returns-in-Local : goal.expr-returns-in-Local
expr-returns-in-Local g t c =
    let writer = g.N.Names.writer c.args.self.now.names.now in
    let locals = g.N.Names.locals c.args.self.now.names.now in
    IfOk-weaker c.local.result _ _ (nodes.read-so writer locals c.args.e.now None _ _
    (nodes.says-Local writer locals c.args.e.now _ None c.in-Local.is) _ _) c.local.ensures

pub expr-returns-in-Param : goal.expr-returns-in-Param
expr-returns-in-Param g t c =
    let writer = g.N.Names.writer c.args.self.now.names.now in
    let locals = g.N.Names.locals c.args.self.now.names.now in
    IfOk-weaker c.param.result _ _ (nodes.read-so writer locals c.args.e.now None _ _
    (nodes.says-Param writer locals c.args.e.now _ None c.in-Param.is) _ _) c.param.ensures

pub expr-returns-in-Own : goal.expr-returns-in-Own
expr-returns-in-Own g t c =
    let writer = g.N.Names.writer c.args.self.now.names.now in
    let locals = g.N.Names.locals c.args.self.now.names.now in
    IfOk-weaker c.own_field.result _ _ (nodes.read-so writer locals c.args.e.now None _ _
    (nodes.says-Own writer locals c.args.e.now _ None c.in-Own.is) _ _) c.own_field.ensures

pub expr-returns-in-StaticField : goal.expr-returns-in-StaticField
expr-returns-in-StaticField g t c =
    let writer = g.N.Names.writer c.args.self.now.names.now in
    let locals = g.N.Names.locals c.args.self.now.names.now in
    IfOk-weaker c.static_field.result _ _ (nodes.read-so writer locals c.args.e.now None _ _
    (nodes.says-StaticField writer locals c.args.e.now _ None c.in-StaticField.is) _ _) c.static_field.ensures

pub expr-returns-in-Field : goal.expr-returns-in-Field
expr-returns-in-Field g t c =
    let writer = g.N.Names.writer c.args.self.now.names.now in
    let locals = g.N.Names.locals c.args.self.now.names.now in
    IfOk-weaker c.field_alone.result _ _ (nodes.read-so writer locals c.args.e.now None _ _
    (nodes.says-Field writer locals c.args.e.now _ _ None (c.in-Field.is ∙ (λ i. exprs.Field c.in-Field.field
    (sym c.get.ensures i)))) _ _) c.field_alone.ensures

pub expr-returns-in-Call : goal.expr-returns-in-Call
expr-returns-in-Call g t c =
    let writer = g.N.Names.writer c.args.self.now.names.now in
    let locals = g.N.Names.locals c.args.self.now.names.now in
    IfOk-weaker c.own_call.result _ _ (nodes.read-so writer locals c.args.e.now None _ _
    (nodes.says-Call writer locals c.args.e.now _ _ (c.in-Call.is ∙ (λ i. exprs.Call c.in-Call.method
    (sym c.items.ensures i)))) _ _) c.own_call.ensures

pub expr-returns-in-StaticCall : goal.expr-returns-in-StaticCall
expr-returns-in-StaticCall g t c =
    let writer = g.N.Names.writer c.args.self.now.names.now in
    let locals = g.N.Names.locals c.args.self.now.names.now in
    IfOk-weaker c.static_call.result _ _ (nodes.read-so writer locals c.args.e.now None _ _
    (nodes.says-StaticCall writer locals c.args.e.now _ _ (c.in-StaticCall.is ∙ (λ i. exprs.StaticCall c.in-StaticCall.method
    (sym c.items-in-StaticCall.ensures i)))) _ _) c.static_call.ensures

pub expr-returns-in-CallOn : goal.expr-returns-in-CallOn
expr-returns-in-CallOn g t c =
    let writer = g.N.Names.writer c.args.self.now.names.now in
    let locals = g.N.Names.locals c.args.self.now.names.now in
    IfOk-weaker c.call_on.result _ _ (nodes.read-so writer locals c.args.e.now None _ _
    (nodes.says-CallOn writer locals c.args.e.now _ _ _ (c.in-CallOn.is ∙ (λ i. exprs.CallOn c.in-CallOn.method
    (sym c.get-in-CallOn.ensures i) (sym c.items-in-CallOn.ensures i)))) _ _) c.call_on.ensures

pub expr-returns-in-SuperCall : goal.expr-returns-in-SuperCall
expr-returns-in-SuperCall g t c =
    let writer = g.N.Names.writer c.args.self.now.names.now in
    let locals = g.N.Names.locals c.args.self.now.names.now in
    IfOk-weaker c.super_call.result _ _ (nodes.read-so writer locals c.args.e.now None _ _
    (nodes.says-SuperCall writer locals c.args.e.now _ _ (c.in-SuperCall.is ∙ (λ i. exprs.SuperCall c.in-SuperCall.method
    (sym c.items-in-SuperCall.ensures i)))) _ _) c.super_call.ensures

pub expr-returns-in-New : goal.expr-returns-in-New
expr-returns-in-New g t c =
    let writer = g.N.Names.writer c.args.self.now.names.now in
    let locals = g.N.Names.locals c.args.self.now.names.now in
    IfOk-weaker c.creation.result _ _ (nodes.read-so writer locals c.args.e.now None _ _
    (nodes.says-New writer locals c.args.e.now _ _ (c.in-New.is ∙ (λ i. exprs.New c.in-New.constructor
    (sym c.items-in-New.ensures i)))) _ _) c.creation.ensures

pub expr-returns-in-NewDefault : goal.expr-returns-in-NewDefault
expr-returns-in-NewDefault g t c =
    let writer = g.N.Names.writer c.args.self.now.names.now in
    let locals = g.N.Names.locals c.args.self.now.names.now in
    IfOk-weaker c.default_creation.result _ _ (nodes.read-so writer locals c.args.e.now None _ _
    (nodes.says-NewDefault writer locals c.args.e.now _ c.in-NewDefault.is) _ _) c.default_creation.ensures

pub expr-returns-in-Cond : goal.expr-returns-in-Cond
expr-returns-in-Cond g t c =
    let writer = g.N.Names.writer c.args.self.now.names.now in
    let locals = g.N.Names.locals c.args.self.now.names.now in
    IfOk-weaker c.choice.result _ _ (nodes.read-so writer locals c.args.e.now None _ _
    (nodes.says-Cond writer locals c.args.e.now _ _ _ (c.in-Cond.is ∙ (λ i. exprs.Cond (sym c.get-in-Cond.ensures i)
    (sym c.get-in-Cond-2.ensures i) (sym c.get-in-Cond-3.ensures i)))) _ _) c.choice.ensures

pub expr-returns-in-OutsideName : goal.expr-returns-in-OutsideName
expr-returns-in-OutsideName g t c =
    let writer = g.N.Names.writer c.args.self.now.names.now in
    let locals = g.N.Names.locals c.args.self.now.names.now in
    IfOk-weaker c.outside_name.result _ _ (nodes.read-so writer locals c.args.e.now None _ _
    (nodes.says-OutsideName writer locals c.args.e.now _ None c.in-OutsideName.is) _ _) c.outside_name.ensures

pub expr-returns-in-OutsideClass : goal.expr-returns-in-OutsideClass
expr-returns-in-OutsideClass g t c =
    let writer = g.N.Names.writer c.args.self.now.names.now in
    let locals = g.N.Names.locals c.args.self.now.names.now in
    IfOk-weaker c.outside_class.result _ _ (nodes.read-so writer locals c.args.e.now None _ _
    (nodes.says-OutsideClass writer locals c.args.e.now _ None c.in-OutsideClass.is) _ _) c.outside_class.ensures

pub expr-returns-in-OutsideField : goal.expr-returns-in-OutsideField
expr-returns-in-OutsideField g t c =
    let writer = g.N.Names.writer c.args.self.now.names.now in
    let locals = g.N.Names.locals c.args.self.now.names.now in
    IfOk-weaker c.outside_field_alone.result _ _ (nodes.read-so writer locals c.args.e.now None _ _
    (nodes.says-OutsideField writer locals c.args.e.now _ _ None (c.in-OutsideField.is ∙ (λ i. exprs.OutsideField c.in-OutsideField.name
    (sym c.get-in-OutsideField.ensures i)))) _ _) c.outside_field_alone.ensures

pub expr-returns-in-OutsideCall : goal.expr-returns-in-OutsideCall
expr-returns-in-OutsideCall g t c =
    let writer = g.N.Names.writer c.args.self.now.names.now in
    let locals = g.N.Names.locals c.args.self.now.names.now in
    IfOk-weaker c.outside_call.result _ _ (nodes.read-so writer locals c.args.e.now None _ _
    (nodes.says-OutsideCall writer locals c.args.e.now _ _ (c.in-OutsideCall.is ∙ (λ i. exprs.OutsideCall c.in-OutsideCall.name
    (sym c.items-in-OutsideCall.ensures i)))) _ _) c.outside_call.ensures

pub expr-returns-in-OutsideCallOn : goal.expr-returns-in-OutsideCallOn
expr-returns-in-OutsideCallOn g t c =
    let writer = g.N.Names.writer c.args.self.now.names.now in
    let locals = g.N.Names.locals c.args.self.now.names.now in
    IfOk-weaker c.outside_call_on.result _ _ (nodes.read-so writer locals c.args.e.now None _ _
    (nodes.says-OutsideCallOn writer locals c.args.e.now _ _ _ (c.in-OutsideCallOn.is ∙
    (λ i. exprs.OutsideCallOn c.in-OutsideCallOn.name (sym c.get-in-OutsideCallOn.ensures i)
    (sym c.items-in-OutsideCallOn.ensures i)))) _ _) c.outside_call_on.ensures

pub expr-returns-in-OutsideSuperCall : goal.expr-returns-in-OutsideSuperCall
expr-returns-in-OutsideSuperCall g t c =
    let writer = g.N.Names.writer c.args.self.now.names.now in
    let locals = g.N.Names.locals c.args.self.now.names.now in
    IfOk-weaker c.outside_super_call.result _ _ (nodes.read-so writer locals c.args.e.now None _ _
    (nodes.says-OutsideSuperCall writer locals c.args.e.now _ _ (c.in-OutsideSuperCall.is ∙
    (λ i. exprs.OutsideSuperCall c.in-OutsideSuperCall.name (sym c.items-in-OutsideSuperCall.ensures i)))) _ _)
    c.outside_super_call.ensures

pub expr-returns-in-NewOutside : goal.expr-returns-in-NewOutside
expr-returns-in-NewOutside g t c =
    let writer = g.N.Names.writer c.args.self.now.names.now in
    let locals = g.N.Names.locals c.args.self.now.names.now in
    IfOk-weaker c.outside_creation.result _ _ (nodes.read-so writer locals c.args.e.now None _ _
    (nodes.says-NewOutside writer locals c.args.e.now _ _ (c.in-NewOutside.is ∙ (λ i. exprs.NewOutside c.in-NewOutside.ty
    (sym c.items-in-NewOutside.ensures i)))) _ _) c.outside_creation.ensures

pub expr-returns-in-NewArray : goal.expr-returns-in-NewArray
expr-returns-in-NewArray g t c =
    let writer = g.N.Names.writer c.args.self.now.names.now in
    let locals = g.N.Names.locals c.args.self.now.names.now in
    IfOk-weaker c.new_array.result _ _ (nodes.read-so writer locals c.args.e.now None _ _
    (nodes.says-NewArray writer locals c.args.e.now _ _ _ (c.in-NewArray.is ∙ (λ i. exprs.NewArray c.in-NewArray.ty
    (sym c.items-in-NewArray.ensures i) c.in-NewArray.pairs))) _ _) c.new_array.ensures

pub expr-returns-in-ArrayLit : goal.expr-returns-in-ArrayLit
expr-returns-in-ArrayLit g t c =
    let writer = g.N.Names.writer c.args.self.now.names.now in
    let locals = g.N.Names.locals c.args.self.now.names.now in
    IfOk-weaker c.array_of.result _ _ (nodes.read-so writer locals c.args.e.now None _ _
    (nodes.says-ArrayLit writer locals c.args.e.now _ _ (c.in-ArrayLit.is ∙ (λ i. exprs.ArrayLit c.in-ArrayLit.ty
    (sym c.items-in-ArrayLit.ensures i)))) _ _) c.array_of.ensures

pub expr-returns-in-Braces : goal.expr-returns-in-Braces
expr-returns-in-Braces g t c =
    let writer = g.N.Names.writer c.args.self.now.names.now in
    let locals = g.N.Names.locals c.args.self.now.names.now in
    IfOk-weaker c.braces.result _ _ (nodes.read-so writer locals c.args.e.now None _ _
    (nodes.says-Braces writer locals c.args.e.now _ (c.in-Braces.is ∙ (λ i. exprs.Braces
    (sym c.items-in-Braces.ensures i)))) _ _) c.braces.ensures

pub expr-returns-in-Index : goal.expr-returns-in-Index
expr-returns-in-Index g t c =
    let writer = g.N.Names.writer c.args.self.now.names.now in
    let locals = g.N.Names.locals c.args.self.now.names.now in
    IfOk-weaker c.index.result _ _ (nodes.read-so writer locals c.args.e.now None _ _
    (nodes.says-Index writer locals c.args.e.now _ _ (c.in-Index.is ∙ (λ i. exprs.Index (sym c.get-in-Index.ensures i)
    (sym c.get-in-Index-2.ensures i)))) _ _) c.index.ensures

pub expr-returns-in-Unary : goal.expr-returns-in-Unary
expr-returns-in-Unary g t c =
    let writer = g.N.Names.writer c.args.self.now.names.now in
    let locals = g.N.Names.locals c.args.self.now.names.now in
    IfOk-weaker c.unary.result _ _ (nodes.read-so writer locals c.args.e.now None _ _
    (nodes.says-Unary writer locals c.args.e.now _ _ (c.in-Unary.is ∙ (λ i. exprs.Unary c.in-Unary.op
    (sym c.get-in-Unary.ensures i)))) _ _) c.unary.ensures

pub expr-returns-in-Post : goal.expr-returns-in-Post
expr-returns-in-Post g t c =
    let writer = g.N.Names.writer c.args.self.now.names.now in
    let locals = g.N.Names.locals c.args.self.now.names.now in
    IfOk-weaker c.expr.result _ _ (nodes.read-so writer locals c.args.e.now None _ _
    (nodes.says-Post writer locals c.args.e.now _ _ (c.in-Post.is ∙ (λ i. exprs.Post c.in-Post.field-0
    (sym c.get-in-Post.ensures i)))) _ _) c.expr.ensures

pub expr-returns-in-Binary : goal.expr-returns-in-Binary
expr-returns-in-Binary g t c =
    let writer = g.N.Names.writer c.args.self.now.names.now in
    let locals = g.N.Names.locals c.args.self.now.names.now in
    IfOk-weaker c.binary.result _ _ (nodes.read-so writer locals c.args.e.now None _ _
    (nodes.says-Binary writer locals c.args.e.now _ _ _ (c.in-Binary.is ∙ (λ i. exprs.Binary c.in-Binary.op
    (sym c.get-in-Binary.ensures i) (sym c.get-in-Binary-2.ensures i)))) _ _) c.binary.ensures

pub expr-returns-in-Assign : goal.expr-returns-in-Assign
expr-returns-in-Assign g t c =
    let writer = g.N.Names.writer c.args.self.now.names.now in
    let locals = g.N.Names.locals c.args.self.now.names.now in
    IfOk-weaker c.assignment.result _ _ (nodes.read-so writer locals c.args.e.now None _ _
    (nodes.says-Assign writer locals c.args.e.now _ _ _ (c.in-Assign.is ∙ (λ i. exprs.Assign c.in-Assign.field-0
    (sym c.get-in-Assign.ensures i) (sym c.get-in-Assign-2.ensures i)))) _ _) c.assignment.ensures

pub expr-returns-in-Cast : goal.expr-returns-in-Cast
expr-returns-in-Cast g t c =
    let writer = g.N.Names.writer c.args.self.now.names.now in
    let locals = g.N.Names.locals c.args.self.now.names.now in
    IfOk-weaker c.cast.result _ _ (nodes.read-so writer locals c.args.e.now None _ _
    (nodes.says-Cast writer locals c.args.e.now _ _ (c.in-Cast.is ∙ (λ i. exprs.Cast c.in-Cast.ty
    (sym c.get-in-Cast.ensures i)))) _ _) c.cast.ensures

pub expr-returns-in-InstanceOf : goal.expr-returns-in-InstanceOf
expr-returns-in-InstanceOf g t c =
    let writer = g.N.Names.writer c.args.self.now.names.now in
    let locals = g.N.Names.locals c.args.self.now.names.now in
    IfOk-weaker c.test.result _ _ (nodes.read-so writer locals c.args.e.now None _ _
    (nodes.says-InstanceOf writer locals c.args.e.now _ _ (c.in-InstanceOf.is ∙ (λ i. exprs.InstanceOf
    (sym c.get-in-InstanceOf.ensures i) c.in-InstanceOf.ty))) _ _) c.test.ensures

pub own_call-returns : goal.own_call-returns
own_call-returns g t c =
    let writer = g.N.Names.writer c.args.self.now.names.now in
    let locals = g.N.Names.locals c.args.self.now.names.now in
    let misreads = c.args.misreads.now in
    record {
      noted = noted-first writer misreads _ _ (call_reference writer locals (call_form writer locals c.args.method.now
          (length c.args.args.now)) c.args.method.now (length c.args.args.now))
          (argument_references writer locals c.args.args.now) c.in_ok-note_own_method.ensures c.in_ok-arguments.ensures;
      typed = c.result_value.ensures ∙ ap (λ program. result_value program c.args.method.now) c.table.ensures;
    }

pub static_call-returns : goal.static_call-returns
static_call-returns g t c =
    let writer = g.N.Names.writer c.args.self.now.names.now in
    let locals = g.N.Names.locals c.args.self.now.names.now in
    let misreads = c.args.misreads.now in
    record {
      noted = noted-first writer misreads _ _ (call_reference writer locals (static_call_form writer locals c.args.method.now
          (length c.args.args.now)) c.args.method.now (length c.args.args.now))
          (argument_references writer locals c.args.args.now) c.in_ok-note_static_method.ensures c.in_ok-arguments.ensures;
      typed = c.result_value.ensures ∙ ap (λ program. result_value program c.args.method.now) c.table.ensures;
    }

pub super_call-returns : goal.super_call-returns
super_call-returns g t c =
    let writer = g.N.Names.writer c.args.self.now.names.now in
    let locals = g.N.Names.locals c.args.self.now.names.now in
    let misreads = c.args.misreads.now in
    record {
      noted = noted-first writer misreads _ _ (super_reference writer locals c.args.method.now (length c.args.args.now))
          (argument_references writer locals c.args.args.now) c.in_ok-note_super_method.ensures c.in_ok-arguments.ensures;
      typed = c.result_value.ensures ∙ ap (λ program. result_value program c.args.method.now) c.table.ensures;
    }

pub call_on-returns : goal.call_on-returns
call_on-returns g t c =
    let writer = g.N.Names.writer c.args.self.now.names.now in
    let locals = g.N.Names.locals c.args.self.now.names.now in
    let misreads = c.args.misreads.now in
    record {
      noted = noted-both writer misreads _ _ (received_references writer locals c.args.method.now c.args.on.now (length c.args.args.now))
          (argument_references writer locals c.args.args.now) c.in_ok-received.ensures c.in_ok-arguments.ensures;
      typed = c.result_value.ensures ∙ ap (λ program. result_value program c.args.method.now) c.table.ensures;
    }

pub received-returns-in-This : goal.received-returns-in-This
received-returns-in-This g t c =
    let writer = g.N.Names.writer c.args.self.now.names.now in
    let locals = g.N.Names.locals c.args.self.now.names.now in
    let misreads = c.args.misreads.now in
    on_ok_weaker c.note_own_method.result (λ noted. noted
    ∙ ap (noted_after writer misreads) (sym (nodes.received-this writer locals c.args.method.now c.args.on.now c.args.arity
    c.in-This.is)))
    c.note_own_method.ensures

pub received-returns-in-Ok : goal.received-returns-in-Ok
received-returns-in-Ok g t c =
    let writer = g.N.Names.writer c.args.self.now.names.now in
    let locals = g.N.Names.locals c.args.self.now.names.now in
    let misreads = c.args.misreads.now in
    on_ok_weaker c.note_method_on.result (λ noted. noted-value writer misreads _ _ (references_as writer locals c.args.on.now (Some []))
    (λ type. method_on_reference writer locals type c.args.method.now c.args.arity) _ _ c.in-Ok.ensures.typed c.in-Ok.ensures.noted noted
    ∙ ap (noted_after writer misreads) (sym (nodes.received-other writer locals c.args.method.now c.args.on.now c.args.arity
    c.in_default.not-This)))
    c.note_method_on.ensures

pub outside_call-returns : goal.outside_call-returns
outside_call-returns g t c =
    let writer = g.N.Names.writer c.args.self.now.names.now in
    let locals = g.N.Names.locals c.args.self.now.names.now in
    let misreads = c.args.misreads.now in
    record {
      noted = noted-first writer misreads _ _ (outside_call_reference writer locals c.args.name.now (length c.args.args.now))
          (all_references writer locals c.args.args.now) c.in_ok-note_outside_call.ensures c.in_ok-all.ensures;
      typed = refl;
    }

pub outside_super_call-returns : goal.outside_super_call-returns
outside_super_call-returns g t c =
    let writer = g.N.Names.writer c.args.self.now.names.now in
    let locals = g.N.Names.locals c.args.self.now.names.now in
    let misreads = c.args.misreads.now in
    record {
      noted = noted-first writer misreads _ _ (outside_super_reference writer locals c.args.name.now (length c.args.args.now))
          (all_references writer locals c.args.args.now) c.in_ok-note_outside_super.ensures c.in_ok-all.ensures;
      typed = refl;
    }

pub outside_call_on-returns : goal.outside_call_on-returns
outside_call_on-returns g t c =
    let writer = g.N.Names.writer c.args.self.now.names.now in
    let locals = g.N.Names.locals c.args.self.now.names.now in
    let misreads = c.args.misreads.now in
    record {
      noted = noted-both writer misreads _ _ (outside_received writer locals c.args.name.now c.args.on.now (length c.args.args.now))
          (all_references writer locals c.args.args.now)
          (noted-value writer misreads _ _ (references_as writer locals c.args.on.now (Some []))
          (λ type. outside_on_reference writer locals type c.args.name.now
          (length c.args.args.now)) _ _ c.in-Ok.ensures.typed c.in-Ok.ensures.noted
          c.in_ok-note_outside_on.ensures) c.in_ok-all.ensures;
      typed = c.outside_call.ensures ∙ ap (λ type. outside_call type c.args.name.now (length c.args.args.now)) c.in-Ok.ensures.typed;
    }

pub creation-returns : goal.creation-returns
creation-returns g t c =
    let writer = g.N.Names.writer c.args.self.now.names.now in
    let locals = g.N.Names.locals c.args.self.now.names.now in
    let misreads = c.args.misreads.now in
    record {
      noted = noted-first writer misreads _ _ (constructor_reference writer locals
          (class_of_only_declaration writer.program c.args.constructor.now) c.args.constructor.now (length c.args.args.now))
          (argument_references writer locals c.args.args.now) c.in-Ok.ensures.noted c.in_ok-arguments.ensures;
      typed = c.in-Ok.ensures.typed;
    }

pub outside_creation-returns : goal.outside_creation-returns
outside_creation-returns g t c =
    let writer = g.N.Names.writer c.args.self.now.names.now in
    let locals = g.N.Names.locals c.args.self.now.names.now in
    let misreads = c.args.misreads.now in
    record {
      noted = noted-both writer misreads _ _ (type_references writer locals places.Expression c.args.ty.now)
          (all_references writer locals c.args.args.now) c.in_ok-note_type.ensures c.in_ok-all.ensures;
      typed = refl;
    }

pub new_array-returns : goal.new_array-returns
new_array-returns g t c =
    let writer = g.N.Names.writer c.args.self.now.names.now in
    let locals = g.N.Names.locals c.args.self.now.names.now in
    let misreads = c.args.misreads.now in
    record {
      noted = noted-both writer misreads _ _ (type_references writer locals places.Expression c.args.ty.now)
          (all_references writer locals c.args.sizes.now) c.in_ok-note_type.ensures c.in_ok-all.ensures;
      typed = c.of_arrays.ensures;
    }

pub array_of-returns : goal.array_of-returns
array_of-returns g t c =
    let writer = g.N.Names.writer c.args.self.now.names.now in
    let locals = g.N.Names.locals c.args.self.now.names.now in
    let misreads = c.args.misreads.now in
    record {
      noted = noted-both writer misreads _ _ (type_references writer locals places.Expression c.args.ty.now)
          (all_references writer locals c.args.items.now) c.in_ok-note_type.ensures c.in_ok-all.ensures;
      typed = c.of_type.ensures;
    }

pub braces-returns : goal.braces-returns
braces-returns g t c =
    let writer = g.N.Names.writer c.args.self.now.names.now in
    record { noted = c.in_ok-all.ensures; typed = refl }

pub choice-returns : goal.choice-returns
choice-returns g t c =
    let writer = g.N.Names.writer c.args.self.now.names.now in
    let locals = g.N.Names.locals c.args.self.now.names.now in
    let misreads = c.args.misreads.now in
    IfOk-weaker c.common.result _ _ (λ ty typed. record {
      noted = noted-both writer misreads _ _ (expr_references writer locals c.args.test.now ++ expr_references writer locals
          c.args.first.now)
          (expr_references writer locals c.args.second.now)
          (noted-both writer misreads _ _ (expr_references writer locals c.args.test.now) (expr_references writer locals c.args.first.now)
          c.in_ok-note_expr.ensures c.in-Ok.ensures.noted) c.in-Ok-expr.ensures.noted;
      typed = typed ∙ (λ i. common (program_view (sym c.requires.program i)) (c.in-Ok.ensures.typed i) (c.in-Ok-expr.ensures.typed i));
    }) c.common.ensures

pub index-returns : goal.index-returns
index-returns g t c =
    let writer = g.N.Names.writer c.args.self.now.names.now in
    let locals = g.N.Names.locals c.args.self.now.names.now in
    let place = c.args.self.now.place in
    let kept = c.args.self.now.locals.now in
    let misreads = c.args.misreads.now in
    let type = static_type writer locals c.args.array.now in
    record {
      noted = noted-both writer misreads _ _ (expr_references writer locals c.args.array.now)
          (index_reference writer locals type ∷ expr_references writer locals c.args.index.now) c.in-Ok.ensures.noted
          (noted-first writer _ _ _ (index_reference writer locals type) (expr_references writer locals c.args.index.now)
          (c.in_ok-note.ensures (index_reference writer locals type) refl
          (reads-so writer locals place kept c.requires _ index_target _ locals _ _
          (c.index_reads-reads.ensures locals) refl (ap index_asked c.in-Ok.ensures.typed)))
          c.in_ok-note_expr.ensures);
      typed = c.item.ensures ∙ ap item c.in-Ok.ensures.typed;
    }

pub unary-returns-then-steps : goal.unary-returns-then-steps
unary-returns-then-steps g t c =
    let writer = g.N.Names.writer c.args.self.now.names.now in
    let locals = g.N.Names.locals c.args.self.now.names.now in
    record {
      noted = c.in-Ok.ensures.noted;
      typed = c.in-Ok.ensures.typed
          ∙ ap (λ b. if b then (static_type writer locals c.args.operand.now) else primitive_value) (sym (sym c.steps.ensures
          ∙ c.if-steps.true));
    }

pub unary-returns : goal.unary-returns
unary-returns g t c =
    let writer = g.N.Names.writer c.args.self.now.names.now in
    let locals = g.N.Names.locals c.args.self.now.names.now in
    record {
      noted = c.in-Ok.ensures.noted;
      typed = ap (λ b. if b then (static_type writer locals c.args.operand.now) else primitive_value) (sym (sym c.steps.ensures
          ∙ c.if-steps.false));
    }

pub binary-returns : goal.binary-returns
binary-returns g t c =
    let writer = g.N.Names.writer c.args.self.now.names.now in
    let locals = g.N.Names.locals c.args.self.now.names.now in
    let misreads = c.args.misreads.now in
    record {
      noted = noted-both writer misreads _ _ (expr_references writer locals c.args.left.now)
          (expr_references writer locals c.args.right.now)
          c.in_ok-note_expr.ensures c.in_ok-note_expr-2.ensures;
      typed = c.binary_type.ensures;
    }

pub assignment-returns : goal.assignment-returns
assignment-returns g t c =
    let writer = g.N.Names.writer c.args.self.now.names.now in
    let locals = g.N.Names.locals c.args.self.now.names.now in
    let misreads = c.args.misreads.now in
    record {
      noted = noted-both writer misreads _ _ (expr_references writer locals c.args.left.now)
          (expr_references writer locals c.args.right.now)
          c.in-Ok.ensures.noted c.in_ok-note_expr.ensures;
      typed = c.in-Ok.ensures.typed;
    }

pub cast-returns : goal.cast-returns
cast-returns g t c =
    let writer = g.N.Names.writer c.args.self.now.names.now in
    let locals = g.N.Names.locals c.args.self.now.names.now in
    let misreads = c.args.misreads.now in
    record {
      noted = noted-both writer misreads _ _ (type_references writer locals places.Expression c.args.ty.now)
          (expr_references writer locals c.args.operand.now)
          c.in_ok-note_type.ensures c.in_ok-note_expr.ensures;
      typed = c.of_type.ensures;
    }

pub test-returns : goal.test-returns
test-returns g t c =
    let writer = g.N.Names.writer c.args.self.now.names.now in
    let locals = g.N.Names.locals c.args.self.now.names.now in
    let misreads = c.args.misreads.now in
    record {
      noted = noted-both writer misreads _ _ (expr_references writer locals c.args.operand.now)
          (type_references writer locals places.Expression c.args.ty.now)
          c.in_ok-note_expr.ensures c.in_ok-note_type.ensures;
      typed = refl;
    }

pub before-returns-in-Field : goal.before-returns-in-Field
before-returns-in-Field g t c =
    let writer = g.N.Names.writer c.args.self.now.names.now in
    let locals = g.N.Names.locals c.args.self.now.names.now in
    IfOk-weaker c.field.result _ _ (nodes.read-so writer locals c.args.e.now _ _ _
    (nodes.says-Field writer locals c.args.e.now _ _ (Some c.args.follow.now)
    (c.in-Field.is ∙ (λ i. exprs.Field c.in-Field.field (sym c.get.ensures i)))) _ _) c.field.ensures

pub before-returns-in-OutsideField : goal.before-returns-in-OutsideField
before-returns-in-OutsideField g t c =
    let writer = g.N.Names.writer c.args.self.now.names.now in
    let locals = g.N.Names.locals c.args.self.now.names.now in
    IfOk-weaker c.outside_field.result _ _ (nodes.read-so writer locals c.args.e.now _ _ _
    (nodes.says-OutsideField writer locals c.args.e.now _ _ (Some c.args.follow.now)
    (c.in-OutsideField.is ∙ (λ i. exprs.OutsideField c.in-OutsideField.name
    (sym c.get-in-OutsideField.ensures i)))) _ _) c.outside_field.ensures

pub before-returns-in-Local : goal.before-returns-in-Local
before-returns-in-Local g t c =
    let writer = g.N.Names.writer c.args.self.now.names.now in
    let locals = g.N.Names.locals c.args.self.now.names.now in
    IfOk-weaker c.local.result _ _ (nodes.read-so writer locals c.args.e.now _ _ _
    (nodes.says-Local writer locals c.args.e.now _ (Some c.args.follow.now) c.in-Local.is) _ _) c.local.ensures

pub before-returns-in-Param : goal.before-returns-in-Param
before-returns-in-Param g t c =
    let writer = g.N.Names.writer c.args.self.now.names.now in
    let locals = g.N.Names.locals c.args.self.now.names.now in
    IfOk-weaker c.param.result _ _ (nodes.read-so writer locals c.args.e.now _ _ _
    (nodes.says-Param writer locals c.args.e.now _ (Some c.args.follow.now) c.in-Param.is) _ _) c.param.ensures

pub before-returns-in-Own : goal.before-returns-in-Own
before-returns-in-Own g t c =
    let writer = g.N.Names.writer c.args.self.now.names.now in
    let locals = g.N.Names.locals c.args.self.now.names.now in
    IfOk-weaker c.own_field.result _ _ (nodes.read-so writer locals c.args.e.now _ _ _
    (nodes.says-Own writer locals c.args.e.now _ (Some c.args.follow.now) c.in-Own.is) _ _) c.own_field.ensures

pub before-returns-in-StaticField : goal.before-returns-in-StaticField
before-returns-in-StaticField g t c =
    let writer = g.N.Names.writer c.args.self.now.names.now in
    let locals = g.N.Names.locals c.args.self.now.names.now in
    IfOk-weaker c.static_field.result _ _ (nodes.read-so writer locals c.args.e.now _ _ _
    (nodes.says-StaticField writer locals c.args.e.now _ (Some c.args.follow.now) c.in-StaticField.is) _ _) c.static_field.ensures

pub before-returns-in-OutsideName : goal.before-returns-in-OutsideName
before-returns-in-OutsideName g t c =
    let writer = g.N.Names.writer c.args.self.now.names.now in
    let locals = g.N.Names.locals c.args.self.now.names.now in
    IfOk-weaker c.outside_name.result _ _ (nodes.read-so writer locals c.args.e.now _ _ _
    (nodes.says-OutsideName writer locals c.args.e.now _ (Some c.args.follow.now) c.in-OutsideName.is) _ _) c.outside_name.ensures

pub before-returns-in-OutsideClass : goal.before-returns-in-OutsideClass
before-returns-in-OutsideClass g t c =
    let writer = g.N.Names.writer c.args.self.now.names.now in
    let locals = g.N.Names.locals c.args.self.now.names.now in
    IfOk-weaker c.outside_class_before.result _ _ (nodes.read-so writer locals c.args.e.now _ _ _
    (nodes.says-OutsideClass writer locals c.args.e.now _ (Some c.args.follow.now)
    c.in-OutsideClass.is) _ _) c.outside_class_before.ensures

pub before-returns-in_default : goal.before-returns-in_default
before-returns-in_default g t c =
    let writer = g.N.Names.writer c.args.self.now.names.now in
    let locals = g.N.Names.locals c.args.self.now.names.now in
    let misreads = c.args.misreads.now in
    IfOk-weaker c.expr.result _ _ (λ ty read. record {
      noted = read.noted ∙ ap (noted_after writer misreads) (sym (mode-free writer locals c.args.e.now (record {
        no_field = c.in_default.not-Field;
        no_outside_field = c.in_default.not-OutsideField;
        no_local = c.in_default.not-Local;
        no_param = c.in_default.not-Param;
        no_own = c.in_default.not-Own;
        no_static_field = c.in_default.not-StaticField;
        no_outside_name = c.in_default.not-OutsideName;
        no_outside_class = c.in_default.not-OutsideClass;
      }) (Some c.args.follow.now)));
      typed = read.typed;
    }) c.expr.ensures

pub note_expr-returns-in-Ok : goal.note_expr-returns-in-Ok
note_expr-returns-in-Ok g t c =
    let writer = g.N.Names.writer c.args.self.now.names.now in
    c.in-Ok.ensures.noted

pub receiver-returns : goal.receiver-returns
receiver-returns g t c =
    let writer = g.N.Names.writer c.args.self.now.names.now in
    let locals = g.N.Names.locals c.args.self.now.names.now in
    let misreads = c.args.misreads.now in
    IfOk-weaker c.before-2.result _ _ (λ ty read. record {
      noted = read.noted ∙ ap (λ follow. noted_after writer misreads (references_as writer locals c.args.on.now
          (Some follow))) c.new-follow.ensures;
      typed = read.typed;
    }) c.before-2.ensures

pub field_alone-returns-in-This : goal.field_alone-returns-in-This
field_alone-returns-in-This g t c =
    let writer = g.N.Names.writer c.args.self.now.names.now in
    let locals = g.N.Names.locals c.args.self.now.names.now in
    let misreads = c.args.misreads.now in
    IfOk-weaker c.own_field.result _ _ (λ ty read. record {
      noted = read.noted
          ∙ ap (noted_after writer misreads) (sym (nodes.field-on-this writer locals c.args.field.now c.args.on.now None c.in-This.is));
      typed = read.typed;
    }) c.own_field.ensures

pub field_alone-returns-in_default : goal.field_alone-returns-in_default
field_alone-returns-in_default g t c =
    let writer = g.N.Names.writer c.args.self.now.names.now in
    let locals = g.N.Names.locals c.args.self.now.names.now in
    let misreads = c.args.misreads.now in
    IfOk-weaker c.value_field.result _ _ (λ ty read. record {
      noted = read.noted
          ∙ ap (λ follow. noted_after writer misreads (value_field_references writer locals c.args.field.now c.args.on.now
          (Some follow))) c.new-follow.ensures
          ∙ ap (noted_after writer misreads) (sym (nodes.field-on-other writer locals c.args.field.now c.args.on.now None
          c.in_default.not-This));
      typed = read.typed;
    }) c.value_field.ensures

pub field-returns-in-This : goal.field-returns-in-This
field-returns-in-This g t c =
    let writer = g.N.Names.writer c.args.self.now.names.now in
    let locals = g.N.Names.locals c.args.self.now.names.now in
    let misreads = c.args.misreads.now in
    let follow = Some c.args.follow.now in
    IfOk-weaker c.own_field.result _ _ (λ ty read. record {
      noted = read.noted
          ∙ ap (noted_after writer misreads) (sym (nodes.field-on-this writer locals c.args.field.now c.args.on.now follow c.in-This.is));
      typed = read.typed;
    }) c.own_field.ensures

pub field-returns-in_default : goal.field-returns-in_default
field-returns-in_default g t c =
    let writer = g.N.Names.writer c.args.self.now.names.now in
    let locals = g.N.Names.locals c.args.self.now.names.now in
    let misreads = c.args.misreads.now in
    let follow = Some c.args.follow.now in
    IfOk-weaker c.value_field.result _ _ (λ ty read. record {
      noted = read.noted
          ∙ ap (noted_after writer misreads) (sym (nodes.field-on-other writer locals c.args.field.now c.args.on.now follow
          c.in_default.not-This));
      typed = read.typed;
    }) c.value_field.ensures

pub value_field-returns : goal.value_field-returns
value_field-returns g t c =
    let writer = g.N.Names.writer c.args.self.now.names.now in
    let locals = g.N.Names.locals c.args.self.now.names.now in
    let misreads = c.args.misreads.now in
    let name = name_of writer locals c.args.field.now in
    record {
      noted = noted-value writer misreads _ _ (references_as writer locals c.args.on.now (Some (name ∷ c.args.follow.now)))
          (λ type. field_on_reference writer locals type c.args.field.now) _ _ c.in-Ok.ensures.typed (c.in-Ok.ensures.noted
          ∙ ap (λ follow. noted_after writer misreads (references_as writer locals c.args.on.now (Some follow)))
          (c.in_ok-push_front.ensures ∙ ap (λ name. name ∷ c.args.follow.now) c.name_of.ensures)) c.in_ok-note_field_on.ensures;
      typed = c.field_value.ensures ∙ ap (λ program. field_value program c.args.field.now) c.table.ensures;
    }

pub outside_field_alone-returns : goal.outside_field_alone-returns
outside_field_alone-returns g t c =
    let writer = g.N.Names.writer c.args.self.now.names.now in
    let locals = g.N.Names.locals c.args.self.now.names.now in
    let misreads = c.args.misreads.now in
    IfOk-weaker c.outside_field.result _ _ (λ ty read. record {
      noted = read.noted ∙ ap (λ follow. noted_after writer misreads
          (outside_field_references writer locals c.args.name.now c.args.on.now (Some follow))) c.new-follow.ensures;
      typed = read.typed;
    }) c.outside_field.ensures

pub outside_field-returns : goal.outside_field-returns
outside_field-returns g t c =
    let writer = g.N.Names.writer c.args.self.now.names.now in
    let locals = g.N.Names.locals c.args.self.now.names.now in
    let misreads = c.args.misreads.now in
    record {
      noted = noted-value writer misreads _ _ (references_as writer locals c.args.on.now (Some (c.args.name.now ∷ c.args.follow.now)))
          (λ type. outside_field_reference writer locals type c.args.name.now) _ _ c.in-Ok.ensures.typed (c.in-Ok.ensures.noted
          ∙ ap (λ follow. noted_after writer misreads (references_as writer locals c.args.on.now (Some follow)))
          (c.in_ok-push_front.ensures ∙ ap (λ name. name ∷ c.args.follow.now) c.as_str.ensures)) c.in_ok-note_outside_field.ensures;
      typed = c.outside_field.ensures ∙ ap (λ type. outside_field type c.args.name.now) c.in-Ok.ensures.typed;
    }

pub all-loop-item-init : goal.all-loop-item-init
all-loop-item-init g t c =
    let writer = g.N.Names.writer c.args.self.now.names.now in
    refl

pub all-loop-item-preserved : goal.all-loop-item-preserved
all-loop-item-preserved g t c =
    let writer = g.N.Names.writer c.args.self.now.names.now in
    let locals = g.N.Names.locals c.args.self.now.names.now in
    noted-more writer (expr_references writer locals) c.args.items.now
    c.loop-item.item-index c.item-item.result _ _ _ c.loop-item-test.true c.item-item.is c.loop-item.invariant c.in_ok-note_expr.ensures

pub all-returns : goal.all-returns
all-returns g t c =
    let writer = g.N.Names.writer c.args.self.now.names.now in
    let locals = g.N.Names.locals c.args.self.now.names.now in
    noted-whole writer (expr_references writer locals) c.args.items.now c.loop-item.item-index _ _ c.loop-item-test.false
    c.loop-item.invariant

pub arguments-loop-arg-init : goal.arguments-loop-arg-init
arguments-loop-arg-init g t c =
    let writer = g.N.Names.writer c.args.self.now.names.now in
    refl

pub arguments-loop-arg-preserved : goal.arguments-loop-arg-preserved
arguments-loop-arg-preserved g t c =
    let writer = g.N.Names.writer c.args.self.now.names.now in
    let locals = g.N.Names.locals c.args.self.now.names.now in
    noted-more writer (λ (arg : Argument). expr_references writer locals arg.value) c.args.args.now
    c.loop-arg.arg-index c.arg-item.result _ _ _ c.loop-arg-test.true c.arg-item.is c.loop-arg.invariant c.in_ok-note_expr.ensures

pub arguments-returns : goal.arguments-returns
arguments-returns g t c =
    let writer = g.N.Names.writer c.args.self.now.names.now in
    let locals = g.N.Names.locals c.args.self.now.names.now in
    noted-whole writer (λ (arg : Argument). expr_references writer locals arg.value) c.args.args.now
    c.loop-arg.arg-index _ _ c.loop-arg-test.false c.loop-arg.invariant
