-- What each part reads as, put together as the definitions do it.
use Rattle.std.proofs.Common.{◌∙◌, [], ◌∷◌, Some, None, map, refl, sym, ap, subst, arith}
use Rattle.std.proofs.lemmas.List.{length-map}
use Rattle.std.proofs.lemmas.Result.{IfOk-weaker}
use Rattle.mol_resolve_expr.proofs.AfterDots.{call_by, dot_by, stands_before}
use Rattle.mol_resolve_expr.proofs.MadeOfParts.{all_read-more, all_read-whole}
use Rattle.mol_resolve_expr.proofs.Nodes as nodes
use Rattle.mol_resolve_expr.proofs.Outcomes.{both_read, made_read}
use Rattle.mol_resolve_expr.proofs.expr_reader.ExprReader.+read_expr.Goals as goal
use Rattle.mol_resolve_expr.specs.Parts.{all_of, alone_of, before_of, choice_of}
use Rattle.mol_resolve_expr.specs.Stands.{stand_of}
use Rattle.mol_resolve_expr.specs.declared.stand.Stand.TheVariants as stand
use Rattle.mol_resolve_readings.specs.locals.Scoped.{locals_of}
use Rattle.mol_resolve_readings.specs.meant.Kept.{view_part}
use Rattle.mol_resolve_readings.specs.reads.Chains.{path_in}
use Rattle.mol_resolve_readings.specs.reads.Reads.{Reads, names_of}
use Rattle.mol_resolve_readings.specs.declared.reads.chain.ClassPath.TheVariants as path
use Rattle.mol_resolve_rules.specs.Outcomes.{both}
use Rattle.mol_resolve_rules.specs.ReadTrees.{call_meant, followers, reading, whole_path}

-- # Each kind of expression

pub value-returns-in-Lit : goal.value-returns-in-Lit
value-returns-in-Lit g t c =
    let reader = g.N.Names.reader c.args.self.now.names.now in
    IfOk-weaker c.literal.result _ _ (λ value read mode stands.
    nodes.read-Lit reader _ c.args.e.now mode _ _ _ _ c.in-Lit.is (read _)) c.literal.ensures

pub value-returns-in-This : goal.value-returns-in-This
value-returns-in-This g t c =
    let reader = g.N.Names.reader c.args.self.now.names.now in
    IfOk-weaker c.class_value.result _ _ (λ value read mode stands.
    nodes.read-This reader _ c.args.e.now mode _ _ _ c.in-This.is (read _)) c.class_value.ensures

pub value-returns-in-Name : goal.value-returns-in-Name
value-returns-in-Name g t c =
    let reader = g.N.Names.reader c.args.self.now.names.now in
    IfOk-weaker c.name.result _ _ (λ value read mode stands.
    nodes.read-Name reader _ c.args.e.now mode _ _ _ _ c.in-Name.is (read mode (stands
    ∙ ap (λ names. stand_of reader (locals_of c.args.self.now.locals.now) names mode)
    (nodes.names-Name reader c.args.e.now _ c.in-Name.is)))) c.name.ensures

pub value-returns-in-Dot : goal.value-returns-in-Dot
value-returns-in-Dot g t c =
    let reader = g.N.Names.reader c.args.self.now.names.now in
    IfOk-weaker c.dot.result _ _ (λ value read mode stands.
    nodes.read-Dot reader _ c.args.e.now mode _ _ _ _ _ _ c.in-Dot.is c.get.ensures (read mode stands)) c.dot.ensures

pub value-returns-in-None : goal.value-returns-in-None
value-returns-in-None g t c =
    let reader = g.N.Names.reader c.args.self.now.names.now in
    IfOk-weaker c.listed.result _ _ (λ value read mode stands.
    nodes.read-Call reader _ c.args.e.now mode _ _ _ _ _ _ _ c.in-Call.is c.in-None.is c.items.ensures read) c.listed.ensures

pub value-returns-in-Some : goal.value-returns-in-Some
value-returns-in-Some g t c =
    let reader = g.N.Names.reader c.args.self.now.names.now in
    IfOk-weaker c.call.result _ _ (λ value read mode stands.
    nodes.read-CallOn reader _ c.args.e.now mode _ _ _ _ _ _ _ _ _ c.in-Call.is c.in-Some.is c.get-in-Some.ensures c.items-in-Some.ensures
    read) c.call.ensures

pub value-returns-in-SuperCall : goal.value-returns-in-SuperCall
value-returns-in-SuperCall g t c =
    let reader = g.N.Names.reader c.args.self.now.names.now in
    IfOk-weaker c.listed-in-SuperCall.result _ _ (λ value read mode stands.
    nodes.read-SuperCall reader _ c.args.e.now mode _ _ _ _ _ _ c.in-SuperCall.is c.items-in-SuperCall.ensures read) c.listed-in-SuperCall.ensures

pub value-returns-in-New : goal.value-returns-in-New
value-returns-in-New g t c =
    let reader = g.N.Names.reader c.args.self.now.names.now in
    IfOk-weaker c.listed-in-New.result _ _ (λ value read mode stands.
    nodes.read-New reader _ c.args.e.now mode _ _ _ _ _ _ c.in-New.is c.items-in-New.ensures read) c.listed-in-New.ensures

pub value-returns-in-NewArray : goal.value-returns-in-NewArray
value-returns-in-NewArray g t c =
    let reader = g.N.Names.reader c.args.self.now.names.now in
    IfOk-weaker c.listed-in-NewArray.result _ _ (λ value read mode stands.
    nodes.read-NewArray reader _ c.args.e.now mode _ _ _ _ _ _ _ c.in-NewArray.is c.items-in-NewArray.ensures read) c.listed-in-NewArray.ensures

pub value-returns-in-ArrayLit : goal.value-returns-in-ArrayLit
value-returns-in-ArrayLit g t c =
    let reader = g.N.Names.reader c.args.self.now.names.now in
    IfOk-weaker c.listed-in-ArrayLit.result _ _ (λ value read mode stands.
    nodes.read-ArrayLit reader _ c.args.e.now mode _ _ _ _ _ _ c.in-ArrayLit.is c.items-in-ArrayLit.ensures read) c.listed-in-ArrayLit.ensures

pub value-returns-in-Braces : goal.value-returns-in-Braces
value-returns-in-Braces g t c =
    let reader = g.N.Names.reader c.args.self.now.names.now in
    IfOk-weaker c.listed-in-Braces.result _ _ (λ value read mode stands.
    nodes.read-Braces reader _ c.args.e.now mode _ _ _ _ _ c.in-Braces.is c.items-in-Braces.ensures read) c.listed-in-Braces.ensures

pub value-returns-in-Index : goal.value-returns-in-Index
value-returns-in-Index g t c =
    let reader = g.N.Names.reader c.args.self.now.names.now in
    IfOk-weaker c.binary.result _ _ (λ value read mode stands.
    nodes.read-Index reader _ c.args.e.now mode _ _ _ _ _ _ _ c.in-Index.is c.get-in-Index-2.ensures c.get-in-Index.ensures read) c.binary.ensures

pub value-returns-in-Unary : goal.value-returns-in-Unary
value-returns-in-Unary g t c =
    let reader = g.N.Names.reader c.args.self.now.names.now in
    IfOk-weaker c.unary.result _ _ (λ value read mode stands.
    nodes.read-Unary reader _ c.args.e.now mode _ _ _ _ _ _ c.in-Unary.is c.get-in-Unary.ensures read) c.unary.ensures

pub value-returns-in-Post : goal.value-returns-in-Post
value-returns-in-Post g t c =
    let reader = g.N.Names.reader c.args.self.now.names.now in
    IfOk-weaker c.unary-in-Post.result _ _ (λ value read mode stands.
    nodes.read-Post reader _ c.args.e.now mode _ _ _ _ _ _ c.in-Post.is c.get-in-Post.ensures read) c.unary-in-Post.ensures

pub value-returns-in-Binary : goal.value-returns-in-Binary
value-returns-in-Binary g t c =
    let reader = g.N.Names.reader c.args.self.now.names.now in
    IfOk-weaker c.binary-in-Binary.result _ _ (λ value read mode stands.
    nodes.read-Binary reader _ c.args.e.now mode _ _ _ _ _ _ _ _ c.in-Binary.is c.get-in-Binary.ensures c.get-in-Binary-2.ensures read) c.binary-in-Binary.ensures

pub value-returns-in-Assign : goal.value-returns-in-Assign
value-returns-in-Assign g t c =
    let reader = g.N.Names.reader c.args.self.now.names.now in
    IfOk-weaker c.binary-in-Assign.result _ _ (λ value read mode stands.
    nodes.read-Assign reader _ c.args.e.now mode _ _ _ _ _ _ _ _ c.in-Assign.is c.get-in-Assign.ensures c.get-in-Assign-2.ensures read) c.binary-in-Assign.ensures

pub value-returns-in-Cond : goal.value-returns-in-Cond
value-returns-in-Cond g t c =
    let reader = g.N.Names.reader c.args.self.now.names.now in
    IfOk-weaker c.choice.result _ _ (λ value read mode stands.
    nodes.read-Cond reader _ c.args.e.now mode _ _ _ _ _ _ _ _ _ c.in-Cond.is c.get-in-Cond.ensures c.get-in-Cond-2.ensures c.get-in-Cond-3.ensures read) c.choice.ensures

pub value-returns-in-Cast : goal.value-returns-in-Cast
value-returns-in-Cast g t c =
    let reader = g.N.Names.reader c.args.self.now.names.now in
    IfOk-weaker c.unary-in-Cast.result _ _ (λ value read mode stands.
    nodes.read-Cast reader _ c.args.e.now mode _ _ _ _ _ _ c.in-Cast.is c.get-in-Cast.ensures read) c.unary-in-Cast.ensures

pub value-returns-in-InstanceOf : goal.value-returns-in-InstanceOf
value-returns-in-InstanceOf g t c =
    let reader = g.N.Names.reader c.args.self.now.names.now in
    IfOk-weaker c.unary-in-InstanceOf.result _ _ (λ value read mode stands.
    nodes.read-InstanceOf reader _ c.args.e.now mode _ _ _ _ _ _ c.in-InstanceOf.is c.get-in-InstanceOf.ensures read) c.unary-in-InstanceOf.ensures

pub value-returns-in-Paren : goal.value-returns-in-Paren
value-returns-in-Paren g t c =
    let reader = g.N.Names.reader c.args.self.now.names.now in
    IfOk-weaker c.value.result _ _ (λ value read mode stands.
    nodes.read-Paren reader _ c.args.e.now mode _ _ _ _ _ c.in-Paren.is c.get-in-Paren.ensures (read None refl)) c.value.ensures

-- # Operands

pub unary-returns : goal.unary-returns
unary-returns g t c =
    let reader = g.N.Names.reader c.args.self.now.names.now in
    IfOk-weaker c.over_operand.result _ _ (λ value made. made (reading reader c.args.operand.now) _ (c.in_ok-operand.ensures None refl))
    c.over_operand.ensures

pub binary-returns : goal.binary-returns
binary-returns g t c =
    let reader = g.N.Names.reader c.args.self.now.names.now in
    IfOk-weaker c.over_operands.result _ _ (λ value made. made (reading reader c.args.first.now) (reading reader c.args.second.now) _ _
    (c.in_ok-first.ensures None refl) (c.in_ok-second.ensures None refl)) c.over_operands.ensures

pub choice-returns : goal.choice-returns
choice-returns g t c =
    let reader = g.N.Names.reader c.args.self.now.names.now in
    let locals = locals_of c.args.self.now.locals.now in
    let test = alone_of reader locals c.args.test.now in
    let first = alone_of reader locals c.args.first.now in
    let second = alone_of reader locals c.args.second.now in
    IfOk-weaker c.choice_of.result _ _ (λ value is. made_read (choice_of reader) (both test (both first second)) _ (view_part value) _ _
    (both_read test (both first second) _ _ _ _ _ (c.in_ok-test.ensures None refl)
    (both_read first second _ _ _ _ _ (c.in_ok-first.ensures None refl) (c.in_ok-second.ensures None refl))) is) c.choice_of.ensures

-- # Several

pub listed-returns : goal.listed-returns
listed-returns g t c =
    let reader = g.N.Names.reader c.args.self.now.names.now in
    IfOk-weaker c.over_list.result _ _ (λ value made. made (map (reading reader) c.args.items.now) _
    (sym (length-map c.args.items.now (reading reader))) c.in_ok-values.ensures) c.over_list.ensures

pub all-loop-item-preserved : goal.all-loop-item-preserved
all-loop-item-preserved g t c =
    let args = c.args in
    all_read-more (g.N.Names.reader args.self.now.names.now) (locals_of args.self.now.locals.now) args.items.now c.loop-item.item-index
    c.item-item.result _ _ _ _ _ _ (omega arith) c.item-item.is c.loop-item.invariant (c.in_ok-value.ensures None refl)
    c.in_ok-values.ensures

pub all-returns : goal.all-returns
all-returns g t c =
    all_read-whole (g.N.Names.reader c.args.self.now.names.now) (locals_of c.args.self.now.locals.now) c.args.items.now
    c.loop-item.item-index _ _ _ (omega arith) c.loop-item.invariant

-- # After dots

pub dot-returns-in-Whole : goal.dot-returns-in-Whole
dot-returns-in-Whole g t c =
    let reader = g.N.Names.reader c.args.self.now.names.now in
    let locals = locals_of c.args.self.now.locals.now in
    IfOk-weaker c.static_field.result _ _ (λ value read mode stands.
    dot_by reader locals c.args.e.now c.args.on.now c.args.name.now mode _ c.requires (c.in_ok-chain_at.ensures mode stands)
    (path.Whole c.in-Whole.class) (view_part value) _ _ (sym c.in-Whole.is ∙ c.path.ensures ∙ ap path_in c.before_last-chain.ensures) read)
    c.static_field.ensures

pub dot-returns-in-Front : goal.dot-returns-in-Front
dot-returns-in-Front g t c =
    let reader = g.N.Names.reader c.args.self.now.names.now in
    let locals = locals_of c.args.self.now.locals.now in
    λ mode stands. dot_by reader locals c.args.e.now c.args.on.now c.args.name.now mode _ c.requires (c.in_ok-chain_at.ensures mode stands)
    path.Front None _ _ (sym c.in-Front.is ∙ c.path.ensures ∙ ap path_in c.before_last-chain.ensures)
    (c.note_front.ensures (names_of reader c.args.e.now) mode stands)

pub dot-returns-in_ok-value-in-NoPath : goal.dot-returns-in_ok-value-in-NoPath
dot-returns-in_ok-value-in-NoPath g t c =
    let reader = g.N.Names.reader c.args.self.now.names.now in
    let locals = locals_of c.args.self.now.locals.now in
    IfOk-weaker c.field_of.result _ _ (λ value made mode stands.
    dot_by reader locals c.args.e.now c.args.on.now c.args.name.now mode _ c.requires (c.in_ok-chain_at.ensures mode stands)
    path.NoPath (view_part value) _ _ (sym c.in-NoPath.is ∙ c.path.ensures ∙ ap path_in c.before_last-chain.ensures)
    (made (before_of reader locals c.args.on.now (c.args.name.now ∷ followers mode)) _
    (c.in_ok-value-in-NoPath.ensures (Some (c.args.name.now ∷ followers mode)) (ap (λ chain. stand.Before chain) c.before_last-chain.ensures
    ∙ stands_before reader locals c.args.e.now c.args.on.now c.args.name.now mode _ c.requires (c.in_ok-chain_at.ensures mode stands)))))
    c.field_of.ensures

-- # Calls after dots

pub call-returns-in-Whole : goal.call-returns-in-Whole
call-returns-in-Whole g t c =
    let reader = g.N.Names.reader c.args.self.now.names.now in
    let locals = locals_of c.args.self.now.locals.now in
    let args = c.args.args.now in
    IfOk-weaker c.listed.result _ _ (λ value read.
    call_by reader locals c.args.on.now c.args.name.now args c.args.at _ c.in_ok-chain.ensures
    (path.Whole c.in-Whole.class) (view_part value) _ _ (sym c.in-Whole.is ∙ c.path.ensures)
    (subst (λ arity. Reads (call_meant reader c.args.at c.args.name.now arity (before_of reader locals c.args.on.now [])
    (all_of reader locals args) (whole_path c.in-Whole.class)) (view_part value) c.args.faults.now c.listed.new.faults)
    (length-map args (reading reader)) read)) c.listed.ensures

pub call-returns-in-Front : goal.call-returns-in-Front
call-returns-in-Front g t c =
    let reader = g.N.Names.reader c.args.self.now.names.now in
    let locals = locals_of c.args.self.now.locals.now in
    call_by reader locals c.args.on.now c.args.name.now c.args.args.now c.args.at _ c.in_ok-chain.ensures
    path.Front None _ _ (sym c.in-Front.is ∙ c.path.ensures) record { value_read = refl; faults_noted = refl }

pub call-returns-in-NoPath : goal.call-returns-in-NoPath
call-returns-in-NoPath g t c =
    let reader = g.N.Names.reader c.args.self.now.names.now in
    let locals = locals_of c.args.self.now.locals.now in
    IfOk-weaker c.call_on.result _ _ (λ value read.
    call_by reader locals c.args.on.now c.args.name.now c.args.args.now c.args.at _ c.in_ok-chain.ensures
    path.NoPath (view_part value) _ _ (sym c.in-NoPath.is ∙ c.path.ensures) (read c.in_ok-chain.ensures)) c.call_on.ensures

pub call_on-returns : goal.call_on-returns
call_on-returns g t c =
    let reader = g.N.Names.reader c.args.self.now.names.now in
    let locals = locals_of c.args.self.now.locals.now in
    IfOk-weaker c.over_receiver.result _ _ (λ call made begins.
    made (all_of reader locals c.args.args.now) (before_of reader locals c.args.on.now []) _ _ c.in_ok-values.ensures
    (c.in_ok-on.ensures (Some []) (ap (λ chain. stand.Before chain) begins))) c.over_receiver.ensures
