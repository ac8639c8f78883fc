use Rattle.std.proofs.Common.{sym, subst}
use Rattle.std.proofs.lemmas.Result.{IfOk-weaker}
use Rattle.jav_names.specs.LookUps.{method_from, method_through, super_method}
use Rattle.mol_resolve_expr.proofs.Outcomes.{beside_read, made_read}
use Rattle.mol_resolve_expr.specs.Parts.{over_list}
use Rattle.mol_resolve_expr.proofs.expr_reader.ExprReader.over_list.Goals as goal
use Rattle.mol_resolve_readings.specs.locals.Scoped.{locals_of}
use Rattle.mol_resolve_readings.specs.meant.Kept.{view_part}
use Rattle.mol_resolve_readings.specs.meant.Made as spec
use Rattle.mol_resolve_readings.specs.reads.Reads.{Reads}
use Rattle.mol_resolve_rules.specs.ReadTrees as trees
use Rattle.mol_resolve_rules.specs.ReadTrees.{values_of}
use Rattle.std.specs.Prelude.{length}

pub returns-in-Call : goal.returns-in-Call
returns-in-Call g c =
    let reader = g.N.Names.reader c.args.self.now.names.now in
    let locals = locals_of c.args.self.now.locals.now in
    let name = c.in-Call.name.now in
    IfOk-weaker c.call_here.result _ _ (λ value made parts first many read.
    subst (λ kind. Reads (over_list reader locals kind parts c.args.at) (view_part value) first c.call_here.new.faults) (sym c.in-Call.is)
    (beside_read (values_of reader locals parts)
    (λ values. trees.call_here reader c.args.at name values (method_from reader.view reader.class name (length parts)))
    c.args.values (view_part value) first _ _ read
    (subst (λ arity. Reads (trees.call_here reader c.args.at name c.args.values (method_from reader.view reader.class name arity))
    (view_part value) c.args.faults.now c.call_here.new.faults) many made))) c.call_here.ensures

pub returns-in-Through : goal.returns-in-Through
returns-in-Through g c =
    let reader = g.N.Names.reader c.args.self.now.names.now in
    let locals = locals_of c.args.self.now.locals.now in
    let name = c.in-Through.name.now in
    let class = c.in-Through.class in
    IfOk-weaker c.call_through.result _ _ (λ value made parts first many read.
    subst (λ kind. Reads (over_list reader locals kind parts c.args.at) (view_part value) first c.call_through.new.faults) (sym c.in-Through.is)
    (beside_read (values_of reader locals parts)
    (λ values. trees.call_through reader c.args.at values (method_through reader.view class name (length parts)))
    c.args.values (view_part value) first _ _ read
    (subst (λ arity. Reads (trees.call_through reader c.args.at c.args.values (method_through reader.view class name arity))
    (view_part value) c.args.faults.now c.call_through.new.faults) many made))) c.call_through.ensures

pub returns-in-SuperCall : goal.returns-in-SuperCall
returns-in-SuperCall g c =
    let reader = g.N.Names.reader c.args.self.now.names.now in
    let locals = locals_of c.args.self.now.locals.now in
    let name = c.in-SuperCall.name.now in
    IfOk-weaker c.super_call.result _ _ (λ value made parts first many read.
    subst (λ kind. Reads (over_list reader locals kind parts c.args.at) (view_part value) first c.super_call.new.faults) (sym c.in-SuperCall.is)
    (beside_read (values_of reader locals parts)
    (λ values. trees.super_call reader c.args.at name values (super_method reader.view reader.class name (length parts)))
    c.args.values (view_part value) first _ _ read
    (subst (λ arity. Reads (trees.super_call reader c.args.at name c.args.values (super_method reader.view reader.class name arity))
    (view_part value) c.args.faults.now c.super_call.new.faults) many made))) c.super_call.ensures

pub returns-in-New : goal.returns-in-New
returns-in-New g c =
    let reader = g.N.Names.reader c.args.self.now.names.now in
    let locals = locals_of c.args.self.now.locals.now in
    IfOk-weaker c.creation.result _ _ (λ value made parts first many read.
    subst (λ kind. Reads (over_list reader locals kind parts c.args.at) (view_part value) first c.creation.new.faults) (sym c.in-New.is)
    (made parts first many read)) c.creation.ensures

pub returns-in-NewArray : goal.returns-in-NewArray
returns-in-NewArray g c =
    let reader = g.N.Names.reader c.args.self.now.names.now in
    let locals = locals_of c.args.self.now.locals.now in
    IfOk-weaker c.new_array.result _ _ (λ value made parts first many read.
    subst (λ kind. Reads (over_list reader locals kind parts c.args.at) (view_part value) first c.new_array.new.faults) (sym c.in-NewArray.is)
    (made parts first read)) c.new_array.ensures

pub returns-in-ArrayLit : goal.returns-in-ArrayLit
returns-in-ArrayLit g c =
    let reader = g.N.Names.reader c.args.self.now.names.now in
    let locals = locals_of c.args.self.now.locals.now in
    IfOk-weaker c.array_of.result _ _ (λ value made parts first many read.
    subst (λ kind. Reads (over_list reader locals kind parts c.args.at) (view_part value) first c.array_of.new.faults) (sym c.in-ArrayLit.is)
    (made parts first read)) c.array_of.ensures

pub returns-in-Braces : goal.returns-in-Braces
returns-in-Braces g c =
    let reader = g.N.Names.reader c.args.self.now.names.now in
    let locals = locals_of c.args.self.now.locals.now in
    IfOk-weaker c.braces.result _ _ (λ value is parts first many read.
    subst (λ kind. Reads (over_list reader locals kind parts c.args.at) (view_part value) first c.args.faults.now) (sym c.in-Braces.is)
    (made_read spec.braces (values_of reader locals parts) c.args.values (view_part value) first _ read is)) c.braces.ensures
