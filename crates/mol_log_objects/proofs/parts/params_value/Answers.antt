use Rattle.std.proofs.Common.{ap, ◌∙◌, sym, rules}
use Rattle.std.proofs.lemmas.List.{take_all}
use Rattle.serde_json.specs.Data.{array}
use Rattle.serde_json.proofs.Views.{view-Array}
use Rattle.mol_log_objects.proofs.ParamItems.{param_items, add_param}
use Rattle.mol_log_objects.proofs.parts.params_value.Goals as goal

pub loop-param-preserved : goal.loop-param-preserved
loop-param-preserved c =
    let value = add_param c.loop-param.items.items c.in_ok-param_value.field-0 c.args.params.now c.loop-param.param-index
    c.param-item.result
    c.loop-param-test.true (sym c.param-item.is) c.loop-param.invariant c.in_ok-param_value.ensures in
    search rules

pub returns : goal.returns
returns c =
    view-Array c.loop-param.items
    ∙ ap array (c.loop-param.invariant ∙ ap param_items (take_all c.loop-param.param-index c.args.params.now c.loop-param-test.false))
