use Rattle.std.proofs.Common.{◌≡◌, take}
use Rattle.serde_json.specs.View.{items_view}
use Rattle.mol_log_objects.proofs.ParamItems.{param_items}
use Rattle.mol_log_objects.proofs.parts.params_value.Given as goal

abbrev pub invariant-loop-param : goal.invariant-loop-param
invariant-loop-param l = items_view l.items.items ≡ param_items (take l.param-index l.params)
