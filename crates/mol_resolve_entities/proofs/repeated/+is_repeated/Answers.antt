use Rattle.std.proofs.Common.{arith}
use Rattle.mol_resolve_entities.proofs.RepeatedNames.{first-repeated, later-repeated}
use Rattle.mol_resolve_entities.proofs.repeated.+is_repeated.Goals as goal

pub returns-then-has_name : goal.returns-then-has_name
returns-then-has_name t c =
    first-repeated c.args.params.now c.first-item.result (omega arith) c.first-item.is c.has_name.result c.has_name.ensures
    c.if-has_name.ensures

pub returns-else-has_name : goal.returns-else-has_name
returns-else-has_name t c =
    later-repeated c.args.params.now c.first-item.result (omega arith) c.first-item.is c.is_repeated.result c.if-has_name.ensures
    c.is_repeated.ensures
