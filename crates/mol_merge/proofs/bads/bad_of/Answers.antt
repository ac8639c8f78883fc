use Rattle.std.proofs.Common.{◌∙◌, List, ap, refl}
use Rattle.std.specs.List.{flat_map}
use Rattle.mol_base.specs.Order.{stamp_cmp}
use Rattle.mol_log_rules.specs.Logs.{history}
use Rattle.mol_merge.proofs.bads.bad_of.Goals as goal
use Rattle.mol_merge_rules.specs.Conflicts.{writers}
use Rattle.mol_spell_rules.specs.Sets.{as_set}
use Rattle.mol_values_types.specs.declared.cell.Cell.{Cell}

pub returns : goal.returns
returns c = record {
  kind = refl;
  cells = c.in_ok-cells.cells;
  rests = c.in_ok-cells.ensures;
  stamps = c.in_ok-stamps.ensures
      ∙ ap (λ (cells : List Cell). as_set stamp_cmp (flat_map (writers (history c.args.one.now) (history c.args.other.now)) cells))
      c.items.ensures;
}
