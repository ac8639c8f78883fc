use Rattle.std.proofs.Common.{◌≡◌, true, take}
use Rattle.std.specs.List.{list_all}
use Rattle.mol_base.specs.Spelled.{is_tag}
use Rattle.mol_log_rows.proofs.lines.header.all_tags.Given as goal

abbrev pub invariant-loop-text : goal.invariant-loop-text
invariant-loop-text l = (l.tags ≡ take l.text-index l.texts) × (list_all is_tag (take l.text-index l.texts) ≡ true)
