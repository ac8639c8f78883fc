-- What the values of an operation may mention: what is known, and what the operation itself adds.
use Rattle.std.specs.Prelude.{List, map, ◌++◌}
use Rattle.mol_base.specs.declared.ident.Id.{Id}
use Rattle.mol_table_rules.specs.Program.{Knowns}
use Rattle.mol_values_types.specs.declared.known.Known.TheVariants as knowns
use Rattle.mol_values_types.specs.declared.param.Param.{Param}
use Rattle.mol_op.specs.Changes.{Name, know_all}
use Rattle.mol_op.specs.declared.mentions.seen.Seen.{Seen}

-- parameters, as those of a method
abbrev pub named_params : Id → List Param → List Name
named_params method params = map (λ (param : Param). (param.id, knowns.Param method)) params

-- what the operation adds
abbrev pub added_names : Seen → List Name
added_names seen = seen.entities.now ++ named_params seen.method seen.params.now

-- what is known with it
abbrev pub seen_by : Seen → Knowns
seen_by seen = know_all seen.table.now.known (added_names seen)
