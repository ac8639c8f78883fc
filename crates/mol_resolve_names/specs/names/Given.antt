-- Parameters with their types and identities.
use Rattle.std.specs.Prelude.{ℕ}
use Rattle.jav_tree.specs.declared.types.TypeName.{TypeName}
use Rattle.jav_tree.specs.declared.unit.Param.{Param}
use Rattle.jav_names.specs.Views.{ViewType}
use Rattle.mol_base.specs.declared.ident.Id.{Id}
use Rattle.mol_resolve_rules.specs.Readers.{Parameter}

-- one with its identity, where types look so
abbrev pub given_param : (TypeName → ViewType ℕ) → Id × Param → Parameter ℕ
given_param see param = record { name = param.1.name; type = see param.1.ty; id = param.0 }
