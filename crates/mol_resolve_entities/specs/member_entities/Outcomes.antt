-- What members of source files are read as: the entities that they are, and what is met in them.
use Rattle.std.specs.Prelude.{ℕ}
use Rattle.jav_tree.specs.declared.unit.Ctor.{Ctor}
use Rattle.jav_tree.specs.declared.unit.Field.{Field}
use Rattle.jav_tree.specs.declared.unit.Method.{Method}
use Rattle.jav_names.specs.UnitViews.{MemberKey}
use Rattle.mol_resolve_rules.specs.Outcomes.{Outcome, both, mapped}
use Rattle.mol_resolve_rules.specs.ReadFiles.{read_block}
use Rattle.mol_resolve_rules.specs.ReadStatements.{read_body, read_initial}
use Rattle.mol_resolve_rules.specs.Readers.{Reader}
use Rattle.mol_resolve_entities.specs.member_entities.Headings.{params_read, tree_read}
use Rattle.mol_resolve_entities.specs.member_entities.Made.{constructor_made, field_made, method_made}
use Rattle.mol_resolve_entities.specs.declared.member_entities.member_entities.MemberEntities.{MemberEntities}
use Rattle.mol_resolve_entities.specs.declared.member_entities.member_ids.MemberIds.{MemberIds}
use Rattle.mol_resolve_entities.specs.declared.member_entities.member_ids.MethodIds.{MethodIds}

module _ (reader : Reader ℕ MemberKey) (ids : MemberIds) where
  abbrev pub field_read : Field → Outcome MemberEntities
  field_read field = mapped (field_made ids field) (both (tree_read reader field.at field.ty) (read_initial reader field.init))

  abbrev pub method_read : MethodIds → Method → Outcome MemberEntities
  method_read of_method method = mapped (method_made ids of_method method)
      (both (both (tree_read reader method.at method.result) (params_read of_method.params.items reader method.at method.params))
      (read_block reader method.block))

  abbrev pub constructor_read : MethodIds → Ctor → Outcome MemberEntities
  constructor_read of_method constructor = mapped (constructor_made ids of_method constructor)
      (both (params_read of_method.params.items reader constructor.at constructor.params) (read_body reader constructor.block))
