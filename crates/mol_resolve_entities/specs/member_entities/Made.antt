-- The entities of members, of their parts.
use Rattle.std.specs.Prelude.{List, [], Option, Some, None, if◌then◌else◌}
use Rattle.jav_tree.specs.declared.unit.Ctor.{Ctor}
use Rattle.jav_tree.specs.declared.unit.Field.{Field}
use Rattle.jav_tree.specs.declared.unit.Method.{Method}
use Rattle.mol_resolve_entities.specs.Parts.{declaration_entity, field_entity, method_entity}
use Rattle.mol_table_rules.specs.declared.entity.NewEntity.{NewEntity}
use Rattle.mol_values_types.specs.declared.iblock.IBody.{IBody}
use Rattle.mol_values_types.specs.declared.iexpr.IExpr.{IExpr}
use Rattle.mol_values_types.specs.declared.itype.IType.{IType}
use Rattle.mol_values_types.specs.declared.itype.IType.TheVariants as types
use Rattle.mol_values_types.specs.declared.kind.MethodKind.{MethodKind}
use Rattle.mol_values_types.specs.declared.kind.MethodKind.TheVariants.{Instance, Static, Constructor}
use Rattle.mol_values_types.specs.declared.param.Param.{Param as Listed}
use Rattle.mol_resolve_entities.specs.declared.member_entities.member_entities.MemberEntities.{MemberEntities}
use Rattle.mol_resolve_entities.specs.declared.member_entities.member_ids.MemberIds.{MemberIds}
use Rattle.mol_resolve_entities.specs.declared.member_entities.member_ids.MethodIds.{MethodIds}

-- a field, of its type and its first value
abbrev pub field_made : MemberIds → Field → IType × Option IExpr → MemberEntities
field_made ids field parts = record { member = field_entity ids.id ids.owner field parts.0 parts.1; method = None }

-- a declaration, and its method where it is the topmost one of that
abbrev pub with_method : MethodIds → NewEntity → NewEntity → MemberEntities
with_method ids declared method = record { member = declared; method = if ids.is_top then Some method else None }

abbrev pub kind_of_method : Method → MethodKind
kind_of_method method = if method.is_static then Static else Instance

-- a method, of the type that it gives, its parameters and its body
abbrev pub method_made : MemberIds → MethodIds → Method → (IType × List Listed) × Option IBody → MemberEntities
method_made ids of_method method parts = with_method of_method
    (declaration_entity ids.id ids.owner of_method.id method.words method.front parts.1)
    (method_entity of_method.id method.name parts.0.0 parts.0.1 (kind_of_method method))

-- A constructor, of its parameters and its body. It has no name and gives `void`.
abbrev pub constructor_made : MemberIds → MethodIds → Ctor → List Listed × IBody → MemberEntities
constructor_made ids of_method constructor parts = with_method of_method
    (declaration_entity ids.id ids.owner of_method.id constructor.words constructor.front (Some parts.1))
    (method_entity of_method.id [] types.Void parts.0 Constructor)
