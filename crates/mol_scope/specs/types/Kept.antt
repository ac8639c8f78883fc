-- Static types as they are kept, as those of the view of a program.
use Rattle.mol_base.specs.declared.ident.Id.{Id}
use Rattle.jav_names.specs.OnValues as value
use Rattle.mol_resolve_rules.specs.ProgramViews.{seen}
use Rattle.mol_resolve_rules.specs.ReadTrees.{arrays}
use Rattle.mol_scope.specs.declared.types.static_type.StaticType.{StaticType}
use Rattle.mol_scope.specs.declared.types.static_type.StaticType.TheVariants as static

abbrev pub view_value : StaticType → value.StaticType Id
view_value static.Primitive = value.primitive_value
view_value static.Null = value.null_value
view_value static.Void = value.void_value
view_value static.Mixed = value.mixed_value
view_value static.Outside = value.outside_value
view_value (static.Class class) = value.class_value class
view_value (static.Array type dimensions) = value.array_value (arrays dimensions (seen type.now))
