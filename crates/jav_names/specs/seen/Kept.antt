-- Types as they are kept, as the types of a view whose keys of classes are numbers of files.
use Rattle.std.specs.Prelude.{ℕ}
use Rattle.jav_names.specs.OnValues as value
use Rattle.jav_names.specs.Views as type
use Rattle.jav_names.specs.declared.seen.seen_type.SeenType.{SeenType, fold-SeenType}
use Rattle.jav_names.specs.declared.seen.seen_type.SeenType.TheOpen.{SeenType-F}
use Rattle.jav_names.specs.declared.seen.static_type.StaticType.{StaticType}
use Rattle.jav_names.specs.declared.seen.static_type.StaticType.TheVariants as static

abbrev pub type_step : SeenType-F (type.ViewType ℕ) → type.ViewType ℕ
type_step (SeenType-F.Primitive name) = type.primitive_type name
type_step SeenType-F.Void = type.void_type
type_step (SeenType-F.Class class) = type.class_type class
type_step (SeenType-F.Outside text) = type.outside_type text
type_step (SeenType-F.Array item) = type.array_type item
type_step SeenType-F.Unread = type.unread_type

abbrev pub view_type : SeenType → type.ViewType ℕ
view_type = fold-SeenType (type.ViewType ℕ) type_step

abbrev pub view_value : StaticType → value.StaticType ℕ
view_value static.Primitive = value.primitive_value
view_value static.Null = value.null_value
view_value static.Void = value.void_value
view_value static.Mixed = value.mixed_value
view_value static.Outside = value.outside_value
view_value (static.Class class) = value.class_value class
view_value (static.Array item) = value.array_value (view_type item)
view_value static.Unread = value.unread_value
