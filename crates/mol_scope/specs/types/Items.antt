-- The items of array types.
use Rattle.std.specs.Prelude.{ℕ, zero, suc, Option, Some, None}
use Rattle.jav_names.specs.Views.{ViewType, primitive_type, void_type, class_type, outside_type, array_type, unread_type}

-- so many dimensions into a type
abbrev pub item_at : {C : Type 0} → ℕ → ViewType C → Option (ViewType C)
item_at zero type = Some type
item_at (suc dimensions) (array_type item) = item_at dimensions item
item_at (suc dimensions) (primitive_type name) = None
item_at (suc dimensions) void_type = None
item_at (suc dimensions) (class_type class) = None
item_at (suc dimensions) (outside_type text) = None
item_at (suc dimensions) unread_type = None
