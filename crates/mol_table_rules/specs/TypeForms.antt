-- The types in values.
use Rattle.std.specs.Prelude.{ℕ, ◌+◌, Bool, true, false, ◌&&◌, ◌||◌, nat_le}
use Rattle.mol_base.specs.Limits.{max_items}
use Rattle.mol_values_types.specs.TokenForms.{is_dotted, is_empty}
use Rattle.mol_values_types.specs.declared.itype.IType.{IType, fold-IType}
use Rattle.mol_values_types.specs.declared.itype.IType.TheOpen.{IType-F}

-- names are dotted names; what follows an imported name may be empty; `void` is no type
abbrev pub named_step : IType-F Bool → Bool
named_step IType-F.Void = false
named_step (IType-F.Imported full rest) = is_dotted full && (is_empty rest || is_dotted rest)
named_step (IType-F.Written name) = is_dotted name
named_step (IType-F.Array item) = item
named_step other = true

abbrev pub dimensions_step : IType-F ℕ → ℕ
dimensions_step (IType-F.Array item) = item + 1
dimensions_step other = 0

-- how many pairs of brackets a type has
abbrev pub dimensions : IType → ℕ
dimensions = fold-IType ℕ dimensions_step

-- a type that something may have: no `void` in it, at most 255 dimensions
abbrev pub is_type : IType → Bool
is_type ty = fold-IType Bool named_step ty && nat_le (dimensions ty) max_items

abbrev pub void_step : IType-F Bool → Bool
void_step IType-F.Void = true
void_step other = false

abbrev pub is_void : IType → Bool
is_void = fold-IType Bool void_step

-- the result of a method: a type, or `void`
abbrev pub is_result : IType → Bool
is_result ty = is_void ty || is_type ty

abbrev pub array_step : IType-F Bool → Bool
array_step (IType-F.Array item) = true
array_step other = false

abbrev pub is_array : IType → Bool
is_array = fold-IType Bool array_step

abbrev pub outside_step : IType-F Bool → Bool
outside_step (IType-F.Imported full rest) = true
outside_step (IType-F.Written name) = true
outside_step other = false

-- a class outside: imported, or as written
abbrev pub is_outside_class : IType → Bool
is_outside_class ty = fold-IType Bool outside_step ty && is_type ty

abbrev pub class_step : IType-F Bool → Bool
class_step (IType-F.Class id) = true
class_step other = false

-- what may be a superclass: a class of the program, or one outside
abbrev pub is_class : IType → Bool
is_class ty = fold-IType Bool class_step ty || is_outside_class ty
