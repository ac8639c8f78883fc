-- The constructors without parameters that an index of them has met.
use Rattle.std.specs.Prelude.{Bool, false, cond, ◌&&◌, List, Option, None, Some}
use Rattle.std.specs.List.{find, list_any}
use Rattle.std.specs.FinMap.{keys}
use Rattle.std.specs.Option.{option_map_or}
use Rattle.std.specs.Ordering.{is_lt}
use Rattle.mol_base.specs.Order.{id_cmp}
use Rattle.mol_base.specs.declared.ident.Id.{Id}
use Rattle.mol_table_rules.specs.Counting.{living_of, is_of}
use Rattle.mol_table_rules.specs.Program.{Program, same_id, owner_at}
use Rattle.mol_table_rules.specs.Tidy.{is_plain}

-- the lesser of an identity and the one there is
abbrev pub lesser : Option Id → Id → Id
lesser None id = id
lesser (Some least) id = cond (is_lt (id_cmp id least)) id least

abbrev pub plain_in : Program → Option Id → Option Id
plain_in program None = None
plain_in program (Some method) = cond (is_plain program method) (Some method) None

-- the constructor without parameters of which an identity is a living declaration, if it is one
abbrev pub bare_of : Program → Id → Option Id
bare_of program decl = plain_in program (living_of program decl)

-- this is a living declaration of the method, in the class
abbrev pub is_decl_in : Program → Id → Id → Id → Bool
is_decl_in program class method decl = is_of method (living_of program decl) && option_map_or (same_id class) (owner_at program decl) false

-- this is a constructor without parameters that one of these declares in the class
abbrev pub is_bare_by : Program → Id → List Id → Id → Bool
is_bare_by program class decls method = is_plain program method && list_any (is_decl_in program class method) decls

-- the least such constructor
abbrev pub bare_by : Program → Id → List Id → Option Id
bare_by program class decls = find (is_bare_by program class decls) (keys program.known)
