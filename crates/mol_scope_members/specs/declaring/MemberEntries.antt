-- How the members of a program stand in indexes.
use Rattle.std.specs.Prelude.{[], Option, Some, None, if◌then◌else◌}
use Rattle.jav_names.specs.LookUps.{is_constructor}
use Rattle.jav_names.specs.Views.{ViewField, ViewDeclaration}
use Rattle.mol_base.specs.declared.ident.Id.{Id}
use Rattle.jav_names.specs.declared.id_index.entry.Entry.{Entry}
use Rattle.mol_values_types.specs.declared.known.Known.{Known}
use Rattle.mol_values_types.specs.declared.known.Known.TheVariants as knowns

abbrev pub field_entry : ViewField Id Id → Entry
field_entry field = record { owner = field.owner; arity = 0; name = field.name; id = field.key }

abbrev pub method_entry : ViewDeclaration Id Id → Entry
method_entry declared = record { owner = declared.owner; arity = declared.arity; name = declared.name; id = declared.key }

-- a constructor, by its class and number of parameters
abbrev pub constructor_entry : ViewDeclaration Id Id → Entry
constructor_entry declared = record { owner = declared.owner; arity = declared.arity; name = []; id = declared.key }

-- a constructor, by its class alone
abbrev pub owner_entry : ViewDeclaration Id Id → Entry
owner_entry declared = record { owner = declared.owner; arity = 0; name = []; id = declared.key }

-- ---- the entry of a declaration that lives, if it has one

-- among methods
abbrev pub listed_method : ViewDeclaration Id Id → Option Entry
listed_method declared = if is_constructor declared.kind then None else Some (method_entry declared)

-- among constructors by their numbers of parameters
abbrev pub listed_constructor : ViewDeclaration Id Id → Option Entry
listed_constructor declared = if is_constructor declared.kind then Some (constructor_entry declared) else None

-- among constructors by their classes alone
abbrev pub listed_owner : ViewDeclaration Id Id → Option Entry
listed_owner declared = if is_constructor declared.kind then Some (owner_entry declared) else None

-- ---- the entry of what is known, whether or not it lives

-- a declaration, by its method
abbrev pub declaring_entry : Id × Known → Option Entry
declaring_entry (id, knowns.Decl method) = Some (record { owner = method; arity = 0; name = []; id = id })
declaring_entry entry = None
