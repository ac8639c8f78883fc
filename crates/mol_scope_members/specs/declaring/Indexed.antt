-- What indexes of a program find, and how look-ups answer.
use Rattle.std.specs.Prelude.{ℕ, ◌&&◌, List, map, filter_map, Option, Some, None, option_map, find}
use Rattle.std.specs.FinMap.{entries}
use Rattle.std.specs.Ordering.{is_eq}
use Rattle.std.specs.Str.{bytes_eq}
use Rattle.jav_names.specs.DottedNames.{Name}
use Rattle.jav_names.specs.LookUps.{is_method}
use Rattle.jav_names.specs.Members.{Constructor, declared_constructor, default_constructor}
use Rattle.jav_names.specs.Views.{ViewField, ViewDeclaration, View}
use Rattle.mol_base.specs.declared.ident.Id.{Id}
use Rattle.mol_scope_classes.specs.declared.hierarchy.position.Position.{Position}
use Rattle.jav_names.specs.id_index.Seeking.{is_sought, FindsSame}
use Rattle.jav_names.specs.declared.id_index.entry.Entry.{Entry}
use Rattle.mol_resolve_rules.specs.ProgramViews.{program_view}
use Rattle.mol_table_rules.specs.Program.{Program}
use Rattle.mol_scope_members.specs.declaring.MemberEntries.{field_entry, listed_method, listed_constructor, listed_owner, declaring_entry}
use Rattle.mol_scope_members.specs.declaring.Owners.{AreOwners, field_row, method_row}
use Rattle.mol_scope_members.specs.declared.declaring.members.Members.{Members}

-- Each index finds the first of its members.
pub record AreIndexed (members : Members) (program : Program) : Type 0 where
  pub fields : FindsSame members.fields (map field_entry (program_view program).fields)
  pub methods : FindsSame members.methods (filter_map listed_method (program_view program).declarations)
  pub constructors : FindsSame members.constructors (filter_map listed_constructor (program_view program).declarations)
  pub constructed : FindsSame members.constructed (filter_map listed_owner (program_view program).declarations)
  pub declared : FindsSame members.declared (filter_map declaring_entry (entries program.known))

-- The classes of fields and methods stand by the names of these and by their positions.
pub record AreOwned (members : Members) (positions : List (Id × Position)) (program : Program) : Type 0 where
  pub field_owners : AreOwners positions (map field_row (program_view program).fields) members.field_owners.placed.items
  pub method_owners : AreOwners positions (filter_map method_row (program_view program).declarations) members.method_owners.placed.items

-- the first field of this name that a class declares itself
abbrev pub declared_field : View Id Id → Id → Name → Option (ViewField Id Id)
declared_field view class name = find (λ field. bytes_eq field.name name && is_eq (view.classes.cmp field.owner class)) view.fields

-- the first declaration of a method with this name and number of parameters that a class has itself
abbrev pub declared_method : View Id Id → Id → Name → ℕ → Option (ViewDeclaration Id Id)
declared_method view class name arity =
    find (λ declared. is_method name arity declared && is_eq (view.classes.cmp declared.owner class)) view.declarations

-- what an index finds in a class by a number of parameters and a name
abbrev pub found_in : List Entry → ℕ → Name → Id → Option Id
found_in listed arity name class = option_map (λ entry. entry.id) (find (is_sought class arity name) listed)

-- a constructor by its declaration; none is the default one
abbrev pub constructor_id : Constructor Id Id → Option Id
constructor_id (declared_constructor declared) = Some declared.key
constructor_id (default_constructor class) = None
