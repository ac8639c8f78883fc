-- How the members of a view stand in an index.
use Rattle.std.specs.Prelude.{◌≡◌, ℕ, not, List, [], ◌++◌, map, filter, Option, find}
use Rattle.std.specs.Option.{option_to_list}
use Rattle.jav_tree.specs.declared.unit.Member.{Member}
use Rattle.jav_tree.specs.declared.unit.Unit.{Unit}
use Rattle.jav_names.specs.DottedNames.{Name}
use Rattle.jav_names.specs.LookUps.{is_constructor}
use Rattle.jav_names.specs.UnitViews.{MemberKey, field_in, declaration_in}
use Rattle.jav_names.specs.Views.{ViewField, ViewDeclaration, Classes, View}
use Rattle.jav_names.specs.index.Seeking.{is_sought, FindsSame}
use Rattle.jav_names.specs.declared.index.entry.Entry.{Entry}
use Rattle.jav_scope.specs.declared.found.MemberRef.{MemberRef}
use Rattle.jav_scope.specs.declared.member_entries.MemberEntries.{MemberEntries}
use Rattle.jav_scope.specs.declared.members.Members.{Members}

-- the member at this place, by its class, this number of parameters and this name
abbrev pub place_entry : MemberRef → ℕ → Name → Entry
place_entry place arity name = record { owner = place.unit; arity = arity; name = name; place = place.member }

abbrev pub field_entry : ViewField ℕ MemberKey → Entry
field_entry field = record { owner = field.owner; arity = 0; name = field.name; place = field.key.member }

abbrev pub method_entry : ViewDeclaration ℕ MemberKey → Entry
method_entry declared = record { owner = declared.owner; arity = declared.arity; name = declared.name; place = declared.key.member }

-- a constructor, by its class and number of parameters
abbrev pub constructor_entry : ViewDeclaration ℕ MemberKey → Entry
constructor_entry declared = record { owner = declared.owner; arity = declared.arity; name = []; place = declared.key.member }

-- a constructor, by its class alone
abbrev pub owner_entry : ViewDeclaration ℕ MemberKey → Entry
owner_entry declared = record { owner = declared.owner; arity = 0; name = []; place = declared.key.member }

abbrev pub methods_in : List (ViewDeclaration ℕ MemberKey) → List (ViewDeclaration ℕ MemberKey)
methods_in declarations = filter (λ declared. not (is_constructor declared.kind)) declarations

abbrev pub constructors_in : List (ViewDeclaration ℕ MemberKey) → List (ViewDeclaration ℕ MemberKey)
constructors_in declarations = filter (λ declared. is_constructor declared.kind) declarations

-- The entries are those of these fields and declarations, in their order.
pub record AreListed (entries : MemberEntries) (listed : List (ViewField ℕ MemberKey)) (declarations : List (ViewDeclaration ℕ MemberKey))
    : Type 0 where
  pub fields : entries.fields.items ≡ map field_entry listed
  pub methods : entries.methods.items ≡ map method_entry (methods_in declarations)
  pub constructors : entries.constructors.items ≡ map constructor_entry (constructors_in declarations)
  pub constructed : entries.constructed.items ≡ map owner_entry (constructors_in declarations)

-- The entries have these fields and declarations after those that they had before.
abbrev pub AreAdded : MemberEntries → MemberEntries → List (ViewField ℕ MemberKey) → List (ViewDeclaration ℕ MemberKey) → Type 0
AreAdded before after fields declarations =
    (old_fields : List (ViewField ℕ MemberKey)) (old_declarations : List (ViewDeclaration ℕ MemberKey))
    → AreListed before old_fields old_declarations → AreListed after (old_fields ++ fields) (old_declarations ++ declarations)

-- The entries have a member in addition, where this place is its own, whatever classes and file it is in.
abbrev pub IsAdded : MemberEntries → MemberEntries → MemberRef → Member → Type 0
IsAdded before after place member = (classes : Classes ℕ) (source : Unit) → AreAdded before after
    (option_to_list (field_in classes (place.unit, source) (place.member, member)))
    (option_to_list (declaration_in classes (place.unit, source) (place.member, member)))

-- Each index finds the first of its members.
pub record AreIndexed (members : Members) (view : View ℕ MemberKey) : Type 0 where
  pub fields : FindsSame members.fields (map field_entry view.fields)
  pub methods : FindsSame members.methods (map method_entry (methods_in view.declarations))
  pub constructors : FindsSame members.constructors (map constructor_entry (constructors_in view.declarations))
  pub constructed : FindsSame members.constructed (map owner_entry (constructors_in view.declarations))

-- what an index finds in a class by a number of parameters and a name
abbrev pub found_in : List Entry → ℕ → Name → ℕ → Option Entry
found_in entries arity name class = find (is_sought class arity name) entries
