-- Members as they are kept to be compared, and the rows by which the definitions compare them.
use Rattle.std.specs.Prelude.{◌≡◌, ℕ, Bool, ◌||◌, List, map, filter}
use Rattle.std.specs.List.Sorted.{IsPermutation, IsStrictlySortedBy}
use Rattle.std.specs.Ordering.{nat_cmp, on}
use Rattle.jav_names.specs.seen.Kept.{view_type}
use Rattle.jav_names.specs.DottedNames.{Name}
use Rattle.jav_names.specs.Views.{ViewType}
use Rattle.mol_resolve_faults.specs.beside.Beside.{Faulty}
use Rattle.mol_resolve_classes.specs.signatures.Repeats.{kind_of}
use Rattle.mol_resolve_classes.specs.signatures.SignatureOrder.{types_of}
use Rattle.mol_resolve_classes.specs.declared.signatures.signature.Signature.{Signature}
use Rattle.mol_resolve_classes.specs.namesakes.Compared.{types_of as types_taken}
use Rattle.mol_resolve_classes.specs.declared.namesakes.declaration.Declaration.{Declaration}
use Rattle.mol_resolve_classes.specs.declared.namesakes.differences.Differences.{Differences}
use Rattle.mol_resolve_rules.specs.FaultLists.{same_kind}
use Rattle.mol_resolve_rules.specs.MemberFaults.{MemberKind, a_method, a_constructor, Row}
use Rattle.mol_resolve_classes.specs.declared.related.class_members.ClassMembers.{ClassMembers}

-- a member by its place, its kind, its name and the types that it takes
pub record Seen : Type 0 where
  pub place : ℕ
  pub kind : MemberKind
  pub name : Name
  pub params : List (ViewType ℕ)

abbrev pub seen_signature : Signature → Seen
seen_signature signature =
    record { place = signature.place; kind = kind_of signature.kind; name = signature.name.now; params = types_of signature }

abbrev pub seen_row : Row ℕ → Seen
seen_row row = record { place = row.place; kind = row.kind; name = row.name; params = row.params }

-- a declaration by its place, its name, the types that it takes and gives, and whether it is static
pub record SeenDeclared : Type 0 where
  pub place : ℕ
  pub name : Name
  pub params : List (ViewType ℕ)
  pub result : ViewType ℕ
  pub is_static : Bool

abbrev pub seen_declaration : Declaration → SeenDeclared
seen_declaration declaration = record {
  place = declaration.place;
  name = declaration.name.now;
  params = types_taken declaration;
  result = view_type declaration.result.now;
  is_static = declaration.is_static;
}

abbrev pub seen_declared : Row ℕ → SeenDeclared
seen_declared row =
    record { place = row.place; name = row.name; params = row.params; result = row.type; is_static = row.is_static }

abbrev pub is_kind : MemberKind → Row ℕ → Bool
is_kind kind row = same_kind row.kind kind

-- a declaration by its name, the types that it takes and gives, and whether it is static
pub record MethodHeader : Type 0 where
  pub name : Name
  pub params : List (ViewType ℕ)
  pub result : ViewType ℕ
  pub is_static : Bool

abbrev pub header_of_declaration : Declaration → MethodHeader
header_of_declaration declaration = record {
  name = declaration.name.now;
  params = types_taken declaration;
  result = view_type declaration.result.now;
  is_static = declaration.is_static;
}

abbrev pub header_of_row : Row ℕ → MethodHeader
header_of_row row = record { name = row.name; params = row.params; result = row.type; is_static = row.is_static }

-- the methods among these members
abbrev pub methods_in : List (Row ℕ) → List MethodHeader
methods_in rows = map header_of_row (filter (is_kind a_method) rows)

-- The rows stand in the class in this order.
abbrev pub StandInOrder : List (Row ℕ) → Type 0
StandInOrder rows = IsStrictlySortedBy (on (λ row. row.place) nat_cmp) rows

-- The members of a class are those of these rows.
pub record AreKept (members : ClassMembers) (rows : List (Row ℕ)) : Type 0 where
  pub listed : List Signature
  pub sorted : IsPermutation listed members.signatures
  pub signatures : map seen_signature listed ≡ map seen_row rows
  pub methods : map seen_declaration members.methods ≡ map seen_declared (filter (is_kind a_method) rows)
  pub constructors : map seen_declaration members.constructors ≡ map seen_declared (filter (is_kind a_constructor) rows)

-- of the faults of a member those by which its namesakes differ from it
abbrev pub differing : Faulty → Differences
differing faulty = record { types = faulty.overload; result = faulty.result }

-- there is some fault
abbrev pub has_fault : Faulty → Bool
has_fault faulty = faulty.duplicate || (faulty.overload || (faulty.result || faulty.static))
