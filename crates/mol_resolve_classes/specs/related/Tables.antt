-- The members of each class, and the methods of all classes.
use Rattle.std.specs.Prelude.{◌≡◌, ℕ, IfSome, List, Option, Some, length, map, slice_get}
use Rattle.std.specs.List.{range_with_len}
use Rattle.jav_scope.specs.declared.source.SourceUnit.{SourceUnit}
use Rattle.mol_resolve_faults.specs.beside.Classes.{rows_of}
use Rattle.mol_resolve_classes.specs.declared.namesakes.declaration.Declaration.{Declaration}
use Rattle.mol_resolve_members.specs.sources.Sources.{files_of}
use Rattle.mol_resolve_rules.specs.ResolveFaults.{rows}
use Rattle.mol_resolve_classes.specs.related.Compared.{AreKept, header_of_declaration, methods_in}
use Rattle.mol_resolve_classes.specs.declared.related.class_members.ClassMembers.{ClassMembers}

-- Of each of these classes its members are kept.
abbrev pub AreKeptOf : List SourceUnit → List ClassMembers → Type 0
AreKeptOf sources classes = (class : ℕ) (members : ClassMembers) → slice_get classes class ≡ Some members
    → AreKept members (rows_of (files_of sources) class)

-- The places of the declarations are 0, 1, 2 and so on.
abbrev pub AreNumbered : List Declaration → Type 0
AreNumbered declared = map (λ declaration. declaration.place) declared ≡ range_with_len 0 (length declared)

-- The members are those of the files, of each file those of its class are kept, and the methods of all where any are kept together.
pub record AreRelated (sources members : List SourceUnit) (classes : List ClassMembers) (declared : Option (List Declaration)) : Type 0 where
  pub same : members ≡ sources
  pub size : length classes ≡ length sources
  pub kept : AreKeptOf sources classes
  pub methods : IfSome declared (λ methods. map header_of_declaration methods ≡ methods_in (rows (files_of sources)))
