-- What the name of a type reads as (JLS 6.4.1, 6.5.5, 7.5.1).
use Rattle.std.specs.Prelude.{◌≡◌, ◌≢◌, ℕ, [], ◌∷◌, Option, Some, Contains}
use Rattle.jav_names.specs.Choices.{IsFirst, IsLeast, HoldsOfNone}
use Rattle.jav_names.specs.DottedNames.{Name, Names, joined, simple_name}
use Rattle.jav_names.specs.Views.{ViewClass, Classes}

-- ---- full names (JLS 6.7)

abbrev pub full_name : {C : Type 0} → ViewClass C → Name
full_name class = joined class.«package» (class.name ∷ [])

-- The class of a full name; of several the one of least key.
abbrev pub IsClassNamed : {C : Type 0} → Classes C → Name → ViewClass C → Type 0
IsClassNamed classes name = IsLeast classes.cmp (λ class. class.key) (λ class. full_name class ≡ name) classes.items

-- No class has this full name.
abbrev pub NoClassNamed : {C : Type 0} → Classes C → Name → Type 0
NoClassNamed classes name = HoldsOfNone (λ class. full_name class ≡ name) classes.items

-- ---- where a type's name stands

-- What a source file says of the names in it: its own class, if that is one of the view, its package, and the full names that it
-- imports.
pub record Header (C : Type 0) : Type 0 where
  pub own : Option (ViewClass C)
  pub «package» : Name
  pub imports : Names

-- The import of a simple name; of several the first.
abbrev pub IsImport : Names → Name → ℕ → Name → Type 0
IsImport imports name = IsFirst (λ import. simple_name import ≡ name) imports

abbrev pub NoImport : Names → Name → Type 0
NoImport imports name = HoldsOfNone (λ import. simple_name import ≡ name) imports

-- The file's own class does not have this name.
abbrev pub IsNotOwn : {C : Type 0} → Header C → Name → Type 0
IsNotOwn {C} header name = (class : ViewClass C) → header.own ≡ Some class → class.name ≢ name

-- The file's own class, where the header has one, stands among these classes.
abbrev pub OwnStands : {C : Type 0} → Classes C → Header C → Type 0
OwnStands {C} classes header = (class : ViewClass C) → header.own ≡ Some class → Contains classes.items class

-- ---- the rules

-- What a type's name reads as: a class of the view; an outside type that is imported, by its full name and the names after it; an
-- outside type as it is written; or nothing.
pub data TypeReading (C : Type 0) : Type 0 where
  class_read : C → TypeReading C
  imported : (import rest : Name) → TypeReading C
  written : Name → TypeReading C
  no_type : TypeReading C

-- A simple name is, in this order, that of an import, of the file's own class, of a class of its package; else it is outside
-- (JLS 6.4.1, 7.5.1).
pub data ReadsSimple {C : Type 0} (classes : Classes C) (header : Header C) (name : Name) : TypeReading C → Type 0 where
  -- the import names a class of the view
  import_class : {place : ℕ} {import : Name} {class : ViewClass C} → IsImport header.imports name place import
      → IsClassNamed classes import class → ReadsSimple classes header name (class_read class.key)
  -- the import names an outside type
  import_outside : {place : ℕ} {import : Name} → IsImport header.imports name place import → NoClassNamed classes import
      → ReadsSimple classes header name (imported import [])
  -- no import has this name, and the file's own class does
  own_class : {class : ViewClass C} → NoImport header.imports name → header.own ≡ Some class → class.name ≡ name
      → ReadsSimple classes header name (class_read class.key)
  -- neither does, and a class of the package does
  in_package : {class : ViewClass C} → NoImport header.imports name → IsNotOwn header name
      → IsClassNamed classes (joined header.«package» (name ∷ [])) class → ReadsSimple classes header name (class_read class.key)
  -- none does
  as_written : NoImport header.imports name → IsNotOwn header name → NoClassNamed classes (joined header.«package» (name ∷ []))
      → ReadsSimple classes header name (written name)

-- A name, and those that follow it after dots, as a type (JLS 6.5.5). Where the first is a type by itself, it is that type and what
-- is named in it, and the classes here have no classes in them. Else the whole is a class's full name, or outside.
pub data ReadsType {C : Type 0} (classes : Classes C) (header : Header C) (first : Name) : Names → TypeReading C → Type 0 where
  -- there is no dot
  simple : {reading : TypeReading C} → ReadsSimple classes header first reading → ReadsType classes header first [] reading
  -- the first is an outside type that is imported
  in_import : {import next : Name} {rest : Names} → ReadsSimple classes header first (imported import [])
      → ReadsType classes header first (next ∷ rest) (imported import (joined next rest))
  -- the first is a class
  in_class : {class : C} {next : Name} {rest : Names} → ReadsSimple classes header first (class_read class)
      → ReadsType classes header first (next ∷ rest) no_type
  -- the first is neither, and the whole is the full name of a class
  whole_class : {class : ViewClass C} {next : Name} {rest : Names} → ReadsSimple classes header first (written first)
      → IsClassNamed classes (joined first (next ∷ rest)) class → ReadsType classes header first (next ∷ rest) (class_read class.key)
  -- nor is the whole
  whole_written : {next : Name} {rest : Names} → ReadsSimple classes header first (written first)
      → NoClassNamed classes (joined first (next ∷ rest))
      → ReadsType classes header first (next ∷ rest) (written (joined first (next ∷ rest)))
