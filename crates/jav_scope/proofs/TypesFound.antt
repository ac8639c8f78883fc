-- What the names of types are found to be.
use Rattle.std.proofs.Common.{◌≡◌, ℕ, true, false, [], ◌∷◌, Option, Some, None, option_map, refl, sym, ◌∙◌, ap, bytes_eq, if◌then◌else◌}
use Rattle.jav_names.specs.DottedNames.{Name, joined}
use Rattle.jav_names.specs.LookUps.{class_named, import_of, own_named, class_or_imported, class_or_written, own_or_near, simple_by_import, simple_type}
use Rattle.jav_names.specs.Types.{Header, TypeReading, class_read, imported, written, no_type}
use Rattle.jav_names.specs.Views.{ViewClass, Classes}
use Rattle.jav_scope.specs.Answers.{reading_of, reading_answered, type_answered}
use Rattle.jav_scope.specs.declared.found.Found.TheVariants as answer
use Rattle.jav_scope.specs.declared.reading.Reading.TheVariants as reading
use Rattle.jav_scope.proofs.CutTexts.{with_rest}

-- ---- a class by its key, or none

pub imported-class : (o : Option (ViewClass ℕ)) (key : ℕ) (import : Name) → Some key ≡ option_map (λ class. class.key) o
    → reading.Class key ≡ reading_of (class_or_imported o import)
imported-class None key import is = absurd cc
imported-class (Some class) key import is = ap (λ k. reading.Class k) (let same : key ≡ class.key = cc in same)

pub imported-outside : (o : Option (ViewClass ℕ)) (import : Name) → None ≡ option_map (λ class. class.key) o
    → reading.Imported ≡ reading_of (class_or_imported o import)
imported-outside None import is = refl
imported-outside (Some class) import is = absurd cc

pub written-class : (o : Option (ViewClass ℕ)) (key : ℕ) (text : Name) → Some key ≡ option_map (λ class. class.key) o
    → reading.Class key ≡ reading_of (class_or_written o text)
written-class None key text is = absurd cc
written-class (Some class) key text is = ap (λ k. reading.Class k) (let same : key ≡ class.key = cc in same)

pub written-outside : (o : Option (ViewClass ℕ)) (text : Name) → None ≡ option_map (λ class. class.key) o
    → reading.Written ≡ reading_of (class_or_written o text)
written-outside None text is = refl
written-outside (Some class) text is = absurd cc

-- ---- a simple name, step by step

module _ (classes : Classes ℕ) (header : Header ℕ) (name : Name) where
  pub simple-imported : (import : Name) → Some import ≡ import_of header.imports name
      → reading_of (class_or_imported (class_named classes import) import) ≡ reading_of (simple_type classes header name)
  simple-imported import is = ap (λ o. reading_of (simple_by_import classes header name o)) is

  module _ (own : ViewClass ℕ) (has : header.own ≡ Some own) (no_import : None ≡ import_of header.imports name) where
    near : reading_of (own_or_near classes header name (own_named (Some own) name)) ≡ reading_of (simple_type classes header name)
    near = (λ i. reading_of (own_or_near classes header name (own_named (sym has i) name)))
        ∙ ap (λ o. reading_of (simple_by_import classes header name o)) no_import

    pub simple-own : bytes_eq own.name name ≡ true → reading.Class own.key ≡ reading_of (simple_type classes header name)
    simple-own same = sym (ap (λ b. reading_of (own_or_near classes header name (if b then Some own else None))) same) ∙ near

    pub simple-near : bytes_eq own.name name ≡ false
        → reading_of (class_or_written (class_named classes (joined header.«package» (name ∷ []))) name)
        ≡ reading_of (simple_type classes header name)
    simple-near differs = sym (ap (λ b. reading_of (own_or_near classes header name (if b then Some own else None))) differs) ∙ near

-- ---- a name with dots

pub answered-reading : (read : TypeReading ℕ) → reading_answered (reading_of read) ≡ type_answered read
answered-reading (class_read class) = refl
answered-reading (imported import rest) = refl
answered-reading (written text) = refl
answered-reading no_type = refl

-- by what the first name reads as
module _ (classes : Classes ℕ) (text rest : Name) where
  pub more-imported : (read : TypeReading ℕ) → reading.Imported ≡ reading_of read → answer.Outside
      ≡ type_answered (with_rest classes text rest read)
  more-imported (class_read class) is = absurd cc
  more-imported (imported import more) is = refl
  more-imported (written first) is = absurd cc
  more-imported no_type is = absurd cc

  pub more-written : (read : TypeReading ℕ) → reading.Written ≡ reading_of read
      → type_answered (class_or_written (class_named classes text) text) ≡ type_answered (with_rest classes text rest read)
  more-written (class_read class) is = absurd cc
  more-written (imported import more) is = absurd cc
  more-written (written first) is = refl
  more-written no_type is = absurd cc

  pub more-class : (read : TypeReading ℕ) (class : ℕ) → reading.Class class ≡ reading_of read → answer.NotFound
      ≡ type_answered (with_rest classes text rest read)
  more-class (class_read key) class is = refl
  more-class (imported import more) class is = absurd cc
  more-class (written first) class is = absurd cc
  more-class no_type class is = absurd cc

  pub more-nothing : (read : TypeReading ℕ) → reading.Nothing ≡ reading_of read → answer.NotFound
      ≡ type_answered (with_rest classes text rest read)
  more-nothing (class_read class) is = absurd cc
  more-nothing (imported import more) is = absurd cc
  more-nothing (written first) is = absurd cc
  more-nothing no_type is = refl
