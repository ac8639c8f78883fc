-- What a name reads as that is a class, nothing, or an outside type, by the import of its first name.
use Rattle.std.proofs.Common.{◌≡◌, ℕ, [], ◌∷◌, ◌∙◌, Option, Some, None, refl, sym, ap}
use Rattle.jav_names.specs.index.Spelled.{joined_names}
use Rattle.jav_scope.specs.Answers.{type_answered}
use Rattle.jav_scope.specs.declared.found.Found.TheVariants as answer
use Rattle.jav_names.proofs.CutNames.{names_cut}
use Rattle.jav_names.specs.DottedNames.{Name, Names, joined, cut}
use Rattle.jav_names.specs.LookUps.{class_named, import_of, own_named, class_or_imported, class_or_written, own_or_near, simple_by_import, simple_type, with_more, type_named}
use Rattle.jav_names.specs.Types.{Header, TypeReading, class_read, imported, written, no_type}
use Rattle.jav_names.specs.Views.{ViewClass, Classes}
use Rattle.jav_scope.specs.typenames.Readings.{IsCut}

pub class-read : (read : TypeReading ℕ) (class : ℕ) → answer.Found class ≡ type_answered read → class_read class ≡ read
class-read (class_read key) class is = ap (λ k. class_read k) (let same : class ≡ key = cc in same)
class-read (imported import rest) class is = absurd cc
class-read (written text) class is = absurd cc
class-read no_type class is = absurd cc

pub nothing-read : (read : TypeReading ℕ) → answer.NotFound ≡ type_answered read → no_type ≡ read
nothing-read (class_read key) is = absurd cc
nothing-read (imported import rest) is = absurd cc
nothing-read (written text) is = absurd cc
nothing-read no_type is = refl

-- what reads as outside is no class
import-outside : (class : Option (ViewClass ℕ)) (import : Name) → type_answered (class_or_imported class import) ≡ answer.Outside
    → imported import [] ≡ class_or_imported class import
import-outside None import is = refl
import-outside (Some class) import is = absurd cc

written-outside : (class : Option (ViewClass ℕ)) (text : Name) → type_answered (class_or_written class text) ≡ answer.Outside
    → written text ≡ class_or_written class text
written-outside None text is = refl
written-outside (Some class) text is = absurd cc

module _ (classes : Classes ℕ) (header : Header ℕ) where
  module _ (first next : Name) (rest : Names) where
    more-imported : (class : Option (ViewClass ℕ)) (import : Name)
        → type_answered (with_more classes first next rest (class_or_imported class import)) ≡ answer.Outside
        → imported import (joined next rest) ≡ with_more classes first next rest (class_or_imported class import)
    more-imported None import is = refl
    more-imported (Some class) import is = absurd cc

    more-near : (class : Option (ViewClass ℕ))
        → type_answered (with_more classes first next rest (class_or_written class first)) ≡ answer.Outside
        → written (joined first (next ∷ rest)) ≡ with_more classes first next rest (class_or_written class first)
    more-near None is =
        written-outside (class_named classes (joined first (next ∷ rest))) (joined first (next ∷ rest)) is
    more-near (Some class) is = absurd cc

    more-written : (own : Option (ViewClass ℕ))
        → type_answered (with_more classes first next rest (own_or_near classes header first own)) ≡ answer.Outside
        → written (joined first (next ∷ rest)) ≡ with_more classes first next rest (own_or_near classes header first own)
    more-written None is = more-near (class_named classes (joined header.«package» (first ∷ []))) is
    more-written (Some own) is = absurd cc

  near-written : (first : Name) (own : Option (ViewClass ℕ)) → type_answered (own_or_near classes header first own) ≡ answer.Outside
      → written first ≡ own_or_near classes header first own
  near-written first None is = written-outside (class_named classes (joined header.«package» (first ∷ []))) first is
  near-written first (Some own) is = absurd cc

  by_import : (first import : Name) → Some import ≡ import_of header.imports first
      → class_or_imported (class_named classes import) import ≡ simple_type classes header first
  by_import first import is = ap (λ (found : Option Name). simple_by_import classes header first found) is

  by_none : (first : Name) → None ≡ import_of header.imports first
      → own_or_near classes header first (own_named header.own first) ≡ simple_type classes header first
  by_none first is = ap (λ (found : Option Name). simple_by_import classes header first found) is

  from_import : (first : Name) (rest : Names) (import : Name) → Some import ≡ import_of header.imports first
      → type_answered (type_named classes header first rest) ≡ answer.Outside
      → imported import (joined_names rest) ≡ type_named classes header first rest
  from_import first [] import is outside =
      import-outside (class_named classes import) import (ap type_answered (by_import first import is) ∙ outside)
      ∙ by_import first import is
  from_import first (next ∷ more) import is outside =
      let read = ap (λ (r : TypeReading ℕ). with_more classes first next more r) (by_import first import is) in
      more-imported first next more (class_named classes import) import (ap type_answered read ∙ outside) ∙ read

  from_none : (first : Name) (rest : Names) → None ≡ import_of header.imports first
      → type_answered (type_named classes header first rest) ≡ answer.Outside
      → written (joined first rest) ≡ type_named classes header first rest
  from_none first [] is outside =
      near-written first (own_named header.own first) (ap type_answered (by_none first is) ∙ outside) ∙ by_none first is
  from_none first (next ∷ more) is outside =
      let read = ap (λ (r : TypeReading ℕ). with_more classes first next more r) (by_none first is) in
      more-written first next more (own_named header.own first) (ap type_answered read ∙ outside) ∙ read

  module _ (text first rest : Name) (parts : IsCut text first rest)
      (outside : type_answered (type_named classes header (cut text).first (cut text).rest) ≡ answer.Outside) where
    pub imported-read : (import : Name) → Some import ≡ import_of header.imports first
        → imported import rest ≡ type_named classes header (cut text).first (cut text).rest
    imported-read import is = ap (λ (more : Name). imported import more) (sym parts.rest_is)
        ∙ from_import (cut text).first (cut text).rest import
        (is ∙ ap (λ (name : Name). import_of header.imports name) (sym parts.first_is)) outside

    pub written-read : None ≡ import_of header.imports first
        → written text ≡ type_named classes header (cut text).first (cut text).rest
    written-read is = ap (λ (t : Name). written t) (sym (names_cut.whole text))
        ∙ from_none (cut text).first (cut text).rest
        (is ∙ ap (λ (name : Name). import_of header.imports name) (sym parts.first_is)) outside
