-- The name of a type has exactly one reading.
use Rattle.std.proofs.Common.{◌≡◌, ◌≢◌, ℕ, Bool, true, false, cond, [], ◌∷◌, Option, Some, None, bytes_eq, refl, sym, ◌∙◌, ap, subst}
use Rattle.std.proofs.lemmas.Slice.Eq.{bytes_eq-Decides}
use Rattle.jav_names.specs.DottedNames.{Name, Names, joined, simple_name}
use Rattle.jav_names.specs.Laws.{IsTheAnswer}
use Rattle.jav_names.specs.LookUps.{class_named, import_of, own_named, class_or_imported, class_or_written, own_or_near, simple_by_import, simple_type, with_more, type_named}
use Rattle.jav_names.specs.Types.{full_name, IsClassNamed, NoClassNamed, Header, IsImport, NoImport, TypeReading, class_read, imported, written, no_type, ReadsSimple, ReadsType}
use Rattle.jav_names.specs.Views.{ViewClass, Classes, AreOrdered}
use Rattle.jav_names.proofs.Lists.{Decides-fails, find-none, find-holds_of_none, find-least, least-find}
use Rattle.jav_names.proofs.Places.{find-first, first-find}

-- ---- the choices

module _ {C : Type 0} (classes : Classes C) (ordered : AreOrdered classes) (name : Name) where
  pub class_named-is : (class : ViewClass C) → class_named classes name ≡ Some class → IsClassNamed classes name class
  class_named-is class is =
      find-least classes.cmp (λ c. c.key) ordered.order (λ c. full_name c ≡ name) (λ c. bytes_eq (full_name c) name)
      (λ c. bytes_eq-Decides (full_name c) name)
      classes.items class ordered.ascending is

  pub is-class_named : (class : ViewClass C) → IsClassNamed classes name class → class_named classes name ≡ Some class
  is-class_named class is =
      least-find classes.cmp (λ c. c.key) ordered.order (λ c. full_name c ≡ name) (λ c. bytes_eq (full_name c) name)
      (λ c. bytes_eq-Decides (full_name c) name)
      classes.items class ordered.ascending is

pub class_named-none : {C : Type 0} (classes : Classes C) (name : Name) → class_named classes name ≡ None → NoClassNamed classes name
class_named-none classes name =
    find-none (λ c. full_name c ≡ name) (λ c. bytes_eq (full_name c) name) (λ c. bytes_eq-Decides (full_name c) name) classes.items

pub none-class_named : {C : Type 0} (classes : Classes C) (name : Name) → NoClassNamed classes name → class_named classes name ≡ None
none-class_named classes name =
    find-holds_of_none (λ c. full_name c ≡ name) (λ c. bytes_eq (full_name c) name) (λ c. bytes_eq-Decides (full_name c) name) classes.items

module _ (imports : Names) (name : Name) where
  pub import_of-is : (full : Name) → import_of imports name ≡ Some full → (place : ℕ) × IsImport imports name place full
  import_of-is =
      find-first (λ q. simple_name q ≡ name) (λ q. bytes_eq (simple_name q) name) (λ q. bytes_eq-Decides (simple_name q) name) imports

  pub is-import_of : (place : ℕ) (full : Name) → IsImport imports name place full → import_of imports name ≡ Some full
  is-import_of =
      first-find (λ q. simple_name q ≡ name) (λ q. bytes_eq (simple_name q) name) (λ q. bytes_eq-Decides (simple_name q) name) imports

  pub import_of-none : import_of imports name ≡ None → NoImport imports name
  import_of-none =
      find-none (λ q. simple_name q ≡ name) (λ q. bytes_eq (simple_name q) name) (λ q. bytes_eq-Decides (simple_name q) name) imports

  pub none-import_of : NoImport imports name → import_of imports name ≡ None
  none-import_of = find-holds_of_none (λ q. simple_name q ≡ name) (λ q. bytes_eq (simple_name q) name)
      (λ q. bytes_eq-Decides (simple_name q) name) imports

module _ {C : Type 0} (name : Name) where
  pub own_named-is : (own : Option (ViewClass C)) (class : ViewClass C) → own_named own name ≡ Some class
      → (own ≡ Some class) × (class.name ≡ name)
  own_named-is None class is = absurd cc
  own_named-is (Some own) class is = by_test (bytes_eq own.name name) refl is where
    by_test : (b : Bool) → bytes_eq own.name name ≡ b → cond b (Some own) None ≡ Some class → (Some own ≡ Some class) × (class.name ≡ name)
    by_test true same is =
        (is, subst (λ (c : ViewClass C). c.name ≡ name) (let at : own ≡ class = cc in at) ((bytes_eq-Decides own.name name).0 same))
    by_test false differs is = absurd cc

  pub is-own_named : (own : Option (ViewClass C)) (class : ViewClass C) → own ≡ Some class → class.name ≡ name
      → own_named own name ≡ Some class
  is-own_named own class is named = ap (λ o. own_named o name) is ∙ (rw ((bytes_eq-Decides class.name name).1 named) refl)

  pub own_named-none : (own : Option (ViewClass C)) → own_named own name ≡ None → (class : ViewClass C) → own ≡ Some class
      → class.name ≢ name
  own_named-none own is class has named = absurd (none_some (sym is ∙ is-own_named own class has named)) where
    none_some : {X : Type 0} {x : X} → None ≡ Some x → ⊥
    none_some e = absurd cc

  pub none-own_named : (own : Option (ViewClass C)) → ((class : ViewClass C) → own ≡ Some class → class.name ≢ name)
      → own_named own name ≡ None
  none-own_named None not = refl
  none-own_named (Some own) not = rw (Decides-fails (bytes_eq-Decides own.name name) (not own refl)) refl

-- ---- simple names

module _ {C : Type 0} (classes : Classes C) (ordered : AreOrdered classes) (header : Header C) (name : Name) where
  by_import : (full : Name) → import_of header.imports name ≡ Some full → (o : Option (ViewClass C)) → class_named classes full ≡ o
      → ReadsSimple classes header name (class_or_imported o full)
  by_import full is None none = ReadsSimple.import_outside (import_of-is header.imports name full is).1 (class_named-none classes full none)
  by_import full is (Some class) has =
      ReadsSimple.import_class (import_of-is header.imports name full is).1 (class_named-is classes ordered full class has)

  by_package : import_of header.imports name ≡ None → own_named header.own name ≡ None → (o : Option (ViewClass C))
      → class_named classes (joined header.«package» (name ∷ [])) ≡ o → ReadsSimple classes header name (class_or_written o name)
  by_package no_import not_own None none =
      ReadsSimple.as_written (import_of-none header.imports name no_import) (own_named-none name header.own not_own)
      (class_named-none classes _ none)
  by_package no_import not_own (Some class) has =
      ReadsSimple.in_package (import_of-none header.imports name no_import) (own_named-none name header.own not_own)
      (class_named-is classes ordered _ class has)

  by_own : import_of header.imports name ≡ None → (o : Option (ViewClass C)) → own_named header.own name ≡ o
      → ReadsSimple classes header name (own_or_near classes header name o)
  by_own no_import None not_own = by_package no_import not_own _ refl
  by_own no_import (Some own) is =
      ReadsSimple.own_class (import_of-none header.imports name no_import) (own_named-is name header.own own is).0
      (own_named-is name header.own own is).1

  reads : (o : Option Name) → import_of header.imports name ≡ o → ReadsSimple classes header name (simple_by_import classes header name o)
  reads None is = by_own is _ refl
  reads (Some full) is = by_import full is _ refl

  only : (reading : TypeReading C) → ReadsSimple classes header name reading → reading ≡ simple_type classes header name
  only reading (ReadsSimple.import_class {place = place} {import = full} {class = class} import named) =
      rw (is-import_of header.imports name place full import, is-class_named classes ordered full class named) refl
  only reading (ReadsSimple.import_outside {place = place} {import = full} import none) =
      rw (is-import_of header.imports name place full import, none-class_named classes full none) refl
  only reading (ReadsSimple.own_class {class = class} no_import is named) =
      rw (none-import_of header.imports name no_import, is-own_named name header.own class is named) refl
  only reading (ReadsSimple.in_package {class = class} no_import not_own named) =
      rw (
        none-import_of header.imports name no_import,
        none-own_named name header.own not_own,
        is-class_named classes ordered _ class named,
      ) refl
  only reading (ReadsSimple.as_written no_import not_own none) =
      rw (none-import_of header.imports name no_import, none-own_named name header.own not_own, none-class_named classes _ none) refl

  pub simple-answered : IsTheAnswer (ReadsSimple classes header name) (simple_type classes header name)
  simple-answered = record { holds = reads _ refl; only = only }

-- ---- names with dots

module _ {C : Type 0} (classes : Classes C) (ordered : AreOrdered classes) (header : Header C) (first : Name) where
  by_whole : (text next : Name) (rest : Names) → ReadsSimple classes header first (written text) → (o : Option (ViewClass C))
      → class_named classes (joined first (next ∷ rest)) ≡ o
      → ReadsType classes header first (next ∷ rest) (class_or_written o (joined first (next ∷ rest)))
  by_whole text next rest (ReadsSimple.as_written no_import not_own none) None missing =
      ReadsType.whole_written (ReadsSimple.as_written no_import not_own none) (class_named-none classes _ missing)
  by_whole text next rest (ReadsSimple.as_written no_import not_own none) (Some class) has =
      ReadsType.whole_class (ReadsSimple.as_written no_import not_own none) (class_named-is classes ordered _ class has)

  reads_more : (next : Name) (rest : Names) (reading : TypeReading C) → ReadsSimple classes header first reading
      → ReadsType classes header first (next ∷ rest) (with_more classes first next rest reading)
  reads_more next rest (class_read class) r = ReadsType.in_class r
  reads_more next rest (imported full []) r = ReadsType.in_import r
  reads_more next rest (imported full (b ∷ bs)) r = elim r [ ]
  reads_more next rest (written text) r = by_whole text next rest r _ refl
  reads_more next rest no_type r = elim r [ ]

  only_more : (next : Name) (rest : Names) (reading : TypeReading C) → ReadsType classes header first (next ∷ rest) reading
      → reading ≡ with_more classes first next rest (simple_type classes header first)
  only_more next rest reading (ReadsType.in_import r) = rw (sym ((simple-answered classes ordered header first).only _ r)) refl
  only_more next rest reading (ReadsType.in_class r) = rw (sym ((simple-answered classes ordered header first).only _ r)) refl
  only_more next rest reading (ReadsType.whole_class {class = class} r named) =
      rw (sym ((simple-answered classes ordered header first).only _ r), is-class_named classes ordered _ class named) refl
  only_more next rest reading (ReadsType.whole_written r none) =
      rw (sym ((simple-answered classes ordered header first).only _ r), none-class_named classes _ none) refl

  pub type-answered : (rest : Names) → IsTheAnswer (ReadsType classes header first rest) (type_named classes header first rest)
  type-answered [] = record { holds = ReadsType.simple (simple-answered classes ordered header first).holds; only = only_simple } where
    only_simple : (reading : TypeReading C) → ReadsType classes header first [] reading → reading ≡ simple_type classes header first
    only_simple reading (ReadsType.simple r) = (simple-answered classes ordered header first).only reading r
  type-answered (next ∷ rest) = record {
    holds = reads_more next rest _ (simple-answered classes ordered header first).holds;
    only = only_more next rest;
  }
