-- In views that are alike names of classes and types read alike.
use Rattle.std.proofs.Common.{◌≡◌, ℕ, Bool, true, false, cond, [], ◌∷◌, ◌++◌, Option, Some, None, option_map, refl, ◌∙◌, ap}
use Rattle.std.specs.Str.{bytes_eq}
use Rattle.jav_names.specs.DottedNames.{Name, Names, dot, joined}
use Rattle.jav_names.specs.LookUps.{class_named, import_of, own_named, class_or_imported, class_or_written, own_or_near, simple_by_import, simple_type, with_more, type_named, here_or, fewest}
use Rattle.jav_names.specs.Types.{Header, TypeReading, class_read, imported, written, no_type}
use Rattle.jav_names.specs.Views.{ViewClass, View}
use Rattle.jav_names_laws.specs.Alike.{ViewsAlike}
use Rattle.jav_names_laws.specs.Keys.{Keys, class_as, header_as, reading_as}

module _ {C M D N : Type 0} (keys : Keys C M D N) (view : View C M) (other : View D N) (alike : ViewsAlike keys view other) where
  own-is : (own : Option (ViewClass C)) (name : Name)
      → option_map (class_as keys.class) (own_named own name) ≡ own_named (option_map (class_as keys.class) own) name
  own-is None name = refl
  own-is (Some class) name = by (bytes_eq class.name name) where
    by : (b : Bool) → option_map (class_as keys.class) (cond b (Some class) None) ≡ cond b (Some (class_as keys.class class)) None
    by true = refl
    by false = refl

  imported-is : (o : Option (ViewClass C)) (import : Name)
      → reading_as keys.class (class_or_imported o import) ≡ class_or_imported (option_map (class_as keys.class) o) import
  imported-is None import = refl
  imported-is (Some class) import = refl

  written-is : (o : Option (ViewClass C)) (text : Name)
      → reading_as keys.class (class_or_written o text) ≡ class_or_written (option_map (class_as keys.class) o) text
  written-is None text = refl
  written-is (Some class) text = refl

  near-is : (header : Header C) (name : Name) (o : Option (ViewClass C)) → reading_as keys.class (own_or_near view.classes header name o)
      ≡ own_or_near other.classes (header_as keys.class header) name (option_map (class_as keys.class) o)
  near-is header name None = written-is (class_named view.classes (joined header.«package» (name ∷ []))) name
      ∙ ap (λ o. class_or_written o name) (alike.classes (joined header.«package» (name ∷ [])))
  near-is header name (Some own) = refl

  by-import : (header : Header C) (name : Name) (o : Option Name) → reading_as keys.class (simple_by_import view.classes header name o)
      ≡ simple_by_import other.classes (header_as keys.class header) name o
  by-import header name None = near-is header name (own_named header.own name)
      ∙ ap (own_or_near other.classes (header_as keys.class header) name) (own-is header.own name)
  by-import header name (Some import) = imported-is (class_named view.classes import) import
      ∙ ap (λ o. class_or_imported o import) (alike.classes import)

  pub simple-is : (header : Header C) (name : Name) → reading_as keys.class (simple_type view.classes header name)
      ≡ simple_type other.classes (header_as keys.class header) name
  simple-is header name = by-import header name (import_of header.imports name)

  more-is : (first next : Name) (rest : Names) (r : TypeReading C) → reading_as keys.class (with_more view.classes first next rest r)
      ≡ with_more other.classes first next rest (reading_as keys.class r)
  more-is first next rest (class_read class) = refl
  more-is first next rest (imported import more) = refl
  more-is first next rest (written text) = written-is (class_named view.classes (joined first (next ∷ rest))) (joined first (next ∷ rest))
      ∙ ap (λ o. class_or_written o (joined first (next ∷ rest))) (alike.classes (joined first (next ∷ rest)))
  more-is first next rest no_type = refl

  pub type-is : (header : Header C) (first : Name) (rest : Names) → reading_as keys.class (type_named view.classes header first rest)
      ≡ type_named other.classes (header_as keys.class header) first rest
  type-is header first [] = simple-is header first
  type-is header first (next ∷ rest) = more-is first next rest (simple_type view.classes header first)
      ∙ ap (with_more other.classes first next rest) (simple-is header first)

  abbrev pub counted : C × ℕ → D × ℕ
  counted class = (keys.class class.0, class.1)

  here-is : (o : Option (ViewClass C)) (further : Option (C × ℕ)) → option_map counted (here_or o further)
      ≡ here_or (option_map (class_as keys.class) o) (option_map counted further)
  here-is (Some class) further = refl
  here-is None None = refl
  here-is None (Some class) = refl

  pub fewest-is : (text : Name) (rest : Names) → option_map counted (fewest view.classes text rest) ≡ fewest other.classes text rest
  fewest-is text [] = here-is (class_named view.classes text) None ∙ ap (λ o. here_or o None) (alike.classes text)
  fewest-is text (next ∷ rest) = here-is (class_named view.classes text) (fewest view.classes (text ++ dot ∷ next) rest)
      ∙ (λ i. here_or (alike.classes text i) (fewest-is (text ++ dot ∷ next) rest i))
