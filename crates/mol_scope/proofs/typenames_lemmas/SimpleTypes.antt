-- What simple names of types read as, step by step.
use Rattle.std.proofs.Common.{◌≡◌, Bool, true, false, cond, ◌&&◌, ◌∷◌, [], Option, Some, None, option_map, refl, sym, ◌∙◌, ap, bytes_eq}
use Rattle.jav_names.specs.DottedNames.{Name, Names, joined}
use Rattle.jav_names.specs.LookUps.{class_named, import_of, own_named, class_or_imported, class_or_written, own_or_near, simple_by_import, simple_type}
use Rattle.jav_names.specs.Types.{Header, class_read, imported, written}
use Rattle.jav_names.specs.Views.{ViewClass, Classes}
use Rattle.mol_base.specs.declared.ident.Id.{Id}
use Rattle.mol_scope_classes.proofs.classes_lemmas.LivingClasses.{class_at-is}
use Rattle.mol_scope_classes.specs.classes.ClassEntries.{class_as}
use Rattle.mol_resolve_rules.specs.ProgramReaders.{class_at, class_header}
use Rattle.mol_resolve_rules.specs.ProgramViews.{program_view}
use Rattle.mol_table_rules.specs.Program.{Program, name_at, package_at}
use Rattle.mol_table_rules.specs.Renumber.{is_living_class}

-- ---- a class by its key, or none

pub imported-class : (o : Option (ViewClass Id)) (key : Id) (import : Name) → Some key ≡ option_map (λ class. class.key) o
    → class_read key ≡ class_or_imported o import
imported-class None key import is = absurd cc
imported-class (Some class) key import is = ap (λ k. class_read k) (let same : key ≡ class.key = cc in same)

pub imported-outside : (o : Option (ViewClass Id)) (import : Name) → None ≡ option_map (λ class. class.key) o
    → imported import [] ≡ class_or_imported o import
imported-outside None import is = refl
imported-outside (Some class) import is = absurd cc

pub written-class : (o : Option (ViewClass Id)) (key : Id) (text : Name) → Some key ≡ option_map (λ class. class.key) o
    → class_read key ≡ class_or_written o text
written-class None key text is = absurd cc
written-class (Some class) key text is = ap (λ k. class_read k) (let same : key ≡ class.key = cc in same)

pub written-outside : (o : Option (ViewClass Id)) (text : Name) → None ≡ option_map (λ class. class.key) o
    → written text ≡ class_or_written o text
written-outside None text is = refl
written-outside (Some class) text is = absurd cc

-- ---- a simple name

module _ (program : Program) (class : Id) (imports : Names) (name : Name) where
  abbrev classes : Classes Id
  classes = (program_view program).classes

  abbrev header : Header Id
  header = class_header program class imports

  abbrev is_own : Bool
  is_own = is_living_class program class && bytes_eq (name_at program class) name

  pub simple-imported : (import : Name) → Some import ≡ import_of imports name
      → class_or_imported (class_named classes import) import ≡ simple_type classes header name
  simple-imported import is = ap (λ (found : Option Name). simple_by_import classes header name found) is

  own-named : own_named (class_at program class) name ≡ cond is_own (Some (class_as program class)) None
  own-named = ap (λ (own : Option (ViewClass Id)). own_named own name) (class_at-is program class)
      ∙ by (is_living_class program class) where
        by : (lives : Bool) → own_named (cond lives (Some (class_as program class)) None) name
            ≡ cond (lives && bytes_eq (name_at program class) name) (Some (class_as program class)) None
        by true = refl
        by false = refl

  module _ (no_import : None ≡ import_of imports name) where
    by_own : (b : Bool) → is_own ≡ b
        → own_or_near classes header name (cond b (Some (class_as program class)) None) ≡ simple_type classes header name
    by_own b is = ap (own_or_near classes header name) (sym (own-named ∙ ap (λ own. cond own (Some (class_as program class)) None) is))
        ∙ ap (λ (found : Option Name). simple_by_import classes header name found) no_import

    pub simple-own : is_own ≡ true → class_read class ≡ simple_type classes header name
    simple-own is = by_own true is

    pub simple-near : is_own ≡ false
        → class_or_written (class_named classes (joined (package_at program class) (name ∷ []))) name ≡ simple_type classes header name
    simple-near is = by_own false is
