-- The first of several names that is no variable and begins the name of no class: an import, or outside as it is written.
use Rattle.std.proofs.Common.{◌≡◌, ◌∙◌, ℕ, [], ◌∷◌, Option, Some, None, refl, sym, ap}
use Rattle.jav_names.specs.DottedNames.{Name, Names, joined}
use Rattle.jav_names.specs.Leftmost.{Leftmost, leftmost_import, leftmost_outside}
use Rattle.jav_names.specs.LookUps.{class_named, class_or_imported, class_or_outside, class_or_written, fewest, import_of, leftmost_type, own_named, own_or_near, simple_by_import, simple_type}
use Rattle.jav_names.specs.Types.{Header, TypeReading}
use Rattle.jav_names.specs.UnitViews.{MemberKey}
use Rattle.jav_names.specs.Views.{Classes, ViewClass}
use Rattle.mol_resolve_readings.specs.reads.Chains.{chain_by}
use Rattle.mol_resolve_readings.specs.declared.reads.chain.Chain.TheVariants as chain

module _ (classes : Classes ℕ) (header : Header ℕ) (first : Name) (follow : Names) where
  abbrev begins : TypeReading ℕ → Leftmost ℕ MemberKey
  begins read = leftmost_type classes first follow read

  abbrev pub first_read : Leftmost ℕ MemberKey
  first_read = begins (simple_type classes header first)

  pub import-first : (import : Name) → Some import ≡ import_of header.imports first → chain_by 1 first_read ≡ chain.NoClass
      → first_read ≡ leftmost_import import
  import-first import is none = read ∙ by (class_named classes import) (sym (ap (chain_by 1) read) ∙ none) where
    read : first_read ≡ begins (class_or_imported (class_named classes import) import)
    read = ap (λ found. begins (simple_by_import classes header first found)) (sym is)

    by : (class : Option (ViewClass ℕ)) → chain_by 1 (begins (class_or_imported class import)) ≡ chain.NoClass
        → begins (class_or_imported class import) ≡ leftmost_import import
    by None none = refl
    by (Some class) none = absurd cc

  pub written-first : None ≡ import_of header.imports first → chain_by 1 first_read ≡ chain.NoClass → first_read ≡ leftmost_outside
  written-first is none = read ∙ by_own (own_named header.own first) (sym (ap (chain_by 1) read) ∙ none) where
    read : first_read ≡ begins (own_or_near classes header first (own_named header.own first))
    read = ap (λ found. begins (simple_by_import classes header first found)) (sym is)

    by_fewest : (class : Option (ℕ × ℕ)) → chain_by 1 (class_or_outside {M = MemberKey} class) ≡ chain.NoClass
        → class_or_outside {M = MemberKey} class ≡ leftmost_outside
    by_fewest None none = refl
    by_fewest (Some class) none = absurd cc

    by_near : (class : Option (ViewClass ℕ)) → chain_by 1 (begins (class_or_written class first)) ≡ chain.NoClass
        → begins (class_or_written class first) ≡ leftmost_outside
    by_near None none = by_fewest (fewest classes first follow) none
    by_near (Some class) none = absurd cc

    by_own : (own : Option (ViewClass ℕ)) → chain_by 1 (begins (own_or_near classes header first own)) ≡ chain.NoClass
        → begins (own_or_near classes header first own) ≡ leftmost_outside
    by_own None none = by_near (class_named classes (joined header.«package» (first ∷ []))) none
    by_own (Some own) none = absurd cc
