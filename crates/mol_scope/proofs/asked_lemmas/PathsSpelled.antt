-- Whether names spell a class does not depend on the names that follow them.
use Rattle.std.proofs.Common.{◌≡◌, ◌≢◌, ◌⊎◌, inl, inr, ℕ, suc, ◌==◌, Bool, true, false, cond, [], ◌∷◌, ◌++◌, length, Option, Some, None, option_map, refl, sym, ◌∙◌, ap, arith}
use Rattle.std.proofs.lemmas.Bool.Decides.{eqb_tells}
use Rattle.std.specs.Prelude.{nat_lt}
use Rattle.jav_names.specs.DottedNames.{Name, Names, dot}
use Rattle.jav_names.specs.Leftmost.{Leftmost as Read, leftmost_class}
use Rattle.jav_names.specs.LookUps.{class_named, class_or_outside, fewest, here_or, leftmost, leftmost_type, simple_type, variable, variable_or}
use Rattle.jav_names.specs.Types.{TypeReading, class_read, imported, written, no_type}
use Rattle.jav_names.specs.Variables.{Place, Variable as VariableRead}
use Rattle.jav_names.specs.Views.{ViewClass, Classes, View, Found as Result, found, outside, not_found}
use Rattle.mol_scope.specs.asked.Answers.{whole_class}
use Rattle.mol_base.specs.declared.ident.Id.{Id}
use Rattle.mol_resolve_rules.specs.ReadTrees.{whole_path, front_path, no_path, path_by}

-- the class that so many names spell
abbrev pub spelled_by : ℕ → Read Id Id → Option Id
spelled_by count read = whole_class (path_by count read)

-- a class whose spelling has so many names, or not
abbrev chosen : Bool → Bool → Id → Option Id
chosen same further class = whole_class (cond same (whole_path class) (cond further front_path no_path))

chosen-is : (same further : Bool) (class : Id) → chosen same further class ≡ cond same (Some class) None
chosen-is true further class = refl
chosen-is false true class = refl
chosen-is false false class = refl

spelled-class : (count spelling : ℕ) (class : Id)
    → cond (spelling == count) (Some class) None ≡ spelled_by count (leftmost_class class spelling)
spelled-class count spelling class = sym (chosen-is (spelling == count) (nat_lt count spelling) class)

pub spelled-so : (count spelling : ℕ) (class : Id) → spelling ≡ count → Some class ≡ spelled_by count (leftmost_class class spelling)
spelled-so count spelling class is = by (eqb_tells spelling count) where
  by : (((spelling == count) ≡ true) × (spelling ≡ count)) ⊎ (((spelling == count) ≡ false) × (spelling ≢ count))
      → Some class ≡ spelled_by count (leftmost_class class spelling)
  by (inl same) = ap (λ b. cond b (Some class) None) (sym same.0) ∙ spelled-class count spelling class
  by (inr apart) = absurd (apart.1 is)

pub spelled-else : (count spelling : ℕ) (class : Id) → spelling ≢ count → None ≡ spelled_by count (leftmost_class class spelling)
spelled-else count spelling class differs = by (eqb_tells spelling count) where
  by : (((spelling == count) ≡ true) × (spelling ≡ count)) ⊎ (((spelling == count) ≡ false) × (spelling ≢ count))
      → None ≡ spelled_by count (leftmost_class class spelling)
  by (inl same) = absurd (differs same.1)
  by (inr apart) = ap (λ b. cond b (Some class) None) (sym apart.0) ∙ spelled-class count spelling class

equal-further : (a b : ℕ) → (suc a == suc b) ≡ (a == b)
equal-further a b = by (eqb_tells (suc a) (suc b)) (eqb_tells a b) where
  by : (((suc a == suc b) ≡ true) × (suc a ≡ suc b)) ⊎ (((suc a == suc b) ≡ false) × (suc a ≢ suc b))
      → (((a == b) ≡ true) × (a ≡ b)) ⊎ (((a == b) ≡ false) × (a ≢ b)) → (suc a == suc b) ≡ (a == b)
  by (inl further) (inl near) = further.0 ∙ sym near.0
  by (inl further) (inr near) = absurd (near.1 (omega (arith, further.1)))
  by (inr further) (inl near) = absurd (further.1 (ap (λ n. suc n) near.1))
  by (inr further) (inr near) = further.0 ∙ sym near.0

apart : (a : ℕ) → false ≡ (suc (suc a) == 1)
apart a = by (eqb_tells (suc (suc a)) 1) where
  by : (((suc (suc a) == 1) ≡ true) × (suc (suc a) ≡ 1)) ⊎ (((suc (suc a) == 1) ≡ false) × (suc (suc a) ≢ 1))
      → false ≡ (suc (suc a) == 1)
  by (inl same) = absurd (omega (arith, same.1))
  by (inr differs) = sym differs.0

module _ (classes : Classes Id) where
  -- what so many names spell, by the fewest of them that do
  abbrev by_fewest : ℕ → Option (Id × ℕ) → Option Id
  by_fewest count fewest = spelled_by count (class_or_outside {M = Id} fewest)

  one-more : (count : ℕ) (o : Option (Id × ℕ))
      → by_fewest (suc count) (option_map (λ (class : Id × ℕ). (class.0, suc class.1)) o) ≡ by_fewest count o
  one-more count None = refl
  one-more count (Some class) = sym (spelled-class (suc count) (suc (suc class.1)) class.0)
      ∙ ap (λ b. cond b (Some class.0) None) (equal-further (suc class.1) count) ∙ spelled-class count (suc class.1) class.0

  beyond : (o : Option (Id × ℕ)) → None ≡ by_fewest 1 (option_map (λ (class : Id × ℕ). (class.0, suc class.1)) o)
  beyond None = refl
  beyond (Some class) = ap (λ b. cond b (Some class.0) None) (apart class.1) ∙ spelled-class 1 (suc (suc class.1)) class.0

  fewest-before : (text : Name) (rest follow : Names)
      → by_fewest (suc (length rest)) (fewest classes text rest) ≡ by_fewest (suc (length rest)) (fewest classes text (rest ++ follow))
  fewest-before text [] [] = refl
  fewest-before text [] (next ∷ more) = by (class_named classes text) where
    further : Option (Id × ℕ)
    further = fewest classes (text ++ dot ∷ next) more

    by : (o : Option (ViewClass Id)) → by_fewest 1 (here_or o None) ≡ by_fewest 1 (here_or o further)
    by (Some class) = refl
    by None = beyond further
  fewest-before text (next ∷ rest) follow =
      by (class_named classes text) (fewest-before (text ++ dot ∷ next) rest follow) where
        by : (o : Option (ViewClass Id))
            → by_fewest (suc (length rest)) (fewest classes (text ++ dot ∷ next) rest)
            ≡ by_fewest (suc (length rest)) (fewest classes (text ++ dot ∷ next) (rest ++ follow))
            → by_fewest (suc (suc (length rest))) (here_or o (fewest classes (text ++ dot ∷ next) rest))
            ≡ by_fewest (suc (suc (length rest))) (here_or o (fewest classes (text ++ dot ∷ next) (rest ++ follow)))
        by (Some class) more = refl
        by None more = one-more (suc (length rest)) (fewest classes (text ++ dot ∷ next) rest) ∙ more
            ∙ sym (one-more (suc (length rest)) (fewest classes (text ++ dot ∷ next) (rest ++ follow)))

  type-before : (first : Name) (rest follow : Names) (read : TypeReading Id)
      → spelled_by (suc (length rest)) (leftmost_type classes first rest read)
      ≡ spelled_by (suc (length rest)) (leftmost_type classes first (rest ++ follow) read)
  type-before first rest follow (class_read class) = refl
  type-before first rest follow (imported import more) = refl
  type-before first rest follow (written text) = fewest-before first rest follow
  type-before first rest follow no_type = refl

pub spelled-before : (view : View Id Id) (place : Place Id) (first : Name) (rest follow : Names)
    → spelled_by (suc (length rest)) (leftmost view place first rest)
    ≡ spelled_by (suc (length rest)) (leftmost view place first (rest ++ follow))
spelled-before view place first rest follow = by (variable view place first) where
  read : TypeReading Id
  read = simple_type view.classes place.header first

  by : (r : Result (VariableRead Id Id))
      → spelled_by (suc (length rest)) (variable_or r (leftmost_type view.classes first rest read))
      ≡ spelled_by (suc (length rest)) (variable_or r (leftmost_type view.classes first (rest ++ follow) read))
  by (found variable) = refl
  by outside = type-before view.classes first rest follow read
  by not_found = type-before view.classes first rest follow read
