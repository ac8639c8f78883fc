-- What the names of files use, as it is kept.
use Rattle.std.proofs.Common.{◌≡◌, ◌∙◌, ◌⊎◌, ◌&&◌, ◌∷◌, [], Bool, true, false, cond, if◌then◌else◌, List, Option, Some, None, Contains, IsTrue, is_some, refl, sym, ap, subst, inl, inr, true≢false, arith}
use Rattle.std.proofs.lemmas.Option.{cond_some, none-some}
use Rattle.std.specs.Map.{lookup}
use Rattle.std.specs.FinMap.{get}
use Rattle.jav_names.proofs.Lists.{stands_where}
use Rattle.mol_base.specs.declared.ident.Id.{Id}
use Rattle.mol_spell_names.specs.program_index.KeptUses.{AreUses, AreUsesBut, PutsUses, living_uses}
use Rattle.mol_spell_rules.specs.SimpleNames.{uses_in}
use Rattle.mol_spell_rules.specs.Writers.{Use}
use Rattle.mol_table_rules.proofs.Living.{id_tied, same_id-own}
use Rattle.mol_table_rules.specs.Identities.{AreKnown}
use Rattle.mol_table_rules.specs.Program.{Program, living_at}
use Rattle.mol_table_rules.specs.Renumber.{is_class, is_living_class}
use Rattle.mol_values_types.proofs.Ties.{id_ties}
use Rattle.mol_values_types.specs.Order.{id_eq}
use Rattle.mol_values_types.specs.declared.known.Known.{Known}

-- # One more identity is asked

own : (id : Id) → id_eq id id ≡ true
own id = id_ties id id ∙ same_id-own id

tied : (x y : Id) → id_eq x y ≡ true → x ≡ y
tied x y same = id_tied x y (sym (id_ties x y) ∙ same)

uses-by : (program : Program) (class : Id) (lives : Bool) → is_living_class program class ≡ lives
    → living_uses program class ≡ (if lives then Some (uses_in program class) else None)
uses-by program class lives is = ap (λ b. if b then Some (uses_in program class) else None) is

module _ (program : Program) (class : Id) (rest : List Id) (old : List (Id × List Use)) (before : AreUsesBut program (class ∷ rest) old) where
  -- a class that lives, whose uses are put there
  pub living-kept : (new : List (Id × List Use)) → is_living_class program class ≡ true → PutsUses program class old new
      → AreUsesBut program rest new
  living-kept new lives puts = λ asked. by asked (id_eq class asked) refl (before asked) where
    at : (asked : Id) (same : Bool) → id_eq class asked ≡ same
        → lookup (id_eq asked) new ≡ cond same (Some (uses_in program class)) (lookup (id_eq asked) old)
    at asked same is = puts asked ∙ ap (λ b. cond b (Some (uses_in program class)) (lookup (id_eq asked) old)) is

    later : (asked : Id) → id_eq class asked ≡ false → lookup (id_eq asked) new ≡ None → (class ≡ asked) ⊎ Contains rest asked
        → (lookup (id_eq asked) new ≡ living_uses program asked) ⊎ ((lookup (id_eq asked) new ≡ None) × Contains rest asked)
    later asked apart none (inl is) = absurd (true≢false (sym (own class) ∙ ap (id_eq class) is ∙ apart))
    later asked apart none (inr stands) = inr (none, stands)

    by : (asked : Id) (same : Bool) → id_eq class asked ≡ same
        → (lookup (id_eq asked) old ≡ living_uses program asked) ⊎ ((lookup (id_eq asked) old ≡ None) × Contains (class ∷ rest) asked)
        → (lookup (id_eq asked) new ≡ living_uses program asked) ⊎ ((lookup (id_eq asked) new ≡ None) × Contains rest asked)
    by asked true same or = inl (at asked true same ∙ subst (λ (id : Id). Some (uses_in program class) ≡ living_uses program id)
        (tied class asked same) (sym (uses-by program class true lives)))
    by asked false apart (inl is) = inl (at asked false apart ∙ is)
    by asked false apart (inr none) = later asked apart (at asked false apart ∙ none.0) (stands_where class asked rest none.1)

  -- another identity
  pub other-kept : is_living_class program class ≡ false → AreUsesBut program rest old
  other-kept dead = λ asked. by asked (before asked) where
    later : (asked : Id) → lookup (id_eq asked) old ≡ None → (class ≡ asked) ⊎ Contains rest asked
        → (lookup (id_eq asked) old ≡ living_uses program asked) ⊎ ((lookup (id_eq asked) old ≡ None) × Contains rest asked)
    later asked none (inl is) = inl (none ∙ sym (uses-by program asked false (subst (λ (id : Id). is_living_class program id ≡ false) is dead)))
    later asked none (inr stands) = inr (none, stands)

    by : (asked : Id)
        → (lookup (id_eq asked) old ≡ living_uses program asked) ⊎ ((lookup (id_eq asked) old ≡ None) × Contains (class ∷ rest) asked)
        → (lookup (id_eq asked) old ≡ living_uses program asked) ⊎ ((lookup (id_eq asked) old ≡ None) × Contains rest asked)
    by asked (inl is) = inl is
    by asked (inr none) = later asked none.0 (stands_where class asked rest none.1)

-- # At the beginning and at the end

living-known : (known : Option Known) (lives : Bool) → (is_class known && lives) ≡ true → IsTrue (is_some known)
living-known (Some known) lives is = refl
living-known None lives is = absurd (true≢false (sym is))

-- nothing stands anywhere, and each class that lives is among the identities that are known
pub none-kept : (program : Program) (ids : List Id) (kept : List (Id × List Use)) → AreKnown program ids → kept ≡ []
    → AreUsesBut program ids kept
none-kept program ids kept known empty = λ class. by class (is_living_class program class) refl where
  none : (class : Id) → lookup (id_eq class) kept ≡ None
  none class = ap (lookup (id_eq class)) empty

  by : (class : Id) (lives : Bool) → is_living_class program class ≡ lives
      → (lookup (id_eq class) kept ≡ living_uses program class) ⊎ ((lookup (id_eq class) kept ≡ None) × Contains ids class)
  by class true lives = inr (none class, (known class).1 (living-known (get program.known class) (living_at program class) lives))
  by class false dead = inl (none class ∙ sym (uses-by program class false dead))

-- no identity is left
pub all-kept : (program : Program) (kept : List (Id × List Use)) → AreUsesBut program [] kept → AreUses program kept
all-kept program kept are = λ class. by class (are class) where
  by : (class : Id) → (lookup (id_eq class) kept ≡ living_uses program class) ⊎ ((lookup (id_eq class) kept ≡ None) × Contains [] class)
      → lookup (id_eq class) kept ≡ living_uses program class
  by class (inl is) = is
  by class (inr none) = let below = none.1.1 in absurd (omega arith)

-- # What is found

-- something is found at a class that lives: what its file uses
pub found-lives : (program : Program) (class : Id) (uses : List Use) → Some uses ≡ living_uses program class
    → (is_living_class program class ≡ true) × (uses ≡ uses_in program class)
found-lives program class uses is =
    let both = cond_some (is_living_class program class) (uses_in program class) uses (sym is) in
    (both.0, sym both.1)

-- nothing is found at what is no class that lives
pub missed-dead : (program : Program) (class : Id) → None ≡ living_uses program class → is_living_class program class ≡ false
missed-dead program class is = by (is_living_class program class) refl where
  by : (lives : Bool) → is_living_class program class ≡ lives → is_living_class program class ≡ false
  by true lives = absurd (none-some (uses_in program class) (is ∙ uses-by program class true lives))
  by false dead = dead
