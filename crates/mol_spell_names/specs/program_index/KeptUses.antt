-- What the names of files use, as it is kept: at the classes of the files.
use Rattle.std.specs.Prelude.{◌≡◌, ◌⊎◌, ◌∷◌, cond, if◌then◌else◌, List, Option, Some, None}
use Rattle.std.specs.List.{Contains}
use Rattle.std.specs.Map.{lookup}
use Rattle.mol_base.specs.declared.ident.Id.{Id}
use Rattle.mol_spell_rules.specs.SimpleNames.{uses_in}
use Rattle.mol_spell_rules.specs.Writers.{Use}
use Rattle.mol_table_rules.specs.Program.{Program}
use Rattle.mol_table_rules.specs.Renumber.{is_living_class}
use Rattle.mol_values_types.specs.Order.{id_eq}

-- what the names in the file of a class use, where the class lives
abbrev pub living_uses : Program → Id → Option (List Use)
living_uses program class = if is_living_class program class then Some (uses_in program class) else None

-- at each class that lives stands what the names of its file use, and nothing elsewhere
abbrev pub AreUses : Program → List (Id × List Use) → Type 0
AreUses program kept = (class : Id) → lookup (id_eq class) kept ≡ living_uses program class

-- so it is, but at some of these identities nothing may stand yet
abbrev pub AreUsesBut : Program → List Id → List (Id × List Use) → Type 0
AreUsesBut program rest kept = (class : Id)
    → (lookup (id_eq class) kept ≡ living_uses program class) ⊎ ((lookup (id_eq class) kept ≡ None) × Contains rest class)

-- what the names in the file of a class use is put at the class, and all else stays
abbrev pub PutsUses : Program → Id → List (Id × List Use) → List (Id × List Use) → Type 0
PutsUses program class old new = (asked : Id)
    → lookup (id_eq asked) new ≡ cond (id_eq class asked) (Some (uses_in program class)) (lookup (id_eq asked) old)

-- one identity more may no longer be without what stands there
abbrev pub KeepsUses : Program → Id → List (Id × List Use) → List (Id × List Use) → Type 0
KeepsUses program id old new = (rest : List Id) → AreUsesBut program (id ∷ rest) old → AreUsesBut program rest new
