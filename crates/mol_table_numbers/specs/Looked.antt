-- What the code has looked up before it ranks and renames: the numbers of classes, the topmost declarations, the new identities.
use Rattle.std.specs.Prelude.{◌≡◌, ℕ, true, cond, List, Option, None, Some}
use Rattle.std.specs.FinMap.{entries, from_entries, get}
use Rattle.std.specs.List.{filter_map, list_any}
use Rattle.mol_base.specs.declared.ident.Id.{Id}
use Rattle.mol_table_rules.specs.Counting.{Counts}
use Rattle.mol_table_rules.specs.Life.{lives}
use Rattle.mol_table_rules.specs.Program.{Program, same_id}
use Rattle.mol_values.specs.Renaming.{names_of, number_in}
use Rattle.mol_table_rules.specs.Renumber.{Rank, owner_number, topmost, number, base_id, numbered}
use Rattle.mol_table_numbers.specs.Tops.{top_in}
use Rattle.mol_table_numbers.specs.declared.rank.Rank as found
use Rattle.mol_table_numbers.specs.declared.tops.Top.{Top}

-- the entries have the number of each class that lives, and of nothing else
abbrev pub HasClasses : Program → List (Id × Id) → Type 0
HasClasses program classes = (id : Id) → number_in classes id ≡ owner_number program (Some id)

-- they have the topmost declaration of each method
abbrev pub HasTops : Program → List (Id × Top) → Type 0
HasTops program tops = (method : Id) → top_in tops method ≡ topmost program method

-- the rank that the code has
abbrev pub rank_of : found.Rank → Rank
rank_of rank = record { part = rank.part; class = rank.class; printed = rank.printed; place = rank.place; own = rank.own }

-- they have the new identity of all that lives, and no two of these are one
pub record HasNames (program : Program) (names : List (Id × Id)) : Type 0 where
  pub at : (id : Id) → get (names_of names) id ≡ cond (lives program id) (Some (base_id (number program id))) None
  pub apart : (first second : Id) → lives program first ≡ true → lives program second ≡ true → numbered program first ≡ numbered program second → first ≡ second

-- the list has all that lives, and nothing else
abbrev pub HasLiving : Program → List Id → Type 0
HasLiving program ids = (id : Id) → list_any (same_id id) ids ≡ lives program id

abbrev pub renumber_count : Program → Id × ℕ → Option (Id × ℕ)
renumber_count program entry = cond (lives program entry.0) (Some (numbered program entry.0, entry.1)) None

-- numbers of living declarations, under the new identities of their methods
abbrev pub renumbered_counts : Program → Counts → Counts
renumbered_counts program counts = from_entries (filter_map (renumber_count program) (entries counts))
