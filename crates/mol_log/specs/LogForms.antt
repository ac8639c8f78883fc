-- Which logs there may be: what the type of a log keeps, beside what each entry keeps.
use Rattle.std.specs.Prelude.{◌≡◌, ◌≤◌, ℕ, true, List, [], ◌∷◌, length}
use Rattle.mol_base.specs.Limits.{most}
use Rattle.mol_base.specs.declared.ident.Stamp.{Stamp}
use Rattle.mol_base.specs.declared.limit.Which.TheVariants.{Operations}
use Rattle.mol_log_rows.specs.lines.Headers.{are_tags}
use Rattle.mol_log_rows.specs.lines.Stamps.{may_follow}
use Rattle.mol_log.specs.declared.entries.entry.Entry.{Entry}

-- each entry may follow those before it: its tag is listed, and its number is greater than the last one of that tag
abbrev pub Follow : List (List ℕ) → List Stamp → List Entry → Type 0
Follow tags earlier [] = Unit {0}
Follow tags earlier (entry ∷ entries) = (may_follow tags earlier entry.stamp ≡ true) × Follow tags (entry.stamp ∷ earlier) entries

pub record IsLog (tags : List (List ℕ)) (entries : List Entry) : Type 0 where
  pub tagged : are_tags tags ≡ true
  pub few : length entries ≤ most Operations
  pub follow : Follow tags [] entries
