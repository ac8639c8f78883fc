-- Places at names, as a map has them.
use Rattle.std.specs.Prelude.{ℕ, List, Option}
use Rattle.std.specs.Borrow.{Bor}
use Rattle.std.specs.Map.{lookup}
use Rattle.std.specs.Option.{option_flatten}
use Rattle.std.specs.Str.{bytes_eq}
use Rattle.jav_names.specs.DottedNames.{Name}

-- the entry of a name
abbrev pub entry_at : List (Bor Name × Option ℕ) → Name → Option (Option ℕ)
entry_at entries name = lookup (λ key. bytes_eq name key.now) entries

-- what stands at a name
abbrev pub found_at : List (Bor Name × Option ℕ) → Name → Option ℕ
found_at entries name = option_flatten (entry_at entries name)
