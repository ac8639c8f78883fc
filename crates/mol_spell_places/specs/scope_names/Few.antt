-- Names that are gone through.
use Rattle.std.specs.Prelude.{◌≡◌, ℕ, ◌<◌, List, [], length, map}
use Rattle.std.specs.Borrow.{Bor}
use Rattle.jav_names.specs.DottedNames.{Name, Names}

-- so many are
abbrev pub few : ℕ
few = 8

abbrev pub names_of : List (Bor Name) → Names
names_of names = map (λ (name : Bor Name). name.now) names

-- More names follow only where a few are there.
abbrev pub AreFewFirst : List (Bor Name) → Names → Type 0
AreFewFirst first more = length first < few → more ≡ []
