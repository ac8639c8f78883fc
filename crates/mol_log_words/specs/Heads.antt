-- Words that stand for one of several things.
use Rattle.std.specs.Prelude.{List, [], ◌∷◌, Option, Some, None, if◌then◌else◌}
use Rattle.std.specs.Str.{bytes_eq}
use Rattle.mol_log_words.specs.Words.{Word}

-- which of these things the word spells
abbrev pub named : {H : Type 0} → (H → Word) → List H → Word → Option H
named spelled [] word = None
named spelled (h ∷ hs) word = if bytes_eq word (spelled h) then Some h else named spelled hs word

-- the first thing that is there
abbrev pub or_else : {H : Type 0} → Option H → Option H → Option H
or_else (Some h) next = Some h
or_else None next = next
