use Rattle.std.proofs.Common.{◌≡◌, take}
use Rattle.jav_names.specs.LookUps.{last_place}
use Rattle.mol_spell_places.specs.scope_names.Few.{names_of}
use Rattle.mol_spell_places.proofs.scope_names.few.last_of.Given as goal

abbrev pub invariant-loop-place : goal.invariant-loop-place
invariant-loop-place l = l.last ≡ last_place l.name (names_of (take l.place l.names))
