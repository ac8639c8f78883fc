-- Identities and stamps: which bytes spell them.
use Rattle.std.specs.Prelude.{ℕ, List, ◌∷◌, ◌++◌}
use Rattle.std.specs.Fmt.{decimal}
use Rattle.mol_base.specs.declared.ident.Id.{Id}
use Rattle.mol_base.specs.declared.ident.Stamp.{Stamp}
use Rattle.mol_base.specs.Number.{IsNumber}
use Rattle.mol_base.specs.Tag.{IsTag, IsTagOrBase}

-- an identity has a tag, or none as those of a base, and a number
abbrev pub IsId : Id → Type 0
IsId id = IsTagOrBase id.tag × IsNumber id.num

-- a stamp has a tag and a number
abbrev pub IsStamp : Stamp → Type 0
IsStamp stamp = IsTag stamp.tag × IsNumber stamp.seq

-- an identity is written as its tag, `:` and its number
abbrev pub spelled_id : Id → List ℕ
spelled_id id = id.tag ++ 58 ∷ decimal id.num

-- a stamp is written as its tag, `@` and its number
abbrev pub spelled_stamp : Stamp → List ℕ
spelled_stamp stamp = stamp.tag ++ 64 ∷ decimal stamp.seq
