-- The limits of the files of a result.
use Rattle.std.specs.Prelude.{◌<◌, ℕ, ◌+◌, List, [], ◌∷◌, length, map, find, nat_lt, Option, None, Some, option_map, if◌then◌else◌}
use Rattle.std.specs.Option.{option_or}
use Rattle.mol_base.specs.Files.{FilePair}
use Rattle.mol_base.specs.Limits.{most}
use Rattle.mol_base.specs.declared.limit.Which.{Which}
use Rattle.mol_base.specs.declared.limit.Which.TheVariants.{Files, FileBytes, SourceBytes, Height}
use Rattle.mol_spell_files.specs.declared.limits.LimitFault.{LimitFault}

-- the number of a limit is above it
abbrev pub IsAbove : LimitFault → Type 0
IsAbove fault = most fault.which < fault.number

abbrev pub passing : Which → ℕ → LimitFault
passing which number = record { which = which; number = number }

-- the first of these numbers that passes a limit
abbrev pub first_passing : Which → List ℕ → Option LimitFault
first_passing which numbers = option_map (passing which) (find (nat_lt (most which)) numbers)

-- how many bytes each of these texts has
abbrev pub sizes : List FilePair → List ℕ
sizes texts = map (λ (text : FilePair). length text.1) texts

-- they are more than the files of a result may be
abbrev pub many_files : List FilePair → Option LimitFault
many_files texts = first_passing Files (length texts ∷ [])

-- a text passes the limit of one file: the first
abbrev pub long_text : List FilePair → Option LimitFault
long_text texts = first_passing FileBytes (sizes texts)

-- so many bytes and those of these texts pass the limit of all sources; the number is that up to and with the first text that passes it
abbrev pub long_texts : ℕ → List FilePair → Option LimitFault
long_texts before [] = None
long_texts before (text ∷ texts) =
    let sum : ℕ = before + length text.1 in
    if nat_lt (most SourceBytes) sum then Some (passing SourceBytes sum) else long_texts sum texts

-- a tree passes the limit of height: the first
abbrev pub tall_tree : List ℕ → Option LimitFault
tall_tree heights = first_passing Height heights

-- what refuses files that are to be written, with the heights of their trees as printed: each of these in turn
abbrev pub files_limit : List FilePair → List ℕ → Option LimitFault
files_limit texts heights =
    option_or (many_files texts) (option_or (long_text texts) (option_or (long_texts 0 texts) (tall_tree heights)))
