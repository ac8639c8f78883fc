-- The numbers that inputs and results may not pass.
use Rattle.std.specs.Prelude.{ℕ}
use Rattle.mol_base.specs.declared.limit.Which.{Which}
use Rattle.mol_base.specs.declared.limit.Which.TheVariants.{Files, FileBytes, SourceBytes, Height, Operations, LogBytes, ScriptBytes}

-- the greatest number that is within the limit
abbrev pub most : Which → ℕ
most Files = 4096
most FileBytes = 1048576
most SourceBytes = 16777216
most Height = 500
most Operations = 65535
most LogBytes = 16777216
most ScriptBytes = 16777216

-- the greatest number of parameters, of arguments, and of dimensions of an array (JVMS 4.11)
abbrev pub max_items : ℕ
max_items = 255

-- the greatest number of bytes of a name
abbrev pub max_name_bytes : ℕ
max_name_bytes = 255
