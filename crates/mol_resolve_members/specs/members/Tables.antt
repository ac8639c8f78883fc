-- The rows of the members of all files.
use Rattle.std.specs.Prelude.{◌≡◌, ℕ, List, map, Option, slice_get}
use Rattle.std.specs.Global.{Vec}
use Rattle.std.specs.Option.{option_and_then}
use Rattle.jav_names.specs.UnitViews.{numbered}
use Rattle.jav_scope.specs.declared.found.MemberRef.{MemberRef}
use Rattle.jav_scope.specs.declared.source.SourceUnit.{SourceUnit}
use Rattle.mol_resolve_rules.specs.MemberFaults.{Row, row_of}
use Rattle.mol_resolve_rules.specs.ResolveFaults.{rows_in}
use Rattle.mol_resolve_members.specs.sources.Sources.{file_of, files_of}
use Rattle.mol_resolve_members.specs.members.Rows.{kept_row, type_at}
use Rattle.mol_resolve_members.specs.declared.members.member_row.MemberRow.{MemberRow}

-- the rows of a file with its number
abbrev pub rows_at : List SourceUnit → ℕ × SourceUnit → List (Row ℕ)
rows_at sources file = rows_in (files_of sources) (file.0, file_of file.1)

-- its row, if there is one
abbrev pub row_at : List SourceUnit → MemberRef → Option (Row ℕ)
row_at sources member = option_and_then (λ source. slice_get (rows_at sources (member.unit, source)) member.member)
    (slice_get sources member.unit)

-- Of each file the rows of its members.
abbrev pub AreKept : List SourceUnit → List (Vec MemberRow) → Type 0
AreKept sources rows = map (λ file_rows. map kept_row file_rows.items) rows ≡ map (rows_at sources) (numbered sources)
