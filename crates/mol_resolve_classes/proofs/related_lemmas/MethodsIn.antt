-- The methods among members, one after another and class by class.
use Rattle.std.proofs.Common.{◌≡◌, ℕ, ◌+◌, ◌<◌, true, false, cond, List, [], ◌∷◌, ◌++◌, map, take, length, flat_map, get_or, Some, slice_get, refl, sym, ◌∙◌, ap, append-nil}
use Rattle.std.specs.List.{enumerate_from}
use Rattle.std.proofs.lemmas.List.{map-append}
use Rattle.std.proofs.lemmas.List.Concat.{flat_map-append}
use Rattle.std.proofs.lemmas.List.Elements.{filter-append}
use Rattle.std.proofs.lemmas.Option.{get_or_from_slice_get}
use Rattle.jav_scope.specs.declared.source.SourceUnit.{SourceUnit}
use Rattle.jav_scope.proofs.Numbered.{numbered-more}
use Rattle.jav_names.specs.UnitViews.{numbered}
use Rattle.mol_resolve_members.specs.members.Rows.{kept_row}
use Rattle.mol_resolve_members.specs.members.Tables.{rows_at}
use Rattle.mol_resolve_members.specs.declared.members.member_row.MemberRow.{MemberRow}
use Rattle.mol_resolve_members.specs.sources.Sources.{file_of, files_of}
use Rattle.mol_resolve_rules.specs.Files.{Files}
use Rattle.mol_resolve_rules.specs.MemberFaults.{Row, a_method}
use Rattle.mol_resolve_rules.specs.ResolveFaults.{rows_in, rows}
use Rattle.mol_resolve_classes.specs.related.Compared.{header_of_row, is_kind, methods_in}
use Rattle.mol_resolve_classes.proofs.related_lemmas.KeptInOrder.{rows-more}

methods-append : (firsts seconds : List (Row ℕ)) → methods_in (firsts ++ seconds) ≡ methods_in firsts ++ methods_in seconds
methods-append firsts seconds = ap (map header_of_row) (filter-append (is_kind a_method) firsts seconds)
    ∙ map-append header_of_row _ _

-- ---- one more member

module _ (members : List MemberRow) (i : ℕ) (member : MemberRow) (inside : i < length members) (is : member ≡ get_or members i member) where
  abbrev before : List (Row ℕ)
  before = map kept_row (take i members)

  members-more : methods_in (map kept_row (take (i + 1) members)) ≡ methods_in before ++ methods_in (kept_row member ∷ [])
  members-more = ap methods_in (rows-more members i member inside is) ∙ methods-append before (kept_row member ∷ [])

  pub method-more : is_kind a_method (kept_row member) ≡ true
      → methods_in (map kept_row (take (i + 1) members)) ≡ methods_in before ++ header_of_row (kept_row member) ∷ []
  method-more kind = members-more
      ∙ ap (λ test. methods_in before ++ map header_of_row (cond test (kept_row member ∷ []) [])) kind

  pub no_method-more : is_kind a_method (kept_row member) ≡ false
      → methods_in (map kept_row (take (i + 1) members)) ≡ methods_in before
  no_method-more kind = members-more
      ∙ ap (λ test. methods_in before ++ map header_of_row (cond test (kept_row member ∷ []) [])) kind
      ∙ append-nil (methods_in before)

-- ---- one more class

module _ (sources : List SourceUnit) where
  -- the rows of the first classes
  abbrev pub rows_to : ℕ → List (Row ℕ)
  rows_to count = flat_map (rows_at sources) (numbered (take count sources))

  pub class-more : (unit : ℕ) (source : SourceUnit) → unit < length sources → slice_get sources unit ≡ Some source
      → methods_in (rows_to (unit + 1)) ≡ methods_in (rows_to unit) ++ methods_in (rows_at sources (unit, source))
  class-more unit source inside at =
      ap (λ files. methods_in (flat_map (rows_at sources) files))
      (numbered-more sources unit source inside (sym (get_or_from_slice_get sources unit source source at)))
      ∙ ap methods_in (flat_map-append (rows_at sources) (numbered (take unit sources)) ((unit, source) ∷ [])
      ∙ ap (λ rest. rows_to unit ++ rest) (append-nil (rows_at sources (unit, source))))
      ∙ methods-append (rows_to unit) (rows_at sources (unit, source))

-- the rows of files are those of sources
rows-from : (files : Files) (n : ℕ) (sources : List SourceUnit)
    → flat_map (λ file. rows_in files (file.0, file_of file.1)) (enumerate_from n sources)
    ≡ flat_map (rows_in files) (enumerate_from n (map file_of sources))
rows-from files n [] = refl
rows-from files n (source ∷ sources) = ap (λ rest. rows_in files (n, file_of source) ++ rest) (rows-from files (n + 1) sources)

pub rows-of_sources : (sources : List SourceUnit) → flat_map (rows_at sources) (numbered sources) ≡ rows (files_of sources)
rows-of_sources sources = rows-from (files_of sources) 0 sources
