-- Writing file after file.
use Rattle.std.proofs.Common.{◌≡◌, ◌≢◌, ℕ, ◌≤◌, ◌<◌, List, [], ◌∙◌, ap, sym, subst, refl, arith, length, map, get_or}
use Rattle.std.specs.Prelude.{Some, slice_get, option_map}
use Rattle.std.proofs.lemmas.List.{take-map}
use Rattle.std.proofs.lemmas.Option.{same_Some, slice_get-map, slice_get-get_or}
use Rattle.mol_base.specs.declared.file.File.{File}
use Rattle.mol_base.specs.Files.{file_pair, file_pairs}
use Rattle.mol_top.specs.Output.{AreNamed, failure_of, written_all}
use Rattle.mol_top.specs.Outside.{State, Store}
use Rattle.mol_top.specs.Steps.{IsCutAt, IsPutOrCut, StopsAt}

-- these files are written, and no other
pub record HasWritten (old now : Store) (done : List File) : Type 0 where
  pub held : now.held ≡ written_all (file_pairs done) old.held
  pub writes : old.writes ≤ now.writes
  pub reads : now.reads ≡ old.reads

some_bytes : (path : List ℕ) → 0 < length path → path ≢ []
some_bytes path some none = let bytes : length path ≡ 0 = ap length none in absurd (omega (arith, some, bytes))

-- the write of a file failed after those before it
pub cut_at : (files : List File) (k : ℕ) (removed : File) (failures : List (List ℕ)) (old new : State)
    → k < length files → removed ≡ get_or files k removed → StopsAt files k old.store new.store → AreNamed files → failures ≡ map failure_of files
    → ((line : List ℕ) → slice_get failures k ≡ Some line → IsPutOrCut line old.sink new.sink)
    → (removed.path ≢ []) × IsCutAt (file_pairs files) removed.path old new
cut_at files k removed failures old new within is stops named lines put =
    let there : slice_get files k ≡ Some removed = slice_get-get_or files k removed within ∙ ap Some (sym is) in
    let same : stops.0 ≡ removed = same_Some stops.0 removed (sym stops.1 ∙ there) in
    let line : slice_get failures k ≡ Some (failure_of removed) = ap (λ (ls : List (List ℕ)). slice_get ls k) lines ∙ slice_get-map failure_of files k ∙ ap (option_map failure_of) there in (
      some_bytes removed.path (subst (λ (f : File). 0 < length f.path) (sym is) (named k removed within)),
      record {
        place = k;
        file = file_pair removed;
        next = slice_get-map file_pair files k ∙ ap (option_map file_pair) there;
        named = refl;
        whole = rw (← same, take-map) stops.2;
        line = put (failure_of removed) line;
      },
    )
