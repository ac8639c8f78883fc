-- What is seen of files and of a sink over memory.
use Rattle.std.specs.Prelude.{◌≡◌, ℕ, ◌+◌, ◌-◌, ◌<◌, List, length, map, Contains, ◌⊎◌, refl}
use Rattle.std.specs.Coded.{Coded, code_by, coded×, coded_list, coded_ℕ}
use Rattle.std.specs.FinMap.{code, from_entries, insert}
use Rattle.mol_base.specs.declared.file.File.{File}
use Rattle.mol_outside.specs.Contents.{Contents, raised}

-- files over memory: what is held, the numbers of the calls that are to fail, how many calls there were,
-- the bytes and the writes that still go in, and the counts of faults
pub record FilesState : Type 0 where
  pub files : Contents
  pub failing : List ℕ
  pub calls : ℕ
  pub left : ℕ
  pub places : ℕ
  pub read_faults : ℕ
  pub write_faults : ℕ

-- a state is stored as the tuple of its fields
abbrev pub files_code : Coded FilesState
files_code =
    code_by (Contents × (List ℕ × (ℕ × (ℕ × (ℕ × (ℕ × ℕ))))))
    (coded× (code (coded_list coded_ℕ) (coded_list coded_ℕ)) (coded× (coded_list coded_ℕ) (coded× coded_ℕ (coded× coded_ℕ (coded× coded_ℕ (coded× coded_ℕ coded_ℕ))))))
    (λ s. (s.files, (s.failing, (s.calls, (s.left, (s.places, (s.read_faults, s.write_faults)))))))
    (λ p. record { files = p.0; failing = p.1.0; calls = p.1.1.0; left = p.1.1.1.0; places = p.1.1.1.1.0; read_faults = p.1.1.1.1.1.0; write_faults = p.1.1.1.1.1.1 })
    (λ _. refl)

-- a file as an entry of a map
abbrev pub entry_of : File → List ℕ × List ℕ
entry_of file = (file.path, file.bytes)

-- files over memory before the first call, with 8,192 free places; where two files have one path, the first counts
abbrev pub new_files : List File → List ℕ → ℕ → FilesState
new_files files failing room = record { files = from_entries (map entry_of files); failing = failing; calls = 0; left = room; places = 8192; read_faults = 0; write_faults = 0 }

-- the next call is one of those that are to fail
abbrev pub FailsNext : List ℕ → ℕ → Type 0
FailsNext failing calls = Contains failing (raised calls)

-- a write of so many bytes of path and content fails
abbrev pub WriteFails : FilesState → ℕ → Type 0
WriteFails s size = FailsNext s.failing s.calls ⊎ (s.left < size) ⊎ (s.places ≡ 0)

-- after a listing or a read that did not fail
abbrev pub after_read : FilesState → FilesState
after_read s = record s { calls = raised s.calls }

-- after a listing or a read that failed
abbrev pub after_failed_read : FilesState → FilesState
after_failed_read s = record s { calls = raised s.calls; read_faults = raised s.read_faults }

-- after a write that went in
abbrev pub after_write : List ℕ → List ℕ → FilesState → FilesState
after_write path bytes s = record s { files = insert s.files path bytes; calls = raised s.calls; left = s.left - (length path + length bytes); places = s.places - 1 }

-- after a write that failed
abbrev pub after_failed_write : FilesState → FilesState
after_failed_write s = record s { calls = raised s.calls; write_faults = raised s.write_faults }

-- a sink over memory: what it was given, the numbers of the calls that are to fail, how many calls there were,
-- the bytes that still go in, and the count of faults
pub record SinkState : Type 0 where
  pub bytes : List ℕ
  pub failing : List ℕ
  pub calls : ℕ
  pub left : ℕ
  pub faults : ℕ

-- a put of so many bytes fails
abbrev pub PutFails : SinkState → ℕ → Type 0
PutFails s size = FailsNext s.failing s.calls ⊎ (s.left < size)
