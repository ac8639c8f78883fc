use Rattle.std.proofs.Common.{◌≡◌, take, map}
use Rattle.std.specs.List.{filter_map}
use Rattle.mol_outside.specs.Contents.{path_below}
use Rattle.mol_outside.specs.Stored.{all_stored, StoredFile}
use Rattle.mol_outside.proofs.mem_files.list_paths.Given as goal

abbrev pub invariant-loop-i : goal.invariant-loop-i
invariant-loop-i l = l.paths.items ≡ filter_map (path_below l.folder) (map (λ (file : StoredFile). file.0) (take l.i (all_stored l.buffer l.spans)))
