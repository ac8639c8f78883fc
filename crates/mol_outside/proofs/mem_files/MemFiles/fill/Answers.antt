use Rattle.std.proofs.Common.{◌≡◌, ◌-◌, suc, drop, ◌∙◌, ap, sym, arith, length}
use Rattle.mol_outside.specs.Memory.{FilesState}
use Rattle.mol_outside.specs.Stored.{filled, size_of}
use Rattle.mol_outside.proofs.Storing.{filled_room}
use Rattle.mol_outside.proofs.mem_files.MemFiles.fill.Goals as goal

pub store-requires-clause-room : goal.store-requires-clause-room
store-requires-clause-room c =
    let s = c.args.self.now in
    let files = c.args.files.now in
    let n = c.loop-rest.rest - 1 in
    let next : suc n ≡ c.loop-rest.rest = omega arith in
    let left : (filled s (drop (suc n) files)).left ≡ c.loop-rest.self.left = ap (λ k. (filled s (drop k files)).left) next ∙ ap (λ (t : FilesState). t.left) (sym c.loop-rest.invariant.0) in
    omega (arith, left, filled_room s files n c.index-files-rest.result (omega (arith, c.loop-rest.invariant.1)) c.requires.room, ap length c.items.ensures, ap size_of c.index-files-rest.is)
