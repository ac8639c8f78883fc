use Rattle.std.proofs.Common.{◌≡◌, ◌≢◌, ◌<◌, ◌≤◌, ℕ, All, length, map, take}
use Rattle.jav_scope.specs.Entries.{view_in}
use Rattle.mol_resolve_members.specs.numbers.Members.{keys_of, place_of}
use Rattle.mol_resolve_members.specs.numbers.Tops.{top_key}
use Rattle.mol_resolve_members.proofs.numbers.tops.tops.Given as goal

abbrev pub invariant-loop-walk : goal.invariant-loop-walk
invariant-loop-walk l = record {
  size : length l.met.items ≡ length l.scope;
  unmet : (later : ℕ) → l.walk ≤ later → later < length l.listed → All (λ mark. mark ≢ later) l.met.items;
  found : l.tops.items ≡ map (λ key. place_of l.scope (top_key (view_in l.scope) key)) (take l.walk (keys_of l.scope));
}
