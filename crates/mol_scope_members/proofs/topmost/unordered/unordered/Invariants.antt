use Rattle.std.proofs.Common.{◌≡◌, take}
use Rattle.std.specs.List.{list_any}
use Rattle.mol_base.specs.declared.ident.Id.{Id}
use Rattle.mol_table_rules.specs.Program.{same_id}
use Rattle.mol_scope_members.specs.topmost.Highest.{stands_beside}
use Rattle.mol_scope_members.proofs.topmost.unordered.unordered.Given as goal

abbrev pub invariant-loop-id : goal.invariant-loop-id
invariant-loop-id l = (method : Id) → list_any (same_id method) l.methods.keys
    ≡ list_any (stands_beside l.table l.tops.entries method) (take l.id-index l.ids)
