use Rattle.std.proofs.Common.{◌≡◌, ◌∙◌, List, length, ◌==◌, sym, ap, subst}
use Rattle.std.specs.List.{AllZip}
use Rattle.std.specs.Prelude.{IfOk}
use Rattle.mol_faults_rules.specs.declared.conflict.Conflict.{Conflict}
use Rattle.mol_faults_rules.specs.declared.fault.Fault.{Fault}
use Rattle.mol_log_rules.specs.Logs.{history}
use Rattle.mol_merge.proofs.Conflicting.{bads-answered, no-bads, tested-none}
use Rattle.mol_merge.proofs.bads.bads.Goals as goal
use Rattle.mol_merge.specs.Finding.{IsBadIn}
use Rattle.mol_merge_rules.specs.Conflicts.{AreBads}
use Rattle.mol_table_rules.specs.Program.{Program}

pub returns-then-is_empty : goal.returns-then-is_empty
returns-then-is_empty c = λ base is.
    let found = c.in_ok-found.found in
    subst (AreBads base (history c.args.one.now) (history c.args.other.now)) (sym c.new.ensures)
    (no-bads base (history c.args.one.now) (history c.args.other.now) c.args.together.now found is c.in_ok-found.ensures
    (tested-none found c.is_empty.result (c.is_empty.ensures ∙ ap (λ (fs : List Fault). length fs == 0) c.items.ensures) c.if-is_empty.true))

pub returns : goal.returns
returns c =
    let one = history c.args.one.now in
    let other = history c.args.other.now in
    bads-answered c.args.together.now one other c.in_ok-found.found c.bads_of.result c.in_ok-found.ensures
    (subst (λ (fs : List Fault). IfOk c.bads_of.result (AllZip (IsBadIn c.args.together.now one other) fs)) c.into_vec.ensures
    (subst (λ (p : Program). IfOk c.bads_of.result (AllZip (IsBadIn p one other) c.into_vec.result.items)) c.in_ok-supports.ensures
    c.bads_of.ensures))
