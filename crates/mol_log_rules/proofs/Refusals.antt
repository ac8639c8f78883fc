-- Where a history stops.
use Prim.Native.Nat.{zero}
use Rattle.std.proofs.Common.{◌≡◌, ◌∙◌, refl, sym, ap, suc, ◌<◌, ℕ, List, [], ◌∷◌, length, Option, None, Some, option_map, get_or, arith, subst}
use Rattle.std.specs.Option.{option_or}
use Rattle.std.specs.Prelude.{◌↔◌}
use Rattle.mol_base.specs.declared.ident.Stamp.{Stamp}
use Rattle.mol_log.specs.declared.entries.entry.Entry.{Entry}
use Rattle.mol_log_rules.specs.Histories.{History, AppliesOn, first_refused}
use Rattle.mol_log_rules.specs.Logs.{change_of, history_of}
use Rattle.mol_op.proofs.Leaves.{FirstApplied}
use Rattle.mol_op.specs.ChangeLaws.{both-none}
use Rattle.mol_op.specs.Changes.{written}
use Rattle.mol_op.specs.declared.fault.OpFault.{OpFault}
use Rattle.mol_table_rules.specs.Program.{Program}

-- the refusal of an entry by its fault, and else that of a later one
abbrev refusal_or : Option (Stamp × OpFault) → Stamp → Option OpFault → Option (Stamp × OpFault)
refusal_or later stamp fault = option_or (option_map (λ (why : OpFault). (stamp, why)) fault) later

unmapped : {X Y : Type 0} (f : X → Y) (o : Option X) → option_map f o ≡ None → o ≡ None
unmapped f None e = refl
unmapped f (Some x) e = absurd cc

none-refused : (base : Program) (history : History) → first_refused base history ≡ None → AppliesOn base history
none-refused base [] none = tt {0}
none-refused base (entry ∷ history) none =
    let next = written base entry.change.writes entry.change.names in
    let both = both-none (option_map (λ (why : OpFault). (entry.stamp, why)) (entry.change.fault base.known)) (first_refused next history) none in
    (unmapped _ (entry.change.fault base.known) both.0, none-refused next history both.1)

applies-none : (base : Program) (history : History) → AppliesOn base history → first_refused base history ≡ None
applies-none base [] applies = refl
applies-none base (entry ∷ history) applies =
    let next = written base entry.change.writes entry.change.names in
    ap (refusal_or (first_refused next history) entry.stamp) applies.0 ∙ applies-none next history applies.1

pub refused-or-applies : (base : Program) (history : History) → (first_refused base history ≡ None) ↔ AppliesOn base history
refused-or-applies base history = (none-refused base history, applies-none base history)

refused : (entries : List Entry) (at : ℕ) (d : Entry) (base now : Program) (why : OpFault) → at < length entries
    → FirstApplied entries change_of base at now → (change_of (get_or entries at d)).fault now.known ≡ Some why
    → first_refused base (history_of entries) ≡ Some ((get_or entries at d).stamp, why)
refused [] at d base now why within done fails = absurd (omega (arith, within))
refused (entry ∷ entries) zero d base now why within done fails =
    let next = written base (change_of entry).writes (change_of entry).names in
    ap (refusal_or (first_refused next (history_of entries)) entry.stamp)
    (ap (λ (program : Program). (change_of entry).fault program.known) (sym done.1) ∙ fails)
refused (entry ∷ entries) (suc at) d base now why within done fails =
    let next = written base (change_of entry).writes (change_of entry).names in
    ap (refusal_or (first_refused next (history_of entries)) entry.stamp) done.0.0
    ∙ refused entries at d next now why (omega (arith, within)) (done.0.1, done.1) fails

-- where the entries before a place are applied and the one at the place is refused, it is the first one
pub refused-at : (entries : List Entry) (at : ℕ) (entry : Entry) (base now : Program) (why : OpFault) → at < length entries
    → entry ≡ get_or entries at entry → FirstApplied entries change_of base at now → (change_of entry).fault now.known ≡ Some why
    → first_refused base (history_of entries) ≡ Some (entry.stamp, why)
refused-at entries at entry base now why within is done fails =
    refused entries at entry base now why within done (subst (λ (x : Entry). (change_of x).fault now.known ≡ Some why) is fails)
    ∙ ap (λ (x : Entry). Some (x.stamp, why)) (sym is)
