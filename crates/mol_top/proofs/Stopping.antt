-- A step that stops, among others.
use Rattle.std.proofs.Common.{◌≡◌, ◌⊎◌, inl, inr, ℕ, Bool, List, Option, true, false, ◌∙◌, refl, sym, ap, subst, arith}
use Rattle.std.specs.Prelude.{Some}
use Rattle.mol_outside.specs.Contents.{Contents}
use Rattle.mol_top.specs.Answers.{store_status}
use Rattle.mol_top.specs.Command.{Command}
use Rattle.mol_top.specs.Outcome.{ByNames}
use Rattle.mol_top.specs.Outside.{OnlyReads, Store}
use Rattle.mol_top.specs.Prepared.{HasItsLine, StopsCommand}
use Rattle.mol_top.specs.Report.{line_bytes, names_addresses, refusal_line}
use Rattle.mol_top.specs.Steps.{Stops, StopsBy}
use Rattle.mol_top.specs.declared.fault.StoreFault.{StoreFault}
use Rattle.mol_top.specs.declared.fault.StoreFault.TheVariants.{OutOfMemory, ReadFailed, Missing, OutInUse, Limit}
use Rattle.mol_top.specs.declared.refusal.Refusal.{Refusal}
use Rattle.mol_top.specs.declared.status.Status.{Status}
use Rattle.mol_top.specs.declared.status.Status.TheVariants as statuses
use Rattle.mol_top.specs.declared.status.Status.TheVariants.{OutOfMemory as no_memory}

-- one step after another
pub OnlyReads-then : (old mid new : Store) → OnlyReads old mid → OnlyReads mid new → OnlyReads old new
OnlyReads-then old mid new first second = record {
  held = second.held ∙ first.held;
  reads = omega (arith, first.reads, second.reads);
  writes = second.writes ∙ first.writes;
}

-- a step that stops after others, where it reads only what the whole may read, and what refuses it refuses the whole
pub Stops-later : (n0 n1 : List ℕ → Type 0) (old mid new : Store) (r0 r1 : Contents → Option Status) (fault : StoreFault)
    → ((path : List ℕ) → n1 path → n0 path) → OnlyReads old mid
    → ((h : Contents) → old.held ≡ Some h → r1 h ≡ Some (store_status fault) → r0 h ≡ Some (store_status fault))
    → Stops n1 mid new r1 fault → Stops n0 old new r0 fault
Stops-later n0 n1 old mid new r0 r1 OutOfMemory named before more stops = tt
Stops-later n0 n1 old mid new r0 r1 (ReadFailed p) named before more stops = (omega (arith, before.reads, stops.0), named p stops.1)
Stops-later n0 n1 old mid new r0 r1 fault named before more stops = λ h e. more h e (stops h (before.held ∙ e))

-- so is a command, or a part of it
pub StopsBy-later : (n0 n1 : List ℕ → Type 0) (old mid new : Store) (r0 r1 : Contents → Status → Type 0) (s : Status)
    → ((path : List ℕ) → n1 path → n0 path) → OnlyReads old mid → ((h : Contents) → old.held ≡ Some h → (s : Status) → r1 h s → r0 h s)
    → StopsBy n1 mid new r1 s → StopsBy n0 old new r0 s
StopsBy-later n0 n1 old mid new r0 r1 statuses.OutOfMemory named before more stops = tt
StopsBy-later n0 n1 old mid new r0 r1 (statuses.ReadFailed p) named before more stops = (omega (arith, before.reads, stops.0), named p stops.1)
StopsBy-later n0 n1 old mid new r0 r1 statuses.Done named before more stops = stops
StopsBy-later n0 n1 old mid new r0 r1 (statuses.Conflicts n) named before more stops = stops
StopsBy-later n0 n1 old mid new r0 r1 statuses.Usage named before more stops = stops
StopsBy-later n0 n1 old mid new r0 r1 (statuses.WriteFailed p) named before more stops = stops
StopsBy-later n0 n1 old mid new r0 r1 s named before more stops = λ h e. more h e s (stops h (before.held ∙ e))

-- # Refusals

-- a refusal, or want of memory in its place
pub either_stops : (c : Command) (old new : Store) (s said : Status) → StopsCommand c old new s → (said ≡ s) ⊎ (said ≡ no_memory) → StopsCommand c old new said
either_stops c old new s said stops (inl is) = subst (StopsCommand c old new) (sym is) stops
either_stops c old new s said stops (inr is) = subst (StopsCommand c old new) (sym is) tt

-- a line that names no address
pub plain_line : (c : Command) (store : Store) (refusal : Refusal) → names_addresses refusal.status ≡ false → line_bytes refusal.line ≡ refusal_line refusal.status
    → HasItsLine c store refusal
plain_line c store refusal plain is = subst (λ b. ByNames b (Some c) store refusal.status (λ line. line_bytes refusal.line ≡ line)) (sym plain) is

-- a status that names no address, or want of memory in its place
pub said_plain : (s said : Status) → names_addresses s ≡ false → (said ≡ s) ⊎ (said ≡ no_memory) → names_addresses said ≡ false
said_plain s said plain (inl is) = ap names_addresses is ∙ plain
said_plain s said plain (inr is) = ap names_addresses is

-- what is answered to a fault of the store names none
pub store_plain : (fault : StoreFault) → names_addresses (store_status fault) ≡ false
store_plain OutOfMemory = refl
store_plain (ReadFailed p) = refl
store_plain (Missing p) = refl
store_plain (OutInUse p) = refl
store_plain (Limit fault) = refl
