-- What the first entries of a list leave.
use Prim.Native.Nat.{zero}
use Rattle.std.specs.Prelude.{◌≡◌, ◌+◌, ◌<◌, ◌≤◌, ℕ, List, [], ◌∷◌, map, length, take, None}
use Rattle.std.proofs.Common.{suc, sym, ap, subst, ◌∙◌, arith, get_or, take_all}
use Rattle.std.proofs.Math.Numerals.{add-one}
use Rattle.mol_table_rules.specs.Program.{Program}
use Rattle.mol_op.specs.Changes.{written}
use Rattle.mol_op.specs.Entries.{Change, Applies, leaves, AreApplied, IsStopped}
use Rattle.mol_op.specs.EntryLaws.{are-applied}
use Rattle.mol_op.specs.Operation.{IsCause}
use Rattle.mol_op.specs.declared.fault.ApplyFault.{ApplyFault}

-- so many of the entries are applied
abbrev pub FirstApplied : {E : Type 0} → List E → (E → Change) → Program → ℕ → Program → Type 0
FirstApplied entries change old count now =
    Applies old (map change (take count entries)) × (now ≡ leaves old (map change (take count entries)))

next : {E : Type 0} (entries : List E) (change : E → Change) (count : ℕ) (d : E) (old now new : Program) → count < length entries
    → FirstApplied entries change old count now → (change (get_or entries count d)).fault now.known ≡ None
    → new ≡ written now (change (get_or entries count d)).writes (change (get_or entries count d)).names
    → FirstApplied entries change old (suc count) new
next [] change count d old now new within done fits is = absurd (omega (arith, within))
next (entry ∷ entries) change zero d old now new within done fits is = (
  (ap (λ (program : Program). (change entry).fault program.known) (sym done.1) ∙ fits, tt {0}),
  is ∙ ap (λ program. written program (change entry).writes (change entry).names) done.1,
)
next (entry ∷ entries) change (suc count) d old now new within done fits is =
    let first = written old (change entry).writes (change entry).names in
    let rest = next entries change count d first now new (omega (arith, within)) (done.0.1, done.1) fits is in
    ((done.0.0, rest.0), rest.1)

stops : {E : Type 0} (entries : List E) (change : E → Change) (count : ℕ) (d : E) (old now new : Program) (why : ApplyFault)
    → count < length entries → FirstApplied entries change old count now → IsCause ((change (get_or entries count d)).fault now.known) why
    → new ≡ now → IsStopped old (map change entries) count why new
stops [] change count d old now new why within done cause same = absurd (omega (arith, within))
stops (entry ∷ entries) change zero d old now new why within done cause same =
    (same ∙ done.1, subst (λ (program : Program). IsCause ((change entry).fault program.known) why) done.1 cause)
stops (entry ∷ entries) change (suc count) d old now new why within done cause same =
    let first = written old (change entry).writes (change entry).names in
    (done.0.0, stops entries change count d first now new why (omega (arith, within)) (done.0.1, done.1) cause same)

-- the one after them is applied too
pub next-applied : {E : Type 0} (entries : List E) (change : E → Change) (count : ℕ) (entry : E) (old now new : Program)
    → count < length entries → entry ≡ get_or entries count entry → FirstApplied entries change old count now
    → (change entry).fault now.known ≡ None → new ≡ written now (change entry).writes (change entry).names
    → FirstApplied entries change old (count + 1) new
next-applied entries change count entry old now new within is done fits left =
    subst (λ n. FirstApplied entries change old n new) (sym (add-one count))
    (next entries change count entry old now new within done
    (subst (λ x. (change x).fault now.known ≡ None) is fits)
    (subst (λ x. new ≡ written now (change x).writes (change x).names) is left))

-- the one after them is not applied
pub stopped-at : {E : Type 0} (entries : List E) (change : E → Change) (count : ℕ) (entry : E) (old now new : Program) (why : ApplyFault)
    → count < length entries → entry ≡ get_or entries count entry → FirstApplied entries change old count now
    → IsCause ((change entry).fault now.known) why → new ≡ now → IsStopped old (map change entries) count why new
stopped-at entries change count entry old now new why within is done cause same =
    stops entries change count entry old now new why within done (subst (λ x. IsCause ((change x).fault now.known) why) is cause) same

-- there is none after them
pub all-applied : {E : Type 0} (entries : List E) (change : E → Change) (count : ℕ) (old new : Program) → length entries ≤ count
    → FirstApplied entries change old count new → AreApplied old (map change entries) new
all-applied entries change count old new whole done =
    let all = subst (λ some. Applies old (map change some) × (new ≡ leaves old (map change some))) (take_all count entries whole) done in
    are-applied (map change entries) old new all.0 all.1
