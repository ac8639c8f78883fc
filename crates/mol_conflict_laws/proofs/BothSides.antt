-- Each conflict of two logs names an entry of each: of a pair by its writers, of a fault by what it rests on.
use Rattle.std.proofs.Common.{◌≡◌, ◌⊎◌, inl, inr, Bool, true, false, List, [], ◌∷◌, ◌++◌, Contains, refl, sym, ap, subst, ◌∙◌, if◌then◌else◌}
use Rattle.std.proofs.lemmas.List.{map-append}
use Rattle.std.specs.List.{AllZip}
use Rattle.jav_names.proofs.Lists.{stands-mapped, stands_first, stands_later, stands_nowhere, stands_where}
use Rattle.mol_conflict_laws.specs.Laws.{BothLeaveClean, ConflictsNameBoth}
use Rattle.mol_faults_laws.proofs.support_lemmas.Supported.{faults_supported}
use Rattle.mol_faults_laws.specs.support.Laws as support
use Rattle.mol_faults_laws.specs.support.Laws.{IsPart, NamesAbove, its_owner, its_superclass}
use Rattle.mol_faults_rules.specs.Kept.{kept_fault}
use Rattle.mol_faults_rules.specs.declared.conflict.Conflict.{Conflict}
use Rattle.mol_faults_rules.specs.declared.conflict.ConflictKind.TheVariants.{Bad}
use Rattle.mol_faults_rules.specs.declared.fault.Fault.{Fault as Kept}
use Rattle.mol_faults_rules.specs.declared.fault.Fault.TheVariants as kept
use Rattle.mol_log.specs.declared.log.Log.{Log}
use Rattle.mol_log_rules.specs.Histories.{History, after}
use Rattle.mol_log_rules.specs.Logs.{history, history_of, stamped}
use Rattle.mol_merge_laws.proofs.BadsNamed.{bads_named}
use Rattle.mol_merge_laws.proofs.EveryOrder.{both-turned, every_order}
use Rattle.mol_merge_laws.proofs.Orders.{all_in_order}
use Rattle.mol_merge_laws.proofs.Pairs.{pairs_in_conflict}
use Rattle.mol_merge_laws.specs.BadLaws.{RestsIn}
use Rattle.mol_merge_laws.specs.PartLaws.{GoTogether, IsLeftIn}
use Rattle.mol_merge_rules.specs.Conflicts.{AreBads, AreConflicts, ArePairConflicts, IsBad, IsConflictOf, NamesBoth, is_misread, of_faults, of_pairs}
use Rattle.mol_merge_rules.specs.PairConflicts.{ArePairs}
use Rattle.mol_merge_rules.specs.TwoLogs.{comes_first}
use Rattle.mol_merge_rules.specs.United.{united}
use Rattle.mol_spell_rules.specs.FaultList.{IsFault}
use Rattle.mol_table_rules.specs.Program.{Program}
use Rattle.mol_table_rules.specs.Rules.{IsProgram}
use Rattle.mol_values_types.specs.declared.cell.Slot.{Slot}
use Rattle.mol_values_types.specs.declared.cell.Slot.TheVariants as slots

-- ---- lists side by side

-- what stands in the second of two lists stands beside something of the first
beside : {A B : Type 0} (R : A → B → Type 0) (xs : List A) (ys : List B) (y : B) → AllZip R xs ys → Contains ys y
    → (x : A) × Contains xs x × R x y
beside R [] [] y all stands = absurd (stands_nowhere y stands)
beside R [] (w ∷ ys) y all stands = absurd all
beside R (x ∷ xs) [] y all stands = absurd (stands_nowhere y stands)
beside {A} {B} R (x ∷ xs) (w ∷ ys) y all stands = by (stands_where w y ys stands) (beside R xs ys y all.1) where
  by : (w ≡ y) ⊎ Contains ys y → (Contains ys y → (z : A) × Contains xs z × R z y) → (z : A) × Contains (x ∷ xs) z × R z y
  by (inl same) more = (x, stands_first x xs, subst (R x) same all.0)
  by (inr later) more = let found = more later in (found.0, stands_later x found.0 xs found.1, found.2)

no-beside : {A B : Type 0} (R : A → B → Type 0) (xs : List A) → AllZip R xs [] → xs ≡ []
no-beside R [] all = refl
no-beside R (x ∷ xs) all = absurd all

-- ---- parts of a program

slot-above : (slot : Slot) → NamesAbove slot → (slot ≡ slots.Owner) ⊎ (slot ≡ slots.Super)
slot-above slot its_owner = inl refl
slot-above slot its_superclass = inr refl

part-of : (whole part : Program) → IsLeftIn whole part → IsPart whole part
part-of whole part left = record {
  known = left.known;
  life = left.life;
  above = λ at value class slot lives here there names in_part.
      left.above at value class (slot-above at.slot slot) lives here there names in_part;
}

kept-plain : (fault : Kept) → is_misread (Bad fault) ≡ false → support.is_misread (kept_fault fault) ≡ false
kept-plain (kept.SameAddress first second) is = refl
kept-plain (kept.FalseOverride first second) is = refl
kept-plain (kept.Apart method) is = refl
kept-plain (kept.OutsideName method) is = refl
kept-plain (kept.Missing at target) is = refl
kept-plain (kept.Misread at number target) is = is
kept-plain (kept.LocalClash at name) is = refl
kept-plain (kept.PackageIsClass class inside) is = refl

rests-in : (whole : Program) (fault : Kept) → IsProgram whole → IsFault whole (kept_fault fault) → is_misread (Bad fault) ≡ false
    → RestsIn whole (kept_fault fault)
rests-in whole fault rules is plain part own left holds =
    faults_supported.supported whole part (kept_fault fault) rules own (part-of whole part left) is (kept-plain fault plain) holds

-- ---- conflicts

module _ (base : Program) (one other : Log) (given : BothLeaveClean base one other) where
  abbrev Named : Conflict → Type 0
  Named = NamesBoth (history one) (history other)

  pair-named : (list : List Conflict) → ArePairConflicts base (history one) (history other) list → (conflict : Conflict)
      → Contains list conflict → Named conflict
  pair-named list are conflict stands =
      let found = beside (IsConflictOf base (history one) (history other)) are.pairs list conflict are.each stands in
      pairs_in_conflict.named base (history one) (history other) found.0 conflict ((are.are.each found.0).0 found.1) found.2

  both-in-turn : history_of (one.entries ++ other.entries) ≡ history one ++ history other
  both-in-turn = map-append stamped one.entries other.entries

  united-rules : IsProgram (united base (history one) (history other))
  united-rules = subst (λ (both : History). IsProgram (after base both)) both-in-turn
      (every_order.rules base one other (one.entries ++ other.entries)
      (record { both = given.both; order = all_in_order one.entries other.entries }) given.rules)

  together : ArePairConflicts base (history one) (history other) [] → GoTogether base one other
  together none = record {
    rules = given.rules;
    alive = given.alive;
    both = given.both;
    none = subst (ArePairs base (history one) (history other))
        (no-beside (IsConflictOf base (history one) (history other)) none.pairs none.each) none.are;
  }

  fault-named : (list : List Conflict) → ArePairConflicts base (history one) (history other) []
      → AreBads base (history one) (history other) list → (conflict : Conflict) → Contains list conflict → is_misread conflict.kind ≡ false
      → Named conflict
  fault-named list none are conflict stands plain =
      let found = beside (IsBad base (history one) (history other)) are.faults list conflict are.each stands in
      bads_named.named base one other (together none) given.clean_one given.clean_other found.0 conflict found.2
      (rests-in (united base (history one) (history other)) found.0 united-rules
      ((are.are.each (kept_fault found.0)).0 (stands-mapped kept_fault are.faults found.0 found.1))
      (sym (ap is_misread found.2.kind) ∙ plain))

  conflict-named : (list : List Conflict) → AreConflicts base (history one) (history other) list → (conflict : Conflict)
      → Contains list conflict → is_misread conflict.kind ≡ false → Named conflict
  conflict-named (first ∷ rest) (of_pairs are) conflict stands plain = pair-named (first ∷ rest) are conflict stands
  conflict-named list (of_faults none are) conflict stands plain = fault-named list none are conflict stands plain

-- ---- whichever log goes first

turned : (base : Program) (one other : Log) → BothLeaveClean base one other → BothLeaveClean base other one
turned base one other given = record {
  rules = given.rules;
  alive = given.alive;
  both = both-turned base one other given.both;
  clean_one = given.clean_other;
  clean_other = given.clean_one;
}

either-named : (base : Program) (first second : Log) (list : List Conflict) (conflict : Conflict) → BothLeaveClean base first second
    → (is_first : Bool)
    → AreConflicts base (history (if is_first then first else second)) (history (if is_first then second else first)) list
    → Contains list conflict → is_misread conflict.kind ≡ false → NamesBoth (history first) (history second) conflict
either-named base first second list conflict given true are stands plain =
    conflict-named base first second given list are conflict stands plain
either-named base first second list conflict given false are stands plain =
    let named = conflict-named base second first (turned base first second given) list are conflict stands plain in
    record { one_named = named.other_named; other_named = named.one_named }

pub conflicts_name_both : ConflictsNameBoth
conflicts_name_both = record {
  named = λ base one other list conflict given are stands plain. conflict-named base one other given list are conflict stands plain;
  in_either_order = λ base first second list conflict given are stands plain.
      either-named base first second list conflict given (comes_first first second) are stands plain;
}
