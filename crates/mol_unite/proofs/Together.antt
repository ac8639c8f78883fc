-- What is said of the program that two logs leave together.
use Rattle.std.proofs.Common.{◌≡◌, sym, ap, subst, Bool, true, false, List, [], ◌++◌, Result}
use Rattle.std.proofs.lemmas.List.{map-append}
use Rattle.std.specs.Prelude.{◌↔◌, Ok, Err, IfOk, if◌then◌else◌}
use Rattle.mol_faults_laws.proofs.sameness_lemmas.Together.{same_are_clean}
use Rattle.mol_faults_laws.specs.sameness.Laws.{KnowAlike}
use Rattle.mol_log.specs.declared.entries.entry.Entry.{Entry}
use Rattle.mol_log.specs.declared.log.Log.{Log}
use Rattle.mol_log_rules.specs.Histories.{AppliesOn, after}
use Rattle.mol_log_rules.specs.Living.{HasNoDead}
use Rattle.mol_log_rules.specs.Logs.{history, history_of, stamped}
use Rattle.mol_merge_laws.proofs.EveryOrder.{every_order}
use Rattle.mol_merge_laws.proofs.Laws.{united_in_turn}
use Rattle.mol_merge_laws.specs.OrderLaws.{BothApply, IsOrder, left_by_both}
use Rattle.mol_merge_rules.specs.Interleavings.{Interleaves}
use Rattle.mol_merge_rules.specs.PairConflicts.{ArePairs}
use Rattle.mol_merge_rules.specs.TwoLogs.{ShareNoTag, comes_first, greater, lesser}
use Rattle.mol_merge_rules.specs.United.{IsUnited, united}
use Rattle.mol_spell_rules.specs.Clean.{Clean}
use Rattle.mol_table_rules.proofs.Sameness.{sameness}
use Rattle.mol_table_rules.specs.Life.{entity_in}
use Rattle.mol_table_rules.specs.Program.{Program}
use Rattle.mol_table_rules.specs.Rules.{IsProgram}
use Rattle.mol_table_rules.specs.Sameness.{Same}

module _ (base : Program) (first second : Log) where
  -- what the lesser log leaves, and then the greater
  abbrev pub Together : Program → Type 0
  Together program = program ≡ united base (history (lesser first second)) (history (greater first second))

  module _ {E : Type 0} (answer : Result Program E) where
    pub as-given : comes_first first second ≡ true → IfOk answer (λ table. table ≡ united base (history first) (history second))
        → IfOk answer Together
    as-given is left =
        subst (λ (b : Bool). IfOk answer (λ table.
        table ≡ united base (history (if b then first else second)) (history (if b then second else first)))) (sym is) left

    pub as-turned : comes_first first second ≡ false → IfOk answer (λ table. table ≡ united base (history second) (history first))
        → IfOk answer Together
    as-turned is left =
        subst (λ (b : Bool). IfOk answer (λ table.
        table ≡ united base (history (if b then first else second)) (history (if b then second else first)))) (sym is) left

  -- it has the last values of both
  pub united-together : {E : Type 0} (answer : Result Program E) → IfOk answer Together
      → IfOk answer (IsUnited base (history (lesser first second)) (history (greater first second)))
  united-together (Ok table) is =
      subst (IsUnited base (history (lesser first second)) (history (greater first second))) (sym is)
      (united_in_turn.is base (history (lesser first second)) (history (greater first second)))
  united-together (Err fault) is = tt {0}

  -- and every order of the entries leaves what is the same
  abbrev pub EachOrder : Program → Type 0
  EachOrder table = (log : List Entry) → Interleaves first.entries second.entries log
      → AppliesOn base (history_of log) × Same (after base (history_of log)) table

  -- and is clean where that is
  abbrev pub EachClean : Program → Type 0
  EachClean table = (log : List Entry) → Interleaves first.entries second.entries log
      → Clean (after base (history_of log)) ↔ Clean table

  module _ (rules : IsProgram base) (alive : HasNoDead base) (one : AppliesOn base (history first)) (other : AppliesOn base (history second))
      (apart : ShareNoTag first second) (none : ArePairs base (history (lesser first second)) (history (greater first second)) []) where
    both : BothApply base first second
    both = record { first = one; second = other; apart = apart }

    pub each-order : {E : Type 0} (answer : Result Program E) → IfOk answer Together → IfOk answer EachOrder
    each-order (Ok table) is = λ log order.
        let each : IsOrder base first second log = record { both = both; order = order } in (
          every_order.applies base first second log each,
          subst (Same (after base (history_of log))) (sym is) (every_order.same base first second log each rules alive none),
        )
    each-order (Err fault) is = tt {0}

    -- the rules of programs hold of what both leave
    together-rules : IsProgram (left_by_both base first second)
    together-rules =
        subst IsProgram (ap (after base) (map-append stamped (lesser first second).entries (greater first second).entries))
        (every_order.rules base first second ((lesser first second).entries ++ (greater first second).entries)
        (every_order.in_turn base first second both) rules)

    order-clean : (log : List Entry) → IsOrder base first second log
        → Clean (after base (history_of log)) ↔ Clean (left_by_both base first second)
    order-clean log each = (
      same_are_clean.clean left (left_by_both base first second) left-rules together-rules knows same,
      same_are_clean.clean (left_by_both base first second) left together-rules left-rules (λ id. sym (knows id)) (sameness.back _ _ same),
    ) where
      left : Program
      left = after base (history_of log)

      left-rules : IsProgram left
      left-rules = every_order.rules base first second log each rules

      same : Same left (left_by_both base first second)
      same = every_order.same base first second log each rules alive none

      knows : KnowAlike left (left_by_both base first second)
      knows id = ap entity_in (every_order.known base first second log each id)

    pub each-clean : {E : Type 0} (answer : Result Program E) → IfOk answer Together → IfOk answer EachClean
    each-clean (Ok table) is = λ log order.
        subst (λ (p : Program). Clean (after base (history_of log)) ↔ Clean p) (sym is)
        (order-clean log (record { both = both; order = order }))
    each-clean (Err fault) is = tt {0}
