-- Replay commutes: where no pair conflicts, each order applies and leaves what is the same as the united program.
use Rattle.std.proofs.Common.{◌≡◌, ◌≢◌, refl, ap, true, false, [], ◌++◌, arith, Option, None, Some, Contains}
use mathlib.Core.Logic.{inl, inr}
use Rattle.std.specs.Prelude.{◌⊎◌, is_some}
use Rattle.mol_table_rules.specs.Life.{is_living_entity}
use Rattle.mol_table_rules.specs.Program.{Program}
use Rattle.mol_table_rules.specs.Rules.{IsProgram}
use Rattle.mol_table_rules.specs.Sameness.{Same}
use Rattle.mol_values_types.specs.declared.cell.Cell.{Cell}
use Rattle.mol_values_types.specs.declared.value.Value.{Value}
use Rattle.mol_log_rules.specs.Histories.{History, after, last, AppliesOn}
use Rattle.mol_log_rules.specs.Lawful.{AreLawful}
use Rattle.mol_log_rules.specs.Living.{HasNoDead}
use Rattle.mol_merge_rules.specs.TwoLogs.{TagsDiffer}
use Rattle.mol_merge_rules.specs.Interleavings.{Interleaves}
use Rattle.mol_merge_rules.specs.PairConflicts.{Pair, IsTwice, IsGone, IsGonePair, IsPair, ArePairs}
use Rattle.mol_merge_rules.specs.PairConflicts as pairs
use Rattle.mol_merge_rules.specs.United.{united}
use Rattle.mol_merge_laws.proofs.Orders.{AgreeAt, all_in_order, order-applies}
use Rattle.mol_merge_laws.proofs.Sameness.{orders-same}

module _ (decide : (x y : Value) → (x ≡ y) ⊎ (x ≢ y)) (base : Program) (one other : History) (laws : AreLawful one) (more : AreLawful other)
    (first : AppliesOn base one) (second : AppliesOn base other) (differ : TagsDiffer one other) (rules : IsProgram base)
    (alive : HasNoDead base) (none : ArePairs base one other []) where
  pub no-pair : (pair : Pair) → IsPair base one other pair → ⊥
  no-pair pair is = let stands : Contains [] pair = (none.each pair).1 is in omega (arith, stands.1)

  pub twice : (at : Cell) → is_living_entity (after base one) at.id ≡ true → is_living_entity (after base other) at.id ≡ true
      → AgreeAt one other at
  twice at l m x y is also = by (decide x y) where
    by : (x ≡ y) ⊎ (x ≢ y) → x ≡ y
    by (inl same) = same
    by (inr apart) = absurd (no-pair (pairs.twice at) (pairs.set_twice (record {
      lives_one = l;
      lives_other = m;
      first = x;
      second = y;
      last_one = is;
      last_other = also;
      differ = apart;
    })))

  pub gone_one : (at : Cell) → is_living_entity base at.id ≡ true → is_living_entity (after base one) at.id ≡ false
      → is_living_entity (after base other) at.id ≡ true → last other at ≡ None
  gone_one at lived dead lives = by (last other at) refl where
    by : (o : Option Value) → last other at ≡ o → o ≡ None
    by None e = refl
    by (Some v) e = absurd (no-pair (pairs.gone_changed at.id)
        (pairs.gone_after_one (pairs.changed at (record { lived = lived; dead = dead; lives = lives }) (ap is_some e))))

  pub gone_other : (at : Cell) → is_living_entity base at.id ≡ true → is_living_entity (after base other) at.id ≡ false
      → is_living_entity (after base one) at.id ≡ true → last one at ≡ None
  gone_other at lived dead lives = by (last one at) refl where
    by : (o : Option Value) → last one at ≡ o → o ≡ None
    by None e = refl
    by (Some v) e = absurd (no-pair (pairs.gone_changed at.id)
        (pairs.gone_after_other (pairs.changed at (record { lived = lived; dead = dead; lives = lives }) (ap is_some e))))

  pub commutes : (log : History) → Interleaves one other log → AppliesOn base log × Same (after base log) (united base one other)
  commutes log order = (
    order-applies base one other laws more first second differ log order,
    orders-same base one other laws more first second differ rules alive twice gone_one gone_other
        log (one ++ other) order (all_in_order one other),
  )
