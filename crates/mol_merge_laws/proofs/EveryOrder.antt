-- The entries of two logs in every order: as histories, whichever log goes first.
use Rattle.std.proofs.Common.{◌≡◌, ◌≢◌, ◌∙◌, refl, sym, true, false, true≢false, List, [], ◌++◌, map}
use mathlib.Core.Logic.{inl, inr}
use Rattle.std.specs.FinMap.{get}
use Rattle.std.specs.Prelude.{◌⊎◌, Bool, cond}
use Rattle.mol_base.specs.declared.ident.Id.{Id}
use Rattle.mol_log.specs.declared.entries.entry.Entry.{Entry}
use Rattle.mol_log.specs.declared.log.Log.{Log}
use Rattle.mol_log_rules.proofs.LogEntries.{entries-lawful}
use Rattle.mol_log_rules.proofs.WhatIsLeft.{rules-after}
use Rattle.mol_log_rules.specs.Histories.{AppliesOn, after}
use Rattle.mol_log_rules.specs.Living.{HasNoDead}
use Rattle.mol_log_rules.specs.Logs.{history, history_of, stamped}
use Rattle.mol_merge_laws.proofs.Commutes.{commutes}
use Rattle.mol_merge_laws.proofs.Orders.{all_in_order, order-applies, order-known}
use Rattle.mol_merge_laws.proofs.Tags.{apart-turned, tags-differ}
use Rattle.mol_merge_laws.specs.OrderLaws.{BothApply, IsOrder, HaveNoPairs, left_by_both, EveryOrder}
use Rattle.mol_merge_rules.specs.Interleavings.{Interleaves, done, from_first, from_second}
use Rattle.mol_merge_rules.specs.PairConflicts.{ArePairs}
use Rattle.mol_merge_rules.specs.TwoLogs.{comes_first, lesser, greater, TagsDiffer}
use Rattle.mol_merge_rules.specs.United.{united}
use Rattle.mol_table_rules.proofs.Values.{same_value-is}
use Rattle.mol_table_rules.specs.Program.{Program}
use Rattle.mol_table_rules.specs.Rules.{IsProgram}
use Rattle.mol_table_rules.specs.Sameness.{Same}
use Rattle.mol_table_rules.specs.Values.{same_value}
use Rattle.mol_values_types.specs.declared.value.Value.{Value}

-- an order of two is one of the two in turn
pub order-turned : {X : Type 0} {xs ys zs : List X} → Interleaves xs ys zs → Interleaves ys xs zs
order-turned done = done
order-turned (from_first rest) = from_second (order-turned rest)
order-turned (from_second rest) = from_first (order-turned rest)

order-mapped : {X Y : Type 0} (f : X → Y) {xs ys zs : List X} → Interleaves xs ys zs → Interleaves (map f xs) (map f ys) (map f zs)
order-mapped f done = done
order-mapped f (from_first rest) = from_first (order-mapped f rest)
order-mapped f (from_second rest) = from_second (order-mapped f rest)

pub decide : (x y : Value) → (x ≡ y) ⊎ (x ≢ y)
decide x y = by (same_value x y) refl where
  by : (b : Bool) → same_value x y ≡ b → (x ≡ y) ⊎ (x ≢ y)
  by true is = inl ((same_value-is x y).0 is)
  by false is = inr (λ same. true≢false (sym ((same_value-is x y).1 same) ∙ is))

module _ (base : Program) (one other : Log) (both : BothApply base one other) (entries : List Entry)
    (order : Interleaves one.entries other.entries entries) where
  mapped : Interleaves (history one) (history other) (history_of entries)
  mapped = order-mapped stamped order

  differ : TagsDiffer (history one) (history other)
  differ = tags-differ one other both.apart

  applies-over : AppliesOn base (history_of entries)
  applies-over =
      order-applies base (history one) (history other) (entries-lawful one.entries) (entries-lawful other.entries) both.first both.second
      differ (history_of entries) mapped

  known-over : (id : Id) → get (after base (history_of entries)).known id ≡ get (united base (history one) (history other)).known id
  known-over id =
      order-known base (history one) (history other) (entries-lawful one.entries) (entries-lawful other.entries) both.first both.second
      differ (history_of entries) mapped id
      ∙ sym (order-known base (history one) (history other) (entries-lawful one.entries) (entries-lawful other.entries) both.first
      both.second differ (history one ++ history other) (all_in_order (history one) (history other)) id)

  same-over : IsProgram base → HasNoDead base → ArePairs base (history one) (history other) []
      → Same (after base (history_of entries)) (united base (history one) (history other))
  same-over rules alive none =
      (commutes decide base (history one) (history other) (entries-lawful one.entries) (entries-lawful other.entries) both.first both.second
      differ rules alive none (history_of entries) mapped).1

pub both-turned : (base : Program) (one other : Log) → BothApply base one other → BothApply base other one
both-turned base one other both = record { first = both.second; second = both.first; apart = apart-turned one other both.apart }

-- what holds of both logs in either order holds of the lesser and the greater one
in-order : (P : Log → Log → Type 0) (one other : Log) → P one other → P other one → P (lesser one other) (greater one other)
in-order P one other first second = by (comes_first one other) where
  by : (b : Bool) → P (cond b one other) (cond b other one)
  by true = first
  by false = second

module _ (base : Program) (one other : Log) (entries : List Entry) (order : IsOrder base one other entries) where
  turned : Interleaves other.entries one.entries entries
  turned = order-turned order.order

  back : BothApply base other one
  back = both-turned base one other order.both

  known-so : (id : Id) → get (after base (history_of entries)).known id ≡ get (left_by_both base one other).known id
  known-so id =
      in-order (λ x y. get (after base (history_of entries)).known id ≡ get (united base (history x) (history y)).known id) one other
      (known-over base one other order.both entries order.order id) (known-over base other one back entries turned id)

  same-so : IsProgram base → HasNoDead base → HaveNoPairs base one other
      → Same (after base (history_of entries)) (left_by_both base one other)
  same-so rules alive =
      in-order
      (λ x y. ArePairs base (history x) (history y) [] → Same (after base (history_of entries)) (united base (history x) (history y)))
      one other (same-over base one other order.both entries order.order rules alive)
      (same-over base other one back entries turned rules alive)

  applies-so : AppliesOn base (history_of entries)
  applies-so = applies-over base one other order.both entries order.order

in-turn : (base : Program) (one other : Log) → BothApply base one other
    → IsOrder base one other ((lesser one other).entries ++ (greater one other).entries)
in-turn base one other both = record {
  both = both;
  order = in-order (λ x y. Interleaves one.entries other.entries (x.entries ++ y.entries)) one other
      (all_in_order one.entries other.entries) (order-turned (all_in_order other.entries one.entries));
}

pub every_order : EveryOrder
every_order = record {
  applies = applies-so;
  rules = λ base one other entries order rules. rules-after base (history_of entries) (entries-lawful entries)
      (applies-so base one other entries order) rules;
  known = known-so;
  same = same-so;
  in_turn = in-turn;
}
