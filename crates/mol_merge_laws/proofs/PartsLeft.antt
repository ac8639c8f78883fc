-- What each of two logs leaves is part of what both leave together.
use Rattle.std.proofs.Common.{◌≡◌, ◌∙◌, sym, ap, ◌++◌, [], None}
use Rattle.std.specs.FinMap.{get}
use Rattle.std.specs.Option.{option_or}
use Rattle.mol_base.specs.declared.ident.Id.{Id}
use Rattle.mol_log.specs.declared.log.Log.{Log}
use Rattle.mol_log_rules.proofs.LogEntries.{entries-lawful}
use Rattle.mol_log_rules.specs.Histories.{History, after, last}
use Rattle.mol_log_rules.specs.Logs.{history}
use Rattle.mol_merge_laws.proofs.Commutes.{commutes}
use Rattle.mol_merge_laws.proofs.EveryOrder.{decide, order-turned, both-turned}
use Rattle.mol_merge_laws.proofs.Orders.{all_in_order, last-cells, order-known}
use Rattle.mol_merge_laws.proofs.Pairs.{pairs-turned}
use Rattle.mol_merge_laws.proofs.Tags.{tags-differ}
use Rattle.mol_merge_laws.proofs.UnitedIs.{united-is}
use Rattle.mol_merge_laws.proofs.UnitedLives.{in-united, united-lives, above}
use Rattle.mol_merge_laws.specs.PartLaws.{GoTogether, IsLeftIn, PartsOfUnited}
use Rattle.mol_merge_rules.specs.Interleavings.{Interleaves}
use Rattle.mol_merge_rules.specs.TwoLogs.{TagsDiffer}
use Rattle.mol_merge_rules.specs.United.{united}
use Rattle.mol_spell_rules.specs.Clean.{Clean}
use Rattle.mol_table_rules.specs.Program.{Program}
use Rattle.mol_table_rules.specs.Sameness.{Same}
use Rattle.mol_values_types.specs.declared.cell.Cell.{Cell}

module _ (base : Program) (one other : Log) (together : GoTogether base one other) where
  differ : TagsDiffer (history one) (history other)
  differ = tags-differ one other together.both.apart

  first-left : Clean (after base (history other)) → IsLeftIn (united base (history one) (history other)) (after base (history one))
  first-left clean = record {
    known =
        in-united decide base (history one) (history other) (entries-lawful one.entries) (entries-lawful other.entries)
        together.both.first together.both.second differ together.rules together.alive together.none;
    life =
        united-lives decide base (history one) (history other) (entries-lawful one.entries) (entries-lawful other.entries)
        together.both.first together.both.second differ together.rules together.alive together.none;
    above =
        above decide base (history one) (history other) (entries-lawful one.entries) (entries-lawful other.entries)
        together.both.first together.both.second differ together.rules together.alive together.none clean;
  }

  together-turned : GoTogether base other one
  together-turned = record {
    rules = together.rules;
    alive = together.alive;
    both = both-turned base one other together.both;
    none = pairs-turned base (history one) (history other) [] together.none;
  }

-- ---- the other log first

module _ (base : Program) (one other : Log) (together : GoTogether base one other) where
  back : GoTogether base other one
  back = together-turned base one other together

  abbrev here : Program
  here = united base (history one) (history other)

  abbrev there : Program
  there = united base (history other) (history one)

  order : Interleaves (history other) (history one) (history one ++ history other)
  order = order-turned (all_in_order (history one) (history other))

  same : Same here there
  same =
      (commutes decide base (history other) (history one) (entries-lawful other.entries) (entries-lawful one.entries)
      back.both.first back.both.second (differ base other one back) back.rules back.alive back.none
      (history one ++ history other) order).1

  same-known : (id : Id) → get here.known id ≡ get there.known id
  same-known id =
      order-known base (history other) (history one) (entries-lawful other.entries) (entries-lawful one.entries)
      back.both.first back.both.second (differ base other one back) (history one ++ history other) order id
      ∙ sym ((united-is base (history other) (history one)).known id)

  second-left : Clean (after base (history one)) → IsLeftIn here (after base (history other))
  second-left clean = record {
    known = λ id known is. same-known id ∙ left.known id known is;
    life = λ id known is lives. left.life id known is (sym (same.living id) ∙ lives);
    above = λ at value class slot lives held also names alive. same.living class
        ∙ left.above at value class slot (sym (same.living at.id) ∙ lives) (sym (same.agree at.id at.slot lives) ∙ held) also names alive;
  } where
    left : IsLeftIn there (after base (history other))
    left = first-left base other one back clean

-- ---- cells

module _ (base : Program) (one other : History) (at : Cell) where
  by-first : last other at ≡ None → get (united base one other).cells at ≡ get (after base one).cells at
  by-first e =
      (united-is base one other).cells at ∙ ap (λ o. option_or o (option_or (last one at) (get base.cells at))) e
      ∙ sym (last-cells one base at)

  by-second : last one at ≡ None → get (united base one other).cells at ≡ get (after base other).cells at
  by-second e =
      (united-is base one other).cells at ∙ ap (λ o. option_or (last other at) (option_or o (get base.cells at))) e
      ∙ sym (last-cells other base at)

pub parts_of_united : PartsOfUnited
parts_of_united = record {
  first = first-left;
  second = second-left;
  by_first = by-first;
  by_second = by-second;
}
