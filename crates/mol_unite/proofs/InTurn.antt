-- What one log leaves, and then another one that shares no tag with it.
use Rattle.std.proofs.Common.{◌≡◌, ◌∙◌, ap, sym, subst, ◌++◌, Result}
use Rattle.std.specs.Prelude.{Ok, Err, IfOk}
use Rattle.mol_log.specs.declared.log.Log.{Log}
use Rattle.mol_log_rules.proofs.Appended.{applies-append, leaves-append}
use Rattle.mol_log_rules.proofs.Laws.{logs_lawful}
use Rattle.mol_log_rules.specs.Histories.{AppliesOn, after}
use Rattle.mol_log_rules.specs.Logs.{history}
use Rattle.mol_merge_laws.proofs.Laws.{logs_apart}
use Rattle.mol_merge_laws.proofs.Orders.{all_in_order, order-applies}
use Rattle.mol_merge_rules.specs.TwoLogs.{ShareNoTag}
use Rattle.mol_merge_rules.specs.United.{united}
use Rattle.mol_table_rules.specs.Program.{Program}

-- what the one leaves and then the other is the united program
pub left-in-turn : (base : Program) (one other : Log)
    → after (after base (history one)) (history other) ≡ united base (history one) (history other)
left-in-turn base one other = sym (leaves-append base (history one) (history other))

-- so it is where the one was applied to a copy
pub answered-in-turn : {E : Type 0} (base left : Program) (one other : Log) (answer : Result Program E) → left ≡ after base (history one)
    → IfOk answer (λ table. table ≡ after left (history other))
    → IfOk answer (λ table. table ≡ united base (history one) (history other))
answered-in-turn base left one other (Ok table) is then =
    then ∙ ap (λ (p : Program). after p (history other)) is ∙ left-in-turn base one other
answered-in-turn base left one other (Err fault) is then = tt {0}

module _ (base : Program) (one other : Log) (first : AppliesOn base (history one)) (second : AppliesOn base (history other))
    (apart : ShareNoTag one other) where
  pub both-in-turn : AppliesOn base (history one ++ history other)
  both-in-turn =
      order-applies base (history one) (history other) (logs_lawful.lawful one) (logs_lawful.lawful other) first second
      (logs_apart.entries one other apart) (history one ++ history other) (all_in_order (history one) (history other))

  -- the other applies to what the one leaves
  pub other-applies : AppliesOn (after base (history one)) (history other)
  other-applies = ((applies-append base (history one) (history other)).0 both-in-turn).1

  pub applies-behind : (left : Program) → left ≡ after base (history one) → AppliesOn left (history other)
  applies-behind left is = subst (λ (p : Program). AppliesOn p (history other)) (sym is) other-applies
