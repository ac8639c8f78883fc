use Rattle.std.proofs.Common.{◌≡◌, ◌≤◌, ◌∙◌, ℕ, List, ap, subst, Some}
use Rattle.std.specs.FinMap.{get, get-empty}
use Rattle.mol_base.specs.Order.{id_cmp}
use Rattle.mol_table_rules.specs.Program.{Program}
use Rattle.mol_values_types.specs.declared.known.Known.TheVariants as knowns
use Rattle.bench_table.specs.Classes.{id_of}
use Rattle.bench_table.proofs.steps.filled.Goals as goal

pub fill-requires : goal.fill-requires
fill-requires c =
    λ number. ap (λ (p : Program). get p.known (id_of c.base.result number)) c.new-table.ensures ∙ get-empty id_cmp (id_of c.base.result number)

pub returns-clause-known : goal.returns-clause-known
returns-clause-known c =
    subst (λ (tag : List ℕ). (number : ℕ) → 1 ≤ number → number ≤ c.args.base → get c.fill.new.table.known (id_of tag number) ≡ Some knowns.Class)
    c.base.ensures c.in_ok-fill.ensures.known

pub returns-clause-elsewhere : goal.returns-clause-elsewhere
returns-clause-elsewhere c =
    λ id apart.
    c.in_ok-fill.ensures.elsewhere id (λ e. apart (e ∙ c.base.ensures))
    ∙ ap (λ (p : Program). get p.known id) c.new-table.ensures ∙ get-empty id_cmp id
