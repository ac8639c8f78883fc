use Rattle.std.proofs.Common.{◌≡◌, ℕ, ◌+◌, ◌∙◌, ◌++◌, suc, Some, List, length, ap, arith}
use Rattle.std.proofs.lemmas.Result.{on_ok_weaker}
use Rattle.std.specs.FinMap.{len}
use Rattle.mol_base.specs.declared.ident.Id.{Id}
use Rattle.mol_faults_support.proofs.Owners.{many, met-way-closed, met-way-is}
use Rattle.mol_faults_support.specs.Ways.{fresh_way}
use Rattle.mol_table_rules.specs.Ancestors.{unmet, walk}
use Rattle.mol_table_rules.specs.Program.{Program}
use Rattle.mol_faults_support.proofs.ways.meet_way.Goals as goal

-- one step more than there are known identities
whole : (program : Program) (old new : List Id) (class : Id) (steps : ℕ) → steps ≡ suc (len program.known)
    → new ≡ old ++ walk steps program old (unmet old (Some class)) → new ≡ old ++ fresh_way program old class
whole program old new class steps enough is = is ∙ ap (λ n. old ++ walk n program old (unmet old (Some class))) enough

pub returns : goal.returns
returns c =
    let program = c.args.table.now in
    let old = c.args.met.now.keys in
    let class = c.args.class.now in
    let ids = c.ids-ids.result.now in
    let rules = c.ids-ids.ensures.rules in
    let enough : length ids + 1 ≡ suc (len program.known) =
    omega (arith, many program ids c.ids-ids.ensures.ascending c.ids-ids.ensures.known) in
    record {
      way = on_ok_weaker c.go_up.result (whole program old _ class (length ids + 1) enough) c.go_up.ensures;
      closed = on_ok_weaker c.go_up.result
          (λ is. met-way-closed program old _ class (whole program old _ class (length ids + 1) enough is) rules c.requires)
          c.go_up.ensures;
      met = on_ok_weaker c.go_up.result
          (λ is. met-way-is program old _ class (whole program old _ class (length ids + 1) enough is) rules c.requires)
          c.go_up.ensures;
    }
