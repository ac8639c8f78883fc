use Rattle.std.proofs.Common.{map, subst, sym, Contains}
use Rattle.std.proofs.lemmas.Result.{IfOk-weaker}
use Rattle.std.specs.List.Sorted.{IsSorted}
use Rattle.std.specs.Prelude.{◌↔◌, ◌≡◌}
use Rattle.mol_faults_rules.specs.Kept.{kept_target}
use Rattle.mol_faults.proofs.MetNames.{has-met}
use Rattle.mol_faults.proofs.NamesSorted.{are-there}
use Rattle.mol_faults.specs.Names.{names_cmp, place, place_of, AreNames}
use Rattle.mol_faults_misread.specs.declared.misread_faults.names.MisreadName.{MisreadName}
use Rattle.mol_faults_misread.specs.misread_faults.Found.{kept_name}
use Rattle.mol_faults_rules.specs.Met.{kept_met}
use Rattle.mol_faults.proofs.supports.Supports.met_by_name.Goals as goal
use Rattle.mol_table_rules.specs.Program.{Program}
use Rattle.mol_table_rules.specs.Tidy.{tidy}

pub names_at-names-requires : goal.names_at-names-requires
names_at-names-requires c = subst (IsSorted names_cmp) (sym c.as_slice.ensures.value) c.self.invariant.sorted

pub returns : goal.returns
returns c =
    let program = c.args.self.now in
    let at = c.args.at.now in
    let number = c.args.number in
    let names = c.self.inside.names.items in
    let run = c.names_at-names.result.now in
    let there = are-there (tidy program) names run at number (subst (λ (p : Program). AreNames (tidy p) names) c.self.view_is
    c.self.invariant)
    (subst (λ all. (name : MisreadName) → Contains run name ↔ (Contains all name × (place_of name ≡ place at number)))
    c.as_slice.ensures.value c.names_at-names.ensures) in
    IfOk-weaker c.met_among.result _ _ (λ met is.
    has-met program at number (kept_target c.args.target.now) (map kept_name run) there (map kept_met met.items) is) c.met_among.ensures
