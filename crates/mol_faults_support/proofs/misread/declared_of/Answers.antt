use Rattle.std.proofs.Common.{◌∙◌, ap, subst, filter_map}
use Rattle.std.proofs.lemmas.Result.{IfOk-weaker}
use Rattle.mol_faults_rules.specs.Met.{kept_met}
use Rattle.mol_faults_support.specs.Declarations.{AreSame, DeclaresAny}
use Rattle.mol_faults_support.specs.Met.{method_for}
use Rattle.mol_faults_support.proofs.Among.{declares-same}
use Rattle.mol_faults_support.proofs.misread.declared_of.Goals as goal
use Rattle.mol_table_rules.specs.Program.{Program}

pub returns : goal.returns
returns c =
    let program = c.args.index.now in
    let met = c.args.met.now in
    let keys = c.in_ok-methods.methods.keys in
    let same = subst (AreSame keys) (c.as_slice.ensures.value ∙ c.in_ok-found.ensures
    ∙ ap (λ (p : Program). filter_map (λ target. method_for p (kept_met target)) met) c.table.ensures) c.in_ok-methods.ensures in
    IfOk-weaker c.declarations_of.result _ _ (λ found declares.
    declares-same program keys (filter_map (λ target. method_for program (kept_met target)) met) found.items same
    (subst (λ among. DeclaresAny program among found.items) c.as_slice-2.ensures.keys declares)) c.declarations_of.ensures
