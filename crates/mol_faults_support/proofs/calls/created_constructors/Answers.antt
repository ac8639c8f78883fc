use Rattle.std.proofs.Common.{◌∙◌, subst}
use Rattle.std.proofs.lemmas.Result.{IfOk-weaker}
use Rattle.mol_spell_rules.specs.DefaultCreations.{default_creations}
use Rattle.mol_faults_support.specs.Declarations.{AreSame, ConstructsAny}
use Rattle.mol_faults_support.proofs.Among.{constructs-same}
use Rattle.mol_faults_support.proofs.calls.created_constructors.Goals as goal

pub returns : goal.returns
returns c =
    let program = c.args.index.now in
    let keys = c.in_ok-classes.classes.keys in
    let same = subst (AreSame keys) (c.as_slice.ensures.value ∙ c.in_ok-created.ensures) c.in_ok-classes.ensures in
    IfOk-weaker c.constructors_of.result _ _ (λ found constructs.
    constructs-same program keys (default_creations c.args.value.now) found.items same
    (subst (λ among. ConstructsAny program among found.items) c.as_slice-2.ensures.keys constructs)) c.constructors_of.ensures
