use Rattle.std.proofs.Common.{◌≡◌, ◌+◌, ◌∙◌, ◌∷◌, ◌++◌, [], List, map, take, sym, ap}
use Rattle.std.proofs.lemmas.List.{map-append, take_more, take_all}
use Rattle.mol_faults_rules.specs.Kept.{kept_fault}
use Rattle.mol_faults_rules.specs.declared.fault.Fault.TheVariants as kept
use Rattle.mol_faults_entities.specs.package_faults.Pairs.{fault_of}
use Rattle.mol_faults_entities.specs.declared.package_faults.inside.Inside.{Inside}
use Rattle.mol_faults_entities.proofs.package_faults.package_classes.faults_of.Goals as goal

pub loop-pair-preserved : goal.loop-pair-preserved
loop-pair-preserved c =
    let pairs : List Inside = c.deref-pair-items.result.now in
    let i = c.loop-pair.pair-index in
    let pair : Inside = c.pair-item.result in
    let old = c.loop-pair.faults.items in
    let taken : take (i + 1) pairs ≡ take i pairs ++ pair ∷ [] =
    take_more pairs i pair c.loop-pair-test.true ∙ ap (λ x. take i pairs ++ x ∷ []) (sym c.pair-item.is) in
    ap (map kept_fault) c.in_ok-push.ensures.items ∙ map-append kept_fault old (kept.PackageIsClass pair.class pair.inside ∷ [])
    ∙ ap (λ faults. faults ++ fault_of pair ∷ []) c.loop-pair.invariant
    ∙ sym (ap (map fault_of) taken ∙ map-append fault_of (take i pairs) (pair ∷ []))

pub returns : goal.returns
returns c =
    ap (map kept_fault) c.from_vec.ensures ∙ c.loop-pair.invariant
    ∙ ap (map fault_of) (take_all c.loop-pair.pair-index c.deref-pair-items.result.now c.loop-pair-test.false
    ∙ c.deref-pair-items.ensures.value)
