use Rattle.std.proofs.Common.{◌≡◌, ◌∙◌, sym, ap, map, subst}
use Rattle.std.proofs.lemmas.Result.{IfOk-weaker}
use Rattle.mol_faults_rules.specs.Kept.{kept_fault}
use Rattle.mol_faults_rules.specs.OfKind.{AreAllOfKind, AreOfKind}
use Rattle.mol_faults_entities.specs.pair_faults.Pairs.{ArePairsOf}
use Rattle.mol_faults_entities.specs.pair_faults.Sharing.{address_fault}
use Rattle.mol_faults_entities.proofs.pair_faults_lemmas.AddressFaults.{address-made}
use Rattle.mol_faults_entities.proofs.pair_faults_lemmas.PairFaults.{pair-faults}
use Rattle.mol_faults_entities.proofs.pair_faults_lemmas.PairsOrdered.{pair_same}
use Rattle.mol_faults_entities.proofs.pair_faults.address_faults.same_address.Goals as goal
use Rattle.mol_table_rules.specs.Faults.{SameAddress}

pub in_order-pairs-requires : goal.in_order-pairs-requires
in_order-pairs-requires c = pair_same

pub returns : goal.returns
returns c =
    let program = c.args.table.now in
    let pairs = c.in_order-pairs.result.items in
    let are : ArePairsOf (SameAddress program) pairs = λ pair. (
      λ stands. (c.in_ok-unordered.ensures pair).0 ((c.in_order-pairs.ensures.same pair).0 stands),
      λ shared. (c.in_order-pairs.ensures.same pair).1 ((c.in_ok-unordered.ensures pair).1 shared),
    ) in
    IfOk-weaker c.listed.result (λ faults. map kept_fault faults ≡ map address_fault c.as_slice.result.now)
    (λ faults. AreAllOfKind program 0 faults)
    (λ faults is. subst (AreOfKind program 0) (sym (is ∙ ap (map address_fault) c.as_slice.ensures.value))
    (pair-faults program 0 (SameAddress program) address_fault (address-made program) pairs c.in_order-pairs.ensures.ascending are))
    c.listed.ensures
