use Rattle.std.proofs.Common.{rules}
use Rattle.jav_names.proofs.index_lemmas.Searched.{sorted-by_closure}
use Rattle.mol_resolve_classes.specs.signatures.SignatureOrder.{signature_cmp}
use Rattle.mol_resolve_classes.specs.declared.signatures.signature.Signature.{Signature}
use Rattle.mol_resolve_classes.proofs.signatures_lemmas.Repeated.{signature_cmp-total}
use Rattle.mol_resolve_classes.proofs.signatures.signatures.Signatures.new.Goals as goal

pub invariant_of-result : goal.invariant_of-result
invariant_of-result c =
    sorted-by_closure signature_cmp signature_cmp-total (λ (s : Signature). s) (λ a r q k. search rules) _ c.in_ok-sort_by.ensures.sorted
