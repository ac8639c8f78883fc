use Rattle.std.proofs.Common.{◌≡◌, ◌∙◌, ◌∷◌, ◌++◌, [], Some, None, cond, filter_map, map, sym, ap, subst}
use Rattle.std.specs.Option.{option_to_list}
use Rattle.std.proofs.lemmas.List.{append-nil, map-append, take_all}
use Rattle.mol_base.specs.declared.ident.Id.{Id}
use Rattle.mol_faults_rules.specs.Kept.{kept_fault}
use Rattle.mol_faults_rules.specs.OfKind.{AreOfKind}
use Rattle.mol_faults_rules.specs.declared.fault.Fault.TheVariants as kept
use Rattle.mol_spell_rules.specs.FaultList.{outside_name}
use Rattle.mol_faults_entities.specs.method_faults.OutsideNames.{has_outside_name}
use Rattle.mol_faults_entities.proofs.method_faults_lemmas.Listed.{fault_of, one-more}
use Rattle.mol_faults_entities.proofs.method_faults_lemmas.OutsideNamesFound.{outside-names}
use Rattle.mol_faults_entities.proofs.method_faults.outside_names.outside_name.Goals.{then-branch+in_ok-push, else-branch}
use Rattle.mol_faults_entities.proofs.method_faults.outside_names.outside_name.Goals as goal

pub loop-id-preserved : goal.loop-id-preserved
loop-id-preserved c =
    let test = has_outside_name c.args.table.now in
    let ids = c.ids-id-items.result.now in
    let i = c.loop-id.id-index in
    let id : Id = c.id-item.result in
    let old = c.loop-id.faults.items in
    let more : map kept_fault c.if-branch.faults.items ≡ map kept_fault old ++ option_to_list (fault_of outside_name test id) =
    elim c.if-branch.branch [
      | then-branch+in_ok-push w ↦
          ap (λ faults. map kept_fault faults.items) w.faults-is ∙ ap (map kept_fault) w.in_ok-push.ensures.items
          ∙ map-append kept_fault old (kept.OutsideName id ∷ [])
          ∙ sym (ap (λ b. map kept_fault old ++ option_to_list (cond b (Some (outside_name id)) None))
          (sym c.in_ok-has_outside_name.ensures ∙ w.if-branch.true))
      | else-branch w ↦
          ap (λ faults. map kept_fault faults.items) w.faults-is ∙ sym (append-nil (map kept_fault old))
          ∙ sym (ap (λ b. map kept_fault old ++ option_to_list (cond b (Some (outside_name id)) None))
          (sym c.in_ok-has_outside_name.ensures ∙ w.if-branch.false))
    ] in
    more ∙ ap (λ faults. faults ++ option_to_list (fault_of outside_name test id)) c.loop-id.invariant
    ∙ sym (one-more outside_name test ids i id c.loop-id-test.true c.id-item.is)

pub returns : goal.returns
returns c =
    let program = c.args.table.now in
    let ids = c.ids-id-items in
    subst (AreOfKind program 3)
    (sym (ap (map kept_fault) c.from_vec.ensures ∙ c.loop-id.invariant
    ∙ ap (filter_map (fault_of outside_name (has_outside_name program))) (take_all c.loop-id.id-index ids.result.now c.loop-id-test.false)))
    (outside-names program ids.result.now ids.ensures.ascending ids.ensures.known)
