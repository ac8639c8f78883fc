use Rattle.std.proofs.Common.{◌≡◌, ◌∙◌, ◌∷◌, ◌++◌, [], Some, None, cond, filter_map, map, sym, ap, subst}
use Rattle.std.specs.Option.{option_to_list}
use Rattle.std.proofs.lemmas.List.{append-nil, map-append, take_all}
use Rattle.mol_base.specs.declared.ident.Id.{Id}
use Rattle.mol_faults_rules.specs.Kept.{kept_fault}
use Rattle.mol_faults_rules.specs.OfKind.{AreOfKind}
use Rattle.mol_faults_rules.specs.declared.fault.Fault.TheVariants as kept
use Rattle.mol_spell_rules.specs.FaultList.{apart}
use Rattle.mol_faults_entities.specs.method_faults.ApartMethods.{is_apart}
use Rattle.mol_faults_entities.proofs.method_faults_lemmas.ApartFound.{apart-listed}
use Rattle.mol_faults_entities.proofs.method_faults_lemmas.Listed.{fault_of, one-more}
use Rattle.mol_faults_entities.proofs.method_faults.apart_methods.apart.Goals.{then-is_apart+in_ok-push, else-is_apart}
use Rattle.mol_faults_entities.proofs.method_faults.apart_methods.apart.Goals as goal

pub loop-id-preserved : goal.loop-id-preserved
loop-id-preserved c =
    let test = is_apart c.args.table.now in
    let ids = c.ids-id-items.result.now in
    let i = c.loop-id.id-index in
    let id : Id = c.id-item.result in
    let old = c.loop-id.faults.items in
    let more : map kept_fault c.if-is_apart.faults.items ≡ map kept_fault old ++ option_to_list (fault_of apart test id) =
    elim c.if-is_apart.branch [
      | then-is_apart+in_ok-push w ↦
          ap (λ faults. map kept_fault faults.items) w.faults-is ∙ ap (map kept_fault) w.in_ok-push.ensures.items
          ∙ map-append kept_fault old (kept.Apart id ∷ [])
          ∙ sym (ap (λ b. map kept_fault old ++ option_to_list (cond b (Some (apart id)) None))
          (sym c.is_apart.ensures ∙ w.if-is_apart.true))
      | else-is_apart w ↦
          ap (λ faults. map kept_fault faults.items) w.faults-is ∙ sym (append-nil (map kept_fault old))
          ∙ sym (ap (λ b. map kept_fault old ++ option_to_list (cond b (Some (apart id)) None))
          (sym c.is_apart.ensures ∙ w.if-is_apart.false))
    ] in
    more ∙ ap (λ faults. faults ++ option_to_list (fault_of apart test id)) c.loop-id.invariant
    ∙ sym (one-more apart test ids i id c.loop-id-test.true c.id-item.is)

pub returns : goal.returns
returns c =
    let program = c.args.table.now in
    let ids = c.ids-id-items in
    subst (AreOfKind program 2)
    (sym (ap (map kept_fault) c.from_vec.ensures ∙ c.loop-id.invariant
    ∙ ap (filter_map (fault_of apart (is_apart program))) (take_all c.loop-id.id-index ids.result.now c.loop-id-test.false)))
    (apart-listed program ids.ensures.rules ids.result.now ids.ensures.ascending ids.ensures.known)
