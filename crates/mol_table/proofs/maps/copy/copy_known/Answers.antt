use Rattle.std.proofs.Common.{◌≡◌, ◌∙◌, ◌++◌, ◌∷◌, [], sym, ap, subst, take, Some, option_copied, arith}
use Rattle.std.proofs.lemmas.List.{take_all}
use Rattle.std.specs.FinMap.{get, get-empty, get-insert, insert}
use Rattle.indexmap.specs.IndexMap.{keys}
use Rattle.mol_base.specs.Order.{id_cmp, id_cmp-total, id_cmp-IsAntisymmetric}
use Rattle.mol_values_types.specs.Order.{id_eq}
use Rattle.mol_table.specs.Maps.{knowns_of, AreOrdered}
use Rattle.mol_table.proofs.Copying.{HasAt, take-item, has-more, has-same, has-all}
use Rattle.mol_values_types.proofs.Lookups.{inserted, get_is}
use Rattle.mol_values_types.proofs.Ties.{id_ties}
use Rattle.mol_table.proofs.maps.copy.copy_known.Goals.{in-Some+in_ok-insert_sorted, in_default}
use Rattle.mol_table.proofs.maps.copy.copy_known.Goals as goal

pub loop-id-init : goal.loop-id-init
loop-id-init c = record { known = λ q. ap (λ es. get (knowns_of es) q) c.in_ok-copy.ensures.empty ∙ get-empty id_cmp q; ordered = subst AreOrdered (sym c.in_ok-copy.ensures.empty) (λ k d low within. absurd (omega arith)) }

pub loop-id-preserved : goal.loop-id-preserved
loop-id-preserved c =
    let items = c.as_slice-id-items.result.now in
    let k = c.id-item.result in
    let i = c.loop-id.id-index in
    let full = knowns_of c.args.known.now.entries in
    let old = knowns_of c.loop-id.copy.entries in
    let new = knowns_of c.match-get.copy.entries in
    let found : option_copied c.get.result ≡ get full k = c.get.ensures.value ∙ get_is id_cmp id_eq id_ties id_cmp-total k c.args.known.now.entries in
    let more : HasAt full new (take i items ++ k ∷ []) = elim c.match-get.branch [
      | in-Some+in_ok-insert_sorted w ↦
          let is : get full k ≡ Some w.in-Some.what.now = sym found ∙ ap option_copied w.in-Some.is in
          let e : new ≡ insert old k w.in-Some.what.now = ap (λ map. knowns_of map.entries) w.copy-is
          ∙ inserted id_cmp id_eq id_ties id_cmp-total id_cmp-IsAntisymmetric k w.in-Some.what.now c.loop-id.copy.entries w.insert_sorted.new.self.entries w.in_ok-insert_sorted.ensures.updates.0 in
          has-more id_cmp-total id_cmp-IsAntisymmetric full old (take i items) k (Some w.in-Some.what.now) is new
          (λ q. ap (λ map. get map q) e ∙ get-insert id_cmp-total old k w.in-Some.what.now q) c.loop-id.invariant.known
      | in_default w ↦
          subst (λ map. HasAt full map (take i items ++ k ∷ [])) (sym (ap (λ map. knowns_of map.entries) w.copy-is))
          (has-same id_cmp-total id_cmp-IsAntisymmetric full old (take i items) k (sym found ∙ ap option_copied w.in_default.is) c.loop-id.invariant.known)
    ] in
    let ordered : AreOrdered c.match-get.copy.entries = elim c.match-get.branch [
      | in-Some+in_ok-insert_sorted w ↦ subst (λ map. AreOrdered map) (sym (ap (λ map. map.entries) w.copy-is)) (w.in_ok-insert_sorted.ensures.sorted c.loop-id.invariant.ordered)
      | in_default w ↦ subst (λ map. AreOrdered map) (sym (ap (λ map. map.entries) w.copy-is)) c.loop-id.invariant.ordered
    ] in
    record {
      known = subst (λ ks. HasAt full new ks) (sym (take-item items i k c.loop-id-test.true c.id-item.is)) more;
      ordered = ordered;
    }

pub returns-clause-known : goal.returns-clause-known
returns-clause-known c =
    let all : take c.loop-id.id-index c.as_slice-id-items.result.now ≡ keys c.args.known.now =
    take_all c.loop-id.id-index c.as_slice-id-items.result.now c.loop-id-test.false ∙ c.as_slice-id-items.ensures ∙ c.keys.ensures.rest in
    has-all id_cmp-total id_cmp-IsAntisymmetric c.args.known.now.entries (knowns_of c.loop-id.copy.entries)
    (subst (λ ks. HasAt (knowns_of c.args.known.now.entries) (knowns_of c.loop-id.copy.entries) ks) all c.loop-id.invariant.known)
