use Rattle.std.proofs.Common.{◌≡◌, ◌∙◌, ◌++◌, ◌∷◌, [], sym, ap, subst, take, Some, option_copied}
use Rattle.std.proofs.lemmas.List.{take_all}
use Rattle.std.specs.FinMap.{get, get-empty, get-insert, insert}
use Rattle.indexmap.specs.IndexMap.{keys}
use Rattle.mol_base.specs.Order.{id_cmp, id_cmp-total, id_cmp-IsAntisymmetric}
use Rattle.mol_values_types.specs.Order.{id_eq}
use Rattle.mol_table.specs.Maps.{counts_of}
use Rattle.mol_table.proofs.Copying.{HasAt, take-item, has-more, has-same, has-all}
use Rattle.mol_values_types.proofs.Lookups.{inserted, get_is}
use Rattle.mol_values_types.proofs.Ties.{id_ties}
use Rattle.mol_table.proofs.maps.copy.copy_numbers.Goals.{in-Some+in_ok-insert, in_default}
use Rattle.mol_table.proofs.maps.copy.copy_numbers.Goals as goal

pub loop-id-init : goal.loop-id-init
loop-id-init c = λ q. ap (λ es. get (counts_of es) q) c.in_ok-copy.ensures.empty ∙ get-empty id_cmp q

pub loop-id-preserved : goal.loop-id-preserved
loop-id-preserved c =
    let items = c.as_slice-id-items.result.now in
    let k = c.id-item.result in
    let i = c.loop-id.id-index in
    let full = counts_of c.args.numbers.now.entries in
    let old = counts_of c.loop-id.copy.entries in
    let new = counts_of c.match-get.copy.entries in
    let found : option_copied c.get.result ≡ get full k = c.get.ensures.value ∙ get_is id_cmp id_eq id_ties id_cmp-total k c.args.numbers.now.entries in
    let more : HasAt full new (take i items ++ k ∷ []) = elim c.match-get.branch [
      | in-Some+in_ok-insert w ↦
          let is : get full k ≡ Some w.in-Some.number.now = sym found ∙ ap option_copied w.in-Some.is in
          let e : new ≡ insert old k w.in-Some.number.now = ap (λ map. counts_of map.entries) w.copy-is
          ∙ inserted id_cmp id_eq id_ties id_cmp-total id_cmp-IsAntisymmetric k w.in-Some.number.now c.loop-id.copy.entries w.insert.new.self.entries w.in_ok-insert.ensures.updates.0 in
          has-more id_cmp-total id_cmp-IsAntisymmetric full old (take i items) k (Some w.in-Some.number.now) is new
          (λ q. ap (λ map. get map q) e ∙ get-insert id_cmp-total old k w.in-Some.number.now q) c.loop-id.invariant
      | in_default w ↦
          subst (λ map. HasAt full map (take i items ++ k ∷ [])) (sym (ap (λ map. counts_of map.entries) w.copy-is))
          (has-same id_cmp-total id_cmp-IsAntisymmetric full old (take i items) k (sym found ∙ ap option_copied w.in_default.is) c.loop-id.invariant)
    ] in
    subst (λ ks. HasAt full new ks) (sym (take-item items i k c.loop-id-test.true c.id-item.is)) more

pub returns : goal.returns
returns c =
    let all : take c.loop-id.id-index c.as_slice-id-items.result.now ≡ keys c.args.numbers.now =
    take_all c.loop-id.id-index c.as_slice-id-items.result.now c.loop-id-test.false ∙ c.as_slice-id-items.ensures ∙ c.keys.ensures.rest in
    has-all id_cmp-total id_cmp-IsAntisymmetric c.args.numbers.now.entries (counts_of c.loop-id.copy.entries)
    (subst (λ ks. HasAt (counts_of c.args.numbers.now.entries) (counts_of c.loop-id.copy.entries) ks) all c.loop-id.invariant)
