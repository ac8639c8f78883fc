use Rattle.std.proofs.Common.{◌≡◌, ◌∙◌, ◌++◌, ◌∷◌, [], sym, ap, subst, take}
use Rattle.std.proofs.lemmas.List.{take_all}
use Rattle.std.specs.FinMap.{get, get-empty, get-insert, insert}
use Rattle.std.specs.Prelude.{option_map}
use Rattle.indexmap.specs.IndexMap.{keys}
use Rattle.mol_base.specs.Order.{id_cmp, id_cmp-total, id_cmp-IsAntisymmetric}
use Rattle.mol_table.specs.Maps.{program_in}
use Rattle.mol_values_types.specs.Order.{id_eq}
use Rattle.mol_table_numbers.specs.Tops.{tops_of, top_in}
use Rattle.mol_table_numbers.specs.declared.tops.Top.{Top}
use Rattle.mol_table.proofs.Copying.{take-item}
use Rattle.mol_values_types.proofs.Lookups.{inserted}
use Rattle.mol_values_types.proofs.Ties.{id_ties}
use Rattle.mol_table_numbers.proofs.TopsSearched.{AreSearched, searched-none, searched-same, searched-put, searched-bare, searched-all}
use Rattle.mol_table_numbers.proofs.search.tops_by_search.Goals.{in-Some+in_ok-decl+in-Some-2+in_ok-insert, in-Some+in_ok-decl+in_default-2, in_default}
use Rattle.mol_table_numbers.proofs.search.tops_by_search.Goals as goal

pub loop-id-init : goal.loop-id-init
loop-id-init c = searched-none c.args.maps.now c.new-tops.result.entries (λ method. ap (λ es. top_in es method) c.new-tops.ensures.empty ∙ ap (option_map _) (get-empty id_cmp method))

pub loop-id-preserved : goal.loop-id-preserved
loop-id-preserved c =
    let maps = c.args.maps.now in
    let program = program_in maps in
    let items = c.as_slice-id-items.result.now in
    let i = c.loop-id.id-index in
    let id = c.id-item.result in
    let old = c.loop-id.tops.entries in
    let new = c.match-living_of.tops.entries in
    let more : AreSearched maps (take i items ++ id ∷ []) new = elim c.match-living_of.branch [
      | in-Some+in_ok-decl+in-Some-2+in_ok-insert w ↦
          let own = w.in-Some.method in
          let top : Top = record { height = 0; decl = w.in-Some-2.decl } in
          let e : tops_of new ≡ insert (tops_of old) own top = ap (λ map. tops_of map.entries) w.tops-is
          ∙ inserted id_cmp id_eq id_ties id_cmp-total id_cmp-IsAntisymmetric own top old w.insert.new.self.entries w.in_ok-insert.ensures.updates.0 in
          searched-put maps (take i items) old new id own top (sym c.living_of.ensures ∙ w.in-Some.is) (sym w.in_ok-decl.ensures ∙ w.in-Some-2.is)
          (λ method. ap (λ map. get map method) e ∙ get-insert id_cmp-total (tops_of old) own top method) c.loop-id.invariant
      | in-Some+in_ok-decl+in_default-2 w ↦
          subst (AreSearched maps (take i items ++ id ∷ [])) (sym (ap (λ map. map.entries) w.tops-is))
          (searched-bare maps (take i items) old id w.in-Some.method (sym c.living_of.ensures ∙ w.in-Some.is) (sym w.in_ok-decl.ensures ∙ w.in_default-2.is) c.loop-id.invariant)
      | in_default w ↦
          subst (AreSearched maps (take i items ++ id ∷ [])) (sym (ap (λ map. map.entries) w.tops-is))
          (searched-same maps (take i items) old id (sym c.living_of.ensures ∙ w.in_default.is) c.loop-id.invariant)
    ] in
    subst (λ ids. AreSearched maps ids new) (sym (take-item items i id c.loop-id-test.true c.id-item.is)) more

pub returns : goal.returns
returns c =
    let items = c.as_slice-id-items.result.now in
    let maps = c.args.maps.now in
    let all : take c.loop-id.id-index items ≡ keys maps.known =
    take_all c.loop-id.id-index items c.loop-id-test.false ∙ c.as_slice-id-items.ensures ∙ c.keys.ensures.rest in
    searched-all maps c.loop-id.tops.entries (subst (λ ids. AreSearched maps ids c.loop-id.tops.entries) all c.loop-id.invariant)
