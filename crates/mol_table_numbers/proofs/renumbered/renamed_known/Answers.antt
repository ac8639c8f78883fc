use Rattle.std.proofs.Common.{◌≡◌, ◌∙◌, ◌++◌, ◌∷◌, [], sym, ap, subst, take, option_copied}
use Rattle.std.proofs.lemmas.List.{take_all}
use Rattle.std.specs.FinMap.{get, get-empty, get-insert, insert}
use Rattle.mol_base.specs.Order.{id_cmp, id_cmp-total, id_cmp-IsAntisymmetric}
use Rattle.std.proofs.Common.{arith}
use Rattle.mol_table.specs.Maps.{knowns_of, program_in, AreOrdered}
use Rattle.mol_values_types.specs.Order.{id_eq}
use Rattle.mol_values.specs.Renaming.{names_of}
use Rattle.mol_table.proofs.Copying.{take-item}
use Rattle.mol_values_types.proofs.Lookups.{inserted, get_is}
use Rattle.mol_table_numbers.proofs.Renumbering.{KnownTaken, known-more, known-dead, known-absent, known-none, known-all}
use Rattle.mol_values_types.proofs.Ties.{id_ties}
use Rattle.mol_table_numbers.proofs.renumbered.renamed_known.Goals.{in-Some+in-Some-get+in_ok-insert_sorted, in-Some+in_default-get, in_default}
use Rattle.mol_table_numbers.proofs.renumbered.renamed_known.Goals as goal

pub loop-id-init : goal.loop-id-init
loop-id-init c = record {
  known = known-none (program_in c.args.maps.now) c.args.names.now.entries c.requires.names (knowns_of c.new-known.result.entries)
      (λ q. ap (λ es. get (knowns_of es) q) c.new-known.ensures.empty ∙ get-empty id_cmp q);
  ordered = subst AreOrdered (sym c.new-known.ensures.empty) (λ k d low within. absurd (omega arith));
}

pub loop-id-preserved : goal.loop-id-preserved
loop-id-preserved c =
    let maps = c.args.maps.now in
    let program = program_in maps in
    let names = c.args.names.now.entries in
    let has = c.requires.names in
    let items = c.args.order.now in
    let i = c.loop-id.id-index in
    let x = c.id-item.result in
    let was = knowns_of c.loop-id.known.entries in
    let new = knowns_of c.match-get.known.entries in
    let named : option_copied c.get.result ≡ get (names_of names) x = c.get.ensures.value ∙ get_is id_cmp id_eq id_ties id_cmp-total x names in
    let more : KnownTaken program new (take i items ++ x ∷ []) = elim c.match-get.branch [
      | in-Some+in-Some-get+in_ok-insert_sorted w ↦
          let name = w.in-Some.name.now in
          let v = w.in-Some-get.what.now in
          let changed = w.rename_known.result in
          let found : option_copied w.get-in-Some.result ≡ get program.known x = w.get-in-Some.ensures.value ∙ get_is id_cmp id_eq id_ties id_cmp-total x maps.known.entries in
          let e : new ≡ insert was name changed = ap (λ map. knowns_of map.entries) w.known-is
          ∙ inserted id_cmp id_eq id_ties id_cmp-total id_cmp-IsAntisymmetric name changed c.loop-id.known.entries w.insert_sorted.new.self.entries w.in_ok-insert_sorted.ensures.updates.0 in
          known-more program names has was new (take i items) x name v changed (sym named ∙ ap option_copied w.in-Some.is) (sym found ∙ ap option_copied w.in-Some-get.is) w.rename_known.ensures
          (λ q. ap (λ map. get map q) e ∙ get-insert id_cmp-total was name changed q) c.loop-id.invariant.known
      | in-Some+in_default-get w ↦
          let found : option_copied w.get-in-Some.result ≡ get program.known x = w.get-in-Some.ensures.value ∙ get_is id_cmp id_eq id_ties id_cmp-total x maps.known.entries in
          subst (λ map. KnownTaken program map (take i items ++ x ∷ [])) (sym (ap (λ map. knowns_of map.entries) w.known-is))
          (known-absent program names has was (take i items) x (sym found ∙ ap option_copied w.in_default-get.is) c.loop-id.invariant.known)
      | in_default w ↦
          subst (λ map. KnownTaken program map (take i items ++ x ∷ [])) (sym (ap (λ map. knowns_of map.entries) w.known-is))
          (known-dead program names has was (take i items) x (sym named ∙ ap option_copied w.in_default.is) c.loop-id.invariant.known)
    ] in
    let ordered : AreOrdered c.match-get.known.entries = elim c.match-get.branch [
      | in-Some+in-Some-get+in_ok-insert_sorted w ↦ subst (λ map. AreOrdered map) (sym (ap (λ map. map.entries) w.known-is)) (w.in_ok-insert_sorted.ensures.sorted c.loop-id.invariant.ordered)
      | in-Some+in_default-get w ↦ subst (λ map. AreOrdered map) (sym (ap (λ map. map.entries) w.known-is)) c.loop-id.invariant.ordered
      | in_default w ↦ subst (λ map. AreOrdered map) (sym (ap (λ map. map.entries) w.known-is)) c.loop-id.invariant.ordered
    ] in
    record {
      known = subst (λ ks. KnownTaken program new ks) (sym (take-item items i x c.loop-id-test.true c.id-item.is)) more;
      ordered = ordered;
    }

pub returns-clause-known : goal.returns-clause-known
returns-clause-known c =
    let program = program_in c.args.maps.now in
    known-all program c.args.names.now.entries c.requires.names (knowns_of c.loop-id.known.entries) c.args.order.now c.requires.order
    (subst (λ ks. KnownTaken program (knowns_of c.loop-id.known.entries) ks) (take_all c.loop-id.id-index c.args.order.now c.loop-id-test.false) c.loop-id.invariant.known)
