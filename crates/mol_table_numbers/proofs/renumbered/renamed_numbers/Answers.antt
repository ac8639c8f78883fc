use Rattle.std.proofs.Common.{◌≡◌, ◌∙◌, ◌++◌, ◌∷◌, [], sym, ap, subst, take, option_copied}
use Rattle.std.proofs.lemmas.List.{take_all}
use Rattle.std.specs.FinMap.{get, get-empty, get-insert, insert}
use Rattle.indexmap.specs.IndexMap.{keys}
use Rattle.mol_base.specs.Order.{id_cmp, id_cmp-total, id_cmp-IsAntisymmetric}
use Rattle.mol_table.specs.Maps.{counts_of, counts_in, program_in}
use Rattle.mol_values_types.specs.Order.{id_eq}
use Rattle.mol_values.specs.Renaming.{names_of}
use Rattle.mol_table.proofs.Copying.{take-item}
use Rattle.mol_values_types.proofs.Lookups.{inserted, get_is}
use Rattle.mol_table_rules.proofs.Programs.{keys-known}
use Rattle.mol_table_numbers.proofs.Renumbering.{CountsTaken, count-more, count-dead, count-absent, counts-none, counts-all}
use Rattle.mol_values_types.proofs.Ties.{id_ties}
use Rattle.mol_table_numbers.proofs.renumbered.renamed_numbers.Goals.{in-Some+in-Some-get+in_ok-insert, in-Some+in_default-get, in_default}
use Rattle.mol_table_numbers.proofs.renumbered.renamed_numbers.Goals as goal

pub loop-id-init : goal.loop-id-init
loop-id-init c =
    counts-none (program_in c.args.maps.now) c.args.names.now.entries c.requires (counts_in c.args.maps.now) (counts_of c.new-numbers.result.entries)
    (λ q. ap (λ es. get (counts_of es) q) c.new-numbers.ensures.empty ∙ get-empty id_cmp q)

pub loop-id-preserved : goal.loop-id-preserved
loop-id-preserved c =
    let maps = c.args.maps.now in
    let program = program_in maps in
    let names = c.args.names.now.entries in
    let has = c.requires in
    let items = c.as_slice-id-items.result.now in
    let i = c.loop-id.id-index in
    let x = c.id-item.result in
    let full = counts_in maps in
    let was = counts_of c.loop-id.numbers.entries in
    let new = counts_of c.match-get.numbers.entries in
    let named : option_copied c.get.result ≡ get (names_of names) x = c.get.ensures.value ∙ get_is id_cmp id_eq id_ties id_cmp-total x names in
    let more : CountsTaken program full new (take i items ++ x ∷ []) = elim c.match-get.branch [
      | in-Some+in-Some-get+in_ok-insert w ↦
          let name = w.in-Some.name.now in
          let n = w.in-Some-get.number.now in
          let found : option_copied w.get-in-Some.result ≡ get full x = w.get-in-Some.ensures.value ∙ get_is id_cmp id_eq id_ties id_cmp-total x maps.living.entries in
          let e : new ≡ insert was name n = ap (λ map. counts_of map.entries) w.numbers-is
          ∙ inserted id_cmp id_eq id_ties id_cmp-total id_cmp-IsAntisymmetric name n c.loop-id.numbers.entries w.insert.new.self.entries w.in_ok-insert.ensures.updates.0 in
          count-more program names has full was new (take i items) x name n (sym named ∙ ap option_copied w.in-Some.is) (sym found ∙ ap option_copied w.in-Some-get.is)
          (λ q. ap (λ map. get map q) e ∙ get-insert id_cmp-total was name n q) c.loop-id.invariant
      | in-Some+in_default-get w ↦
          let found : option_copied w.get-in-Some.result ≡ get full x = w.get-in-Some.ensures.value ∙ get_is id_cmp id_eq id_ties id_cmp-total x maps.living.entries in
          subst (λ map. CountsTaken program full map (take i items ++ x ∷ [])) (sym (ap (λ map. counts_of map.entries) w.numbers-is))
          (count-absent program names has full was (take i items) x (sym found ∙ ap option_copied w.in_default-get.is) c.loop-id.invariant)
      | in_default w ↦
          subst (λ map. CountsTaken program full map (take i items ++ x ∷ [])) (sym (ap (λ map. counts_of map.entries) w.numbers-is))
          (count-dead program names has full was (take i items) x (sym named ∙ ap option_copied w.in_default.is) c.loop-id.invariant)
    ] in
    subst (λ ks. CountsTaken program full new ks) (sym (take-item items i x c.loop-id-test.true c.id-item.is)) more

pub returns : goal.returns
returns c =
    let maps = c.args.maps.now in
    let program = program_in maps in
    let all : take c.loop-id.id-index c.as_slice-id-items.result.now ≡ keys maps.living =
    take_all c.loop-id.id-index c.as_slice-id-items.result.now c.loop-id-test.false ∙ c.as_slice-id-items.ensures ∙ c.keys.ensures.rest in
    counts-all program c.args.names.now.entries c.requires (counts_in maps) (counts_of c.loop-id.numbers.entries) (keys maps.living) (λ q there. keys-known maps.living.entries q ∙ there)
    (subst (λ ks. CountsTaken program (counts_in maps) (counts_of c.loop-id.numbers.entries) ks) all c.loop-id.invariant)
