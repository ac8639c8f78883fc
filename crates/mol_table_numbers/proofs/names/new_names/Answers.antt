use Rattle.std.proofs.Common.{◌≡◌, ◌+◌, ◌∙◌, refl, ap, Some, cond, suc, arith}
use Rattle.std.specs.FinMap.{get, get-empty, get-insert}
use Rattle.mol_base.specs.Order.{id_cmp, id_cmp-total, id_cmp-IsAntisymmetric}
use Rattle.mol_base.specs.declared.ident.Id.{Id}
use Rattle.mol_values_types.specs.Order.{id_eq}
use Rattle.mol_table_rules.specs.Program.{same_id}
use Rattle.mol_values.specs.Renaming.{names_of}
use Rattle.mol_table_rules.specs.Renumber.{base_id}
use Rattle.mol_table_numbers.proofs.Collected.{named-none, named-more, named-all}
use Rattle.mol_values_types.proofs.Lookups.{inserted}
use Rattle.mol_values_types.proofs.Ties.{id_ties}
use Rattle.mol_table_numbers.proofs.names.new_names.Goals as goal

pub loop-id-init : goal.loop-id-init
loop-id-init c = record {
  number = refl;
  named = named-none c.args.ids.now c.new-names.result.entries (λ q. ap (λ es. get (names_of es) q) c.new-names.ensures.empty ∙ get-empty id_cmp q);
}

pub loop-id-preserved : goal.loop-id-preserved
loop-id-preserved c =
    let i = c.loop-id.id-index in
    let id = c.id-item.result in
    let old = c.loop-id.names.entries in
    let num : c.loop-id.num + 1 ≡ suc i = omega (arith, c.loop-id.invariant.number) in
    let name : ◌≡◌ {A = Id} (record { tag = c.base.result; num = c.loop-id.num + 1 }) (base_id (suc i)) = λ j. record { tag = c.base.ensures j; num = num j } in
    let e = inserted id_cmp id_eq id_ties id_cmp-total id_cmp-IsAntisymmetric id (record { tag = c.base.result; num = c.loop-id.num + 1 }) old c.insert.new.self.entries c.in_ok-insert.ensures.updates.0 in
    record {
      number = omega (arith, c.loop-id.invariant.number);
      named = named-more c.args.ids.now i old c.insert.new.self.entries id c.requires.apart c.loop-id-test.true c.id-item.is
          (λ q. ap (λ map. get map q) e ∙ get-insert id_cmp-total (names_of old) id (record { tag = c.base.result; num = c.loop-id.num + 1 }) q
          ∙ ap (λ name. cond (same_id q id) (Some name) (get (names_of old) q)) name)
          c.loop-id.invariant.named;
    }

pub returns : goal.returns
returns c = named-all c.args.ids.now c.loop-id.id-index c.loop-id.names.entries c.loop-id-test.false c.loop-id.invariant.named
