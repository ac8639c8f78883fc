use Rattle.std.proofs.Common.{◌≡◌, ◌∙◌, sym, ap, Some, cond, option_copied}
use Rattle.std.specs.FinMap.{get, get-insert}
use Rattle.mol_base.specs.Order.{id_cmp, id_cmp-total, id_cmp-IsAntisymmetric}
use Rattle.mol_values_types.specs.Order.{id_eq}
use Rattle.mol_table_rules.specs.Program.{same_id}
use Rattle.mol_table_numbers.specs.Tops.{tops_of, upper}
use Rattle.mol_values_types.proofs.Lookups.{inserted, get_is}
use Rattle.mol_values_types.proofs.Ties.{id_ties}
use Rattle.mol_table_numbers.proofs.tops.put_top.Goals.{in-Some, in-None}
use Rattle.mol_table_numbers.proofs.tops.put_top.Goals as goal

pub returns : goal.returns
returns c =
    let tops = c.args.tops.now.entries in
    let method = c.args.method in
    let found : option_copied c.get.result ≡ get (tops_of tops) method = c.get.ensures.value ∙ get_is id_cmp id_eq id_ties id_cmp-total method tops in
    let first : c.match-get.first ≡ upper (get (tops_of tops) method) c.args.top = elim c.match-get.branch [
      | in-Some w ↦ w.first-is ∙ w.upper-first.ensures ∙ ap (λ o. upper o c.args.top) (sym (ap option_copied w.in-Some.is) ∙ found)
      | in-None w ↦ w.first-is ∙ ap (λ o. upper o c.args.top) (sym (ap option_copied w.in-None.is) ∙ found)
    ] in
    let e = inserted id_cmp id_eq id_ties id_cmp-total id_cmp-IsAntisymmetric method c.match-get.first tops c.insert.new.self.entries c.in_ok-insert.ensures.updates.0 in
    λ at. ap (λ map. get map at) e ∙ get-insert id_cmp-total (tops_of tops) method c.match-get.first at ∙ ap (λ v. cond (same_id at method) (Some v) (get (tops_of tops) at)) first
