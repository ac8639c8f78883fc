use Rattle.std.proofs.Common.{◌≡◌, ◌∙◌, sym, ap, Some, cond, option_copied}
use Rattle.std.specs.FinMap.{get, get-insert, from_entries}
use Rattle.mol_base.specs.Order.{id_cmp, id_cmp-total, id_cmp-IsAntisymmetric}
use Rattle.mol_table.specs.Bare.{lesser}
use Rattle.mol_values_types.specs.Order.{id_eq}
use Rattle.mol_table_rules.specs.Program.{same_id}
use Rattle.mol_table.specs.Tidying.{bare_in}
use Rattle.mol_values_types.proofs.Lookups.{inserted, get_is}
use Rattle.mol_values_types.proofs.Ties.{id_ties}
use Rattle.mol_table.proofs.maps.bare.put_lesser.Goals.{in-Some, in-None}
use Rattle.mol_table.proofs.maps.bare.put_lesser.Goals as goal

pub returns : goal.returns
returns c =
    let index = c.args.index.now.entries in
    let class = c.args.class in
    let found : option_copied c.get.result ≡ bare_in index class = c.get.ensures.value ∙ get_is id_cmp id_eq id_ties id_cmp-total class index in
    let least : c.match-get.least ≡ lesser (bare_in index class) c.args.constructor = elim c.match-get.branch [
      | in-Some w ↦ w.least-is ∙ w.lesser-least.ensures ∙ ap (λ o. lesser o c.args.constructor) (sym (ap option_copied w.in-Some.is) ∙ found)
      | in-None w ↦ w.least-is ∙ ap (λ o. lesser o c.args.constructor) (sym (ap option_copied w.in-None.is) ∙ found)
    ] in
    let e = inserted id_cmp id_eq id_ties id_cmp-total id_cmp-IsAntisymmetric class c.match-get.least index c.insert.new.self.entries c.in_ok-insert.ensures.updates.0 in
    λ at. ap (λ map. get map at) e ∙ get-insert id_cmp-total (from_entries index) class c.match-get.least at ∙ ap (λ v. cond (same_id at class) (Some v) (bare_in index at)) least
