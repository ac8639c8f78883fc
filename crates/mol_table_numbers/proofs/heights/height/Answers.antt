use Rattle.std.proofs.Common.{◌≡◌, ◌+◌, ◌∙◌, ◌∷◌, sym, ap, subst, suc, drop, length, Some, arith}
use Rattle.std.specs.FinMap.{get, get-insert}
use Rattle.mol_base.specs.Order.{id_cmp, id_cmp-total, id_cmp-IsAntisymmetric}
use Rattle.mol_table_rules.specs.Heights.{upward}
use Rattle.mol_table.specs.Maps.{counts_of, program_in}
use Rattle.mol_values_types.specs.Order.{id_eq}
use Rattle.mol_table_numbers.specs.Tops.{Ends, height_in, height_at, IsWay}
use Rattle.mol_table_rules.specs.Heights.{Leads}
use Rattle.mol_table_numbers.proofs.HeightsFound.{leads-ends, leads-height, height-at-few, heights-more, held, step}
use Rattle.mol_values_types.proofs.Lookups.{inserted}
use Rattle.mol_values_types.proofs.Ties.{id_ties}
use Rattle.mol_table_numbers.proofs.TopsFound.{ends-up}
use Rattle.mol_table_rules.proofs.Writing.{drop-item}
use Rattle.mol_table_numbers.proofs.heights.height.Goals as goal

pub overflow_sub-room : goal.overflow_sub-room
overflow_sub-room c =
    let maps = c.args.maps.now in
    let way = held (IsWay maps (Some c.args.class)) _ c.in-Some.way c.in-Some.is c.in_ok-way.ensures in
    let few = height-at-few maps way.at in
    omega (arith, few, way.high, c.len-most.ensures.len)

pub loop-class-init : goal.loop-class-init
loop-class-init c =
    let maps = c.args.maps.now in
    let program = program_in maps in
    let start = Some c.args.class in
    let items = c.in-Some.way.classes.items in
    let way = held (IsWay maps (Some c.args.class)) _ c.in-Some.way c.in-Some.is c.in_ok-way.ensures in
    let ends = leads-ends maps start items way.at way.leads way.ends (omega (arith, way.high, height-at-few maps way.at, c.len-length.ensures, c.if-length-room.false, c.len-most.ensures.len)) in
    let high : height_in maps c.args.class ≡ length items + height_at maps way.at = leads-height maps start items way.at way.leads ends in
    record {
      start = start;
      at = way.at;
      leads = subst (λ cs. Leads program start cs way.at) (sym c.deref-class-items.ensures.value) way.leads;
      ends = ends;
      high = let total : c.in-Some.way.height + c.len-length.result ≡ height_in maps c.args.class = omega (arith, high, way.high, c.len-length.ensures) in total;
      known = c.requires;
    }

pub loop-class-preserved : goal.loop-class-preserved
loop-class-preserved c =
    let maps = c.args.maps.now in
    let program = program_in maps in
    let items = c.deref-class-items.result.now in
    let i = c.loop-class.class-index in
    let class = c.class-item.result in
    let was = c.loop-class.invariant in
    let old = c.loop-class.heights.entries in
    let leads : Leads program was.start (class ∷ drop (i + 1) items) was.at = subst (λ cs. Leads program was.start cs was.at) (drop-item items i class c.loop-class-test.true c.class-item.is) was.leads in
    let ends : Ends maps (Some class) = subst (Ends maps) leads.0 was.ends in
    let own : c.loop-class.height ≡ height_in maps class = was.high ∙ ap (height_at maps) leads.0 in
    let up : height_in maps class ≡ suc (height_at maps (upward program was.start)) = step maps class ends ∙ ap (λ o. suc (height_at maps (upward program o))) (sym leads.0) in
    let e = inserted id_cmp id_eq id_ties id_cmp-total id_cmp-IsAntisymmetric class c.loop-class.height old c.insert.new.self.entries c.in_ok-insert.ensures.updates.0 in
    record {
      start = upward program was.start;
      at = was.at;
      leads = leads.1;
      ends = ends-up maps was.start was.ends;
      high = omega (arith, own, up);
      known = heights-more maps old c.insert.new.self.entries class c.loop-class.height (record { ends = ends; is = own })
          (λ q. ap (λ map. get map q) e ∙ get-insert id_cmp-total (counts_of old) class c.loop-class.height q) was.known;
    }

pub returns-clause-height : goal.returns-clause-height
returns-clause-height c =
    let maps = c.args.maps.now in
    let start = Some c.args.class in
    let items = c.in-Some.way.classes.items in
    let way = held (IsWay maps (Some c.args.class)) _ c.in-Some.way c.in-Some.is c.in_ok-way.ensures in
    let ends = leads-ends maps start items way.at way.leads way.ends (omega (arith, way.high, height-at-few maps way.at, c.len-length.ensures, c.if-length-room.false, c.len-most.ensures.len)) in
    let high : height_in maps c.args.class ≡ length items + height_at maps way.at = leads-height maps start items way.at way.leads ends in
    record { ends = ends; is = let total : c.in-Some.way.height + c.len-length.result ≡ height_in maps c.args.class = omega (arith, high, way.high, c.len-length.ensures) in total }
