use Rattle.std.proofs.Common.{◌≡◌, ◌∙◌, refl, sym, ap, subst, Some, None, option_copied}
use Rattle.std.specs.FinMap.{get}
use Rattle.mol_base.specs.Order.{id_cmp, id_cmp-total}
use Rattle.mol_table_rules.specs.Heights.{upward}
use Rattle.mol_table.specs.Maps.{counts_of, program_in}
use Rattle.mol_values_types.specs.Order.{id_eq}
use Rattle.mol_table_rules.specs.Heights.{Leads}
use Rattle.mol_table_numbers.proofs.HeightsFound.{leads-push, none-ends}
use Rattle.mol_values_types.proofs.Lookups.{get_is}
use Rattle.mol_values_types.proofs.Ties.{id_ties}
use Rattle.mol_table_numbers.proofs.heights.way_up.Goals as goal

pub loop-init : goal.loop-init
loop-init c = subst (λ cs. Leads (program_in c.args.maps.now) (Some c.args.class) cs (Some c.args.class)) (sym c.new-classes.ensures.items) refl

pub loop-preserved : goal.loop-preserved
loop-preserved c =
    let program = program_in c.args.maps.now in
    let start = Some c.args.class in
    let classes = c.loop.classes.items in
    let next = c.in-Some.next in
    subst (λ at. Leads program start c.push.new.self.items at) (sym c.living_parent-at.ensures)
    (subst (λ cs. Leads program start cs (upward program (Some next))) (sym c.in_ok-push.ensures.items)
    (leads-push c.args.maps.now start classes next (subst (Leads program start classes) c.in-Some.is c.loop.invariant)))

pub returns-in_default : goal.returns-in_default
returns-in_default c = record {
  at = None;
  leads = subst (Leads (program_in c.args.maps.now) (Some c.args.class) c.loop.classes.items) c.in_default.is c.loop.invariant;
  ends = none-ends c.args.maps.now;
  high = refl;
}

pub returns-in-Some-get : goal.returns-in-Some-get
returns-in-Some-get c =
    let heights = c.args.heights.now.entries in
    let next = c.in-Some.next in
    let found : option_copied c.get.result ≡ get (counts_of heights) next = c.get.ensures.value ∙ get_is id_cmp id_eq id_ties id_cmp-total next heights in
    let height = c.requires next c.in-Some-get.height.now (sym found ∙ ap option_copied c.in-Some-get.is) in
    record {
      at = Some next;
      leads = subst (Leads (program_in c.args.maps.now) (Some c.args.class) c.loop.classes.items) c.in-Some.is c.loop.invariant;
      ends = height.ends;
      high = height.is;
    }
