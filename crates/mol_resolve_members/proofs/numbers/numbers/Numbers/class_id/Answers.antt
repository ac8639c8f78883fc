use Rattle.std.proofs.Common.{◌+◌, ◌<◌, ◌≤◌, List, length, sym, ◌∙◌, ap, arith}
use Rattle.jav_scope.specs.declared.source.SourceUnit.{SourceUnit}
use Rattle.mol_table_rules.specs.Renumber.{base_id}
use Rattle.mol_resolve_members.specs.places.Orders.{numbers_by_path, position}
use Rattle.mol_resolve_members.proofs.numbers_lemmas.IdsFound.{class-id, class-id_after}
use Rattle.mol_resolve_members.proofs.numbers_lemmas.NumbersHeld.{class-fits}
use Rattle.mol_resolve_members.proofs.numbers.numbers.Numbers.class_id.Goals as goal

pub file-requires : goal.file-requires
file-requires c = omega (arith, c.if-unit-self.true, c.self.invariant.counted)

pub overflow_add-file : goal.overflow_add-file
overflow_add-file c =
    let kept = c.self.inside in
    omega (
      arith,
      c.file.ensures,
      class-fits kept.places kept.classes kept.tops.items kept.firsts.items c.self.invariant c.args.unit
          (omega (arith, c.if-unit-self.true, c.self.invariant.counted)),
    )

pub returns-then-unit-self : goal.returns-then-unit-self
returns-then-unit-self c =
    let inside : c.args.unit < length c.args.self.now =
    omega (arith, c.if-unit-self.true, c.self.invariant.counted, ap (λ (all : List SourceUnit). length all) c.self.view_is) in
    c.base_id.ensures
    ∙ ap (λ n. base_id (1 + n)) (c.file.ensures ∙ ap (λ (all : List SourceUnit). position (numbers_by_path all) c.args.unit) c.self.view_is)
    ∙ sym (class-id c.args.self.now c.args.unit inside)

pub returns-else-unit-self : goal.returns-else-unit-self
returns-else-unit-self c =
    let past : length c.args.self.now ≤ c.args.unit =
    omega (arith, c.if-unit-self.false, c.self.invariant.counted, ap (λ (all : List SourceUnit). length all) c.self.view_is) in
    c.base_id-else-unit-self.ensures ∙ ap base_id c.after_all.ensures ∙ sym (class-id_after c.args.self.now c.args.unit past)
