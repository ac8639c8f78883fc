use Rattle.std.proofs.Common.{◌≡◌, ◌∙◌, sym, ap, subst, arith}
use Rattle.std.specs.List.Sorted.{IsSorted}
use Rattle.mol_base.specs.Order.{id_cmp}
use Rattle.mol_table.specs.Maps.{program_in, cells_of, knowns_of, Stands}
use Rattle.mol_table_rules.specs.Rules.{IsProgram}
use Rattle.mol_table_rules.specs.Writes.{with_entities}
use Rattle.mol_table.proofs.Changing.{are-apart, arranged-program, stands-arranged}
use Rattle.mol_table.proofs.Identities.{ids_of, starts-ascends, starts-longer, starts-self}
use Rattle.mol_table.proofs.maps.Maps.add.Goals as goal

pub put_entities-requires-clause-differ : goal.put_entities-requires-clause-differ
put_entities-requires-clause-differ c = are-apart c.args.entities.items c.requires.new.differ

pub arrange-requires-clause-first : goal.arrange-requires-clause-first
arrange-requires-clause-first c =
    let before = c.reserve-2.new.self.entries in
    starts-ascends before c.put_entities.new.self.known.entries c.len-size.result
    (subst (λ es. IsSorted id_cmp (ids_of es)) (sym c.in_ok-reserve-2.ensures.entries) c.requires.stands.ordered) c.len-size.ensures.unique
    (c.put_entities.ensures.starts (ids_of before) (starts-self before)) c.len-size.ensures.len

pub arrange-requires-clause-within : goal.arrange-requires-clause-within
arrange-requires-clause-within c =
    let before = c.reserve-2.new.self.entries in
    let longer = starts-longer before c.put_entities.new.self.known.entries (c.put_entities.ensures.starts (ids_of before) (starts-self before)) in
    omega (arith, longer, c.len-size.ensures.len)

pub returns-clause-ok : goal.returns-clause-ok
returns-clause-ok c =
    ap program_in c.note_first_cells.ensures
    ∙ arranged-program c.put_entities.new.self c.arrange.new.self c.arrange.ensures.rest c.arrange.ensures.known
    ∙ c.put_entities.ensures.program
    ∙ (λ i. with_entities (record { cells = cells_of (c.in_ok-reserve.ensures.entries i); known = knowns_of (c.in_ok-reserve-2.ensures.entries i) }) c.args.entities.items)

pub returns-clause-stands : goal.returns-clause-stands
returns-clause-stands c =
    let program : program_in c.put_entities.new.self ≡ with_entities (program_in c.args.self.now) c.args.entities.items =
    c.put_entities.ensures.program
    ∙ (λ i. with_entities (record { cells = cells_of (c.in_ok-reserve.ensures.entries i); known = knowns_of (c.in_ok-reserve-2.ensures.entries i) }) c.args.entities.items) in
    let stands : Stands c.arrange.new.self =
    stands-arranged c.put_entities.new.self c.arrange.new.self c.arrange.ensures.rest c.arrange.ensures.known c.arrange.ensures.ordered
    (subst IsProgram (sym program) c.requires.new.rules) c.put_entities.ensures.counted in
    subst Stands (sym c.note_first_cells.ensures) (record { rules = stands.rules; counted = stands.counted; ordered = stands.ordered })
