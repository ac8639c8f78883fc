use Rattle.std.proofs.Common.{◌≡◌, ◌∙◌, sym, ap, subst, arith, length}
use Rattle.std.specs.FinMap.{get}
use Rattle.mol_table_rules.specs.Counting.{Counted, number_at, counted_by}
use Rattle.mol_table.specs.Maps.{program_in, counts_in, StartsWith}
use Rattle.mol_table_rules.specs.Room.{names_among}
use Rattle.mol_table_rules.specs.Program.{living_at}
use Rattle.mol_table_rules.specs.Writes.{with_entity}
use Rattle.mol_table.specs.declared.maps.Maps.{Maps}
use Rattle.mol_table.proofs.Changing.{entity-unchanged, entity-written}
use Rattle.mol_table.proofs.Counted.{number-le, counted-entity}
use Rattle.mol_table.proofs.maps.Maps.put_entity.Goals as goal

pub count_added-requires-clause-small : goal.count_added-requires-clause-small
count_added-requires-clause-small c method =
    let most = number-le c.args.self.now c.requires.counted method in
    let unchanged = entity-unchanged c.args.self.now c.know_as.new.self c.write_all.new.self c.know_as.ensures.rest c.write_all.ensures.rest in
    let same = ap (λ cs. number_at cs method) unchanged in
    omega (arith, most, same, c.len-size.ensures.len, c.len-size.ensures.small)

pub returns-clause-program : goal.returns-clause-program
returns-clause-program c =
    let written = entity-written c.args.self.now c.know_as.new.self c.write_all.new.self c.args.entity c.into_vec.result.items c.know_as.ensures.known c.know_as.ensures.rest c.write_all.ensures.program c.into_vec.ensures in
    ap program_in c.count_added.ensures.rest ∙ written

pub returns-clause-counted : goal.returns-clause-counted
returns-clause-counted c =
    let unchanged = entity-unchanged c.args.self.now c.know_as.new.self c.write_all.new.self c.know_as.ensures.rest c.write_all.ensures.rest in
    let written = entity-written c.args.self.now c.know_as.new.self c.write_all.new.self c.args.entity c.into_vec.result.items c.know_as.ensures.known c.know_as.ensures.rest c.write_all.ensures.program c.into_vec.ensures in
    let id = c.args.entity.id in
    let new = with_entity (program_in c.args.self.now) c.args.entity in
    let program = ap program_in c.count_added.ensures.rest ∙ written in
    let counts : counts_in c.count_added.new.self ≡ counted_by (counts_in c.args.self.now) id (get new.known id) (living_at new id) =
    c.count_added.ensures.counts ∙ (λ i. counted_by (unchanged i) id (get (written i).known id) (living_at (written i) id)) in
    subst (λ p. Counted p (counts_in c.count_added.new.self)) (sym program) (subst (Counted new) (sym counts)
    (counted-entity (program_in c.args.self.now) (counts_in c.args.self.now) c.requires.counted c.args.entity c.requires.fresh))

pub returns-clause-starts : goal.returns-clause-starts
returns-clause-starts c ids starts =
    subst (λ (maps : Maps). StartsWith ids maps.known.entries) (sym c.count_added.ensures.rest) (c.write_all.ensures.starts ids (c.know_as.ensures.starts ids starts))

pub returns-clause-count : goal.returns-clause-count
returns-clause-count c =
    let known = ap (λ (maps : Maps). length maps.known.entries) c.count_added.ensures.rest in
    let values = ap names_among c.into_vec.ensures in
    omega (arith, known, values, c.write_all.ensures.count, c.know_as.ensures.count)
