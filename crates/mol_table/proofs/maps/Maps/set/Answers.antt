use Rattle.std.proofs.Common.{◌≡◌, ◌≤◌, ◌∙◌, sym, ap, subst, arith, IsSome, Some, List, length}
use mathlib.Core.Logic.{inl, inr}
use Rattle.std.specs.FinMap.{get}
use Rattle.mol_base.specs.declared.ident.Id.{Id}
use Rattle.mol_table_rules.specs.Counting.{number_at, living_of, recounted}
use Rattle.mol_table.specs.Maps.{program_in, counts_in, StartsWith}
use Rattle.mol_table_rules.specs.Room.{NamesKnown}
use Rattle.mol_table_rules.specs.Program.{Program}
use Rattle.mol_table.specs.declared.maps.Maps.{Maps}
use Rattle.mol_table.proofs.Changing.{arranged-program, reserved-program, stands-set, stands-reserved, entity-unchanged, value-written}
use Rattle.mol_table_rules.proofs.CellOwners.{owner-known}
use Rattle.mol_table.proofs.Counted.{place-some, place-now, number-some, number-le}
use Rattle.mol_table.proofs.Identities.{ids_of, starts-ascends, starts-longer, starts-self}
use Rattle.mol_table.proofs.maps.Maps.set.Goals as goal

-- what was known stays first
starts : (old room written new : Maps) → room.known.entries ≡ old.known.entries
    → ((ids : List Id) → StartsWith ids room.known.entries → StartsWith ids written.known.entries) → new ≡ record written { living = new.living } → StartsWith (ids_of old.known.entries) new.known.entries
starts old room written new entries keeps rest =
    let ids : List Id = ids_of old.known.entries in
    subst (λ (maps : Maps). StartsWith ids maps.known.entries) (sym rest) (keeps ids (subst (StartsWith ids) (sym entries) (starts-self old.known.entries)))

pub reserve_for-requires : goal.reserve_for-requires
reserve_for-requires c = owner-known (program_in c.args.self.now) c.requires.stands.rules c.args.cell c.requires.there

pub write-requires-clause-cell : goal.write-requires-clause-cell
write-requires-clause-cell c =
    let same = reserved-program c.args.self.now c.reserve_for.new.self c.in_ok-room.ensures.rest c.in_ok-room.ensures.entries in
    inr (subst (λ (p : Program). IsSome (get p.cells c.args.cell)) (sym same) c.requires.there)

pub write-requires-clause-names : goal.write-requires-clause-names
write-requires-clause-names c =
    let same = reserved-program c.args.self.now c.reserve_for.new.self c.in_ok-room.ensures.rest c.in_ok-room.ensures.entries in
    elim c.in_ok-room.ensures.room [
      | inl both ↦ inl both.0
      | inr known ↦ inr (subst (λ (p : Program). NamesKnown p.known c.args.cell.id c.args.value) (sym same) known)
    ]

pub recount-requires-clause-was : goal.recount-requires-clause-was
recount-requires-clause-was c own is =
    subst (λ cs. IsSome (get cs own)) (sym (entity-unchanged c.args.self.now c.reserve_for.new.self c.write.new.self c.in_ok-room.ensures.rest c.write.ensures.rest))
    (place-some (program_in c.args.self.now) (counts_in c.args.self.now) c.requires.stands.counted c.args.cell.id own (sym c.living_of-was.ensures ∙ is))

pub recount-requires-clause-now : goal.recount-requires-clause-now
recount-requires-clause-now c own is =
    subst (λ cs. IsSome (get cs own)) (sym (entity-unchanged c.args.self.now c.reserve_for.new.self c.write.new.self c.in_ok-room.ensures.rest c.write.ensures.rest))
    (place-now (program_in c.args.self.now) c.requires.stands.rules (counts_in c.args.self.now) c.requires.stands.counted c.args.cell c.args.value c.requires.there c.requires.rules own
    (subst (λ p. living_of p c.args.cell.id ≡ Some own) (value-written c.args.self.now c.reserve_for.new.self c.write.new.self c.args.cell c.args.value c.in_ok-room.ensures.rest c.in_ok-room.ensures.entries c.write.ensures.program) (sym c.living_of-now.ensures ∙ is)))

pub recount-requires-clause-some : goal.recount-requires-clause-some
recount-requires-clause-some c own is =
    subst (λ cs. 1 ≤ number_at cs own) (sym (entity-unchanged c.args.self.now c.reserve_for.new.self c.write.new.self c.in_ok-room.ensures.rest c.write.ensures.rest))
    (number-some (program_in c.args.self.now) (counts_in c.args.self.now) c.requires.stands.counted c.args.cell.id own (sym c.living_of-was.ensures ∙ is))

pub recount-requires-clause-small : goal.recount-requires-clause-small
recount-requires-clause-small c own =
    let most = number-le c.args.self.now c.requires.stands.counted own in
    let same = ap (λ cs. number_at cs own) (entity-unchanged c.args.self.now c.reserve_for.new.self c.write.new.self c.in_ok-room.ensures.rest c.write.ensures.rest) in
    omega (arith, most, same, c.len-size.ensures.len, c.len-size.ensures.small)

pub arrange-requires-clause-first : goal.arrange-requires-clause-first
arrange-requires-clause-first c =
    starts-ascends c.args.self.now.known.entries c.recount.new.self.known.entries c.len-size.result c.requires.stands.ordered c.len-size.ensures.unique
    (starts c.args.self.now c.reserve_for.new.self c.write.new.self c.recount.new.self c.in_ok-room.ensures.entries c.write.ensures.starts c.recount.ensures.rest)
    c.len-size.ensures.len

pub arrange-requires-clause-within : goal.arrange-requires-clause-within
arrange-requires-clause-within c =
    let longer = starts-longer c.args.self.now.known.entries c.recount.new.self.known.entries
    (starts c.args.self.now c.reserve_for.new.self c.write.new.self c.recount.new.self c.in_ok-room.ensures.entries c.write.ensures.starts c.recount.ensures.rest) in
    omega (arith, longer, c.len-size.ensures.len)

pub arrange-requires-clause-room : goal.arrange-requires-clause-room
arrange-requires-clause-room c =
    let same = reserved-program c.args.self.now c.reserve_for.new.self c.in_ok-room.ensures.rest c.in_ok-room.ensures.entries in
    let known = ap (λ (maps : Maps). length maps.known.entries) c.recount.ensures.rest in
    let reserved = ap length c.in_ok-room.ensures.entries in
    elim c.in_ok-room.ensures.room [
      | inl both ↦ inr (omega (arith, both.1, known, reserved, c.write.ensures.count))
      | inr all ↦ inl (omega (arith, known, reserved, c.len-size.ensures.len, c.write.ensures.again (subst (λ (p : Program). NamesKnown p.known c.args.cell.id c.args.value) (sym same) all)))
    ]

pub returns-clause-ok : goal.returns-clause-ok
returns-clause-ok c =
    arranged-program c.recount.new.self c.arrange.new.self c.arrange.ensures.rest c.arrange.ensures.known
    ∙ ap program_in c.recount.ensures.rest ∙ value-written c.args.self.now c.reserve_for.new.self c.write.new.self c.args.cell c.args.value c.in_ok-room.ensures.rest c.in_ok-room.ensures.entries c.write.ensures.program

pub returns-clause-stands : goal.returns-clause-stands
returns-clause-stands c =
    let old = c.args.self.now in
    let at = c.args.cell in
    let now = c.living_of-now.ensures ∙ ap (λ p. living_of p at.id) (value-written c.args.self.now c.reserve_for.new.self c.write.new.self c.args.cell c.args.value c.in_ok-room.ensures.rest c.in_ok-room.ensures.entries c.write.ensures.program) in
    stands-set old c.arrange.new.self c.requires.stands at c.args.value c.requires.there c.requires.rules
    (arranged-program c.recount.new.self c.arrange.new.self c.arrange.ensures.rest c.arrange.ensures.known
    ∙ ap program_in c.recount.ensures.rest ∙ value-written c.args.self.now c.reserve_for.new.self c.write.new.self c.args.cell c.args.value c.in_ok-room.ensures.rest c.in_ok-room.ensures.entries c.write.ensures.program)
    (ap counts_in c.arrange.ensures.rest
    ∙ c.recount.ensures.counts ∙ (λ i. recounted ((entity-unchanged c.args.self.now c.reserve_for.new.self c.write.new.self c.in_ok-room.ensures.rest c.write.ensures.rest) i) (c.living_of-was.ensures i) (now i)))
    c.arrange.ensures.ordered

pub returns-in_err-room-clause-stands : goal.returns-in_err-room-clause-stands
returns-in_err-room-clause-stands c =
    let rest = c.in_err-room.ensures.rest in
    stands-reserved c.args.self.now c.reserve_for.new.self (ap (λ (maps : Maps). maps.cells.entries) rest) c.in_err-room.ensures.entries (ap (λ (maps : Maps). maps.living.entries) rest) c.requires.stands
