use Rattle.std.proofs.Common.{ℕ, List, ap, arith, get_or, length, subst, sym, ◌∙◌}
use Rattle.jav_tree.specs.declared.unit.Member.{Member}
use Rattle.mol_resolve_members.specs.numbers.Members.{IsMember}
use Rattle.mol_resolve.proofs.AtPlaces.{all-added, all-noted, is_member, none-read, one-read}
use Rattle.mol_resolve.proofs.file_reader.FileReader.read_members.Goals as goal
use Rattle.mol_resolve.specs.ReadAtPlaces.{IsMemberAdded}
use Rattle.mol_resolve_members.specs.sources.Sources.{files_of}

pub loop-place-init : goal.loop-place-init
loop-place-init c =
    none-read c.args.self.now c.args.unit c.args.source.now c.args.entities.now c.args.faults.now

pub read_member-requires : goal.read_member-requires
read_member-requires c =
    let place = c.loop-place.place in
    let member = c.index-members-place.result in
    let listed = c.items-members.ensures in
    subst (λ (number : ℕ). IsMember c.args.self.now (record { unit = c.args.unit; member = number }) member)
    (sym c.in_ok-number.ensures.ok)
    (is_member c.args.self.now c.args.unit c.args.source.now c.requires place member
    (omega (arith, c.loop-place-test.true, ap (λ (all : List Member). length all) listed))
    (c.index-members-place.is ∙ ap (λ (all : List Member). get_or all place member) listed))

pub loop-place-preserved : goal.loop-place-preserved
loop-place-preserved c =
    let place = c.loop-place.place in
    let member = c.index-members-place.result in
    let listed = c.items-members.ensures in
    one-read c.args.self.now c.args.unit c.args.source.now c.requires place member
    (omega (arith, c.loop-place-test.true, ap (λ (all : List Member). length all) listed))
    (c.index-members-place.is ∙ ap (λ (all : List Member). get_or all place member) listed)
    c.args.entities.now c.loop-place.entities c.read_member.new.entities c.args.faults.now c.loop-place.faults c.read_member.new.faults
    c.loop-place.invariant
    (subst (λ (number : ℕ). IsMemberAdded (files_of c.args.self.now) (record { unit = c.args.unit; member = number }) member
    c.loop-place.entities c.read_member.new.entities c.loop-place.faults c.read_member.new.faults) c.in_ok-number.ensures.ok
    c.in_ok-read_member.ensures)

pub returns-clause-faults : goal.returns-clause-faults
returns-clause-faults c =
    let count = ap (λ (all : List Member). length all) c.items-members.ensures in
    all-noted c.args.self.now c.args.unit c.args.source.now c.loop-place.place (omega (arith, c.loop-place-test.false, count))
    (omega (arith, c.loop-place.auto.place-end, count)) c.args.entities.now c.loop-place.entities c.args.faults.now c.loop-place.faults
    c.loop-place.invariant

pub returns-clause-added : goal.returns-clause-added
returns-clause-added c =
    let count = ap (λ (all : List Member). length all) c.items-members.ensures in
    all-added c.args.self.now c.args.unit c.args.source.now c.loop-place.place (omega (arith, c.loop-place-test.false, count))
    (omega (arith, c.loop-place.auto.place-end, count)) c.args.entities.now c.loop-place.entities c.args.faults.now c.loop-place.faults
    c.loop-place.invariant
