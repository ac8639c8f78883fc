use Rattle.std.proofs.Common.{◌≡◌, ◌+◌, ◌++◌, ◌∙◌, List, filter_map, take, sym, subst, arith}
use Rattle.std.specs.Option.{option_to_list}
use Rattle.std.proofs.lemmas.List.{take_all}
use Rattle.jav_tree.specs.declared.unit.Member.{Member}
use Rattle.jav_names.specs.UnitViews.{numbered, field_in, declaration_in}
use Rattle.jav_scope.specs.MemberLists.{AreAdded}
use Rattle.jav_scope.proofs.MembersListed.{none-added, added-then}
use Rattle.jav_scope.proofs.Numbered.{filter_mapped-more}
use Rattle.jav_scope.proofs.member_entries.MemberEntries.add_all.Goals as goal

pub loop-place-init : goal.loop-place-init
loop-place-init c = λ classes source. none-added c.args.self.now

pub loop-place-preserved : goal.loop-place-preserved
loop-place-preserved c = λ classes source.
    let members = c.args.members.now in
    let place = c.loop-place.place in
    let member = c.index-members-place.result in
    let added = subst (λ n. AreAdded c.loop-place.self c.add.new.self (option_to_list (field_in classes (c.args.unit, source) (n, member)))
    (option_to_list (declaration_in classes (c.args.unit, source) (n, member)))) c.in_ok-number.ensures.ok
    (c.in_ok-add.ensures classes source) in
    let fields = filter_mapped-more members place member c.loop-place-test.true c.index-members-place.is
    (field_in classes (c.args.unit, source)) in
    let declarations = filter_mapped-more members place member c.loop-place-test.true c.index-members-place.is
    (declaration_in classes (c.args.unit, source)) in
    subst (λ all. AreAdded c.args.self.now c.add.new.self all
    (filter_map (declaration_in classes (c.args.unit, source)) (numbered (take (place + 1) members))))
    (sym fields)
    (subst (λ all. AreAdded c.args.self.now c.add.new.self
    (filter_map (field_in classes (c.args.unit, source)) (numbered (take place members)) ++ option_to_list
    (field_in classes (c.args.unit, source) (place, member))) all)
    (sym declarations)
    (added-then c.args.self.now c.loop-place.self c.add.new.self _ _ _ _ (c.loop-place.invariant classes source) added))

pub returns : goal.returns
returns c = λ classes source is.
    let members = c.args.members.now in
    let all : take c.loop-place.place members ≡ members = take_all c.loop-place.place members (omega (arith, c.loop-place-test.false)) in
    subst (λ (ms : List Member). AreAdded c.args.self.now c.loop-place.self
    (filter_map (field_in classes (c.args.unit, source)) (numbered ms))
    (filter_map (declaration_in classes (c.args.unit, source)) (numbered ms)))
    (all ∙ sym is) (c.loop-place.invariant classes source)
