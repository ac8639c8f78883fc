use Rattle.std.proofs.Common.{◌≤◌, List, length, sym, ◌∙◌, ap, subst, arith, ne_eqb}
use Rattle.jav_scope.specs.declared.source.SourceUnit.{SourceUnit}
use Rattle.mol_resolve_members.specs.places.Listings.{HasMember, key_of}
use Rattle.mol_resolve_members.specs.numbers.Given.{first_after, method_number}
use Rattle.mol_resolve_members.specs.numbers.Members.{keys_of}
use Rattle.mol_resolve_members.proofs.numbers_lemmas.MemberKeys.{has-key}
use Rattle.mol_resolve_members.proofs.numbers_lemmas.NumbersHeld.{first-inside, inside, number-past, number-there, top-inside}
use Rattle.mol_resolve_members.proofs.numbers.numbers.Numbers.number.Goals as goal

pub member-place-requires : goal.member-place-requires
member-place-requires c = subst (λ (all : List SourceUnit). HasMember all c.args.at) (sym c.self.view_is) c.requires.member

pub index-top-requires : goal.index-top-requires
index-top-requires c =
    let kept = c.self.inside in
    let has = subst (λ (all : List SourceUnit). HasMember all c.args.at) (sym c.self.view_is) c.requires.member in
    omega (
      arith,
      inside kept.places kept.classes kept.tops.items kept.firsts.items c.self.invariant (key_of c.args.at)
          (has-key kept.places c.args.at has) c.member-place.result c.member-place.ensures,
      kept.tops.ok.0,
    )

pub index-above-requires : goal.index-above-requires
index-above-requires c =
    let kept = c.self.inside in
    let has = subst (λ (all : List SourceUnit). HasMember all c.args.at) (sym c.self.view_is) c.requires.member in
    omega (
      arith,
      top-inside kept.places kept.classes kept.tops.items kept.firsts.items c.self.invariant (key_of c.args.at)
          (has-key kept.places c.args.at has) c.member-place.result c.index-top.result.now c.member-place.ensures c.index-top.ensures,
      kept.tops.ok.0,
    )

pub index-requires : goal.index-requires
index-requires c =
    let kept = c.self.inside in
    let has = subst (λ (all : List SourceUnit). HasMember all c.args.at) (sym c.self.view_is) c.requires.member in
    omega (
      arith,
      first-inside kept.places kept.classes kept.tops.items kept.firsts.items c.self.invariant (key_of c.args.at)
          (has-key kept.places c.args.at has) c.member-place.result c.index-top.result.now c.member-place.ensures c.index-top.ensures,
      kept.firsts.ok.0,
    )

pub overflow_add-result : goal.overflow_add-result
overflow_add-result c =
    let kept = c.self.inside in
    let has = subst (λ (all : List SourceUnit). HasMember all c.args.at) (sym c.self.view_is) c.requires.member in
    let fits = subst (λ (all : List SourceUnit). method_number all (key_of c.args.at) c.args.more ≤ first_after all (length (keys_of all)))
    (sym c.self.view_is) c.requires.fits in
    omega (
      arith,
      fits,
      c.self.invariant.fits,
      number-there kept.places kept.classes kept.tops.items kept.firsts.items c.self.invariant (key_of c.args.at)
          (has-key kept.places c.args.at has) c.member-place.result c.index-top.result.now c.member-place.ensures c.index-top.ensures
          c.args.more c.index-above.result.now c.index-above.ensures c.index.result.now c.index.ensures c.if-above-top.true,
    )

pub returns-then-above-top : goal.returns-then-above-top
returns-then-above-top c =
    let kept = c.self.inside in
    let has = subst (λ (all : List SourceUnit). HasMember all c.args.at) (sym c.self.view_is) c.requires.member in
    number-there kept.places kept.classes kept.tops.items kept.firsts.items c.self.invariant (key_of c.args.at)
    (has-key kept.places c.args.at has) c.member-place.result c.index-top.result.now c.member-place.ensures c.index-top.ensures c.args.more
    c.index-above.result.now c.index-above.ensures c.index.result.now c.index.ensures c.if-above-top.true
    ∙ ap (λ (all : List SourceUnit). method_number all (key_of c.args.at) c.args.more) c.self.view_is

pub returns-else-above-top : goal.returns-else-above-top
returns-else-above-top c =
    let kept = c.self.inside in
    let has = subst (λ (all : List SourceUnit). HasMember all c.args.at) (sym c.self.view_is) c.requires.member in
    c.after_all.ensures
    ∙ sym (ap (λ (all : List SourceUnit). first_after all (length (keys_of all))) c.self.view_is)
    ∙ number-past kept.places kept.classes kept.tops.items kept.firsts.items c.self.invariant (key_of c.args.at)
    (has-key kept.places c.args.at has) c.member-place.result c.index-top.result.now c.member-place.ensures c.index-top.ensures c.args.more
    c.index-above.result.now c.index-above.ensures
    (ne_eqb c.index-above.result.now c.index-top.result.now c.if-above-top.false)
    ∙ ap (λ (all : List SourceUnit). method_number all (key_of c.args.at) c.args.more) c.self.view_is
