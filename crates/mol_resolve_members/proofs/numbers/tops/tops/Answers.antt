use Rattle.std.proofs.Common.{◌≡◌, ◌≢◌, ◌<◌, ◌∷◌, ◌++◌, [], ℕ, All, Contains, List, length, map, take, replicate, sym, ◌∙◌, ap, subst, arith}
use Rattle.std.proofs.lemmas.List.{length-replicate, map-append, take_all, take_more}
use Rattle.std.proofs.lemmas.List.Elements.{All-replicate}
use Rattle.jav_names.specs.UnitViews.{MemberKey}
use Rattle.jav_scope.specs.Entries.{view_in}
use Rattle.jav_scope.specs.declared.source.SourceUnit.{SourceUnit}
use Rattle.mol_resolve_members.specs.places.Listings.{HasMember, key_of}
use Rattle.mol_resolve_members.specs.numbers.Members.{keys_of, place_of}
use Rattle.mol_resolve_members.specs.numbers.Tops.{top_key}
use Rattle.mol_resolve_members.proofs.numbers_lemmas.MemberKeys.{in-keys, is-listed, key-listed, listed-length, there-in}
use Rattle.mol_resolve_members.proofs.numbers_lemmas.TopKeys.{top-in}
use Rattle.mol_resolve_members.proofs.numbers.tops.tops.Goals as goal

pub loop-walk-init : goal.loop-walk-init
loop-walk-init c =
    let items : c.in_ok-met.met.items ≡ replicate c.args.classes c.in_ok-none.none =
    c.in_ok-met.ensures.items_if_clones_equal (λ y is. is) in
    record {
      size = ap length items ∙ length-replicate c.args.classes c.in_ok-none.none ∙ c.requires.classes;
      unmet = λ later from below. subst (λ (marks : List ℕ). All (λ mark. mark ≢ later) marks) (sym items)
          (All-replicate (λ mark. mark ≢ later) c.args.classes c.in_ok-none.none
          (λ same. absurd (omega (arith, same, below, c.in_ok-none.ensures.ok))));
      found = c.new-tops.ensures.items;
    }

pub top-requires : goal.top-requires
top-requires c =
    let below : c.loop-walk.walk < length c.args.listed.now = omega (arith, c.loop-walk-test.true, c.in_ok-none.ensures.ok) in
    record {
      size = c.loop-walk.invariant.size;
      unmet = c.loop-walk.invariant.unmet c.loop-walk.walk (omega arith) below;
      member = is-listed c.args.scope.now c.args.listed.now c.requires.listed c.loop-walk.walk c.index-listed-walk.result below
          c.index-listed-walk.is;
    }

pub member-place-requires : goal.member-place-requires
member-place-requires c =
    let scope = c.args.scope.now in
    let below : c.loop-walk.walk < length c.args.listed.now = omega (arith, c.loop-walk-test.true, c.in_ok-none.ensures.ok) in
    let member = c.index-listed-walk.result in
    let is = is-listed scope c.args.listed.now c.requires.listed c.loop-walk.walk member below c.index-listed-walk.is in
    let stands = top-in scope (key_of member.at) (in-keys scope (key_of member.at) member.member.now is) in
    subst (λ (all : List SourceUnit). HasMember all c.in_ok-top.top) (sym c.requires.places)
    (there-in scope c.in_ok-top.top (subst (Contains (keys_of scope)) (sym c.in_ok-top.ensures.top) stands))

pub loop-walk-preserved : goal.loop-walk-preserved
loop-walk-preserved c =
    let scope = c.args.scope.now in
    let walk = c.loop-walk.walk in
    let below : walk < length c.args.listed.now = omega (arith, c.loop-walk-test.true, c.in_ok-none.ensures.ok) in
    let key = key_of c.index-listed-walk.result.at in
    let all = keys_of scope in
    let place = λ (key : MemberKey). place_of scope (top_key (view_in scope) key) in
    let placed : c.member-place.result ≡ place key =
    c.member-place.ensures ∙ ap (λ (sources : List SourceUnit). place_of sources (key_of c.in_ok-top.top)) c.requires.places
    ∙ ap (place_of scope) c.in_ok-top.ensures.top in
    record {
      size = c.in_ok-top.ensures.size ∙ c.loop-walk.invariant.size;
      unmet = λ later from inside. c.in_ok-top.ensures.unmet later (λ same. absurd (omega (arith, same, from)))
          (c.loop-walk.invariant.unmet later (omega (arith, from)) inside);
      found = c.in_ok-push.ensures.items ∙ (λ i. c.loop-walk.invariant.found i ++ placed i ∷ [])
          ∙ sym (ap (map place) (take_more all walk key (omega (arith, below, listed-length scope c.args.listed.now c.requires.listed)))
          ∙ map-append place (take walk all) _
          ∙ ap (λ key. map place (take walk all) ++ place key ∷ [])
          (key-listed scope c.args.listed.now c.requires.listed walk c.index-listed-walk.result below c.index-listed-walk.is));
    }

pub returns : goal.returns
returns c =
    let scope = c.args.scope.now in
    c.loop-walk.invariant.found
    ∙ ap (map (λ key. place_of scope (top_key (view_in scope) key))) (take_all c.loop-walk.walk (keys_of scope)
    (omega (arith, c.loop-walk-test.false, c.in_ok-none.ensures.ok, listed-length scope c.args.listed.now c.requires.listed)))
