use Rattle.std.proofs.Common.{◌≡◌, ◌+◌, ◌∷◌, ◌++◌, [], suc, length, map, get_or, sym, ◌∙◌, ap, arith}
use Rattle.std.proofs.lemmas.List.FromFn.{map-range_with_len_more}
use Rattle.std.proofs.lemmas.List.Sums.{sum_by_more}
use Rattle.jav_scope.specs.Entries.{view_in}
use Rattle.mol_resolve_members.specs.places.Listings.{key_of}
use Rattle.mol_resolve_rules.specs.Numbering.{below}
use Rattle.mol_resolve_members.specs.numbers.Given.{first_after, given, given_at}
use Rattle.mol_resolve_members.specs.numbers.Members.{keys_of}
use Rattle.mol_resolve_members.proofs.numbers_lemmas.MemberKeys.{has-member, is-listed, key-listed, listed-length}
use Rattle.mol_resolve_members.proofs.numbers_lemmas.TopKeys.{given-is}
use Rattle.mol_resolve_members.proofs.numbers.firsts.firsts.Goals as goal

pub loop-member-init : goal.loop-member-init
loop-member-init c =
    let counted : c.in_ok-next.next ≡ first_after c.args.places.now 0 =
    omega (arith, c.in_ok-next.ensures.ok, c.requires.classes, listed-length c.args.places.now c.args.listed.now c.requires.listed) in
    record {
      counted = counted;
      found = c.in_ok-push.ensures.items ∙ ap (λ xs. xs ++ c.in_ok-next.next ∷ []) c.new-firsts.ensures.items
          ∙ ap (λ n. n ∷ []) counted;
    }

pub is_top-requires : goal.is_top-requires
is_top-requires c = record {
  tops = c.requires.tops;
  member = has-member c.args.places.now c.member-item.result.at c.member-item.result.member.now
      (is-listed c.args.places.now c.args.listed.now c.requires.listed c.loop-member.member-index c.member-item.result
      c.loop-member-test.true c.member-item.is);
}

pub loop-member-preserved : goal.loop-member-preserved
loop-member-preserved c =
    let sources = c.args.places.now in
    let index = c.loop-member.member-index in
    let member = c.member-item.result in
    let key = key_of member.at in
    let inside = c.loop-member-test.true in
    let is = is-listed sources c.args.listed.now c.requires.listed index member inside c.member-item.is in
    let count : c.in_ok-count.count ≡ given_at (view_in sources) key =
    c.in_ok-count.ensures ∙ ap (given member.member.now) c.is_top.ensures
    ∙ given-is sources member.at.unit member.at.member member.member.now is in
    let there : get_or (keys_of sources) index key ≡ key =
    key-listed sources c.args.listed.now c.requires.listed index member inside c.member-item.is in
    let sums = sum_by_more (given_at (view_in sources)) (keys_of sources) index key
    (omega (arith, inside, listed-length sources c.args.listed.now c.requires.listed)) in
    let counted : c.in_ok-next-2.next ≡ first_after sources (index + 1) =
    omega (arith, c.in_ok-next-2.ensures.ok, c.loop-member.invariant.counted, count, sums, ap (given_at (view_in sources)) there) in
    record {
      counted = counted;
      found = c.in_ok-push-2.ensures.items ∙ (λ i. c.loop-member.invariant.found i ++ counted i ∷ [])
          ∙ sym (map-range_with_len_more (first_after sources) 0 (index + 1) (index + 1) (omega arith));
    }

pub returns-clause-firsts : goal.returns-clause-firsts
returns-clause-firsts c =
    let sources = c.args.places.now in
    let whole : c.loop-member.member-index + 1 ≡ suc (length (keys_of sources)) = omega (
      arith,
      c.loop-member-test.false,
      c.loop-member.auto.member-index-end,
      listed-length sources c.args.listed.now c.requires.listed,
    ) in
    c.loop-member.invariant.found ∙ ap (λ n. map (first_after sources) (below n)) whole

pub returns-clause-fits : goal.returns-clause-fits
returns-clause-fits c =
    let sources = c.args.places.now in
    let index = c.loop-member.member-index in
    let all : index ≡ length (keys_of sources) = omega (
      arith,
      c.loop-member-test.false,
      c.loop-member.auto.member-index-end,
      listed-length sources c.args.listed.now c.requires.listed,
    ) in
    omega (arith, c.loop-member.auto.next-fits, c.loop-member.invariant.counted, ap (first_after sources) all)
