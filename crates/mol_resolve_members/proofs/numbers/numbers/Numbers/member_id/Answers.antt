use Rattle.std.proofs.Common.{◌+◌, List, length, sym, ◌∙◌, ap, subst, arith}
use Rattle.jav_scope.specs.declared.source.SourceUnit.{SourceUnit}
use Rattle.mol_table_rules.specs.Renumber.{base_id}
use Rattle.mol_resolve_members.specs.places.Listings.{HasMember, key_of}
use Rattle.mol_resolve_members.specs.numbers.Members.{place_of}
use Rattle.mol_resolve_members.proofs.numbers_lemmas.IdsFound.{member-id}
use Rattle.mol_resolve_members.proofs.numbers_lemmas.MemberKeys.{has-key}
use Rattle.mol_resolve_members.proofs.numbers_lemmas.NumbersHeld.{member-fits}
use Rattle.mol_resolve_members.proofs.numbers.numbers.Numbers.member_id.Goals as goal

pub member-requires : goal.member-requires
member-requires c = subst (λ (all : List SourceUnit). HasMember all c.args.at) (sym c.self.view_is) c.requires

pub overflow_add-self-inside-2 : goal.overflow_add-self-inside-2
overflow_add-self-inside-2 c =
    let kept = c.self.inside in
    let has = subst (λ (all : List SourceUnit). HasMember all c.args.at) (sym c.self.view_is) c.requires in
    omega (
      arith,
      c.member.ensures,
      member-fits kept.places kept.classes kept.tops.items kept.firsts.items c.self.invariant (key_of c.args.at)
          (has-key kept.places c.args.at has),
    )

pub returns : goal.returns
returns c =
    let counted = c.self.invariant.counted ∙ ap (λ (all : List SourceUnit). length all) c.self.view_is in
    c.base_id.ensures
    ∙ (λ i. base_id (1 + counted i + (c.member.ensures ∙ ap (λ (all : List SourceUnit). place_of all (key_of c.args.at)) c.self.view_is) i))
    ∙ sym (member-id c.args.self.now (key_of c.args.at) (has-key c.args.self.now c.args.at c.requires))
