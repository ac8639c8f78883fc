use Rattle.std.proofs.Common.{refl, sym, ◌∙◌, subst}
use Rattle.mol_resolve_members.specs.places.Listings.{key_of}
use Rattle.mol_resolve_members.specs.numbers.Members.{IsMember}
use Rattle.mol_resolve_members.proofs.numbers_lemmas.MemberKeys.{class-within}
use Rattle.mol_resolve_members.proofs.numbers_lemmas.TopKeys.{top-of-field, top-of-constructor}
use Rattle.mol_resolve_members.proofs.numbers.tops.top.Goals as goal

pub way-requires : goal.way-requires
way-requires c = record {
  size = c.requires.size;
  class = class-within c.args.scope.now (key_of c.args.listed.now.at) c.args.listed.now.member.now c.requires.member;
  unmet = c.requires.unmet;
}

pub top_on_way-requires : goal.top_on_way-requires
top_on_way-requires c = record {
  way = c.as_slice.ensures.value ∙ c.in_ok-way-in-Method.ensures.way;
  method = subst (IsMember c.args.scope.now (key_of c.args.listed.now.at)) c.in-Method.is c.requires.member;
}

pub returns-in-Field : goal.returns-in-Field
returns-in-Field c = record {
  top = sym (top-of-field c.args.scope.now c.args.listed.now.at.unit c.args.listed.now.at.member c.in-Field.field-0
      (subst (IsMember c.args.scope.now (key_of c.args.listed.now.at)) c.in-Field.is c.requires.member));
  size = refl;
  unmet = λ later differs before. before;
}

pub returns-in-Ctor : goal.returns-in-Ctor
returns-in-Ctor c = record {
  top = sym (top-of-constructor c.args.scope.now c.args.listed.now.at.unit c.args.listed.now.at.member c.in-Ctor.field-0
      (subst (IsMember c.args.scope.now (key_of c.args.listed.now.at)) c.in-Ctor.is c.requires.member));
  size = refl;
  unmet = λ later differs before. before;
}
