use Rattle.std.proofs.Common.{ℕ, List, sym, ◌∙◌, ap, subst}
use Rattle.std.specs.Option.{option_map_or}
use Rattle.jav_scope.specs.Entries.{view_in}
use Rattle.jav_scope.specs.declared.source.SourceUnit.{SourceUnit}
use Rattle.jav_names.specs.UnitViews.{MemberKey}
use Rattle.jav_names.specs.Views.{ViewDeclaration}
use Rattle.mol_resolve_members.specs.places.Listings.{HasMember, key_of}
use Rattle.mol_resolve_rules.specs.Numbering.{same_key, topmost}
use Rattle.mol_resolve_members.specs.numbers.Tops.{top_key}
use Rattle.mol_resolve_members.proofs.numbers_lemmas.MemberKeys.{found-there}
use Rattle.mol_resolve_members.proofs.numbers.numbers.Numbers.is_top.Goals as goal

pub is_top-requires : goal.is_top-requires
is_top-requires c = record {
  tops = c.as_slice.ensures.value ∙ c.self.invariant.tops_are;
  member = subst (λ (all : List SourceUnit). HasMember all c.args.at) (sym c.self.view_is) c.requires;
}

pub returns : goal.returns
returns c = λ declared found.
    let view = view_in c.args.self.now in
    let key = key_of c.args.at in
    c.is_top.ensures
    ∙ ap (λ (all : List SourceUnit). same_key (top_key (view_in all) key) key) c.self.view_is
    ∙ (λ i. same_key (option_map_or (λ (d : ViewDeclaration ℕ MemberKey). (topmost view d).key) (found i) key)
    (sym (found-there c.args.self.now key declared found).1 i))
