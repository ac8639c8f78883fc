use Rattle.std.proofs.Common.{subst}
use Rattle.std.proofs.lemmas.Bool.Decides.{same_from_decides}
use Rattle.mol_resolve_rules.specs.ProgramViews.{program_view}
use Rattle.mol_scope_members.specs.declaring.Indexed.{AreOwned}
use Rattle.mol_scope_members.proofs.declaring_lemmas.OwnersNamed.{any-decides, any-named}
use Rattle.mol_scope_members.proofs.declaring.member_index.MemberIndex.is_field_name.Goals as goal

pub is_named-requires : goal.is_named-requires
is_named-requires c = c.self.invariant.2.field_owners.placed.sorted

pub returns : goal.returns
returns c =
    let fields = (program_view c.args.self.now).fields in
    let owned = subst (AreOwned c.self.inside.members c.self.inside.paths.positions.entries) c.self.view_is c.self.invariant.2 in
    same_from_decides c.is_named.result _ (any-named fields c.args.name.now c.is_named.result
    (λ is. let named = c.is_named.ensures.0 is in (named.class, (owned.field_owners.each _).1 named.stands))
    (λ class stands. c.is_named.ensures.1 (record { class = class; stands = (owned.field_owners.each _).0 stands })))
    (any-decides fields c.args.name.now)
