use Rattle.std.proofs.Common.{◌∙◌, ◌++◌, Option, sym, ap}
use Rattle.std.proofs.lemmas.List.{append-nil}
use Rattle.std.proofs.lemmas.Result.{on_ok_weaker}
use Rattle.std.specs.Option.{option_to_list}
use Rattle.mol_scope_classes.proofs.class_members_lemmas.Grouped.{listed-more}
use Rattle.mol_scope_classes.proofs.class_members.grouping.add_owned.Goals as goal
use Rattle.mol_scope_classes.specs.class_members.Members.{in_class, listed_at, member_of}
use Rattle.mol_scope_classes.specs.declared.class_members.owned.OwnedMember.{OwnedMember}

pub returns-in-Some : goal.returns-in-Some
returns-in-Some c =
    let old = c.args.groups.now.entries in
    let owned = c.in-Some.owned in
    on_ok_weaker c.add.result (λ put class.
    listed-more owned.class class (member_of owned) old _ (put class)
    ∙ sym (ap (λ (owned : Option OwnedMember). listed_at old class ++ option_to_list (in_class class owned)) c.in-Some.is)) c.add.ensures

pub returns-in-None : goal.returns-in-None
returns-in-None c = λ class.
    let old = c.args.groups.now.entries in
    sym (append-nil (listed_at old class))
    ∙ sym (ap (λ (owned : Option OwnedMember). listed_at old class ++ option_to_list (in_class class owned)) c.in-None.is)
