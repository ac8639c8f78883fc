use Rattle.std.proofs.Common.{◌∙◌, List, [], ◌∷◌, ◌++◌, if◌then◌else◌, ap}
use Rattle.mol_scope_classes.proofs.class_members_lemmas.Grouped.{listed-put}
use Rattle.mol_scope_classes.proofs.class_members.grouping.add.Goals as goal
use Rattle.mol_scope_classes.specs.class_members.Members.{listed_at}
use Rattle.mol_scope_classes.specs.declared.class_members.class_member.ClassMember.{ClassMember}
use Rattle.mol_values_types.specs.Order.{id_eq}

pub returns : goal.returns
returns c = λ asked.
    let class = c.args.class in
    let old = c.args.groups.now.entries in
    listed-put class asked _ old c.taken-members.new.groups.entries c.insert.new.self.entries (c.taken-members.ensures.others asked)
    (c.in_ok-insert.ensures.updates.0 asked)
    ∙ ap (λ (members : List ClassMember). if id_eq class asked then members else listed_at old asked)
    (c.in_ok-add.ensures.ok
    ∙ ap (λ (members : List ClassMember). members ++ record { id = c.args.id; known = c.args.known } ∷ []) c.taken-members.ensures.taken)
