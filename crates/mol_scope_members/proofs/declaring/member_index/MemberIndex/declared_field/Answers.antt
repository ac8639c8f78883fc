use Rattle.std.proofs.Common.{◌∙◌, ap, find, option_map, subst}
use Rattle.jav_names.specs.id_index.Seeking.{is_sought}
use Rattle.jav_names.specs.declared.id_index.entry.Entry.{Entry}
use Rattle.mol_scope_members.specs.declaring.Indexed.{AreIndexed}
use Rattle.mol_scope_members.proofs.declaring_lemmas.MembersFound.{field-same}
use Rattle.mol_scope_members.proofs.declaring.member_index.MemberIndex.declared_field.Goals as goal

pub returns : goal.returns
returns c =
    let indexed = subst (AreIndexed c.self.inside.members) c.self.view_is c.self.invariant.0 in
    c.first.ensures
    ∙ ap (λ name. option_map (λ (entry : Entry). entry.id)
    (find (is_sought c.args.class.now 0 name) c.self.inside.members.fields)) c.as_bytes.ensures.value
    ∙ field-same c.args.self.now c.self.inside.members indexed c.args.name.now c.args.class.now
