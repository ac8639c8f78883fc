use Rattle.std.proofs.Common.{map, sym}
use Rattle.std.proofs.lemmas.List.{append-nil}
use Rattle.mol_scope_members.specs.declaring.Owners.{row_of}
use Rattle.mol_scope_members.proofs.declaring_lemmas.MembersAdded.{pushed}
use Rattle.mol_scope_members.proofs.declaring.collected.Collected.add_by_method.Goals as goal

pub returns : goal.returns
returns c =
    let old = c.args.self.now in
    record {
      fields = sym (append-nil old.fields.items);
      methods = sym (append-nil old.methods.items);
      constructors = sym (append-nil old.constructors.items);
      constructed = sym (append-nil old.constructed.items);
      declared = pushed old.declared.items _ _ _ c.in_ok-push.ensures.items c.nameless_entry.ensures;
      field_owners = sym (append-nil (map row_of old.field_owners.items));
      method_owners = sym (append-nil (map row_of old.method_owners.items));
    }
