use Rattle.std.proofs.Common.{◌≡◌, ◌∙◌, ◌∷◌, ◌++◌, [], map, sym, ap}
use Rattle.std.proofs.lemmas.List.{append-nil}
use Rattle.std.proofs.lemmas.Result.{on_ok_weaker}
use Rattle.jav_names.specs.DottedNames.{Name}
use Rattle.mol_base.specs.declared.ident.Id.{Id}
use Rattle.mol_resolve_rules.specs.ProgramViews.{field_of}
use Rattle.mol_scope_members.specs.declaring.MemberEntries.{field_entry}
use Rattle.mol_scope_members.specs.declaring.Owners.{row_of}
use Rattle.mol_scope_members.proofs.declaring_lemmas.MembersAdded.{pushed}
use Rattle.mol_scope_members.proofs.declaring.collected.Collected.add_living_field.Goals as goal

pub returns : goal.returns
returns c =
    let old = c.args.self.now in
    let id : Id = c.args.id.now in
    let owner : Id = c.args.owner.now in
    let same : c.in_ok-entry.entry ≡ field_entry (field_of c.args.table.now id owner) =
    c.in_ok-entry.ensures ∙ (λ i. record { owner = owner; arity = 0; name = c.name_of-name.ensures i; id = id }) in
    on_ok_weaker c.add_owner.result (λ more. record {
      fields = pushed old.fields.items _ _ _ c.in_ok-push.ensures.items same;
      methods = sym (append-nil old.methods.items);
      constructors = sym (append-nil old.constructors.items);
      constructed = sym (append-nil old.constructed.items);
      declared = sym (append-nil old.declared.items);
      field_owners = more ∙ ap (λ (name : Name). map row_of old.field_owners.items ++ record { arity = 0; name = name; class = owner } ∷ [])
          c.name_of-name.ensures;
      method_owners = sym (append-nil (map row_of old.method_owners.items));
    }) c.add_owner.ensures
