use Rattle.std.proofs.Common.{◌≡◌, ◌∙◌, ◌++◌, ◌∷◌, [], true, false, if◌then◌else◌, Some, None, length, map, sym, ap}
use Rattle.std.proofs.lemmas.List.{append-nil}
use Rattle.std.proofs.lemmas.Result.{on_ok_weaker}
use Rattle.std.specs.Option.{option_to_list}
use Rattle.jav_names.specs.LookUps.{is_constructor}
use Rattle.mol_base.specs.declared.ident.Id.{Id}
use Rattle.mol_resolve_rules.specs.ProgramViews.{declaration_of}
use Rattle.mol_scope_members.specs.declaring.MemberEntries.{constructor_entry, method_entry, owner_entry}
use Rattle.mol_scope_members.specs.declaring.Owners.{Row, row_of}
use Rattle.mol_scope_members.proofs.declaring_lemmas.MembersAdded.{pushed}
use Rattle.mol_scope_members.proofs.declaring.collected.Collected.add_living.Goals as goal

pub returns-in_ok-push-2 : goal.returns-in_ok-push-2
returns-in_ok-push-2 c =
    let old = c.args.self.now in
    let program = c.args.table.now in
    let id : Id = c.args.id.now in
    let owner : Id = c.args.declared.now.owner in
    let declared = declaration_of program id c.args.declared.now.method owner in
    let row : Row = record { arity = declared.arity; name = declared.name; class = owner } in
    let holds : true ≡ is_constructor declared.kind = sym c.if-is_constructor.true ∙ c.is_constructor.ensures in
    let same : c.nameless_entry.result ≡ constructor_entry declared =
    c.nameless_entry.ensures ∙ (λ i. record { owner = owner; arity = length (c.params_of-arity.ensures i); name = []; id = id }) in
    record {
      fields = sym (append-nil old.fields.items);
      methods = sym (append-nil old.methods.items)
          ∙ ap (λ b. old.methods.items ++ option_to_list (if b then None else Some (method_entry declared))) holds;
      constructors = pushed old.constructors.items _ _ _ c.in_ok-push.ensures.items same
          ∙ ap (λ b. old.constructors.items ++ option_to_list (if b then Some (constructor_entry declared) else None)) holds;
      constructed = pushed old.constructed.items _ _ _ c.in_ok-push-2.ensures.items c.nameless_entry-then-is_constructor.ensures
          ∙ ap (λ b. old.constructed.items ++ option_to_list (if b then Some (owner_entry declared) else None)) holds;
      declared = sym (append-nil old.declared.items);
      field_owners = sym (append-nil (map row_of old.field_owners.items));
      method_owners = sym (append-nil (map row_of old.method_owners.items))
          ∙ ap (λ b. map row_of old.method_owners.items ++ option_to_list (if b then None else Some row)) holds;
    }

pub returns-in_ok-push-3 : goal.returns-in_ok-push-3
returns-in_ok-push-3 c =
    let old = c.args.self.now in
    let program = c.args.table.now in
    let id : Id = c.args.id.now in
    let owner : Id = c.args.declared.now.owner in
    let declared = declaration_of program id c.args.declared.now.method owner in
    let fails : false ≡ is_constructor declared.kind = sym c.if-is_constructor.false ∙ c.is_constructor.ensures in
    let same : c.in_ok-entry.entry ≡ method_entry declared =
    c.in_ok-entry.ensures
    ∙ (λ i. record { owner = owner; arity = length (c.params_of-arity.ensures i); name = c.name_of-name.ensures i; id = id }) in
    let row : Row = record { arity = declared.arity; name = declared.name; class = owner } in
    on_ok_weaker c.add_owner.result (λ more. record {
      fields = sym (append-nil old.fields.items);
      methods = pushed old.methods.items _ _ _ c.in_ok-push-3.ensures.items same
          ∙ ap (λ b. old.methods.items ++ option_to_list (if b then None else Some (method_entry declared))) fails;
      constructors = sym (append-nil old.constructors.items)
          ∙ ap (λ b. old.constructors.items ++ option_to_list (if b then Some (constructor_entry declared) else None)) fails;
      constructed = sym (append-nil old.constructed.items)
          ∙ ap (λ b. old.constructed.items ++ option_to_list (if b then Some (owner_entry declared) else None)) fails;
      declared = sym (append-nil old.declared.items);
      field_owners = sym (append-nil (map row_of old.field_owners.items));
      method_owners = more
          ∙ (λ i. map row_of old.method_owners.items ++ record {
            arity = length (c.params_of-arity.ensures i);
            name = c.name_of-name.ensures i;
            class = owner;
          } ∷ [])
          ∙ ap (λ b. map row_of old.method_owners.items ++ option_to_list (if b then None else Some row)) fails;
    }) c.add_owner.ensures
