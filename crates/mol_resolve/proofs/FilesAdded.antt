-- The entities of members and of files, added one after the other.
use Rattle.std.proofs.Common.{◌≡◌, ℕ, List, [], ◌∷◌, ◌++◌, map, flat_map, append_assoc, refl, sym, ◌∙◌, ap}
use Rattle.std.proofs.lemmas.List.{append-nil, map-append}
use Rattle.std.proofs.lemmas.List.Concat.{flat_map-append}
use Rattle.jav_names.specs.UnitViews.{MemberKey, numbered}
use Rattle.mol_resolve_laws.specs.Entities.{entity_of, plain_entities}
use Rattle.mol_resolve.proofs.ReadInOrder.{all-in_order, classes_in, kept-after, members_in, methods_in}
use Rattle.mol_resolve.specs.Added.{of_items, AreAdded, IsAdded, IsClassAdded}
use Rattle.mol_resolve.specs.declared.entities.Entities.{Entities}
use Rattle.mol_resolve_rules.specs.Files.{File, Files, files_view}
use Rattle.mol_resolve_rules.specs.Numbering.{Numbered, numbered_class, numbered_member, numbered_at_key, by_path, member_keys}
use Rattle.mol_resolve_rules.specs.ReadAs.{HasNoFault}
use Rattle.mol_table_rules.specs.declared.entity.NewEntity.{NewEntity}

-- entities after others, and further ones
added-twice : (files : Files) (before middle after : List NewEntity) (items more : List Numbered)
    → middle ≡ before ++ of_items files items → after ≡ middle ++ of_items files more → after ≡ before ++ of_items files (items ++ more)
added-twice files before middle after items more first next =
    next ∙ ap (λ middle. middle ++ of_items files more) first
    ∙ append_assoc before (of_items files items) (of_items files more)
    ∙ ap (λ rest. before ++ rest) (sym (kept-after (entity_of files) items more))

module _ (files : Files) where
  abbrev at_keys : List MemberKey → List Numbered
  at_keys = flat_map (numbered_at_key (files_view files))

  -- ---- members

  pub none-added : (entities : Entities) → AreAdded files [] entities entities
  none-added entities = record {
    classes = refl;
    members = λ no_fault. sym (append-nil entities.members.items);
    methods = λ no_fault. sym (append-nil entities.methods.items);
  }

  pub keys-added : (keys more : List MemberKey) (before middle after : Entities) → AreAdded files keys before middle
      → AreAdded files more middle after → AreAdded files (keys ++ more) before after
  keys-added keys more before middle after first next = record {
    classes = next.classes ∙ first.classes;
    members = λ no_fault.
        added-twice files before.members.items middle.members.items after.members.items (map numbered_member keys)
        (map numbered_member more) (first.members no_fault) (next.members no_fault)
        ∙ ap (λ items. before.members.items ++ of_items files items) (sym (map-append numbered_member keys more));
    methods = λ no_fault.
        added-twice files before.methods.items middle.methods.items after.methods.items (at_keys keys) (at_keys more)
        (first.methods no_fault) (next.methods no_fault)
        ∙ ap (λ items. before.methods.items ++ of_items files items)
        (sym (flat_map-append (numbered_at_key (files_view files)) keys more));
  }

  -- ---- files

  pub file-added : (file : ℕ × File) (before middle after : Entities) → IsClassAdded files file.0 before middle
      → AreAdded files (member_keys file) middle after → IsAdded files file before after
  file-added file before middle after class members = record {
    classes = λ no_fault. members.classes ∙ class.classes no_fault;
    members = λ no_fault. members.members no_fault
        ∙ ap (λ items. items ++ of_items files (map numbered_member (member_keys file))) class.members;
    methods = λ no_fault. members.methods no_fault
        ∙ ap (λ items. items ++ of_items files (at_keys (member_keys file))) class.methods;
  }

  -- Where the files have no fault, the entities are those of these files.
  pub record AreRead (read : List (ℕ × File)) (entities : Entities) : Type 0 where
    pub classes : HasNoFault files → entities.classes.items ≡ classes_in files read
    pub members : HasNoFault files → entities.members.items ≡ members_in files read
    pub methods : HasNoFault files → entities.methods.items ≡ methods_in files read

  keys-further : (read : List (ℕ × File)) (file : ℕ × File)
      → flat_map member_keys (read ++ file ∷ []) ≡ flat_map member_keys read ++ member_keys file
  keys-further read file =
      flat_map-append member_keys read (file ∷ []) ∙ ap (λ last. flat_map member_keys read ++ last) (append-nil (member_keys file))

  pub one-more : (read : List (ℕ × File)) (file : ℕ × File) (before after : Entities) → AreRead read before
      → IsAdded files file before after → AreRead (read ++ file ∷ []) after
  one-more read file before after are added = record {
    classes = λ no_fault.
        added-twice files [] before.classes.items after.classes.items (map (λ (file : ℕ × File). numbered_class file.0) read)
        (numbered_class file.0 ∷ []) (are.classes no_fault) (added.classes no_fault)
        ∙ ap (of_items files) (sym (map-append (λ (file : ℕ × File). numbered_class file.0) read (file ∷ [])));
    members = λ no_fault.
        added-twice files [] before.members.items after.members.items (map numbered_member (flat_map member_keys read))
        (map numbered_member (member_keys file)) (are.members no_fault) (added.members no_fault)
        ∙ ap (of_items files) (sym (map-append numbered_member (flat_map member_keys read) (member_keys file)))
        ∙ ap (λ keys. of_items files (map numbered_member keys)) (sym (keys-further read file));
    methods = λ no_fault.
        added-twice files [] before.methods.items after.methods.items (at_keys (flat_map member_keys read)) (at_keys (member_keys file))
        (are.methods no_fault) (added.methods no_fault)
        ∙ ap (of_items files)
        (sym (flat_map-append (numbered_at_key (files_view files)) (flat_map member_keys read) (member_keys file)))
        ∙ ap (λ keys. of_items files (at_keys keys)) (sym (keys-further read file));
  }

  -- all files
  pub all-read : (entities : Entities) → AreRead (by_path (numbered files)) entities → HasNoFault files
      → entities.classes.items ++ entities.members.items ++ entities.methods.items ≡ plain_entities files
  all-read entities are no_fault =
      (λ i. are.classes no_fault i ++ are.members no_fault i ++ are.methods no_fault i) ∙ all-in_order files
