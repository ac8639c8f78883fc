-- Members collected, one identity further.
use Rattle.std.proofs.Common.{◌≡◌, ℕ, ◌+◌, ◌<◌, ◌≤◌, Bool, true, false, if◌then◌else◌, List, [], ◌∷◌, ◌++◌, map, take, length, get_or, filter_map, Option, Some, None, option_map, refl, sym, ◌∙◌, ap}
use Rattle.std.specs.FinMap.{get, entries}
use Rattle.std.specs.List.{cons_option}
use Rattle.std.specs.Option.{option_and_then, option_to_list}
use Rattle.std.proofs.lemmas.List.{append-nil, map-append, take_all}
use Rattle.std.proofs.lemmas.List.Elements.{filter_map-append}
use Rattle.jav_names.specs.Views.{ViewField, ViewDeclaration}
use Rattle.mol_base.specs.declared.ident.Id.{Id}
use Rattle.mol_scope_classes.proofs.classes_lemmas.KnownIds.{made-known, made-more, mapped-one}
use Rattle.mol_scope_classes.specs.classes.Made.{made_of}
use Rattle.jav_names.specs.declared.id_index.entry.Entry.{Entry}
use Rattle.mol_resolve_rules.specs.ProgramViews.{declaration_of, field_of, living_field, living_declaration, program_view}
use Rattle.mol_table_rules.specs.Identities.{AreKnown, IsAscending}
use Rattle.mol_table_rules.specs.Program.{Program, living_at, owner_at}
use Rattle.mol_values_types.specs.declared.known.Known.TheVariants as knowns
use Rattle.mol_scope_members.specs.declaring.Collecting.{Adds, AddsKnown, AreCollected, Collects}
use Rattle.mol_scope_members.specs.declaring.MemberEntries.{declaring_entry, field_entry, listed_constructor, listed_method, listed_owner}
use Rattle.mol_scope_members.specs.declaring.Owners.{field_row, method_row, row_of}
use Rattle.mol_scope_members.specs.declared.declaring.collected.Collected.{Collected}

-- ---- what one identity adds

pub adds-none : (collected : Collected) → Adds collected collected None None None
adds-none collected = record {
  fields = sym (append-nil collected.fields.items);
  methods = sym (append-nil collected.methods.items);
  constructors = sym (append-nil collected.constructors.items);
  constructed = sym (append-nil collected.constructed.items);
  declared = sym (append-nil collected.declared.items);
  field_owners = sym (append-nil (map row_of collected.field_owners.items));
  method_owners = sym (append-nil (map row_of collected.method_owners.items));
}

-- an entry is added that is this one
pub pushed : (old new : List Entry) (entry made : Entry) → new ≡ old ++ entry ∷ [] → entry ≡ made → new ≡ old ++ made ∷ []
pushed old new entry made more is = more ∙ ap (λ (e : Entry). old ++ e ∷ []) is

-- a declaration by its method, and then by its class
pub adds-both : (old between new : Collected) (living : Option (ViewDeclaration Id Id)) (declaring : Option Entry)
    → Adds old between None None declaring → Adds between new None living None → Adds old new None living declaring
adds-both old between new living declaring first next = record {
  fields = next.fields ∙ append-nil between.fields.items ∙ first.fields;
  methods = next.methods
      ∙ ap (λ es. es ++ option_to_list (option_and_then listed_method living)) (first.methods ∙ append-nil old.methods.items);
  constructors = next.constructors
      ∙ ap (λ es. es ++ option_to_list (option_and_then listed_constructor living)) (first.constructors ∙ append-nil old.constructors.items);
  constructed = next.constructed
      ∙ ap (λ es. es ++ option_to_list (option_and_then listed_owner living)) (first.constructed ∙ append-nil old.constructed.items);
  declared = next.declared ∙ append-nil between.declared.items ∙ first.declared;
  field_owners = next.field_owners ∙ append-nil (map row_of between.field_owners.items) ∙ first.field_owners;
  method_owners = next.method_owners
      ∙ ap (λ rows. rows ++ option_to_list (option_and_then method_row living))
      (first.method_owners ∙ append-nil (map row_of old.method_owners.items));
}

-- ---- what lives, by the class in which it stands

mapped-if : {X Y : Type 0} (f : X → Y) (b : Bool) (o : Option X)
    → option_map f (if b then o else None) ≡ (if b then option_map f o else None)
mapped-if f true o = refl
mapped-if f false o = refl

module _ (program : Program) (id : Id) (owner : Option Id)
    (is : owner ≡ (if living_at program id then owner_at program id else None)) where
  pub field-lives : option_map (field_of program id) owner ≡ living_field program (id, knowns.Field)
  field-lives = ap (option_map (field_of program id)) is ∙ mapped-if (field_of program id) (living_at program id) (owner_at program id)

  pub declaration-lives : (method : Id)
      → option_map (declaration_of program id method) owner ≡ living_declaration program (id, knowns.Decl method)
  declaration-lives method =
      ap (option_map (declaration_of program id method)) is
      ∙ mapped-if (declaration_of program id method) (living_at program id) (owner_at program id)

-- ---- one more

of-one : {Y Z : Type 0} (f : Y → Option Z) (o : Option Y) → option_to_list (option_and_then f o) ≡ filter_map f (option_to_list o)
of-one f None = refl
of-one {Y} {Z} f (Some y) = by (f y) where
  by : (o : Option Z) → option_to_list o ≡ cons_option o []
  by None = refl
  by (Some z) = refl

module _ (ids : List Id) (i : ℕ) (id : Id) (within : i < length ids) (at : id ≡ get_or ids i id) where
  listed-more : {Y Z : Type 0} (make : Id → Option Y) (next : Y → Option Z) (old new : List Z)
      → old ≡ filter_map next (filter_map make (take i ids)) → new ≡ old ++ option_to_list (option_and_then next (make id))
      → new ≡ filter_map next (filter_map make (take (i + 1) ids))
  listed-more make next old new was added =
      added ∙ (λ k. was k ++ of-one next (make id) k)
      ∙ sym (filter_map-append next (filter_map make (take i ids)) (option_to_list (make id)))
      ∙ ap (filter_map next) (sym (made-more make ids i id within at))

  mapped-more : {Y Z : Type 0} (make : Id → Option Y) (next : Y → Z) (old new : List Z)
      → old ≡ map next (filter_map make (take i ids)) → new ≡ old ++ option_to_list (option_map next (make id))
      → new ≡ map next (filter_map make (take (i + 1) ids))
  mapped-more make next old new was added =
      added ∙ (λ k. was k ++ mapped-one next (make id) k)
      ∙ sym (map-append next (filter_map make (take i ids)) (option_to_list (make id)))
      ∙ ap (map next) (sym (made-more make ids i id within at))

module _ (program : Program) (ids : List Id) (i : ℕ) where
  abbrev field : Id → Option (ViewField Id Id)
  field = made_of program (living_field program)

  abbrev living : Id → Option (ViewDeclaration Id Id)
  living = made_of program (living_declaration program)

  abbrev declaring : Id → Option Entry
  declaring = made_of program declaring_entry

  -- what is collected of the identities before this place
  abbrev pub CollectsTo : Collected → Type 0
  CollectsTo collected =
      Collects collected (filter_map field (take i ids)) (filter_map living (take i ids)) (filter_map declaring (take i ids))

  pub collects-more : (id : Id) (old new : Collected) → i < length ids → id ≡ get_or ids i id → CollectsTo old
      → AddsKnown old new program id (get program.known id)
      → Collects new (filter_map field (take (i + 1) ids)) (filter_map living (take (i + 1) ids)) (filter_map declaring (take (i + 1) ids))
  collects-more id old new within at was added = record {
    fields = mapped-more ids i id within at field field_entry old.fields.items new.fields.items was.fields added.fields;
    methods = listed-more ids i id within at living listed_method old.methods.items new.methods.items was.methods added.methods;
    constructors = listed-more ids i id within at living listed_constructor old.constructors.items new.constructors.items
        was.constructors added.constructors;
    constructed = listed-more ids i id within at living listed_owner old.constructed.items new.constructed.items
        was.constructed added.constructed;
    declared = added.declared ∙ (λ k. was.declared k ++ option_to_list (declaring id)) ∙ sym (made-more declaring ids i id within at);
    field_owners = mapped-more ids i id within at field field_row (map row_of old.field_owners.items) (map row_of new.field_owners.items)
        was.field_owners added.field_owners;
    method_owners = listed-more ids i id within at living method_row (map row_of old.method_owners.items)
        (map row_of new.method_owners.items) was.method_owners added.method_owners;
  }

  pub collects-all : (collected : Collected) → IsAscending ids → AreKnown program ids → length ids ≤ i → CollectsTo collected
      → AreCollected collected program
  collects-all collected ascending known past was =
      let whole : take i ids ≡ ids = take_all i ids past in
      let view = program_view program in
      let in_view : filter_map field (take i ids) ≡ view.fields =
      ap (filter_map field) whole ∙ made-known program (living_field program) ids ascending known in
      let living_in_view : filter_map living (take i ids) ≡ view.declarations =
      ap (filter_map living) whole ∙ made-known program (living_declaration program) ids ascending known in
      let declaring_all : filter_map declaring (take i ids) ≡ filter_map declaring_entry (entries program.known) =
      ap (filter_map declaring) whole ∙ made-known program declaring_entry ids ascending known in
      record {
        fields = was.fields ∙ ap (map field_entry) in_view;
        methods = was.methods ∙ ap (filter_map listed_method) living_in_view;
        constructors = was.constructors ∙ ap (filter_map listed_constructor) living_in_view;
        constructed = was.constructed ∙ ap (filter_map listed_owner) living_in_view;
        declared = was.declared ∙ declaring_all;
        field_owners = was.field_owners ∙ ap (map field_row) in_view;
        method_owners = was.method_owners ∙ ap (filter_map method_row) living_in_view;
      }
