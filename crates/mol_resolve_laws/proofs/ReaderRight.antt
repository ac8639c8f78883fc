-- The names in files without a fault are found to be what the program of the files knows, each of the right kind.
use Rattle.std.proofs.Common.{◌≡◌, ◌≢◌, ◌⊎◌, inl, inr, ℕ, Bool, true, List, [], ◌∷◌, ◌++◌, map, flat_map, Option, Some, None, option_map, Contains, slice_get, refl, sym, ◌∙◌, ap}
use Rattle.std.proofs.lemmas.Bool.{and_parts}
use Rattle.std.specs.List.{All, list_all}
use Rattle.std.specs.FinMap.{get}
use Rattle.std.proofs.lemmas.List.Elements.{All-contains}
use Rattle.jav_tree.specs.declared.unit.Field.{Field}
use Rattle.jav_tree.specs.declared.unit.Member.{Member}
use Rattle.jav_tree.specs.declared.unit.Member.TheVariants as member
use Rattle.jav_tree.specs.declared.unit.Unit.{Unit as Source}
use Rattle.jav_names.proofs.Lists.{stands_where, stands_nowhere, stands-mapped}
use Rattle.jav_names.proofs.UnitsViewed.{units_viewed}
use Rattle.jav_names.specs.Ancestors.{HasClass}
use Rattle.jav_names.specs.UnitViews.{MemberKey, numbered, class_of, classes_of, field_in, fields_of, declaration_in}
use Rattle.jav_names.specs.Views.{ViewField, DeclarationKind, instance_method, static_method, constructor, ViewDeclaration, Classes}
use Rattle.mol_base.specs.declared.ident.Id.{Id}
use Rattle.mol_resolve_rules.proofs.FilesStand.{StandsAt, some-same, files-ordered, stands-found, unit-get, get-unit, made-found, member-found, member-in_order, method-in_order, in-by_path}
use Rattle.mol_resolve_rules.proofs.OneMethod.{topmost-itself}
use Rattle.mol_resolve_rules.proofs.Stands.{in_front, from_map, from_each, from_some, in_place, from_numbered, in_numbered}
use Rattle.mol_resolve_rules.specs.Expected.{kind_of, member_known, known_of}
use Rattle.mol_resolve_rules.specs.Files.{File, Files, HasFile, units, files_view, declaration_at, PlacedMember}
use Rattle.mol_resolve_rules.specs.Numbering.{Numbered, numbered_class, numbered_member, numbered_method, topmost, by_path, keys_in_order, numbered_at_key, in_order, id_at, ids_of}
use Rattle.mol_resolve_rules.specs.ReadAs.{HasNoFault}
use Rattle.mol_resolve_rules.specs.ReadFiles.{file_reader, member_reader}
use Rattle.mol_table_rules.specs.Mentions.{Mention, a_class, a_field, a_called_method, a_static_method, a_constructor}
use Rattle.mol_table_rules.specs.Program.{Program, Knowns}
use Rattle.mol_table_rules.specs.Rules.{fills}
use Rattle.mol_values_types.specs.TokenForms.{is_dotted}
use Rattle.mol_values_types.specs.declared.known.Known.{Known}
use Rattle.mol_values_types.specs.declared.known.Known.TheVariants as knowns
use Rattle.mol_resolve_laws.proofs.Filled.{IsFilled}
use Rattle.mol_resolve_laws.proofs.MethodsAgree.{no_circle, topmost-is}
use Rattle.mol_resolve_laws.proofs.Right.{ReadsRightly}
use Rattle.mol_resolve_laws.specs.Laws.{IsTree}

-- each of a list passes
pub passes-each : {X : Type 0} (p : X → Bool) (xs : List X) → list_all p xs ≡ true → (x : X) → Contains xs x → p x ≡ true
passes-each p [] all x stands = absurd (stands_nowhere x stands)
passes-each p (y ∷ xs) all x stands =
    let parts = and_parts (p y) (list_all p xs) all in by (stands_where y x xs stands) parts.0 (passes-each p xs parts.1 x) where
      by : (y ≡ x) ⊎ Contains xs x → p y ≡ true → (Contains xs x → p x ≡ true) → p x ≡ true
      by (inl same) here more = ap p (sym same) ∙ here
      by (inr later) here more = more later

-- the test of a mention in a value of this identity
abbrev pub fits : Knowns → Id → Mention → Bool
fits known owner mention = fills owner mention.role (get known mention.id)

module _ (files : Files) (no_fault : HasNoFault files) (program : Program) (filled : IsFilled files program) where
  abbrev Declaration : Type 0
  Declaration = ViewDeclaration ℕ MemberKey

  -- what has a number is known as what it is
  pub known-item : (item : Numbered) → Contains (in_order files) item → (known : Known) → known_of files item ≡ Some known
      → get program.known (id_at files item) ≡ Some known
  known-item item stands known is =
      let found = filled.numbered.each item stands in found.1.1 ∙ sym found.1.0 ∙ is

  -- ---- classes

  pub class-in_order : (number : ℕ) (file : File) → HasFile files number file → Contains (in_order files) (numbered_class number)
  class-in_order number file is =
      let classes = map (λ (file : ℕ × File). numbered_class file.0) (by_path (numbered files)) in
      let members = map numbered_member (keys_in_order files) in
      let methods = flat_map (numbered_at_key (files_view files)) (keys_in_order files) in
      in_front (classes ++ members) methods (numbered_class number)
      (in_front classes members (numbered_class number)
      (stands-mapped (λ (file : ℕ × File). numbered_class file.0) (by_path (numbered files)) (number, file)
      (in-by_path (numbered files) (number, file) (in_numbered files number file is))))

  pub class-known : (number : ℕ) (file : File) → HasFile files number file
      → get program.known (id_at files (numbered_class number)) ≡ Some knowns.Class
  class-known number file is = known-item (numbered_class number) (class-in_order number file is) knowns.Class refl

  pub has-file : (class : ℕ) → HasClass (files_view files).classes class → (file : File) × HasFile files class file
  has-file class has =
      let of = from_map class_of (numbered (units files)) has.class has.stands in
      let number : of.0.0 ≡ class = ap (λ (c : _). c.key) of.2 ∙ has.is in
      let file = get-unit files of.0.0 of.0.1 (from_numbered (units files) of.0 of.1) in
      (file.0, ap (slice_get files) (sym number) ∙ file.1)

  -- ---- fields

  record IsFieldAt (field : ViewField ℕ MemberKey) : Type 0 where
    at : StandsAt files field.key
    field_of : Field
    is : at.member ≡ member.Field field_of

  made-field : (classes : Classes ℕ) (unit : ℕ × Source) (number : ℕ) (m : Member) (field : ViewField ℕ MemberKey)
      → field_in classes unit (number, m) ≡ Some field
      → (f : Field) × (m ≡ member.Field f) × (field.key ≡ record { unit = unit.0; member = number })
  made-field classes unit number (member.Field f) field is = (f, refl, ap (λ (v : ViewField ℕ MemberKey). v.key) (sym (some-same is)))
  made-field classes unit number (member.Method m) field is = absurd cc
  made-field classes unit number (member.Ctor c) field is = absurd cc

  field-at : (field : ViewField ℕ MemberKey) → Contains (files_view files).fields field → IsFieldAt field
  field-at field stands =
      let of_unit = from_each (fields_of (classes_of (units files))) (numbered (units files)) field stands in
      let of_member = from_some (field_in (classes_of (units files)) of_unit.0) (numbered of_unit.0.1.class.members) field of_unit.2 in
      let file = get-unit files of_unit.0.0 of_unit.0.1 (from_numbered (units files) of_unit.0 of_unit.1) in
      let made = made-field (classes_of (units files)) of_unit.0 of_member.0.0 of_member.0.1 field of_member.2 in
      let unit-is : field.key.unit ≡ of_unit.0.0 = ap (λ (k : MemberKey). k.unit) made.2 in
      let member-is : field.key.member ≡ of_member.0.0 = ap (λ (k : MemberKey). k.member) made.2 in
      record {
        at = record {
          file = file.0;
          in_files = ap (slice_get files) unit-is ∙ file.1;
          member = of_member.0.1;
          in_class = ap (slice_get file.0.unit.class.members) member-is
              ∙ ap (λ (unit : Source). slice_get unit.class.members of_member.0.0) file.2
              ∙ from_numbered of_unit.0.1.class.members of_member.0 of_member.1;
        };
        field_of = made.0;
        is = made.1;
      }

  -- a field is no declaration
  pub no-declaration : (key : MemberKey) (at : StandsAt files key) (f : Field) → at.member ≡ member.Field f
      → declaration_at (files_view files) key ≡ None
  no-declaration key at f is = made-found files key at
      ∙ ap (λ m. declaration_in (classes_of (units files)) (key.unit, at.file.unit) (key.member, m)) is

  field-known : (field : ViewField ℕ MemberKey) → Contains (files_view files).fields field
      → get program.known (id_at files (numbered_member field.key)) ≡ Some knowns.Field
  field-known field stands =
      let found = field-at field stands in
      known-item (numbered_member field.key) (member-in_order files field.key found.at) knowns.Field
      (ap (option_map (λ (at : PlacedMember). member_known files at.declared)) (member-found files field.key found.at)
      ∙ ap (λ (o : Option Declaration). Some (member_known files o)) (no-declaration field.key found.at found.field_of found.is))

  -- ---- methods

  pub top-itself : (declared : Declaration) → Contains (files_view files).declarations declared
      → topmost (files_view files) (topmost (files_view files) declared) ≡ topmost (files_view files) declared
  top-itself declared stands = by declared.kind refl where
    of-method : declared.kind ≢ constructor
        → topmost (files_view files) (topmost (files_view files) declared) ≡ topmost (files_view files) declared
    of-method differs = topmost-itself (files_view files) (files-ordered files) (no_circle files no_fault) declared stands differs

    by : (kind : DeclarationKind) → declared.kind ≡ kind
        → topmost (files_view files) (topmost (files_view files) declared) ≡ topmost (files_view files) declared
    by constructor is = ap (topmost (files_view files)) ((topmost-is files no_fault declared stands).single
        (λ no. absurd (let both : constructor ≡ instance_method = sym is ∙ no in cc)))
    by instance_method is = of-method (λ no. absurd (let both : instance_method ≡ constructor = sym is ∙ no in cc))
    by static_method is = of-method (λ no. absurd (let both : static_method ≡ constructor = sym is ∙ no in cc))

  -- the method of a declaration has the kind of that
  pub method-known : (declared : Declaration) → Contains (files_view files).declarations declared
      → get program.known ((ids_of files).method_id declared) ≡ Some (knowns.Method (kind_of declared.kind))
  method-known declared stands =
      let top = topmost (files_view files) declared in
      let is = topmost-is files no_fault declared stands in
      known-item (numbered_method top.key) (method-in_order files top is.stands (top-itself declared stands))
      (knowns.Method (kind_of declared.kind))
      (ap (option_map (λ (d : Declaration). knowns.Method (kind_of d.kind))) (stands-found files top is.stands)
      ∙ ap (λ k. Some (knowns.Method k)) is.kind)

  called : (owner : Id) (kind : DeclarationKind) → kind ≢ constructor → fills owner a_called_method
      (Some (knowns.Method (kind_of kind))) ≡ true
  called owner instance_method differs = refl
  called owner static_method differs = refl
  called owner constructor differs = absurd (differs refl)

  -- ---- readers

  module _ (trees : All IsTree files) (owner : Id) where
    pub tree-of : (number : ℕ) (file : File) → HasFile files number file → IsTree file
    tree-of number file is = All-contains IsTree files file trees (in_place files number file is)

    pub file-right : (number : ℕ) (file : File) → HasFile files number file
        → ReadsRightly (fits program.known owner) (file_reader files (number, file))
    file-right number file is = record {
      ordered = files-ordered files;
      own = units_viewed.own_classes (units files) (number, file.unit)
          (in_numbered (units files) number file.unit (unit-get files number file is));
      imports = λ import stands. passes-each is_dotted file.unit.imports (tree-of number file is).printable.imports import stands;
      classes = λ class has. let of = has-file class has in ap (λ k. fills owner a_class k) (class-known class of.0 of.1);
      fields = λ field stands. ap (λ k. fills owner a_field k) (field-known field stands);
      methods = λ declared stands differs. ap (λ k. fills owner a_called_method k) (method-known declared stands)
          ∙ called owner declared.kind differs;
      static_methods = λ declared stands static. ap (λ k. fills owner a_static_method k) (method-known declared stands)
          ∙ ap (λ kind. fills owner a_static_method (Some (knowns.Method (kind_of kind)))) static;
      constructors = λ declared stands of. ap (λ k. fills owner a_constructor k) (method-known declared stands)
          ∙ ap (λ kind. fills owner a_constructor (Some (knowns.Method (kind_of kind)))) of;
      params = λ id. refl;
    }

    pub member-right : (at : PlacedMember) → HasFile files at.number at.file
        → ReadsRightly (fits program.known owner) (member_reader files at)
    member-right at is = let r = file-right at.number at.file is in record {
      ordered = r.ordered;
      own = r.own;
      imports = r.imports;
      classes = r.classes;
      fields = r.fields;
      methods = r.methods;
      static_methods = r.static_methods;
      constructors = r.constructors;
      params = r.params;
    }
