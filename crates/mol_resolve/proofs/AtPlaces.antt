-- Members at their places, with the rules and the identities there.
use Rattle.std.proofs.Common.{◌≡◌, ℕ, ◌+◌, ◌<◌, ◌≤◌, List, [], ◌∷◌, ◌++◌, map, flat_map, filter_map, length, take, get_or, Option, Some, option_map, slice_get, append-nil, refl, sym, ◌∙◌, ap, subst, arith}
use Rattle.std.specs.Option.{option_and_then, option_to_list}
use Rattle.std.proofs.lemmas.List.{take_all}
use Rattle.std.proofs.lemmas.List.Concat.{flat_map-append}
use Rattle.std.proofs.lemmas.List.FromFn.{map-range_with_len_more}
use Rattle.std.proofs.lemmas.Option.{slice_get_read, slice_get_within}
use Rattle.jav_scope.proofs.Numbered.{numbered-more}
use Rattle.jav_scope.specs.Entries.{classes_in, view_in}
use Rattle.jav_scope.specs.declared.found.MemberRef.{MemberRef}
use Rattle.jav_scope.specs.declared.source.SourceUnit.{SourceUnit}
use Rattle.jav_tree.specs.declared.unit.Ctor.{Ctor}
use Rattle.jav_tree.specs.declared.unit.Member.{Member}
use Rattle.jav_tree.specs.declared.unit.Member.TheVariants as member
use Rattle.jav_tree.specs.declared.unit.Method.{Method}
use Rattle.jav_names.specs.UnitViews.{MemberKey, declaration_in, numbered}
use Rattle.jav_names.specs.Views.{ViewDeclaration, View}
use Rattle.mol_resolve_entities.specs.file_entities.EntitiesRead.{AreEntitiesAt, AreMethodIds, IsMemberAt, IsMemberRead, reader_at}
use Rattle.mol_resolve_entities.specs.declared.member_entities.member_entities.MemberEntities.{MemberEntities}
use Rattle.mol_resolve_entities.specs.declared.member_entities.member_ids.MethodIds.{MethodIds}
use Rattle.mol_resolve_faults.proofs.SameFaults.{kept_alike}
use Rattle.mol_resolve_faults.specs.First.{all_noted}
use Rattle.mol_resolve_members.proofs.numbers_lemmas.MemberKeys.{made-there}
use Rattle.mol_resolve_members.specs.numbers.Members.{HasArity, IsMember}
use Rattle.mol_resolve_members.specs.places.Listings.{HasMember, key_of}
use Rattle.mol_resolve_laws.specs.Entities.{entity_of}
use Rattle.mol_resolve_readings.specs.reads.Reads.{Reads}
use Rattle.mol_resolve.proofs.FilesAdded.{keys-added, none-added}
use Rattle.mol_resolve.specs.Added.{AreAdded}
use Rattle.mol_resolve.specs.ReadAtPlaces.{IsMemberAdded, IsReadAt, ReadsAt}
use Rattle.mol_resolve.specs.declared.entities.Entities.{Entities}
use Rattle.mol_resolve_members.proofs.sources_lemmas.Sourced.{file-there, source-there, sources_viewed}
use Rattle.mol_resolve_members.specs.sources.Sources.{file_of, files_of}
use Rattle.mol_resolve_rules.specs.Files.{File, Files, declaration_at, files_view, placed}
use Rattle.mol_resolve_rules.specs.Numbering.{below, ids_of, member_keys, numbered_at_key, same_key, topmost}
use Rattle.mol_resolve_rules.specs.Outcomes.{TreeFault, Outcome}
use Rattle.mol_resolve_rules.specs.ReadFiles.{member_faults, member_reader}
use Rattle.mol_resolve_rules.specs.Readers.{Reader}

module _ (sources : List SourceUnit) where
  abbrev files : Files
  files = files_of sources

  same-view : view_in sources ≡ files_view files
  same-view = sym (sources_viewed.same_view sources)

  -- ---- a member

  pub has-member : (at : MemberRef) (member : Member) → IsMember sources (key_of at) member → HasMember sources at
  has-member at member is = record {
    source = is.source;
    stands = is.stands;
    within = slice_get_within is.source.unit.class.members at.member member is.is;
  }

  module _ (key : MemberKey) (member : Member) (is : IsMember sources key member) where
    pub stands-at : IsMemberAt files key (file_of is.source) member
    stands-at = record { in_files = file-there sources key.unit is.source is.stands; in_class = is.is }

    -- what is read with the names of its place
    pub read-at : (reader : Reader ℕ MemberKey) → ReadsAt sources key member reader
        → (outcome : Reader ℕ MemberKey → Outcome MemberEntities)
        → ((file : File) → IsMemberAt files key file member
        → IsMemberRead files key file member (outcome (reader_at files key file member)))
        → (made : Option MemberEntities) (before after : Option TreeFault) → Reads (outcome reader) made before after
        → IsReadAt files key member made before after
    read-at reader reads outcome known made before after read = record {
      noted = λ file at. read.faults_noted
          ∙ ap (all_noted before) (ap (λ (r : Reader ℕ MemberKey). (outcome r).faults) (reads file at) ∙ (known file at).faults_are);
      entities = λ no_fault.
          let at = stands-at in
          subst (AreEntitiesAt files key)
          (sym (read.value_read ∙ ap (λ (r : Reader ℕ MemberKey). (outcome r).value) (reads (file_of is.source) at)))
          ((known (file_of is.source) at).entities_are no_fault);
    }

    pub read-as : (kept : Member) → member ≡ kept → (reader : Reader ℕ MemberKey) → ReadsAt sources key member reader
        → (outcome : Reader ℕ MemberKey → Outcome MemberEntities)
        → ((file : File) → IsMemberAt files key file kept → IsMemberRead files key file kept (outcome (reader_at files key file kept)))
        → (made : Option MemberEntities) (before after : Option TreeFault) → Reads (outcome reader) made before after
        → IsReadAt files key member made before after
    read-as kept same reader reads outcome known made before after read = read-at reader reads outcome
        (subst (λ m. (file : File) → IsMemberAt files key file m → IsMemberRead files key file m (outcome (reader_at files key file m)))
        (sym same) known) made before after read

  -- names that are read as in the member of a place
  pub reads-at : (key : MemberKey) (member : Member) (reader : Reader ℕ MemberKey)
      → ((source : SourceUnit) (m : Member) → slice_get sources key.unit ≡ Some source
      → slice_get source.unit.class.members key.member ≡ Some m
      → reader ≡ member_reader files (placed files (key.unit, file_of source) (key.member, m)))
      → ReadsAt sources key member reader
  reads-at key member reader known file at =
      let source = source-there sources key.unit file at.in_files in
      known source.0 member source.1 (ap (λ (f : File). slice_get f.unit.class.members key.member) source.2 ∙ at.in_class)
      ∙ ap (λ (f : File). reader_at files key f member) source.2

  -- ---- declarations

  arity-of : (at : MemberRef) (count : ℕ) (declared : ViewDeclaration ℕ MemberKey)
      → declaration_at (view_in sources) (key_of at) ≡ Some declared → declared.arity ≡ count → HasArity sources at count
  arity-of at count declared stands takes = record { declared = declared; stands = stands; takes = takes }

  module _ (at : MemberRef) (kept : Member) (is : IsMember sources (key_of at) kept) where
    pub method-arity : (method : Method) → kept ≡ member.Method method → HasArity sources at (length method.params)
    method-arity method same = arity-of at (length method.params) _ (made-there sources (key_of at) kept is
        ∙ ap (λ m. declaration_in (classes_in sources) (at.unit, is.source.unit) (at.member, m)) same) refl

    pub constructor-arity : (constructor : Ctor) → kept ≡ member.Ctor constructor → HasArity sources at (length constructor.params)
    constructor-arity constructor same = arity-of at (length constructor.params) _ (made-there sources (key_of at) kept is
        ∙ ap (λ m. declaration_in (classes_in sources) (at.unit, is.source.unit) (at.member, m)) same) refl

  -- ---- identities

  pub method-ids : (numbers : List SourceUnit) → numbers ≡ sources → (at : MemberRef) (count : ℕ) (ids : MethodIds)
      → HasArity sources at count
      → ((declared : ViewDeclaration ℕ MemberKey) → declaration_at (view_in numbers) (key_of at) ≡ Some declared
      → ids.id ≡ (ids_of (files_of numbers)).method_id declared)
      → ((declared : ViewDeclaration ℕ MemberKey) → declaration_at (view_in numbers) (key_of at) ≡ Some declared
      → ids.params.items ≡ (ids_of (files_of numbers)).param_ids declared)
      → ((declared : ViewDeclaration ℕ MemberKey) → declaration_at (view_in numbers) (key_of at) ≡ Some declared
      → ids.is_top ≡ same_key (topmost (view_in numbers) declared).key declared.key)
      → AreMethodIds files (key_of at) ids
  method-ids numbers same at count ids arity own params top =
      let declared = arity.declared in
      let there : declaration_at (view_in numbers) (key_of at) ≡ Some declared =
      ap (λ (all : List SourceUnit). declaration_at (view_in all) (key_of at)) same ∙ arity.stands in
      record {
        declared = declared;
        stands = ap (λ (view : View ℕ MemberKey). declaration_at view (key_of at)) (sym same-view) ∙ arity.stands;
        own = own declared there ∙ ap (λ (all : List SourceUnit). (ids_of (files_of all)).method_id declared) same;
        params_are = params declared there ∙ ap (λ (all : List SourceUnit). (ids_of (files_of all)).param_ids declared) same;
        top = top declared there
            ∙ ap (λ (all : List SourceUnit). same_key (topmost (view_in all) declared).key declared.key) same
            ∙ ap (λ (view : View ℕ MemberKey). same_key (topmost view declared).key declared.key) same-view;
      }

-- ---- added

module _ (files : Files) (key : MemberKey) (member : Member) where
  pub member-added : (made : Option MemberEntities) (before after : Entities) (first next : Option TreeFault)
      → IsReadAt files key member made first next → after.classes ≡ before.classes
      → after.members.items ≡ before.members.items ++ option_to_list (option_map (λ (made : MemberEntities). made.member) made)
      → after.methods.items ≡ before.methods.items ++ option_to_list (option_and_then (λ (made : MemberEntities). made.method) made)
      → IsMemberAdded files key member before after first next
  member-added made before after first next read classes members methods = record {
    noted = read.noted;
    added = record {
      classes = ap (λ (classes : _). classes.items) classes;
      members = λ no_fault. members ∙ ap (λ items. before.members.items ++ items) (read.entities no_fault).member_is;
      methods = λ no_fault. methods ∙ ap (λ items. before.methods.items ++ items)
          ((read.entities no_fault).method_is
          ∙ ap (λ keys. filter_map (entity_of files) keys) (sym (append-nil (numbered_at_key (files_view files) key))));
    };
  }

-- ---- several members of a file

module _ (sources : List SourceUnit) (unit : ℕ) (source : SourceUnit) where
  abbrev members : List Member
  members = source.unit.class.members

  abbrev faults_at : ℕ × Member → List TreeFault
  faults_at member = member_faults (files_of sources) (placed (files_of sources) (unit, file_of source) member)

  abbrev key_at : ℕ → MemberKey
  key_at number = record { unit = unit; member = number }

  -- so many of them are read and added
  pub record AreMembersRead (count : ℕ) (before after : Entities) (first next : Option TreeFault) : Type 0 where
    pub noted : next ≡ all_noted first (flat_map faults_at (numbered (take count members)))
    pub added : AreAdded (files_of sources) (map key_at (below count)) before after

  pub none-read : (before : Entities) (first : Option TreeFault) → AreMembersRead 0 before before first first
  none-read before first = record { noted = refl; added = none-added (files_of sources) before }

  module _ (stands : slice_get sources unit ≡ Some source) (place : ℕ) (member : Member) (within : place < length members)
      (is : member ≡ get_or members place member) where
    abbrev pub is_member : IsMember sources (key_at place) member
    is_member = record { source = source; stands = stands; is = slice_get_read members (length members) place member refl within is }

    pub one-read : (before middle after : Entities) (first second third : Option TreeFault)
        → AreMembersRead place before middle first second
        → IsMemberAdded (files_of sources) (key_at place) member middle after second third
        → AreMembersRead (place + 1) before after first third
    one-read before middle after first second third so_far added = record {
      noted =
          added.noted (file_of source) (stands-at sources (key_at place) member is_member)
          ∙ ap (λ noted. all_noted noted (faults_at (place, member))) so_far.noted
          ∙ sym (kept_alike.in_turn first (flat_map faults_at (numbered (take place members))) (faults_at (place, member)))
          ∙ ap (all_noted first) (ap (λ last. flat_map faults_at (numbered (take place members)) ++ last)
          (sym (append-nil (faults_at (place, member))))
          ∙ sym (flat_map-append faults_at (numbered (take place members)) ((place, member) ∷ []))
          ∙ ap (flat_map faults_at) (sym (numbered-more members place member within is)));
      added = subst (λ keys. AreAdded (files_of sources) keys before after)
          (sym (map-range_with_len_more key_at 0 place place (omega arith)))
          (keys-added (files_of sources) (map key_at (below place)) (key_at place ∷ []) before middle after so_far.added added.added);
    }

  module _ (place : ℕ) (past : length members ≤ place) (all : place ≤ length members) (before after : Entities)
      (first next : Option TreeFault) (read : AreMembersRead place before after first next) where
    pub all-noted : next ≡ all_noted first (flat_map faults_at (numbered members))
    all-noted = read.noted ∙ ap (λ taken. all_noted first (flat_map faults_at (numbered taken))) (take_all place members past)

    pub all-added : AreAdded (files_of sources) (member_keys (unit, file_of source)) before after
    all-added = subst (λ (count : ℕ). AreAdded (files_of sources) (map key_at (below count)) before after) (omega (arith, past, all))
        read.added
