-- What creations of objects and `super(..)` come to, by what was found.
use Rattle.std.proofs.Common.{◌≡◌, ℕ, List, Option, Some, None, option_map, refl, sym, ◌∙◌, ap, subst}
use Rattle.mol_base.specs.declared.ident.Id.{Id}
use Rattle.jav_names.specs.LookUps.{constructor_from, super_constructor}
use Rattle.jav_names.specs.Members.{Constructor, declared_constructor, default_constructor}
use Rattle.jav_names.specs.UnitViews.{MemberKey}
use Rattle.jav_names.specs.Views.{Found as Result, View, ViewDeclaration, found, not_found, outside}
use Rattle.jav_scope.specs.Entries.{view_in}
use Rattle.jav_scope.specs.declared.found.Found.TheVariants as answer
use Rattle.jav_scope.specs.declared.source.SourceUnit.{SourceUnit}
use Rattle.mol_resolve_names.specs.accesses.Over.{IsOver}
use Rattle.mol_resolve_names.proofs.accesses_lemmas.CallsRead.{AreArguments}
use Rattle.mol_resolve_names.proofs.accesses_lemmas.Outcomes.{made-of, reads-fine, reads-given, reads-refused, reads-silent}
use Rattle.mol_resolve_members.specs.found.Found.{Answers, IsConstructor, IsMethod}
use Rattle.mol_resolve_members.specs.declared.found.found_member.FoundConstructor.TheVariants as constructor
use Rattle.mol_resolve_members.specs.declared.found.found_member.FoundMethod.{FoundMethod}
use Rattle.mol_resolve_names.proofs.accesses_lemmas.OnlyFound.{only-nowhere, only-outside}
use Rattle.mol_resolve_readings.specs.meant.Made as made
use Rattle.mol_resolve_faults.specs.First.{noted}
use Rattle.mol_resolve_readings.specs.reads.Reads.{Reads}
use Rattle.mol_resolve_members.specs.sources.Sources.{files_of}
use Rattle.mol_resolve_rules.specs.FaultKinds.{unknown_member}
use Rattle.mol_resolve_rules.specs.Numbering.{ids_of}
use Rattle.mol_resolve_rules.specs.Outcomes.{TreeFault}
use Rattle.mol_resolve_rules.specs.Readers.{Ids, Reader}
use Rattle.mol_resolve_rules.specs.ReadStatements.{super_read}
use Rattle.mol_resolve_rules.specs.ReadTrees.{Meant, class_created}
use Rattle.mol_values_types.specs.declared.iblock.IStmtNode.{IStmtNode}
use Rattle.mol_values_types.specs.declared.iblock.IStmtNode.TheVariants as nodes
use Rattle.mol_values_types.specs.declared.iexpr.Argument.{Argument}
use Rattle.mol_values_types.specs.declared.iexpr.IExpr.{IExpr}

abbrev Read : Type 0
Read = Result (Constructor ℕ MemberKey)

module _ (sources : List SourceUnit) where
  -- ---- which constructor

  pub only-declared : (kept : FoundMethod) (read : Read)
      → Answers (IsConstructor sources) (answer.Found (constructor.Declared kept)) read
      → (declared : ViewDeclaration ℕ MemberKey) × (read ≡ found (declared_constructor declared)) × IsMethod sources declared kept
  only-declared kept (found (declared_constructor declared)) holds = (declared, refl, holds)
  only-declared kept (found (default_constructor class)) holds = absurd holds
  only-declared kept outside holds = absurd holds
  only-declared kept not_found holds = absurd holds

  only-default : (id : Id) (read : Read) → Answers (IsConstructor sources) (answer.Found (constructor.Default id)) read
      → (class : ℕ) × (read ≡ found (default_constructor class)) × (id ≡ (ids_of (files_of sources)).class_id class)
  only-default id (found (declared_constructor declared)) holds = absurd holds
  only-default id (found (default_constructor class)) holds = (class, refl, holds)
  only-default id outside holds = absurd holds
  only-default id not_found holds = absurd holds

  module _ (at : ℕ) (values : Option (List IExpr)) (reader : Reader ℕ MemberKey) (over : IsOver sources reader) where
    class-id : (id : Id) (class : ℕ) → id ≡ (ids_of (files_of sources)).class_id class → id ≡ reader.ids.class_id class
    class-id id class is = is ∙ ap (λ (ids : Ids ℕ MemberKey). ids.class_id class) (sym over.ids)

    -- ---- a creation

    module _ (class arity number : ℕ) (counted : number ≡ arity) where
      abbrev read : Read
      read = constructor_from (view_in sources) class number

      abbrev Created : Option (Meant ℕ) → Option TreeFault → Option TreeFault → Type 0
      Created value before after =
          Reads (class_created reader at class values (constructor_from reader.view class arity)) value before after

      of-class : (answer : Read) → read ≡ answer → (value : Option (Meant ℕ)) (before after : Option TreeFault)
          → Reads (class_created reader at class values answer) value before after → Created value before after
      of-class answer is value before after reads = subst (λ (v : View ℕ MemberKey).
          Reads (class_created reader at class values (constructor_from v class arity)) value before after) (sym over.view)
          (subst (λ n. Reads (class_created reader at class values (constructor_from (view_in sources) class n)) value before after) counted
          (subst (λ answer. Reads (class_created reader at class values answer) value before after) (sym is) reads))

      pub created-read : (kept : FoundMethod) (args : Option (List Argument)) (value : Option (Meant ℕ)) (first : Option TreeFault)
          → Answers (IsConstructor sources) (answer.Found (constructor.Declared kept)) read
          → AreArguments sources at values reader over kept args
          → value ≡ option_map (made.creation class kept.id) args → Created value first first
      created-read kept args value first answers are is =
          let only = only-declared kept read answers in
          of-class _ only.1 value first first
          (reads-given values _ value first (is ∙ made-of sources reader over only.0 kept only.2
          (λ is_static method result args. made.creation class method args) values args (are reader only.0 over only.2)))

      pub created-default : (id : Id) (value : Meant ℕ) (first : Option TreeFault)
          → Answers (IsConstructor sources) (answer.Found (constructor.Default id)) read
          → value ≡ made.default_creation class id → Created (Some value) first first
      created-default id value first answers is =
          let only = only-default id read answers in
          of-class _ only.1 (Some value) first first
          (reads-fine (made.default_creation class (reader.ids.class_id only.0)) value first
          (is ∙ ap (made.default_creation class) (class-id id only.0 only.2)))

      pub created-outside : (first : Option TreeFault) → Answers (IsConstructor sources) answer.Outside read → Created None first first
      created-outside first answers =
          of-class _ (only-outside (IsConstructor sources) read answers) None first first (reads-silent first)

      pub created-refused : (before after : Option TreeFault) → Answers (IsConstructor sources) answer.NotFound read
          → after ≡ noted before (record { kind = unknown_member; at = at }) → Created None before after
      created-refused before after answers is = of-class _ (only-nowhere (IsConstructor sources) read answers) None before after
          (reads-refused unknown_member at before after is)

    -- ---- `super(..)`

    module _ (class arity number : ℕ) (counted : number ≡ arity) where
      abbrev above : Read
      above = super_constructor (view_in sources) class number

      abbrev Above : Option IStmtNode → Option TreeFault → Option TreeFault → Type 0
      Above node before after = Reads (super_read reader at values (super_constructor reader.view class arity)) node before after

      from-above : (answer : Read) → above ≡ answer → (node : Option IStmtNode) (before after : Option TreeFault)
          → Reads (super_read reader at values answer) node before after → Above node before after
      from-above answer is node before after reads = subst (λ (v : View ℕ MemberKey).
          Reads (super_read reader at values (super_constructor v class arity)) node before after) (sym over.view)
          (subst (λ n. Reads (super_read reader at values (super_constructor (view_in sources) class n)) node before after) counted
          (subst (λ answer. Reads (super_read reader at values answer) node before after) (sym is) reads))

      pub super-read : (kept : FoundMethod) (args : Option (List Argument)) (node : Option IStmtNode) (first : Option TreeFault)
          → Answers (IsConstructor sources) (answer.Found (constructor.Declared kept)) above
          → AreArguments sources at values reader over kept args
          → node ≡ option_map (nodes.Super kept.id) args → Above node first first
      super-read kept args node first answers are is =
          let only = only-declared kept above answers in
          from-above _ only.1 node first first
          (reads-given values _ node first (is ∙ made-of sources reader over only.0 kept only.2
          (λ is_static method result args. nodes.Super method args) values args (are reader only.0 over only.2)))

      pub super-default : (id : Id) (first : Option TreeFault)
          → Answers (IsConstructor sources) (answer.Found (constructor.Default id)) above
          → Above (Some (nodes.SuperDefault id)) first first
      super-default id first answers =
          let only = only-default id above answers in
          from-above _ only.1 (Some (nodes.SuperDefault id)) first first
          (reads-fine (nodes.SuperDefault (reader.ids.class_id only.0)) (nodes.SuperDefault id) first
          (ap nodes.SuperDefault (class-id id only.0 only.2)))

      pub super-outside : (node : Option IStmtNode) (first : Option TreeFault) → Answers (IsConstructor sources) answer.Outside above
          → node ≡ option_map nodes.SuperOutside values → Above node first first
      super-outside node first answers is = from-above _ (only-outside (IsConstructor sources) above answers) node first first
          (reads-given values nodes.SuperOutside node first is)

      pub super-refused : (before after : Option TreeFault) → Answers (IsConstructor sources) answer.NotFound above
          → after ≡ noted before (record { kind = unknown_member; at = at }) → Above None before after
      super-refused before after answers is = from-above _ (only-nowhere (IsConstructor sources) above answers) None before after
          (reads-refused unknown_member at before after is)
