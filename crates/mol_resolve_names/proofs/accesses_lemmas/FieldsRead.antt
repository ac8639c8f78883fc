-- What fields come to, by what was found.
use Rattle.std.proofs.Common.{◌≡◌, ℕ, true, List, Option, Some, None, sym, ◌∙◌, subst}
use Rattle.jav_names.specs.seen.Kept.{view_type}
use Rattle.jav_names.specs.DottedNames.{Name}
use Rattle.jav_names.specs.LookUps.{field_on, field_through}
use Rattle.jav_names.specs.OnValues.{OnValue as Reading}
use Rattle.jav_names.specs.UnitViews.{MemberKey}
use Rattle.jav_names.specs.Views.{View, ViewField}
use Rattle.jav_scope.specs.Entries.{view_in}
use Rattle.jav_scope.specs.declared.source.SourceUnit.{SourceUnit}
use Rattle.mol_resolve_names.specs.accesses.Over.{IsOver}
use Rattle.mol_resolve_names.proofs.accesses_lemmas.Outcomes.{field-id, reads-fine, reads-refused, reads-silent}
use Rattle.mol_resolve_members.specs.found.Found.{IsField}
use Rattle.mol_resolve_members.specs.found.OnValues.{AnswersOn, Chosen}
use Rattle.mol_resolve_members.specs.declared.found.found_member.FoundField.{FoundField}
use Rattle.mol_resolve_members.specs.declared.found.on_value.OnValue.TheVariants as on
use Rattle.mol_resolve_names.proofs.accesses_lemmas.OnlyFound.{only-member, only-missing, only-no_members, only-none, only-outside_member, only-some, only-static, only-unread}
use Rattle.mol_resolve_readings.specs.meant.Made as made
use Rattle.mol_resolve_faults.specs.First.{noted}
use Rattle.mol_resolve_readings.specs.reads.Reads.{Reads}
use Rattle.mol_resolve_rules.specs.FaultKinds.{receiver_type, static_by_instance, unknown_member}
use Rattle.mol_resolve_rules.specs.Outcomes.{TreeFault}
use Rattle.mol_resolve_rules.specs.Readers.{Reader}
use Rattle.mol_resolve_rules.specs.ReadTrees.{Meant, field_meant, static_field_meant}

module _ (sources : List SourceUnit) (at : ℕ) (reader : Reader ℕ MemberKey) (over : IsOver sources reader) where
  -- ---- through the name of a class

  module _ (class : ℕ) (name : Name) where
    abbrev Through : Option (Meant ℕ) → Option TreeFault → Option TreeFault → Type 0
    Through value before after = Reads (static_field_meant reader at (field_through reader.view class name)) value before after

    by-view : (value : Option (Meant ℕ)) (before after : Option TreeFault)
        → Reads (static_field_meant reader at (field_through (view_in sources) class name)) value before after → Through value before after
    by-view value before after reads = subst (λ (v : View ℕ MemberKey).
        Reads (static_field_meant reader at (field_through v class name)) value before after) (sym over.view) reads

    pub static-read : (kept : FoundField) (value : Meant ℕ) (first : Option TreeFault)
        → Chosen (IsField sources) (Some kept) (field_through (view_in sources) class name)
        → value ≡ made.own_field true kept.id (view_type kept.ty.now) → Through (Some value) first first
    static-read kept value first chosen is =
        let some = only-some (IsField sources) kept (field_through (view_in sources) class name) chosen in
        by-view (Some value) first first (subst (λ read. Reads (static_field_meant reader at read) (Some value) first first) (sym some.1)
        (reads-fine (made.own_field true (reader.ids.member_id some.0.key) some.0.type) value first
        (is ∙ (λ i. made.own_field true (field-id sources reader over some.0 kept some.2 i) (some.2.type i)))))

    pub static-refused : (before after : Option TreeFault)
        → Chosen (IsField sources) None (field_through (view_in sources) class name)
        → after ≡ noted before (record { kind = unknown_member; at = at }) → Through None before after
    static-refused before after chosen is =
        by-view None before after (subst (λ read. Reads (static_field_meant reader at read) None before after)
        (sym (only-none (IsField sources) (field_through (view_in sources) class name) chosen))
        (reads-refused unknown_member at before after is))

  -- ---- of a value

  module _ (name : Name) (value : Meant ℕ) where
    abbrev read : Reading (ViewField ℕ MemberKey)
    read = field_on (view_in sources) name value.static_type

    abbrev OfValue : Option (Meant ℕ) → Option TreeFault → Option TreeFault → Type 0
    OfValue field before after =
        Reads (field_meant reader at name value (field_on reader.view name value.static_type)) field before after

    on-value : (answer : Reading (ViewField ℕ MemberKey)) → read ≡ answer → (field : Option (Meant ℕ)) (before after : Option TreeFault)
        → Reads (field_meant reader at name value answer) field before after → OfValue field before after
    on-value answer is field before after reads = subst (λ (v : View ℕ MemberKey).
        Reads (field_meant reader at name value (field_on v name value.static_type)) field before after) (sym over.view)
        (subst (λ answer. Reads (field_meant reader at name value answer) field before after) (sym is) reads)

    pub field-read : (kept : FoundField) (field : Meant ℕ) (first : Option TreeFault) → AnswersOn (IsField sources) (on.Member kept) read
        → field ≡ made.field_of kept.id (view_type kept.ty.now) value → OfValue (Some field) first first
    field-read kept field first answers is =
        let only = only-member (IsField sources) kept read answers in
        on-value _ only.1 (Some field) first first
        (reads-fine (made.field_of (reader.ids.member_id only.0.key) only.0.type value) field first
        (is ∙ (λ i. made.field_of (field-id sources reader over only.0 kept only.2 i) (only.2.type i) value)))

    pub field-outside : (field : Meant ℕ) (first : Option TreeFault) → AnswersOn (IsField sources) on.Outside read
        → field ≡ made.outside_field_of name value → OfValue (Some field) first first
    field-outside field first answers is = on-value _ (only-outside_member (IsField sources) read answers) (Some field) first first
        (reads-fine (made.outside_field_of name value) field first is)

    module _ (before after : Option TreeFault) where
      pub field-static : AnswersOn (IsField sources) on.Static read → after ≡ noted before (record { kind = static_by_instance; at = at })
          → OfValue None before after
      field-static answers is = on-value _ (only-static (IsField sources) read answers).1 None before after
          (reads-refused static_by_instance at before after is)

      pub field-missing : AnswersOn (IsField sources) on.Missing read → after ≡ noted before (record { kind = unknown_member; at = at })
          → OfValue None before after
      field-missing answers is = on-value _ (only-missing (IsField sources) read answers) None before after
          (reads-refused unknown_member at before after is)

      pub field-none : AnswersOn (IsField sources) on.NoMembers read → after ≡ noted before (record { kind = receiver_type; at = at })
          → OfValue None before after
      field-none answers is = on-value _ (only-no_members (IsField sources) read answers) None before after
          (reads-refused receiver_type at before after is)

    pub field-unread : (first : Option TreeFault) → AnswersOn (IsField sources) on.Unread read → OfValue None first first
    field-unread first answers = on-value _ (only-unread (IsField sources) read answers) None first first (reads-silent first)
