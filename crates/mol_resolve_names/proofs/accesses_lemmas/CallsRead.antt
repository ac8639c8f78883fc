-- What calls come to, by what was found.
use Rattle.std.proofs.Common.{◌≡◌, ℕ, Bool, true, false, List, Option, Some, None, option_map, refl, sym, ◌∙◌, ap, subst, if◌then◌else◌}
use Rattle.jav_names.specs.seen.Kept.{view_type}
use Rattle.jav_names.specs.DottedNames.{Name}
use Rattle.jav_names.specs.LookUps.{method_from, method_on, method_through, super_method}
use Rattle.jav_names.specs.OnValues.{OnValue as Reading, is_static_kind, member}
use Rattle.jav_names.specs.StaticTypes.{of_type}
use Rattle.jav_names.specs.UnitViews.{MemberKey}
use Rattle.jav_names.specs.Views.{Found as Result, View, ViewDeclaration}
use Rattle.jav_scope.specs.Entries.{view_in}
use Rattle.jav_scope.specs.declared.found.Found.TheVariants as answer
use Rattle.jav_scope.specs.declared.source.SourceUnit.{SourceUnit}
use Rattle.mol_resolve_names.specs.accesses.Over.{IsOver}
use Rattle.mol_resolve_names.proofs.accesses_lemmas.OnlyFound.{only-found, only-member, only-missing, only-no_members, only-none, only-nowhere, only-outside, only-outside_member, only-some, only-static, only-unread}
use Rattle.mol_resolve_names.proofs.accesses_lemmas.Outcomes.{made-of, reads-given, reads-refused, reads-silent}
use Rattle.mol_resolve_members.specs.found.Found.{Answers, IsMethod}
use Rattle.mol_resolve_members.specs.found.OnValues.{AnswersOn, Chosen}
use Rattle.mol_resolve_members.specs.declared.found.found_member.FoundMethod.{FoundMethod}
use Rattle.mol_resolve_members.specs.declared.found.on_value.OnValue.TheVariants as on
use Rattle.mol_resolve_readings.specs.meant.Made as made
use Rattle.mol_resolve_faults.specs.First.{noted}
use Rattle.mol_resolve_readings.specs.reads.Reads.{Reads}
use Rattle.mol_resolve_rules.specs.FaultKinds.{receiver_type, static_by_instance, unknown_member}
use Rattle.mol_resolve_rules.specs.Outcomes.{Outcome, TreeFault, fine, given, refused}
use Rattle.mol_resolve_rules.specs.Readers.{Reader}
use Rattle.mol_resolve_rules.specs.ReadTrees.{Meant, arguments_of, call_here, call_on, call_through, own_call, static_call, super_call}
use Rattle.mol_values_types.specs.declared.iexpr.Argument.{Argument}
use Rattle.mol_values_types.specs.declared.iexpr.IExpr.{IExpr}
use Rattle.mol_values_types.specs.declared.iexpr.IExpr.TheVariants as exprs

abbrev Declaration : Type 0
Declaration = ViewDeclaration ℕ MemberKey

module _ (sources : List SourceUnit) (at : ℕ) (values : Option (List IExpr)) (reader : Reader ℕ MemberKey)
    (over : IsOver sources reader) where
  -- They are the arguments of a call of the method of a declaration.
  abbrev pub AreArguments : FoundMethod → Option (List Argument) → Type 0
  AreArguments kept args = (reader : Reader ℕ MemberKey) (declared : Declaration) → IsOver sources reader
      → IsMethod sources declared kept → args ≡ option_map (arguments_of reader declared) values

  -- a method of `this` or a static one
  abbrev of_class : Declaration → List IExpr → Outcome (Meant ℕ)
  of_class declared values =
      if is_static_kind declared.kind then static_call reader declared values else own_call reader declared values

  abbrev own_made : Declaration → List IExpr → Outcome (Meant ℕ)
  own_made declared values = fine (made.own_call (is_static_kind declared.kind) (reader.ids.method_id declared) declared.result
      (arguments_of reader declared values))

  own-is : (declared : Declaration) → of_class declared ≡ own_made declared
  own-is declared = λ i values. by (is_static_kind declared.kind) values i where
    by : (b : Bool) (values : List IExpr) → (if b then static_call reader declared values else own_call reader declared values)
        ≡ fine (made.own_call b (reader.ids.method_id declared) declared.result (arguments_of reader declared values))
    by true values = refl
    by false values = refl

  -- ---- without anything before it

  module _ (class : ℕ) (name : Name) (arity number : ℕ) (counted : number ≡ arity) where
    abbrev here : Result Declaration
    here = method_from (view_in sources) class name number

    abbrev Here : Option (Meant ℕ) → Option TreeFault → Option TreeFault → Type 0
    Here value before after = Reads (call_here reader at name values (method_from reader.view class name arity)) value before after

    in-class : (answer : Result Declaration) → here ≡ answer → (value : Option (Meant ℕ)) (before after : Option TreeFault)
        → Reads (call_here reader at name values answer) value before after → Here value before after
    in-class answer is value before after reads = subst (λ (v : View ℕ MemberKey).
        Reads (call_here reader at name values (method_from v class name arity)) value before after) (sym over.view)
        (subst (λ n. Reads (call_here reader at name values (method_from (view_in sources) class name n)) value before after) counted
        (subst (λ answer. Reads (call_here reader at name values answer) value before after) (sym is) reads))

    pub here-read : (kept : FoundMethod) (args : Option (List Argument)) (value : Option (Meant ℕ)) (first : Option TreeFault)
        → Answers (IsMethod sources) (answer.Found kept) here → AreArguments kept args
        → value ≡ option_map (made.own_call kept.is_static kept.id (view_type kept.result.now)) args → Here value first first
    here-read kept args value first answers are is =
        let only = only-found (IsMethod sources) kept here answers in
        in-class _ only.1 value first first
        (subst (λ make. Reads (given values make) value first first) (sym (own-is only.0))
        (reads-given values _ value first
        (is ∙ made-of sources reader over only.0 kept only.2 made.own_call values args (are reader only.0 over only.2))))

    pub here-outside : (value : Option (Meant ℕ)) (first : Option TreeFault) → Answers (IsMethod sources) answer.Outside here
        → value ≡ option_map (made.outside_own_call name) values → Here value first first
    here-outside value first answers is = in-class _ (only-outside (IsMethod sources) here answers) value first first
        (reads-given values (made.outside_own_call name) value first is)

    pub here-refused : (before after : Option TreeFault) → Answers (IsMethod sources) answer.NotFound here
        → after ≡ noted before (record { kind = unknown_member; at = at }) → Here None before after
    here-refused before after answers is = in-class _ (only-nowhere (IsMethod sources) here answers) None before after
        (reads-refused unknown_member at before after is)

  -- ---- through the name of a class

  module _ (class : ℕ) (name : Name) (arity number : ℕ) (counted : number ≡ arity) where
    abbrev chosen : Option Declaration
    chosen = method_through (view_in sources) class name number

    abbrev Through : Option (Meant ℕ) → Option TreeFault → Option TreeFault → Type 0
    Through value before after = Reads (call_through reader at values (method_through reader.view class name arity)) value before after

    by-class : (answer : Option Declaration) → chosen ≡ answer → (value : Option (Meant ℕ)) (before after : Option TreeFault)
        → Reads (call_through reader at values answer) value before after → Through value before after
    by-class answer is value before after reads = subst (λ (v : View ℕ MemberKey).
        Reads (call_through reader at values (method_through v class name arity)) value before after) (sym over.view)
        (subst (λ n. Reads (call_through reader at values (method_through (view_in sources) class name n)) value before after) counted
        (subst (λ answer. Reads (call_through reader at values answer) value before after) (sym is) reads))

    pub through-read : (kept : FoundMethod) (args : Option (List Argument)) (value : Option (Meant ℕ)) (first : Option TreeFault)
        → Chosen (IsMethod sources) (Some kept) chosen → AreArguments kept args
        → value ≡ option_map (made.own_call true kept.id (view_type kept.result.now)) args → Through value first first
    through-read kept args value first answers are is =
        let only = only-some (IsMethod sources) kept chosen answers in
        by-class _ only.1 value first first
        (reads-given values _ value first
        (is ∙ made-of sources reader over only.0 kept only.2 (λ is_static. made.own_call true) values args (are reader only.0 over only.2)))

    pub through-refused : (before after : Option TreeFault) → Chosen (IsMethod sources) None chosen
        → after ≡ noted before (record { kind = unknown_member; at = at }) → Through None before after
    through-refused before after answers is = by-class _ (only-none (IsMethod sources) chosen answers) None before after
        (reads-refused unknown_member at before after is)

  -- ---- on a value

  module _ (name : Name) (arity number : ℕ) (counted : number ≡ arity) (value : Meant ℕ) where
    abbrev read : Reading Declaration
    read = method_on (view_in sources) name number value.static_type

    abbrev OnValue : Option (Meant ℕ) → Option TreeFault → Option TreeFault → Type 0
    OnValue call before after =
        Reads (call_on reader at name value values (method_on reader.view name arity value.static_type)) call before after

    on-value : (answer : Reading Declaration) → read ≡ answer → (call : Option (Meant ℕ)) (before after : Option TreeFault)
        → Reads (call_on reader at name value values answer) call before after → OnValue call before after
    on-value answer is call before after reads = subst (λ (v : View ℕ MemberKey).
        Reads (call_on reader at name value values (method_on v name arity value.static_type)) call before after) (sym over.view)
        (subst (λ n. Reads (call_on reader at name value values (method_on (view_in sources) name n value.static_type)) call before after)
        counted (subst (λ answer. Reads (call_on reader at name value values answer) call before after) (sym is) reads))

    call-is : (declared : Declaration) → call_on reader at name value values (member declared)
        ≡ given values (λ values. fine (made.call_of (reader.ids.method_id declared) declared.result value
        (arguments_of reader declared values)))
    call-is declared = ap (given values) (λ i values. by value.is_this values i) where
      by : (b : Bool) (values : List IExpr) → (if b then own_call reader declared values
          else fine (made.made (exprs.CallOn (reader.ids.method_id declared) value.tree (arguments_of reader declared values))
          (of_type declared.result)))
          ≡ fine (made.made (if b then exprs.Call (reader.ids.method_id declared) (arguments_of reader declared values)
          else exprs.CallOn (reader.ids.method_id declared) value.tree (arguments_of reader declared values)) (of_type declared.result))
      by true values = refl
      by false values = refl

    pub call-read : (kept : FoundMethod) (args : Option (List Argument)) (call : Option (Meant ℕ)) (first : Option TreeFault)
        → AnswersOn (IsMethod sources) (on.Member kept) read → AreArguments kept args
        → call ≡ option_map (made.call_of kept.id (view_type kept.result.now) value) args → OnValue call first first
    call-read kept args call first answers are is =
        let only = only-member (IsMethod sources) kept read answers in
        on-value _ only.1 call first first
        (subst (λ outcome. Reads outcome call first first) (sym (call-is only.0))
        (reads-given values _ call first (is ∙ made-of sources reader over only.0 kept only.2
        (λ is_static method result args. made.call_of method result value args) values args (are reader only.0 over only.2))))

    pub call-outside : (call : Option (Meant ℕ)) (first : Option TreeFault) → AnswersOn (IsMethod sources) on.Outside read
        → call ≡ option_map (made.outside_call_of name value) values → OnValue call first first
    call-outside call first answers is = on-value _ (only-outside_member (IsMethod sources) read answers) call first first
        (reads-given values (made.outside_call_of name value) call first is)

    module _ (before after : Option TreeFault) where
      pub call-static : AnswersOn (IsMethod sources) on.Static read → after ≡ noted before (record { kind = static_by_instance; at = at })
          → OnValue None before after
      call-static answers is = on-value _ (only-static (IsMethod sources) read answers).1 None before after
          (reads-refused static_by_instance at before after is)

      pub call-missing : AnswersOn (IsMethod sources) on.Missing read → after ≡ noted before (record { kind = unknown_member; at = at })
          → OnValue None before after
      call-missing answers is = on-value _ (only-missing (IsMethod sources) read answers) None before after
          (reads-refused unknown_member at before after is)

      pub call-none : AnswersOn (IsMethod sources) on.NoMembers read → after ≡ noted before (record { kind = receiver_type; at = at })
          → OnValue None before after
      call-none answers is = on-value _ (only-no_members (IsMethod sources) read answers) None before after
          (reads-refused receiver_type at before after is)

    pub call-unread : (first : Option TreeFault) → AnswersOn (IsMethod sources) on.Unread read → OnValue None first first
    call-unread first answers = on-value _ (only-unread (IsMethod sources) read answers) None first first (reads-silent first)

  -- ---- after `super.`

  module _ (class : ℕ) (name : Name) (arity number : ℕ) (counted : number ≡ arity) where
    abbrev above : Result Declaration
    above = super_method (view_in sources) class name number

    abbrev Above : Option (Meant ℕ) → Option TreeFault → Option TreeFault → Type 0
    Above value before after = Reads (super_call reader at name values (super_method reader.view class name arity)) value before after

    from-above : (answer : Result Declaration) → above ≡ answer → (value : Option (Meant ℕ)) (before after : Option TreeFault)
        → Reads (super_call reader at name values answer) value before after → Above value before after
    from-above answer is value before after reads = subst (λ (v : View ℕ MemberKey).
        Reads (super_call reader at name values (super_method v class name arity)) value before after) (sym over.view)
        (subst (λ n. Reads (super_call reader at name values (super_method (view_in sources) class name n)) value before after) counted
        (subst (λ answer. Reads (super_call reader at name values answer) value before after) (sym is) reads))

    pub super-read : (kept : FoundMethod) (args : Option (List Argument)) (value : Option (Meant ℕ)) (first : Option TreeFault)
        → Answers (IsMethod sources) (answer.Found kept) above → kept.is_static ≡ false → AreArguments kept args
        → value ≡ option_map (made.super_call kept.id (view_type kept.result.now)) args → Above value first first
    super-read kept args value first answers no_static are is =
        let only = only-found (IsMethod sources) kept above answers in
        let of_instance : is_static_kind only.0.kind ≡ false = sym only.2.static ∙ no_static in
        from-above _ only.1 value first first
        (subst (λ b. Reads (if b then refused static_by_instance at else given values (λ values. fine (made.super_call
        (reader.ids.method_id only.0) only.0.result (arguments_of reader only.0 values)))) value first first) (sym of_instance)
        (reads-given values _ value first (is ∙ made-of sources reader over only.0 kept only.2
        (λ is_static. made.super_call) values args (are reader only.0 over only.2))))

    pub super-static : (kept : FoundMethod) (before after : Option TreeFault) → Answers (IsMethod sources) (answer.Found kept) above
        → kept.is_static ≡ true → after ≡ noted before (record { kind = static_by_instance; at = at }) → Above None before after
    super-static kept before after answers static is =
        let only = only-found (IsMethod sources) kept above answers in
        let of_class : is_static_kind only.0.kind ≡ true = sym only.2.static ∙ static in
        from-above _ only.1 None before after
        (subst (λ b. Reads (if b then refused static_by_instance at else given values (λ values. fine (made.super_call
        (reader.ids.method_id only.0) only.0.result (arguments_of reader only.0 values)))) None before after) (sym of_class)
        (reads-refused static_by_instance at before after is))

    pub super-outside : (value : Option (Meant ℕ)) (first : Option TreeFault) → Answers (IsMethod sources) answer.Outside above
        → value ≡ option_map (made.outside_super_call name) values → Above value first first
    super-outside value first answers is = from-above _ (only-outside (IsMethod sources) above answers) value first first
        (reads-given values (made.outside_super_call name) value first is)

    pub super-refused : (before after : Option TreeFault) → Answers (IsMethod sources) answer.NotFound above
        → after ≡ noted before (record { kind = unknown_member; at = at }) → Above None before after
    super-refused before after answers is = from-above _ (only-nowhere (IsMethod sources) above answers) None before after
        (reads-refused unknown_member at before after is)
