-- Members, calls and names of classes read back, however they are written.
use Rattle.std.proofs.Common.{◌≡◌, suc, Bool, true, false, List, [], ◌∷◌, ◌++◌, map, length, Option, Some, None, if◌then◌else◌, refl, sym, ◌∙◌, ap, subst, true≢false}
use Rattle.std.specs.Prelude.{IsTrue, ◌&&◌}
use Rattle.std.specs.List.{list_all}
use Rattle.jav_tree.specs.declared.expr.Expr.{Expr}
use Rattle.jav_names.specs.DottedNames.{Name, Names}
use Rattle.jav_names.specs.OnValues.{StaticType, outside_value}
use Rattle.jav_names.specs.StaticTypes.{outside_call, outside_field}
use Rattle.mol_base.specs.declared.ident.Id.{Id}
use Rattle.mol_spell_rules.specs.references.References.{field_target, method_target, outside_target}
use Rattle.mol_resolve_rules.proofs.ReadEquations.{reads-Call, reads-CallOn}
use Rattle.mol_resolve_rules.specs.Locals.{Locals}
use Rattle.mol_resolve_rules.specs.Outcomes.{Outcome, fine}
use Rattle.mol_resolve_rules.specs.Readers.{Reader}
use Rattle.mol_resolve_rules.specs.ReadTrees.{Mode, before, Reading, with_params, reading}
use Rattle.mol_resolve_rules.specs.Says.{no_more, NamesField, NamesMethod, call_on_this, SaysArguments}
use Rattle.mol_resolve_rules.specs.StaticTypes.{field_value, result_value}
use Rattle.mol_values_types.specs.declared.iexpr.Argument.{Argument}
use Rattle.mol_values_types.specs.declared.iexpr.IExpr.{IExpr}
use Rattle.mol_values_types.specs.declared.iexpr.IExpr.TheOpen.{IExpr-F}
use Rattle.mol_spell_rules.proofs.CallsBack.{ids_of, here-back, outside-here-back, on-back, outside-on-back, this-back, class-back}
use Rattle.mol_spell_rules.proofs.NamesBack.{never-this, value_of, IsBack, name-back, class-alone-back, class-before-back}
use Rattle.mol_spell_rules.proofs.ValuesBack.{IsApart, nameless-apart, name-apart, dot-apart, dot-reads, value-field-back, outside-field-back, this-field-back, class-field-back}
use Rattle.mol_spell_rules.specs.Answers.{answered}
use Rattle.mol_spell_rules.specs.ReadBack.{SeesProgram, KeptArgument, are_kept, AreAnswered}
use Rattle.mol_spell_rules.specs.SpelledExpressions.{SpelledExpr, MemberForm, by_name, on_class, made, name_tree, dot_tree, dots_tree, names_tree, trees, own_form, call_form, name_of, class_names, asks_outside, field_tree, call_tree, field_reference, call_reference, plain, after, each_alone, expr_step}
use Rattle.mol_spell_rules.specs.Writers.{Writer, field_asked, method_asked, call_asked}
use Rattle.jav_tree.specs.declared.expr.ExprNode.TheVariants as node
use Rattle.mol_resolve_rules.specs.Says as say
use Rattle.mol_values_types.specs.declared.iexpr.IExpr.TheVariants as exprs
use Rattle.mol_spell_rules.specs.SpelledExpressions as spell
use Rattle.mol_spell_rules.proofs.PartsBack as carried

module _ (writer : Writer) (sees : SeesProgram writer) (locals : Locals Id) where
  abbrev reader : Reader Id Id
  reader = writer.reader

  abbrev spelled : IExpr → SpelledExpr
  spelled = carried.spelled writer sees locals

  abbrev spelled_argument : Argument → SpelledExpr
  spelled_argument = carried.spelled_argument writer sees locals

  abbrev kept : IExpr → Bool
  kept = carried.kept writer sees locals

  abbrev kept_argument : Argument → KeptArgument
  kept_argument = carried.kept_argument writer sees locals

  abbrev Comes : Expr → Mode → Bool → StaticType Id → IExpr → Type 0
  Comes = carried.Comes writer sees locals

  abbrev BackAs : SpelledExpr → IExpr → Bool → Type 0
  BackAs = carried.BackAs writer sees locals

  abbrev Back : IExpr → Type 0
  Back = carried.Back writer sees locals

  abbrev BackArgument : Argument → Type 0
  BackArgument = carried.BackArgument writer sees locals

  abbrev With : Type 0
  With = carried.With writer sees locals

  abbrev WithArgument : Type 0
  WithArgument = carried.WithArgument writer sees locals

  abbrev exprs_in : List With → List IExpr
  exprs_in = carried.exprs_in writer sees locals

  abbrev arguments_in : List WithArgument → List Argument
  arguments_in = carried.arguments_in writer sees locals

  abbrev trees_of : List SpelledExpr → List Expr
  trees_of = carried.trees_of writer sees locals

  abbrev values : List SpelledExpr → Outcome (List IExpr)
  values = carried.values writer sees locals

  -- ---- members by their form

  pub field-apart : (form : MemberForm) (field : Id) → IsApart writer sees locals (reading reader (field_tree writer locals form field))
  field-apart by_name field = name-apart writer sees locals (name_of writer locals field)
  field-apart spell.on_this field = dot-apart writer sees locals (made node.This) (name_of writer locals field)
  field-apart (on_class class) field =
      dot-apart writer sees locals (names_tree (class_names writer locals class)) (name_of writer locals field)

  pub field-back : (form : MemberForm) (field : Id) (mode : Mode) (e : IExpr) → NamesField field e
      → answered reader (field_reference writer locals form field mode) ≡ Some (field_reference writer locals form field mode).target
      → Comes (field_tree writer locals form field) mode false (field_value writer.program field) e
  field-back by_name field mode e names is =
      name-back writer sees locals (name_of writer locals field) mode (field_target field) e (field_value writer.program field) is
      (names, refl) tt
  field-back spell.on_this field mode e names is =
      this-field-back writer sees locals (name_of writer locals field) mode field e names is
  field-back (on_class class) field mode e names is =
      class-field-back writer sees locals (class_names writer locals class) (name_of writer locals field) mode field e names is

  pub nameless-call : (on : Option Expr) (name : Name) (args : List Expr)
      → IsApart writer sees locals (reading reader (made (node.Call on name args)))
  nameless-call None name args = nameless-apart writer sees locals (reading reader (made (node.Call None name args)))
      (ap (λ (r : Reading Id). r.names) (reads-Call reader 0 name args (map (reading reader) args) refl))
  nameless-call (Some e) name args = nameless-apart writer sees locals (reading reader (made (node.Call (Some e) name args)))
      (ap (λ (r : Reading Id). r.names) (reads-CallOn reader 0 e name args (reading reader e) (map (reading reader) args) refl refl))

  pub call-apart : (form : MemberForm) (method : Id) (parts : List SpelledExpr)
      → IsApart writer sees locals (reading reader (call_tree writer locals form method parts))
  call-apart by_name method parts = nameless-call None (name_of writer locals method) (trees_of parts)
  call-apart spell.on_this method parts = nameless-call (Some (made node.This)) (name_of writer locals method) (trees_of parts)
  call-apart (on_class class) method parts =
      nameless-call (Some (names_tree (class_names writer locals class))) (name_of writer locals method) (trees_of parts)

  -- there are as many trees as parts
  pub as_many : (parts : List SpelledExpr) → length parts ≡ length (map (reading reader) (trees_of parts))
  as_many [] = refl
  as_many (part ∷ parts) = ap (λ n. suc n) (as_many parts)

  pub call-back : (form : MemberForm) (method : Id) (parts : List SpelledExpr) (mode : Mode) (saids : List IExpr) (args : List Argument)
      (e : IExpr) → values parts ≡ fine saids → SaysArguments (with_params (ids_of writer sees locals method) saids) args
      → NamesMethod method args e
      → answered reader (call_reference writer locals form method (length parts))
      ≡ Some (call_reference writer locals form method (length parts)).target
      → Comes (call_tree writer locals form method parts) mode false (result_value writer.program method) e
  call-back by_name method parts mode saids args e valued says names is =
      here-back writer sees locals (name_of writer locals method) (trees_of parts) saids valued mode method args e says names
      (subst (λ n. answered reader (call_reference writer locals by_name method n) ≡ Some (method_target method)) (as_many parts) is)
  call-back spell.on_this method parts mode saids args e valued says names is =
      this-back writer sees locals (name_of writer locals method) (trees_of parts) saids valued mode method args e says names
      (subst (λ n. answered reader (call_reference writer locals spell.on_this method n) ≡ Some (method_target method)) (as_many parts) is)
  call-back (on_class class) method parts mode saids args e valued says names is =
      class-back writer sees locals (name_of writer locals method) (trees_of parts) saids valued mode (class_names writer locals class)
      method args e says names
      (subst (λ n. answered reader (call_reference writer locals (on_class class) method n) ≡ Some (method_target method)) (as_many parts)
      is)

  -- ---- words with parts

  pub field-layer : (field : Id) (part : SpelledExpr) (held : IExpr) (k : Bool) → BackAs part held k
      → BackAs (expr_step writer locals (IExpr-F.Field field part)) (exprs.Field field held) k
  field-layer field part held k back = by part.is_this refl where
    by : (b : Bool) → part.is_this ≡ b
        → (IsTrue k → IsApart writer sees locals (reading reader (if b then field_tree writer locals (own_form writer locals field) field
        else dot_tree part.tree (name_of writer locals field))))
        × (IsTrue false → exprs.Field field held ≡ exprs.This)
        × ((mode : Mode) → IsTrue k → AreAnswered writer (if b
        then field_reference writer locals (own_form writer locals field) field mode ∷ []
        else after writer locals (part.references (before (name_of writer locals field) mode)) (field_target field)
        (field_asked part.static_type (name_of writer locals field)))
        → Comes (if b then field_tree writer locals (own_form writer locals field) field
        else dot_tree part.tree (name_of writer locals field)) mode false (field_value writer.program field) (exprs.Field field held))
    by true is = (
      λ are. field-apart (own_form writer locals field) field,
      never-this,
      λ mode are all. field-back (own_form writer locals field) field mode (exprs.Field field held)
          (subst (λ e. NamesField field (exprs.Field field e)) (sym (back.1 is)) say.on_this) all.0,
    )
    by false is = (
      λ are. dot-apart writer sees locals part.tree (name_of writer locals field),
      never-this,
      λ mode are all.
          let name = name_of writer locals field in
          let parts = carried.answered-split writer sees locals (part.references (before name mode)) _ all in
          let value = back.2 (before name mode) are parts.0 in
          let reads = value.1 ∙ ap (λ b. fine (value_of writer sees locals value.0 b part.static_type)) is in
          subst (λ outcome. IsBack writer sees locals outcome false (field_value writer.program field) (exprs.Field field held))
          (sym (dot-reads writer sees locals part.tree name mode (value_of writer sees locals value.0 false part.static_type) reads
          (back.0 are)))
          (value-field-back writer sees locals name field value.0 held part.static_type value.2 parts.1.0),
    )

  pub outside-field-layer : (name : Name) (part : SpelledExpr) (held : IExpr) (k : Bool) → BackAs part held k
      → BackAs (expr_step writer locals (IExpr-F.OutsideField name part)) (exprs.OutsideField name held) k
  outside-field-layer name part held k back = (
    λ are. dot-apart writer sees locals part.tree name,
    never-this,
    λ mode are all.
        let parts = carried.answered-split writer sees locals (part.references (before name mode)) _ all in
        let value = back.2 (before name mode) are parts.0 in
        subst (λ outcome. IsBack writer sees locals outcome false (outside_field part.static_type name) (exprs.OutsideField name held))
        (sym (dot-reads writer sees locals part.tree name mode (value_of writer sees locals value.0 part.is_this part.static_type)
        value.1 (back.0 are)))
        (outside-field-back writer sees locals name value.0 held part.is_this part.static_type value.2 parts.1.0),
  )

  pub call-layer : (form : MemberForm) (method : Id) (args : List WithArgument) (e : IExpr) → NamesMethod method (arguments_in args) e
      → (IsTrue (are_kept writer locals method (map kept_argument (arguments_in args)))
      → IsApart writer sees locals (reading reader (call_tree writer locals form method (map spelled_argument (arguments_in args)))))
      × (IsTrue false → e ≡ exprs.This)
      × ((mode : Mode) → IsTrue (are_kept writer locals method (map kept_argument (arguments_in args)))
      → AreAnswered writer (call_reference writer locals form method (length (map spelled_argument (arguments_in args)))
      ∷ each_alone writer locals (map spelled_argument (arguments_in args)))
      → Comes (call_tree writer locals form method (map spelled_argument (arguments_in args))) mode false
      (result_value writer.program method) e)
  call-layer form method args e names = (
    λ are. call-apart form method (map spelled_argument (arguments_in args)),
    never-this,
    λ mode are all.
        let back = carried.called-back writer sees locals method args are all.1 in
        call-back form method (map spelled_argument (arguments_in args)) mode back.0 (arguments_in args) e back.1 back.2 names all.0,
  )

  pub call-on-layer : (method : Id) (part : SpelledExpr) (held : IExpr) (k : Bool) (args : List WithArgument) → BackAs part held k
      → BackAs (expr_step writer locals (IExpr-F.CallOn method part (map spelled_argument (arguments_in args))))
      (exprs.CallOn method held (arguments_in args)) (k && are_kept writer locals method (map kept_argument (arguments_in args)))
  call-on-layer method part held k args back = by part.is_this refl where
    by : (b : Bool) → part.is_this ≡ b
        → (IsTrue (k && are_kept writer locals method (map kept_argument (arguments_in args)))
        → IsApart writer sees locals (reading reader (if b
        then call_tree writer locals (call_form writer locals method (length (map spelled_argument (arguments_in args)))) method
        (map spelled_argument (arguments_in args))
        else made (node.Call (Some part.tree) (name_of writer locals method) (trees (map spelled_argument (arguments_in args)))))))
        × (IsTrue false → exprs.CallOn method held (arguments_in args) ≡ exprs.This)
        × ((mode : Mode) → IsTrue (k && are_kept writer locals method (map kept_argument (arguments_in args)))
        → AreAnswered writer ((if b
        then call_reference writer locals (call_form writer locals method (length (map spelled_argument (arguments_in args)))) method
        (length (map spelled_argument (arguments_in args))) ∷ []
        else after writer locals (part.references (Some [])) (method_target method)
        (method_asked part.static_type (name_of writer locals method) (length (map spelled_argument (arguments_in args)))))
        ++ each_alone writer locals (map spelled_argument (arguments_in args)))
        → Comes (if b
        then call_tree writer locals (call_form writer locals method (length (map spelled_argument (arguments_in args)))) method
        (map spelled_argument (arguments_in args))
        else made (node.Call (Some part.tree) (name_of writer locals method) (trees (map spelled_argument (arguments_in args)))))
        mode false (result_value writer.program method) (exprs.CallOn method held (arguments_in args)))
    by true is =
        let own = call-layer (call_form writer locals method (length (map spelled_argument (arguments_in args)))) method args
        (exprs.CallOn method held (arguments_in args))
        (subst (λ e. NamesMethod method (arguments_in args) (exprs.CallOn method e (arguments_in args))) (sym (back.1 is)) call_on_this) in
        (λ are. own.0 (carried.and-split k _ are).1, own.1, λ mode are all. own.2 mode (carried.and-split k _ are).1 all)
    by false is = (
      λ are. nameless-call (Some part.tree) (name_of writer locals method) (trees (map spelled_argument (arguments_in args))),
      never-this,
      λ mode are all.
          let tests = carried.and-split k (are_kept writer locals method (map kept_argument (arguments_in args))) are in
          let parts = carried.answered-split writer sees locals (after writer locals (part.references (Some [])) (method_target method)
          (method_asked part.static_type (name_of writer locals method) (length (map spelled_argument (arguments_in args)))))
          (each_alone writer locals (map spelled_argument (arguments_in args))) all in
          let front = carried.answered-split writer sees locals (part.references (Some [])) _ parts.0 in
          let value = back.2 (Some []) tests.0 front.0 in
          let reads = value.1 ∙ ap (λ b. fine (value_of writer sees locals value.0 b part.static_type)) is in
          let more = carried.called-back writer sees locals method args tests.1 parts.1 in
          on-back writer sees locals (name_of writer locals method) (trees_of (map spelled_argument (arguments_in args))) more.0 more.1 mode
          part.tree value.0 held part.static_type method (arguments_in args) reads (back.0 tests.0) value.2 more.2
          (subst (λ n. answered reader (plain writer locals (method_target method)
          (method_asked part.static_type (name_of writer locals method) n)) ≡ Some (method_target method))
          (as_many (map spelled_argument (arguments_in args))) front.1.0),
    )

  pub outside-call-layer : (name : Name) (args : List With)
      → BackAs (expr_step writer locals (IExpr-F.OutsideCall name (map spelled (exprs_in args)))) (exprs.OutsideCall name (exprs_in args))
      (list_all (λ (k : Bool). k) (map kept (exprs_in args)))
  outside-call-layer name args = (
    λ are. nameless-call None name (trees_of (map spelled (exprs_in args))),
    never-this,
    λ mode are all.
        let back = carried.exprs-back writer sees locals args are all.1 in
        outside-here-back writer sees locals name (trees_of (map spelled (exprs_in args))) back.0 back.1 mode (exprs_in args) back.2
        (subst (λ n. answered reader (plain writer locals (outside_target name) (call_asked name n)) ≡ Some (outside_target name))
        (as_many (map spelled (exprs_in args))) all.0),
  )

  pub outside-call-on-layer : (name : Name) (part : SpelledExpr) (held : IExpr) (k : Bool) (args : List With) → BackAs part held k
      → BackAs (expr_step writer locals (IExpr-F.OutsideCallOn name part (map spelled (exprs_in args))))
      (exprs.OutsideCallOn name held (exprs_in args)) (k && list_all (λ (k : Bool). k) (map kept (exprs_in args)))
  outside-call-on-layer name part held k args back = (
    λ are. nameless-call (Some part.tree) name (trees_of (map spelled (exprs_in args))),
    never-this,
    λ mode are all.
        let tests = carried.and-split k (list_all (λ (k : Bool). k) (map kept (exprs_in args))) are in
        let parts = carried.answered-split writer sees locals (after writer locals (part.references (Some [])) (outside_target name)
        (method_asked part.static_type name (length (map spelled (exprs_in args)))))
        (each_alone writer locals (map spelled (exprs_in args))) all in
        let front = carried.answered-split writer sees locals (part.references (Some [])) _ parts.0 in
        let value = back.2 (Some []) tests.0 front.0 in
        let more = carried.exprs-back writer sees locals args tests.1 parts.1 in
        subst (λ type. Comes (made (node.Call (Some part.tree) name (trees_of (map spelled (exprs_in args))))) mode false type
        (exprs.OutsideCallOn name held (exprs_in args)))
        (ap (outside_call part.static_type name) (more.3 ∙ static_count args))
        (outside-on-back writer sees locals name (trees_of (map spelled (exprs_in args))) more.0 more.1 mode part.tree value.0 held
        part.is_this part.static_type (exprs_in args) value.1 (back.0 tests.0) value.2 more.2
        (subst (λ n. answered reader (plain writer locals (outside_target name) (method_asked part.static_type name n))
        ≡ Some (outside_target name)) (as_many (map spelled (exprs_in args))) front.1.0)),
  ) where
    static_count : (es : List With) → length (map spelled (exprs_in es))
        ≡ length (map (λ (part : SpelledExpr). part.static_type) (map spelled (exprs_in es)))
    static_count [] = refl
    static_count (e ∷ es) = ap (λ n. suc n) (static_count es)

  -- ---- names of classes outside

  pub one-name : (full : Name) (first : Name) (rest : Names) (mode : Mode) → IsTrue (no_more rest)
      → answered reader
      (plain writer locals (outside_target full) (asks_outside writer locals (record { first = first; rest = rest }) mode))
      ≡ Some (outside_target full)
      → Comes (names_tree (record { first = first; rest = rest })) mode false outside_value (exprs.OutsideClass full)
  one-name full first [] None one is = class-alone-back writer sees locals first full (exprs.OutsideClass full) refl is
  one-name full first [] (Some follow) one is =
      class-before-back writer sees locals first follow full (exprs.OutsideClass full) refl is
  one-name full first (next ∷ rest) mode one is = absurd (true≢false (sym one))

  pub one-apart : (first : Name) (rest : Names)
      → IsApart writer sees locals (reading reader (names_tree (record { first = first; rest = rest })))
  one-apart first rest = chain (name_tree first) rest (name-apart writer sees locals first) where
    chain : (tree : Expr) (rest : Names) → IsApart writer sees locals (reading reader tree)
        → IsApart writer sees locals (reading reader (dots_tree tree rest))
    chain tree [] apart = apart
    chain tree (name ∷ rest) apart = chain (dot_tree tree name) rest (dot-apart writer sees locals tree name)
