-- Members are written alike in two such programs: by their names, after `this`, or after the name of a class.
use Rattle.std.proofs.Common.{Bool, List, None, Option, Some, ap, false, refl, true, ℕ, ◌∙◌, ◌≡◌}
use Rattle.std.specs.FinMap.{get}
use Rattle.std.specs.Option.{option_map_or}
use Rattle.std.specs.Prelude.{if◌then◌else◌, not}
use Rattle.jav_names.specs.DottedNames.{Name, Names}
use Rattle.jav_names.specs.LookUps.{variable, method_from}
use Rattle.jav_names.specs.OnValues.{class_value}
use Rattle.jav_tree.specs.declared.expr.ExprNode.TheVariants as node
use Rattle.mol_base.specs.declared.ident.Id.{Id}
use Rattle.mol_resolve_rules.specs.Locals.{Locals}
use Rattle.mol_resolve_rules.specs.ReadTrees.{Mode, followers}
use Rattle.mol_resolve_rules.specs.Readers.{Parameter, place_of}
use Rattle.mol_resolve_rules.specs.StaticTypes.{class_of_only_declaration}
use Rattle.mol_spell_rules.specs.SpelledExpressions.{SpelledExpr, MemberForm, by_name, on_this, on_class, on_owner, is_field, is_declaration_of, hides, importable_names, reads_field, reads_method, own_form, static_form, call_form, static_call_form, class_text, constructor_text, param_name, field_tree, call_tree, field_reference, call_reference, constructor_reference, made, name_tree, dot_tree, names_tree, trees, no_name}
use Rattle.mol_spell_rules.specs.Writers.{Importable, program_class, Writer, text_of, use_of, is_variable, name_asked, name_before_asked, field_asked, method_asked, call_asked, constructor_asked, static_field_asked, static_method_asked}
use Rattle.mol_spell_rules.specs.references.References.{field_target, method_target}
use Rattle.mol_table_rules.specs.Life.{lives}
use Rattle.mol_table_rules.specs.Program.{Program, name_at, owner_at}
use Rattle.mol_table_rules.specs.Rules.{has_many}
use Rattle.mol_values_types.specs.declared.kind.MethodKind.{MethodKind}
use Rattle.mol_values_types.specs.declared.known.Known.TheVariants as knowns
use Rattle.mol_values_types.specs.declared.param.Param.{Param}
use Rattle.mol_faults_laws.proofs.sameness_lemmas.Alike.{name-same, owner-same, present-same}
use Rattle.mol_faults_laws.proofs.sameness_lemmas.Goodness.{IsGoodImportable, IsGoodReference}
use Rattle.mol_faults_laws.proofs.sameness_lemmas.Places.{declarations-alike, variables-alike}
use Rattle.mol_faults_laws.proofs.sameness_lemmas.SpelledTypes.{writer_of, spelled-same, use-same}
use Rattle.mol_faults_laws.proofs.sameness_lemmas.Twins.{IsGoodClass, Twins, only-good, only-same, owner-good}

module _ (P Q : Program) (twins : Twins P Q) (class : Id) (good : IsGoodClass P class) (imports : Names) (params : List (Parameter Id))
    (in_constructor : Bool) (first_simple second_simple : Importable → Bool)
    (simple : (what : Importable) → IsGoodImportable P what → first_simple what ≡ second_simple what) (locals : Locals Id) where
  abbrev here : Writer
  here = writer_of P imports class params in_constructor first_simple

  abbrev there : Writer
  there = writer_of Q imports class params in_constructor second_simple

  pub hides-same : hides here locals ≡ hides there locals
  hides-same = λ i name. is_variable (variables-alike P Q twins class good imports params in_constructor locals name i)

  pub names-same : (what : Importable) → IsGoodImportable P what → importable_names here locals what ≡ importable_names there locals what
  names-same what is = spelled-same P Q twins class good imports params in_constructor first_simple second_simple simple
      (hides here locals) (hides there locals) hides-same what is

  pub uses-same : (what : Importable) → IsGoodImportable P what
      → use_of here (hides here locals) what ≡ use_of there (hides there locals) what
  uses-same what is = use-same P Q twins class good imports params in_constructor first_simple second_simple simple
      (hides here locals) (hides there locals) hides-same what is

  pub text-same : (own : Id) → IsGoodClass P own → class_text here locals own ≡ class_text there locals own
  text-same own is = ap text_of (names-same (program_class own) is)

  -- ---- forms

  abbrev pub IsGoodForm : MemberForm → Type 0
  IsGoodForm (on_class own) = IsGoodClass P own
  IsGoodForm form = Unit {0}

  reads-field : (field : Id) → lives P field ≡ true → reads_field here locals field ≡ reads_field there locals field
  reads-field field living =
      ap (λ (name : Name). is_field field (variable here.reader.view (place_of here.reader locals) name))
      (name-same P Q twins.alike field living)
      ∙ ap (is_field field) (variables-alike P Q twins class good imports params in_constructor locals (name_at Q field))

  reads-method : (method : Id) (arity : ℕ) → lives P method ≡ true
      → reads_method here locals method arity ≡ reads_method there locals method arity
  reads-method method arity living =
      ap (λ (name : Name). is_declaration_of here.reader method (method_from here.reader.view class name arity))
      (name-same P Q twins.alike method living)
      ∙ declarations-alike P Q twins class good imports params in_constructor method (name_at Q method) arity

  pub own_form-same : (field : Id) → lives P field ≡ true → own_form here locals field ≡ own_form there locals field
  own_form-same field living = ap (λ b. if b then by_name else on_this) (reads-field field living)

  pub static_form-same : (field : Id) → lives P field ≡ true → static_form here locals field ≡ static_form there locals field
  static_form-same field living =
      let reads = reads-field field living in
      let owners = owner-same P Q twins.alike field living in
      λ i. if reads i then by_name else on_owner (owners i)

  pub call_form-same : (method : Id) (arity : ℕ) → lives P method ≡ true
      → call_form here locals method arity ≡ call_form there locals method arity
  call_form-same method arity living = ap (λ b. if b then by_name else on_this) (reads-method method arity living)

  this-good : (b : Bool) → IsGoodForm (if b then by_name else on_this)
  this-good true = tt {0}
  this-good false = tt {0}

  pub own_form-good : (field : Id) → IsGoodForm (own_form here locals field)
  own_form-good field = this-good (reads_field here locals field)

  pub call_form-good : (method : Id) (arity : ℕ) → IsGoodForm (call_form here locals method arity)
  call_form-good method arity = this-good (reads_method here locals method arity)

  owned-good : (b : Bool) (o : Option Id) → ((own : Id) → o ≡ Some own → IsGoodClass P own) → IsGoodForm (if b then by_name else on_owner o)
  owned-good true o owns = tt {0}
  owned-good false None owns = tt {0}
  owned-good false (Some own) owns = owns own refl

  pub static_form-good : (field : Id) → lives P field ≡ true → IsGoodForm (static_form here locals field)
  static_form-good field living = owned-good (reads_field here locals field) (owner_at P field)
      (λ own is. owner-good P Q twins field own living is)

  -- a static method, or a constructor, has one declaration
  module _ (method : Id) (kind : MethodKind) (is : get P.known method ≡ Some (knowns.Method kind)) (single : has_many kind ≡ false)
      (living : lives P method ≡ true) where
    pub only : class_of_only_declaration P method ≡ class_of_only_declaration Q method
    only = only-same P Q twins method kind is single living

    pub static_call_form-same : (arity : ℕ) → static_call_form here locals method arity ≡ static_call_form there locals method arity
    static_call_form-same arity =
        let reads = reads-method method arity living in
        λ i. if reads i then by_name else on_owner (only i)

    pub static_call_form-good : (arity : ℕ) → IsGoodForm (static_call_form here locals method arity)
    static_call_form-good arity = owned-good (reads_method here locals method arity) (class_of_only_declaration P method)
        (λ own at. only-good P Q twins method own kind is single living at)

    pub constructor_text-same : constructor_text here locals method ≡ constructor_text there locals method
    constructor_text-same = at (class_of_only_declaration P method) (λ own at. only-good P Q twins method own kind is single living at)
        ∙ ap (λ o. option_map_or (class_text there locals) o no_name) only where
          at : (o : Option Id) → ((own : Id) → o ≡ Some own → IsGoodClass P own)
              → option_map_or (class_text here locals) o no_name ≡ option_map_or (class_text there locals) o no_name
          at None owns = refl
          at (Some own) owns = text-same own (owns own refl)

    constructor-at : (o : Option Id) (arity : ℕ) → ((own : Id) → o ≡ Some own → IsGoodClass P own)
        → (constructor_reference here locals o method arity ≡ constructor_reference there locals o method arity)
        × IsGoodReference P (constructor_reference here locals o method arity)
    constructor-at None arity owns = (refl, record { target = ap not living; asked = tt {0}; uses = tt {0} })
    constructor-at (Some own) arity owns =
        let texts = text-same own (owns own refl) in
        let uses = uses-same (program_class own) (owns own refl) in (
          (λ i. record {
            target = method_target method;
            asked = constructor_asked (texts i) arity;
            uses = Some (uses i);
            locals = locals;
          }),
          record { target = ap not living; asked = tt {0}; uses = owns own refl },
        )

    pub constructor_reference-same : (arity : ℕ)
        → (constructor_reference here locals (class_of_only_declaration P method) method arity
        ≡ constructor_reference there locals (class_of_only_declaration Q method) method arity)
        × IsGoodReference P (constructor_reference here locals (class_of_only_declaration P method) method arity)
    constructor_reference-same arity =
        let found = constructor-at (class_of_only_declaration P method) arity
        (λ own at. only-good P Q twins method own kind is single living at) in
        (found.0 ∙ ap (λ o. constructor_reference there locals o method arity) only, found.1)

  -- ---- trees and references of a form

  pub param_name-same : (id : Id) → lives P id ≡ true → param_name here locals id ≡ param_name there locals id
  param_name-same id living = ap (λ o. option_map_or (λ (param : Param). param.name) o no_name) (present-same P Q twins.alike id living)

  pub field_tree-same : (form other : MemberForm) (field : Id) → form ≡ other → IsGoodForm form → lives P field ≡ true
      → field_tree here locals form field ≡ field_tree there locals other field
  field_tree-same form other field same is living = at form is ∙ ap (λ (f : MemberForm). field_tree there locals f field) same where
    name : name_at P field ≡ name_at Q field
    name = name-same P Q twins.alike field living

    at : (form : MemberForm) → IsGoodForm form → field_tree here locals form field ≡ field_tree there locals form field
    at by_name is = ap name_tree name
    at on_this is = ap (dot_tree (made node.This)) name
    at (on_class own) is = let names = names-same (program_class own) is in λ i. dot_tree (names_tree (names i)) (name i)

  pub call_tree-same : (form other : MemberForm) (method : Id) (args : List SpelledExpr) → form ≡ other → IsGoodForm form
      → lives P method ≡ true
      → call_tree here locals form method args ≡ call_tree there locals other method args
  call_tree-same form other method args same is living = at form is
      ∙ ap (λ (f : MemberForm). call_tree there locals f method args) same where
        name : name_at P method ≡ name_at Q method
        name = name-same P Q twins.alike method living

        at : (form : MemberForm) → IsGoodForm form → call_tree here locals form method args ≡ call_tree there locals form method args
        at by_name is = λ i. made (node.Call None (name i) (trees args))
        at on_this is = λ i. made (node.Call (Some (made node.This)) (name i) (trees args))
        at (on_class own) is =
            let names = names-same (program_class own) is in λ i. made (node.Call (Some (names_tree (names i))) (name i) (trees args))

  pub field_reference-same : (form other : MemberForm) (field : Id) (mode : Mode) → form ≡ other → IsGoodForm form → lives P field ≡ true
      → (field_reference here locals form field mode ≡ field_reference there locals other field mode)
      × IsGoodReference P (field_reference here locals form field mode)
  field_reference-same form other field mode same is living =
      let found = at form mode is in (found.0 ∙ ap (λ (f : MemberForm). field_reference there locals f field mode) same, found.1) where
        name : name_at P field ≡ name_at Q field
        name = name-same P Q twins.alike field living

        gone : not (lives P field) ≡ false
        gone = ap not living

        at : (form : MemberForm) (mode : Mode) → IsGoodForm form →
            (field_reference here locals form field mode ≡ field_reference there locals form field mode)
            × IsGoodReference P (field_reference here locals form field mode)
        at by_name None is = (
          (λ i. record { target = field_target field; asked = name_asked (name i); uses = None; locals = locals }),
          record { target = gone; asked = tt {0}; uses = tt {0} },
        )
        at by_name (Some follow) is = (
          (λ i. record { target = field_target field; asked = name_before_asked (name i) follow; uses = None; locals = locals }),
          record { target = gone; asked = tt {0}; uses = tt {0} },
        )
        at on_this mode is = (
          (λ i. record { target = field_target field; asked = field_asked (class_value class) (name i); uses = None; locals = locals }),
          record { target = gone; asked = good; uses = tt {0} },
        )
        at (on_class own) mode is =
            let names = names-same (program_class own) is in
            let uses = uses-same (program_class own) is in (
              (λ i. record {
                target = field_target field;
                asked = static_field_asked (names i) (name i) (followers mode);
                uses = Some (uses i);
                locals = locals;
              }),
              record { target = gone; asked = tt {0}; uses = is },
            )

  pub call_reference-same : (form other : MemberForm) (method : Id) (arity : ℕ) → form ≡ other → IsGoodForm form → lives P method ≡ true
      → (call_reference here locals form method arity ≡ call_reference there locals other method arity)
      × IsGoodReference P (call_reference here locals form method arity)
  call_reference-same form other method arity same is living =
      let found = at form is in (found.0 ∙ ap (λ (f : MemberForm). call_reference there locals f method arity) same, found.1) where
        name : name_at P method ≡ name_at Q method
        name = name-same P Q twins.alike method living

        gone : not (lives P method) ≡ false
        gone = ap not living

        at : (form : MemberForm) → IsGoodForm form → (call_reference here locals form method arity
            ≡ call_reference there locals form method arity)
            × IsGoodReference P (call_reference here locals form method arity)
        at by_name is = (
          (λ i. record { target = method_target method; asked = call_asked (name i) arity; uses = None; locals = locals }),
          record { target = gone; asked = tt {0}; uses = tt {0} },
        )
        at on_this is = (
          (λ i. record {
            target = method_target method;
            asked = method_asked (class_value class) (name i) arity;
            uses = None;
            locals =
                locals;
          }),
          record { target = gone; asked = good; uses = tt {0} },
        )
        at (on_class own) is =
            let names = names-same (program_class own) is in
            let uses = uses-same (program_class own) is in (
              (λ i. record {
                target = method_target method;
                asked = static_method_asked (names i) (name i) arity;
                uses = Some (uses i);
                locals = locals;
              }),
              record { target = gone; asked = tt {0}; uses = is },
            )
