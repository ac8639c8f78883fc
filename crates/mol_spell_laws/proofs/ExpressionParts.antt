-- The parts of expressions of a program are written as trees that are printable where they have their forms and mention what is known, and
-- what they name may be imported.
use Rattle.std.proofs.Common.{◌≡◌, inl, inr, ℕ, zero, suc, ◌+◌, ◌≤◌, Bool, true, false, List, [], ◌∷◌, map, length, codes, Option, Some, None, slice_get, refl, sym, ◌∙◌, ap, subst, true≢false, arith}
use Rattle.std.specs.Prelude.{◌&&◌, ◌||◌, not, nat_le, if◌then◌else◌}
use Rattle.std.specs.FinMap.{get}
use Rattle.std.specs.List.{list_all, AllByRecursion}
use Rattle.std.specs.Option.{option_map_or}
use Rattle.std.proofs.lemmas.Bool.{and_parts, leb-true, or_cases, not-true}
use Prim.Native.String.{String}
use Rattle.std.specs.Str.{bytes_eq}
use Rattle.std.proofs.lemmas.Slice.Eq.{bytes_eq-Decides}
use Rattle.mol_base.specs.Among.{among}
use Rattle.mol_base.specs.Operators.{is_step, is_prefix, prefixes}
use Rattle.mol_base.specs.declared.ident.Id.{Id}
use Rattle.mol_spell_rules.specs.references.References.{Target}
use Rattle.jav_tree.specs.PrintableExpressions.{ExprUses, expr_uses, effect_where, target_where, is_not_empty, prefixed}
use Rattle.jav_tree.specs.TokenTexts.{is_name, is_dotted_name}
use Rattle.jav_tree.specs.declared.expr.ExprNode.TheVariants as node
use Rattle.jav_names.specs.DottedNames.{Name}
use Rattle.mol_resolve_rules.specs.Locals.{Local, Locals}
use Rattle.mol_resolve_rules.specs.ReadTrees.{Mode}
use Rattle.mol_resolve_rules.specs.StaticTypes.{present_param, class_of_only_declaration}
use Rattle.mol_spell_rules.specs.SpelledExpressions.{SpelledExpr, MemberForm, by_name, on_this, on_class, made, names_tree, trees, no_name, on_owner, hides, name_of, reads_field, reads_method, static_form, static_call_form, class_names, class_text, constructor_text, param_name, field_tree, call_tree, field_reference, call_reference, constructor_reference, plain, each_alone, after}
use Rattle.mol_spell_rules.specs.Writers.{Writer, program_class, use_of, Asked, Reference}
use Rattle.mol_table_rules.specs.ExpressionForms as forms
use Rattle.mol_table_rules.specs.ExpressionForms.{Shape, is_value, is_first_value, are_values, are_arguments, is_binary, shape_of}
use Rattle.mol_table_rules.specs.Mentions.{Mention, a_class, named, joined}
use Rattle.mol_table_rules.specs.Program.{Program, owner_at}
use Rattle.mol_table_rules.specs.Rules.{IsProgram, fills}
use Rattle.mol_values_types.specs.declared.iexpr.IExpr.TheOpen.{IExpr-F}
use Rattle.mol_values_types.specs.declared.known.Known.TheVariants as knowns
use Rattle.mol_values_types.specs.declared.param.Param.{Param}
use Rattle.jav_print_laws.proofs.printable_lemmas.Expressions.{both}
use Rattle.mol_spell_laws.proofs.ExpressionTrees.{Fits, ValuesFit, ItemsFit, no-values, more-values, no-items, more-items, before-none, before-some, fits-This, fits-name, fits-dot, fits-names, fits-Call}
use Rattle.mol_spell_laws.proofs.KnownNames.{class-fills, full-dotted, owner-known, constructed-known, param-named}
use Rattle.mol_spell_laws.proofs.Names.{AreNames, no-name-is, name-dotted}
use Rattle.mol_spell_laws.proofs.TypeTrees.{is_use, are_uses, both-use, are_known, both-known, names-spelled}

-- ---- locals

-- each local has a name
abbrev pub are_named : Locals Id → Bool
are_named locals = list_all (λ (local : Local Id). is_name local.name) locals.declared

pub local-named : (locals : List (Local Id)) (number : ℕ) → list_all (λ (local : Local Id). is_name local.name) locals ≡ true
    → is_name (option_map_or (λ (local : Local Id). local.name) (slice_get locals number) no_name) ≡ true
local-named [] number are = no-name-is
local-named (local ∷ locals) zero are = (and_parts (is_name local.name) _ are).0
local-named (local ∷ locals) (suc number) are = local-named locals number (and_parts (is_name local.name) _ are).1

-- ---- what an expression may be as it is written, of its shape

abbrev pub uses_of : Shape → ExprUses
uses_of shape = record {
  is_value = not shape.braces;
  is_first_value = true;
  is_target = shape.target;
  is_statement = shape.statement;
}

-- of a value
pub value-parts : (shape : Shape) → is_value shape ≡ true → (shape.formed ≡ true) × ((uses_of shape).is_value ≡ true)
value-parts shape value = and_parts shape.formed (not shape.braces) value

-- no prefix operator is a step
none-among : (p : Name → Bool) (texts : List String) (op : Name) → list_all (λ text. not (p (codes text))) texts ≡ true
    → among texts op ≡ true → p op ≡ true → ⊥
none-among p [] op none there passes = absurd cc
none-among p (text ∷ texts) op none there passes =
    let parts = and_parts (not (p (codes text))) (list_all (λ text. not (p (codes text))) texts) none in
    elim (or_cases (bytes_eq op (codes text)) (among texts op) there) [
      | inl here ↦ true≢false (sym (subst (λ (x : Name). p x ≡ true) ((bytes_eq-Decides op (codes text)).0 here) passes)
          ∙ not-true (p (codes text)) parts.0)
      | inr later ↦ none-among p texts op parts.1 later passes
    ]

step_no_prefix : (op : Name) → is_prefix op ≡ true → is_step op ≡ true → ⊥
step_no_prefix op prefix step = none-among is_step prefixes op refl prefix step

-- a prefix operator before any operand, and a step before a target
pub prefixed-uses : (op : Name) (shape : Shape)
    → (is_value shape && (is_prefix op || (is_step op && shape.target))) ≡ true
    → prefixed op (uses_of shape) ≡ uses_of (forms.shape_step (IExpr-F.Unary op shape))
prefixed-uses op shape formed = by (is_step op) refl (and_parts (is_value shape)
    (is_prefix op || (is_step op && shape.target)) formed) where
      by : (step : Bool) → is_step op ≡ step → (is_value shape ≡ true) × ((is_prefix op || (is_step op && shape.target)) ≡ true)
          → prefixed op (uses_of shape) ≡ uses_of (forms.shape_step (IExpr-F.Unary op shape))
      by true is parts =
          let value = (value-parts shape parts.0).1 in
          let target : shape.target ≡ true = changed (is_prefix op) refl parts.1 in
          λ i. record {
            is_value = value i && parts.1 i;
            is_first_value = value i && parts.1 i;
            is_target = false;
            is_statement = ((λ i. is i && target i && value i) ∙ sym is) i;
          } where
            changed : (prefix : Bool) → is_prefix op ≡ prefix → (is_prefix op || (is_step op && shape.target)) ≡ true → shape.target ≡ true
            changed true prefix may = absurd (step_no_prefix op prefix is)
            changed false prefix may =
                (and_parts (is_step op) shape.target (sym (ap (λ (b : Bool). b || (is_step op && shape.target)) prefix) ∙ may)).1
      by false is parts =
          let value = (value-parts shape parts.0).1 in
          λ i. record {
            is_value = value i && parts.1 i;
            is_first_value = value i && parts.1 i;
            is_target = false;
            is_statement = ((λ i. is i && shape.target && not shape.braces) ∙ sym is) i;
          }

-- What is proved: it may be what its shape says, and what it names may be imported.
pub record PartFits (program : Program) (shape : Shape) (part : SpelledExpr) : Type 0 where
  pub tree : Fits (uses_of shape) part.tree
  pub names : (mode : Mode) → are_uses program (part.references mode) ≡ true

-- of values, of items in braces, and of arguments
pub record ListFits (writer : Writer) (locals : Locals Id) (parts : List SpelledExpr) : Type 0 where
  pub fit : ValuesFit (trees parts)
  pub names : are_uses writer.program (each_alone writer locals parts) ≡ true

pub record BracesFit (writer : Writer) (locals : Locals Id) (parts : List SpelledExpr) : Type 0 where
  pub fit : ItemsFit (trees parts)
  pub names : are_uses writer.program (each_alone writer locals parts) ≡ true

pub record ArgumentsFit (writer : Writer) (locals : Locals Id) (parts : List SpelledExpr) : Type 0 where
  pub fit : ValuesFit (trees parts)
  pub few : length (trees parts) ≤ 255
  pub names : are_uses writer.program (each_alone writer locals parts) ≡ true

module _ (writer : Writer) (rules : IsProgram writer.program) (owner : Id) (locals : Locals Id) where
  abbrev program : Program
  program = writer.program

  abbrev all : List Mention → Bool
  all = are_known program owner

  abbrev uses : List Reference → Bool
  uses = are_uses program

  -- where it has its form, and mentions what is known
  abbrev pub Claim : Shape → List Mention → SpelledExpr → Type 0
  Claim shape mentions part = shape.formed ≡ true → all mentions ≡ true → PartFits program shape part

  -- ---- lists of parts

  module _ {X : Type 0} (shape : X → Shape) (mentions : X → List Mention) (part : X → SpelledExpr) where
    abbrev pub Each : List X → Type 0
    Each = AllByRecursion (λ (x : X). Claim (shape x) (mentions x) (part x))

    pub list-fits : (xs : List X) → Each xs → are_values (map shape xs) ≡ true → all (joined (map mentions xs)) ≡ true
        → ListFits writer locals (map part xs)
    list-fits [] claims values are = record { fit = no-values; names = refl }
    list-fits (x ∷ xs) claims values are =
        let value = and_parts (is_value (shape x)) (are_values (map shape xs)) values in
        let here = value-parts (shape x) value.0 in
        let mentioned = both-known program owner (mentions x) (joined (map mentions xs)) are in
        let fits = claims.0 here.0 mentioned.0 in
        let rest = list-fits xs claims.1 value.1 mentioned.1 in
        record {
          fit = more-values (uses_of (shape x)) (part x).tree (trees (map part xs)) fits.tree here.1 rest.fit;
          names = both-use program ((part x).references None) (each_alone writer locals (map part xs)) (fits.names None) rest.names;
        }

    pub braces-fit : (xs : List X) → Each xs → list_all is_first_value (map shape xs) ≡ true → all (joined (map mentions xs)) ≡ true
        → BracesFit writer locals (map part xs)
    braces-fit [] claims items are = record { fit = no-items; names = refl }
    braces-fit (x ∷ xs) claims items are =
        let item = and_parts (shape x).formed (list_all is_first_value (map shape xs)) items in
        let mentioned = both-known program owner (mentions x) (joined (map mentions xs)) are in
        let fits = claims.0 item.0 mentioned.0 in
        let rest = braces-fit xs claims.1 item.1 mentioned.1 in
        record {
          fit = more-items (uses_of (shape x)) (part x).tree (trees (map part xs)) fits.tree refl rest.fit;
          names = both-use program ((part x).references None) (each_alone writer locals (map part xs)) (fits.names None) rest.names;
        }

    count-kept : (xs : List X) → length (trees (map part xs)) ≡ length (map shape xs)
    count-kept [] = refl
    count-kept (x ∷ xs) = ap suc (count-kept xs)

    few : (xs : List X) → nat_le (length (map shape xs)) 255 ≡ true → length (trees (map part xs)) ≤ 255
    few xs within = let less = leb-true _ 255 within in omega (arith, count-kept xs)

    pub arguments-fit : (xs : List X) → Each xs → are_arguments (map shape xs) ≡ true → all (joined (map mentions xs)) ≡ true
        → ArgumentsFit writer locals (map part xs)
    arguments-fit xs claims arguments are =
        let parts = and_parts (are_values (map shape xs)) (nat_le (length (map shape xs)) 255) arguments in
        let fits = list-fits xs claims parts.0 are in
        record { fit = fits.fit; few = few xs parts.1; names = fits.names }

    -- at least one, and with further pairs of brackets at most 255
    pub some-sizes : (xs : List X) → nat_le 1 (length (map shape xs)) ≡ true → is_not_empty (map expr_uses (trees (map part xs))) ≡ true
    some-sizes [] some = absurd (true≢false (sym some))
    some-sizes (x ∷ xs) some = refl

    pub few-sizes : (xs : List X) (pairs : ℕ) → nat_le (length (map shape xs) + pairs) 255 ≡ true
        → length (trees (map part xs)) + pairs ≤ 255
    few-sizes xs pairs within = let less = leb-true _ 255 within in omega (arith, count-kept xs)

  -- ---- names

  abbrev here : Name → Bool
  here = hides writer locals

  pub class-names : (class : Id) → get program.known class ≡ Some knowns.Class → AreNames (class_names writer locals class)
  class-names class is = names-spelled writer rules here (program_class class) is

  pub class-of : (class : Id) → fills owner a_class (get program.known class) ≡ true → get program.known class ≡ Some knowns.Class
  class-of class = class-fills owner (get program.known class)

  pub using-class : (class : Id) → get program.known class ≡ Some knowns.Class
      → is_use program (Some (use_of writer here (program_class class))) ≡ true
  using-class class is = full-dotted program rules (program_class class) is

  abbrev pub IsText : Name → Type 0
  IsText text = is_dotted_name text ≡ true

  pub constructor-text-is : (constructor : Id) → IsText (constructor_text writer locals constructor)
  constructor-text-is constructor = by (class_of_only_declaration program constructor) refl where
    by : (class : Option Id) → class_of_only_declaration program constructor ≡ class
        → IsText (option_map_or (class_text writer locals) class no_name)
    by None is = name-dotted no_name no-name-is
    by (Some class) is = (class-names class (constructed-known program rules constructor class is)).joined

  pub param-name-is : (id : Id) → is_name (param_name writer locals id) ≡ true
  param-name-is id = by (present_param program id) refl where
    by : (param : Option Param) → present_param program id ≡ param → is_name (option_map_or (λ (param : Param). param.name) param no_name)
        ≡ true
    by None is = no-name-is
    by (Some param) is = param-named program rules id param is

  -- ---- members

  -- the class that a member is written with is known
  abbrev pub IsOwned : MemberForm → Type 0
  IsOwned by_name = Unit {0}
  IsOwned on_this = Unit {0}
  IsOwned (on_class class) = get program.known class ≡ Some knowns.Class

  pub on-this : (b : Bool) → IsOwned (if b then by_name else on_this)
  on-this true = tt
  on-this false = tt

  on-owner : (b : Bool) (class : Option Id) → ((c : Id) → class ≡ Some c → get program.known c ≡ Some knowns.Class)
      → IsOwned (if b then by_name else on_owner class)
  on-owner true class is = tt
  on-owner false None is = tt
  on-owner false (Some class) is = is class refl

  pub static-owned : (field : Id) → IsOwned (static_form writer locals field)
  static-owned field = on-owner (reads_field writer locals field) (owner_at program field) (owner-known program rules field)

  pub static-call-owned : (method : Id) (arity : ℕ) → IsOwned (static_call_form writer locals method arity)
  static-call-owned method arity = on-owner (reads_method writer locals method arity) (class_of_only_declaration program method)
      (constructed-known program rules method)

  pub field-fits : (form : MemberForm) → IsOwned form → (field : Id) → is_name (name_of writer locals field) ≡ true
      → Fits (target_where true) (field_tree writer locals form field)
  field-fits by_name owned field named = fits-name (name_of writer locals field) named
  field-fits on_this owned field named = fits-dot _ (made node.This) (name_of writer locals field) fits-This refl named
  field-fits (on_class class) owned field named =
      fits-dot _ (names_tree (class_names writer locals class)) (name_of writer locals field)
      (fits-names (class_names writer locals class) (class-names class owned).each) refl named

  pub field-uses : (form : MemberForm) → IsOwned form → (field : Id) (mode : Mode)
      → uses (field_reference writer locals form field mode ∷ []) ≡ true
  field-uses by_name owned field mode = refl
  field-uses on_this owned field mode = refl
  field-uses (on_class class) owned field mode = both (using-class class owned) refl

  pub call-fits : (form : MemberForm) → IsOwned form → (method : Id) (args : List SpelledExpr)
      → is_name (name_of writer locals method) ≡ true
      → ValuesFit (trees args) → length (trees args) ≤ 255 → Fits (effect_where true) (call_tree writer locals form method args)
  call-fits by_name owned method args named fits few = fits-Call None (name_of writer locals method) (trees args) before-none named fits few
  call-fits on_this owned method args named fits few =
      fits-Call (Some (made node.This)) (name_of writer locals method) (trees args)
      (before-some _ (made node.This) fits-This refl) named fits few
  call-fits (on_class class) owned method args named fits few =
      let names = class_names writer locals class in
      fits-Call (Some (names_tree names)) (name_of writer locals method) (trees args)
      (before-some _ (names_tree names) (fits-names names (class-names class owned).each) refl) named fits few

  pub call-uses : (form : MemberForm) → IsOwned form → (method : Id) (arity : ℕ) (rest : List Reference) → uses rest ≡ true
      → uses (call_reference writer locals form method arity ∷ rest) ≡ true
  call-uses by_name owned method arity rest are = are
  call-uses on_this owned method arity rest are = are
  call-uses (on_class class) owned method arity rest are = both (using-class class owned) are

  pub constructor-uses : (constructor : Id) (arity : ℕ) (rest : List Reference) → uses rest ≡ true
      → uses (constructor_reference writer locals (class_of_only_declaration program constructor) constructor arity ∷ rest) ≡ true
  constructor-uses constructor arity rest are = by (class_of_only_declaration program constructor) refl where
    by : (class : Option Id) → class_of_only_declaration program constructor ≡ class
        → uses (constructor_reference writer locals class constructor arity ∷ rest) ≡ true
    by None is = are
    by (Some class) is = both (using-class class (constructed-known program rules constructor class is)) are

  -- a member of a value, after what is in the value
  pub after-uses : (parts : List Reference) (target : Target) (asked : Asked) → uses parts ≡ true
      → uses (after writer locals parts target asked) ≡ true
  after-uses parts target asked are = both-use program parts (plain writer locals target asked ∷ []) are refl
