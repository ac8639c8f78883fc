-- What names read as instead, by what values say.
use Rattle.std.proofs.Common.{◌≡◌, ℕ, suc, [], ◌∷◌, ◌++◌, length, Option, Some, None, option_map, inl, inr, refl, sym, ◌∙◌, ap}
use Rattle.std.proofs.lemmas.List.{append-nil}
use Rattle.std.specs.Option.{option_and_then}
use Rattle.jav_tree.specs.declared.expr.Expr.{Expr}
use Rattle.jav_names.specs.DottedNames.{Name, Names, Dotted}
use Rattle.jav_names.specs.LookUps.{method_on}
use Rattle.jav_names.specs.OnValues.{StaticType}
use Rattle.mol_scope.specs.asked.Places.{program_of, reader_of}
use Rattle.mol_scope.specs.declared.asked.place.NamePlace.{NamePlace}
use Rattle.mol_base.specs.declared.ident.Id.{Id}
use Rattle.mol_faults_names.proofs.Said.{Alike, Says, nothing, value, left, names-say}
use Rattle.mol_faults_names.specs.Reads.{Reads, names_read}
use Rattle.mol_spell_rules.specs.references.References.{Target, class_target}
use Rattle.mol_resolve_rules.specs.Locals.{Locals}
use Rattle.mol_resolve_rules.specs.Readers.{Reader}
use Rattle.mol_resolve_rules.specs.ReadTrees.{ClassPath, whole_path, front_path, no_path, path_by, Meant}
use Rattle.mol_spell_rules.specs.Answers.{answer, method_of, method_through_answer, on_value_answer}
use Rattle.mol_spell_rules.specs.ReadInstead.{asked_instead, class_begun, method_instead, path_instead, read_before, word_target}
use Rattle.mol_spell_rules.specs.SpelledExpressions.{dot_tree, dots_tree, name_tree, names_tree}
use Rattle.mol_spell_rules.specs.Writers.{path_asked, static_field_asked, static_method_asked}
use Rattle.mol_table_rules.specs.Program.{Program}

said-target : (v : Option (Meant Id)) (r : Option Reads) → Says v r
    → option_map (λ (read : Reads). read.target) r ≡ option_and_then (λ (m : Meant Id). word_target m.tree) v
said-target v r nothing = refl
said-target v r (value m read word alike) = sym word

-- one more name behind names with dots
dots-last : (tree : Expr) (names : Names) (name : Name) → dots_tree tree (names ++ name ∷ []) ≡ dot_tree (dots_tree tree names) name
dots-last tree [] name = refl
dots-last tree (n ∷ names) name = dots-last (dot_tree tree n) names name

module _ (place : NamePlace) (locals : Locals Id) where
  abbrev program : Program
  program = program_of place

  abbrev reader : Reader Id Id
  reader = reader_of place

  -- what names read as that begin with one
  abbrev pub read_as : Name → Names → Names → Option Target
  read_as first rest follow = option_map (λ (read : Reads). read.target)
      (names_read program reader locals first rest (left place locals first (rest ++ follow)))

  before-is : (names : Dotted) (follow : Names) → read_as names.first names.rest follow ≡ read_before reader locals (names_tree names) follow
  before-is names follow = said-target _ _ (names-say place locals names follow)

  -- ---- names that are to spell a class

  module _ (path : Dotted) (follow : Names) where
    abbrev spelled : ClassPath Id
    spelled = path_by (suc (length path.rest)) (left place locals path.first (path.rest ++ follow))

    pub path-class : (class : Id) → whole_path class ≡ spelled
        → Some (class_target class) ≡ asked_instead reader locals (path_asked path follow)
    path-class class is = ap (path_instead reader locals path follow) is

    pub path-front : front_path ≡ spelled
        → class_begun reader locals (left place locals path.first (path.rest ++ follow)) ≡ asked_instead reader locals (path_asked path follow)
    path-front is = ap (path_instead reader locals path follow) is

    pub path-value : no_path ≡ spelled → read_as path.first path.rest follow ≡ asked_instead reader locals (path_asked path follow)
    path-value is = before-is path follow ∙ ap (path_instead reader locals path follow) is

  -- ---- static fields

  pub field-value : (path : Dotted) (name : Name) (follow : Names)
      → read_as path.first (path.rest ++ name ∷ []) follow ≡ asked_instead reader locals (static_field_asked path name follow)
  field-value path name follow =
      before-is (record { first = path.first; rest = path.rest ++ name ∷ [] }) follow
      ∙ ap (λ tree. read_before reader locals tree follow) (dots-last (name_tree path.first) path.rest name)

  -- ---- static methods

  module _ (path : Dotted) (name : Name) (arity : ℕ) where
    abbrev spelled_alone : ClassPath Id
    spelled_alone = path_by (suc (length path.rest)) (left place locals path.first path.rest)

    abbrev on_type : StaticType Id → Option Target
    on_type type = on_value_answer reader name (method_of reader) (method_on reader.view name arity type)

    at-end : spelled_alone ≡ path_by (suc (length path.rest)) (left place locals path.first (path.rest ++ []))
    at-end = ap (λ rest. path_by (suc (length path.rest)) (left place locals path.first rest)) (sym (append-nil path.rest))

    pub method-class : (class : Id) → whole_path class ≡ spelled_alone
        → answer reader locals (static_method_asked path name arity) ≡ asked_instead reader locals (static_method_asked path name arity)
    method-class class is =
        let whole = is ∙ at-end in
        sym (ap (method_through_answer reader name arity) whole) ∙ ap (method_instead reader locals path name arity) whole

    pub method-front : front_path ≡ spelled_alone → None ≡ asked_instead reader locals (static_method_asked path name arity)
    method-front is = ap (method_instead reader locals path name arity) (is ∙ at-end)

    abbrev read_alone : Option Reads
    read_alone = names_read program reader locals path.first path.rest (left place locals path.first path.rest)

    abbrev of_meant : Option (Meant Id) → Option Target
    of_meant v = option_and_then (λ (m : Meant Id). on_type m.static_type) v

    same-type : (first second : StaticType Id) → Alike first second → on_type second ≡ on_type first
    same-type first second (inl same) = ap on_type (sym same)
    same-type first second (inr neither) = ap on_type neither.1 ∙ sym (ap on_type neither.0)

    said-type : (v : Option (Meant Id)) (r : Option Reads) → Says v r
        → option_and_then (λ (read : Reads). on_type read.type) r ≡ of_meant v
    said-type v r nothing = refl
    said-type v r (value m read word alike) = same-type m.static_type read.type alike

    pub method-value : no_path ≡ spelled_alone → option_and_then (λ (read : Reads). on_type read.type) read_alone
        ≡ asked_instead reader locals (static_method_asked path name arity)
    method-value is =
        ap (λ rest. option_and_then (λ (read : Reads). on_type read.type)
        (names_read program reader locals path.first path.rest (left place locals path.first rest))) (sym (append-nil path.rest))
        ∙ said-type _ _ (names-say place locals path [])
        ∙ ap (method_instead reader locals path name arity) (is ∙ at-end)
