-- A member that is printed after a value, `this` or its class, and that reads as its target, is read as a word that says it.
use Rattle.std.proofs.Common.{◌≡◌, ℕ, suc, ◌≤◌, ◌==◌, nat_lt, Bool, true, false, [], ◌∷◌, ◌++◌, length, Option, Some, None, option_map, Contains, if◌then◌else◌, refl, sym, ◌∙◌, ap, subst, arith, eqb-true}
use Rattle.std.proofs.lemmas.Bool.{ltb-true, ltb-false}
use Rattle.std.proofs.lemmas.List.{append_assoc, append-nil, length-append}
use Rattle.jav_tree.specs.declared.expr.Expr.{Expr}
use Rattle.jav_tree.specs.declared.expr.ExprNode.TheVariants as node
use Rattle.jav_names.specs.DottedNames.{Name, Names, Dotted}
use Rattle.jav_names.specs.Leftmost.{Leftmost, leftmost_variable, leftmost_class, leftmost_import, leftmost_outside}
use Rattle.jav_names.specs.LookUps.{leftmost, field_on, field_through}
use Rattle.jav_names.specs.OnValues.{StaticType, class_value, OnValue, member, static_member, outside_member, missing_member, has_no_members, unread_member}
use Rattle.jav_names.specs.StaticTypes.{outside_field}
use Rattle.jav_names.specs.Views.{ViewField}
use Rattle.jav_names.proofs.FoundNames.{names_stand}
use Rattle.jav_names.proofs.NamesAnswered.{names_answered}
use Rattle.std.proofs.Common.{inl}
use Rattle.mol_base.specs.declared.ident.Id.{Id}
use Rattle.mol_spell_rules.specs.references.References.{field_target, outside_target}
use Rattle.mol_resolve_rules.proofs.ReadEquations.{reads-This, reads-Name, reads-Dot}
use Rattle.mol_resolve_rules.specs.Locals.{Locals}
use Rattle.mol_resolve_rules.specs.Outcomes.{Outcome, fine, silent}
use Rattle.mol_resolve_rules.specs.Readers.{Reader, place_of}
use Rattle.mol_resolve_rules.specs.ReadTrees.{Meant, Mode, followers, before, Reading, ClassPath, whole_path, front_path, no_path, path_by, longer, path_of, name_before, static_field_meant, field_meant, dot_meant, reading}
use Rattle.mol_resolve_rules.specs.Says.{NamesField, as_own, as_static, Says, one_field, in_field, in_outside_field}
use Rattle.mol_resolve_rules.specs.StaticTypes.{field_value}
use Rattle.mol_values_types.specs.declared.iexpr.IExpr.{IExpr}
use Rattle.mol_values_types.specs.declared.iexpr.IExpr.TheVariants as exprs
use Rattle.mol_spell_rules.proofs.NamesBack.{answered-by, view-ordered, never-this, value_of, IsBack}
use Rattle.mol_spell_rules.specs.Answers.{field_of, field_through_answer, on_value_answer}
use Rattle.mol_spell_rules.specs.ReadBack.{SeesProgram}
use Rattle.mol_spell_rules.specs.SpelledExpressions.{made, name_tree, dot_tree, dots_tree, names_tree}
use Rattle.mol_spell_rules.specs.Writers.{Writer}

module _ (writer : Writer) (sees : SeesProgram writer) (locals : Locals Id) where
  abbrev reader : Reader Id Id
  reader = writer.reader

  -- ---- a value is no part of the name of a class

  -- Where a tree before these names means something, it is neither a class nor the front of its name.
  abbrev pub IsApart : Reading Id → Type 0
  IsApart r = (follow : Names) (v : Meant Id) → r.means locals (Some follow) ≡ fine v → path_of reader locals r.names follow ≡ no_path

  -- what is nothing but names is
  pub nameless-apart : (r : Reading Id) → r.names ≡ None → IsApart r
  nameless-apart r none follow v is = ap (λ (names : Option Dotted). path_of reader locals names follow) none

  silent-fine : (v : Meant Id) → silent ≡ fine v → ⊥
  silent-fine v is = let no : None ≡ Some v = ap (λ (o : Outcome (Meant Id)). o.value) is in absurd cc

  pub name-apart : (name : Name) → IsApart (reading reader (name_tree name))
  name-apart name = subst IsApart (sym (reads-Name reader 0 name)) (λ follow v is.
      by (leftmost reader.view (place_of reader locals) name follow) v is) where
        by : (l : Leftmost Id Id) (v : Meant Id) → name_before reader name locals l ≡ fine v → path_by 1 l ≡ no_path
        by (leftmost_variable x) v is = refl
        by (leftmost_class class count) v is = absurd (silent-fine v is)
        by (leftmost_import import) v is = refl
        by leftmost_outside v is = refl

  -- so many names, or more of them
  more-apart : (count : ℕ) (l : Leftmost Id Id) (n : Name) (follow : Names) (value : Outcome (Meant Id)) (v : Meant Id)
      → dot_meant reader 0 n (Some follow) value (path_by count l) ≡ fine v → path_by (suc count) l ≡ no_path
  more-apart count (leftmost_variable x) n follow value v is = refl
  more-apart count (leftmost_import import) n follow value v is = refl
  more-apart count leftmost_outside n follow value v is = refl
  more-apart count (leftmost_class class spelling) n follow value v is =
      by (spelling == count) (nat_lt count spelling) refl refl is where
        at_most : spelling ≤ count → (if spelling == suc count then whole_path class
            else if nat_lt (suc count) spelling then front_path else no_path) ≡ no_path
        at_most upper = tests (spelling == suc count) (nat_lt (suc count) spelling) refl refl where
          tests : (a b : Bool) → (spelling == suc count) ≡ a → nat_lt (suc count) spelling ≡ b
              → (if a then whole_path class else if b then front_path else no_path) ≡ no_path
          tests false false is-a is-b = refl
          tests true b is-a is-b = absurd (omega (arith, upper, eqb-true spelling (suc count) is-a))
          tests false true is-a is-b = absurd (omega (arith, upper, ltb-true (suc count) spelling is-b))

        by : (a b : Bool) → (spelling == count) ≡ a → nat_lt count spelling ≡ b
            → dot_meant reader 0 n (Some follow) value (if a then whole_path class else if b then front_path else no_path) ≡ fine v
            → (if spelling == suc count then whole_path class else if nat_lt (suc count) spelling then front_path else no_path) ≡ no_path
        by true b is-a is-b is = at_most (omega (arith, eqb-true spelling count is-a))
        by false true is-a is-b is = absurd (silent-fine v is)
        by false false is-a is-b is = at_most (ltb-false count spelling is-b)

  longer-apart : (names : Option Dotted) (n : Name) (follow : Names) (value : Outcome (Meant Id)) (v : Meant Id)
      → dot_meant reader 0 n (Some follow) value (path_of reader locals names (n ∷ follow)) ≡ fine v
      → path_of reader locals (longer n names) follow ≡ no_path
  longer-apart None n follow value v is = refl
  longer-apart (Some dotted) n follow value v is =
      let l = leftmost reader.view (place_of reader locals) dotted.first (dotted.rest ++ (n ∷ follow)) in
      let same : leftmost reader.view (place_of reader locals) dotted.first ((dotted.rest ++ n ∷ []) ++ follow) ≡ l
      = ap (leftmost reader.view (place_of reader locals) dotted.first) (append_assoc dotted.rest (n ∷ []) follow) in
      let longer_by : suc (length (dotted.rest ++ n ∷ [])) ≡ suc (suc (length dotted.rest))
      = ap suc (length-append dotted.rest (n ∷ []) ∙ omega arith) in
      (λ i. path_by (longer_by i) (same i)) ∙ more-apart (suc (length dotted.rest)) l n follow value v is

  pub dot-apart : (tree : Expr) (n : Name) → IsApart (reading reader (dot_tree tree n))
  dot-apart tree n = subst IsApart (sym (reads-Dot reader 0 tree n (reading reader tree) refl)) (λ follow v is.
      longer-apart (reading reader tree).names n follow ((reading reader tree).means locals (before n (Some follow))) v is)

  -- ---- after a value

  pub dot-reads : (tree : Expr) (n : Name) (mode : Mode) (v : Meant Id)
      → (reading reader tree).means locals (before n mode) ≡ fine v → IsApart (reading reader tree)
      → (reading reader (dot_tree tree n)).means locals mode ≡ field_meant reader 0 n v (field_on reader.view n v.static_type)
  dot-reads tree n mode v is apart =
      ap (λ (r : Reading Id). r.means locals mode) (reads-Dot reader 0 tree n (reading reader tree) refl)
      ∙ (λ i. dot_meant reader 0 n mode (is i) (apart (n ∷ followers mode) v is i))

  on-field-stands : (name : Name) (type : StaticType Id) (field : ViewField Id Id) → field_on reader.view name type ≡ member field
      → Contains reader.view.fields field
  on-field-stands name type field found = ((names_stand Id Id).fields_on reader.view name type field
      (inl (answered-by ((names_answered Id Id).fields_on reader.view name type (view-ordered writer sees)) (member field) found))).2.stands

  -- a field after a value that is not `this`
  pub value-field-back : (name : Name) (field : Id) (said e : IExpr) (type : StaticType Id) → Says said e
      → on_value_answer reader name (field_of reader) (field_on reader.view name type) ≡ Some (field_target field)
      → IsBack writer sees locals (field_meant reader 0 name (value_of writer sees locals said false type) (field_on reader.view name type))
      false (field_value writer.program field) (exprs.Field field e)
  value-field-back name field said e type says is = by (field_on reader.view name type) refl is where
    by : (o : OnValue (ViewField Id Id)) → field_on reader.view name type ≡ o
        → on_value_answer reader name (field_of reader) o ≡ Some (field_target field)
        → IsBack writer sees locals (field_meant reader 0 name (value_of writer sees locals said false type) o)
        false (field_value writer.program field) (exprs.Field field e)
    by (member here) found is =
        let same : reader.ids.member_id here.key ≡ field = cc in (
          exprs.Field (reader.ids.member_id here.key) said,
          ap (λ type. fine (value_of writer sees locals (exprs.Field (reader.ids.member_id here.key) said) false type))
              (sees.fields here (on-field-stands name type here found) ∙ ap (field_value writer.program) same),
          subst (λ field. Says (exprs.Field (reader.ids.member_id here.key) said) (exprs.Field field e)) same (in_field says),
          never-this,
        )
    by (static_member here) found is = absurd cc
    by outside_member found is = absurd cc
    by missing_member found is = absurd cc
    by has_no_members found is = absurd cc
    by unread_member found is = absurd cc

  -- a field outside, after any value
  pub outside-field-back : (name : Name) (said e : IExpr) (is_this : Bool) (type : StaticType Id) → Says said e
      → on_value_answer reader name (field_of reader) (field_on reader.view name type) ≡ Some (outside_target name)
      → IsBack writer sees locals
      (field_meant reader 0 name (value_of writer sees locals said is_this type) (field_on reader.view name type))
      false (outside_field type name) (exprs.OutsideField name e)
  outside-field-back name said e is_this type says is = by (field_on reader.view name type) is where
    by : (o : OnValue (ViewField Id Id)) → on_value_answer reader name (field_of reader) o ≡ Some (outside_target name)
        → IsBack writer sees locals (field_meant reader 0 name (value_of writer sees locals said is_this type) o)
        false (outside_field type name) (exprs.OutsideField name e)
    by (member here) is = absurd cc
    by (static_member here) is = absurd cc
    by outside_member is = (exprs.OutsideField name said, refl, in_outside_field says, never-this)
    by missing_member is = absurd cc
    by has_no_members is = absurd cc
    by unread_member is = absurd cc

  -- ---- after `this`

  pub this-field-back : (name : Name) (mode : Mode) (field : Id) (e : IExpr) → NamesField field e
      → on_value_answer reader name (field_of reader) (field_on reader.view name (class_value reader.class)) ≡ Some (field_target field)
      → IsBack writer sees locals ((reading reader (dot_tree (made node.This) name)).means locals mode) false
      (field_value writer.program field) e
  this-field-back name mode field e names is =
      subst (λ (r : Reading Id). IsBack writer sees locals (r.means locals mode) false (field_value writer.program field) e)
      (sym (reads-Dot reader 0 (made node.This) name _ (reads-This reader 0)))
      (by (field_on reader.view name (class_value reader.class)) refl is) where
        itself : Meant Id
        itself = record { tree = exprs.This; is_this = true; static_type = class_value reader.class }

        by : (o : OnValue (ViewField Id Id)) → field_on reader.view name (class_value reader.class) ≡ o
            → on_value_answer reader name (field_of reader) o ≡ Some (field_target field)
            → IsBack writer sees locals (field_meant reader 0 name itself o) false (field_value writer.program field) e
        by (member here) found is =
            let same : reader.ids.member_id here.key ≡ field = cc in (
              exprs.Own (reader.ids.member_id here.key),
              ap (λ type. fine (value_of writer sees locals (exprs.Own (reader.ids.member_id here.key)) false type))
                  (sees.fields here (on-field-stands name (class_value reader.class) here found) ∙ ap (field_value writer.program) same),
              subst (λ field. NamesField field e → Says (exprs.Own (reader.ids.member_id here.key)) e) same
                  (λ names. one_field as_own names) names,
              never-this,
            )
        by (static_member here) found is = absurd cc
        by outside_member found is = absurd cc
        by missing_member found is = absurd cc
        by has_no_members found is = absurd cc
        by unread_member found is = absurd cc

  -- ---- after a class

  dots-names : (tree : Expr) (first : Name) (rest more : Names)
      → (reading reader tree).names ≡ Some (record { first = first; rest = rest })
      → (reading reader (dots_tree tree more)).names ≡ Some (record { first = first; rest = rest ++ more })
  dots-names tree first rest [] is = is ∙ ap (λ rest. Some (record { first = first; rest = rest })) (sym (append-nil rest))
  dots-names tree first rest (name ∷ more) is =
      dots-names (dot_tree tree name) first (rest ++ name ∷ []) more
      (ap (λ (r : Reading Id). r.names) (reads-Dot reader 0 tree name (reading reader tree) refl) ∙ ap (longer name) is)
      ∙ ap (λ rest. Some (record { first = first; rest = rest })) (append_assoc rest (name ∷ []) more)

  pub names-of : (names : Dotted) → (reading reader (names_tree names)).names ≡ Some names
  names-of names = dots-names (name_tree names.first) names.first [] names.rest
      (ap (λ (r : Reading Id). r.names) (reads-Name reader 0 names.first))

  through-stands : (class : Id) (name : Name) (field : ViewField Id Id) → field_through reader.view class name ≡ Some field
      → Contains reader.view.fields field
  through-stands class name field found = ((names_stand Id Id).static_fields reader.view class name field
      (answered-by ((names_answered Id Id).static_fields reader.view class name (view-ordered writer sees)) (Some field) found)).stands

  pub class-field-back : (path : Dotted) (name : Name) (mode : Mode) (field : Id) (e : IExpr) → NamesField field e
      → field_through_answer reader name (path_of reader locals (Some path) (name ∷ followers mode)) ≡ Some (field_target field)
      → IsBack writer sees locals ((reading reader (dot_tree (names_tree path) name)).means locals mode) false
      (field_value writer.program field) e
  class-field-back path name mode field e names is =
      subst (λ (r : Reading Id). IsBack writer sees locals (r.means locals mode) false (field_value writer.program field) e)
      (sym (reads-Dot reader 0 (names_tree path) name (reading reader (names_tree path)) refl))
      (subst (λ (o : Option Dotted). IsBack writer sees locals
      (dot_meant reader 0 name mode value (path_of reader locals o (name ∷ followers mode))) false (field_value writer.program field) e)
      (sym (names-of path)) (by (path_of reader locals (Some path) (name ∷ followers mode)) is)) where
        value : Outcome (Meant Id)
        value = (reading reader (names_tree path)).means locals (before name mode)

        found-by : (class : Id) (o : Option (ViewField Id Id)) → field_through reader.view class name ≡ o
            → option_map (field_of reader) o ≡ Some (field_target field)
            → IsBack writer sees locals (static_field_meant reader 0 o) false (field_value writer.program field) e
        found-by class None found is = absurd cc
        found-by class (Some here) found is =
            let same : reader.ids.member_id here.key ≡ field = cc in (
              exprs.StaticField (reader.ids.member_id here.key),
              ap (λ type. fine (value_of writer sees locals (exprs.StaticField (reader.ids.member_id here.key)) false type))
                  (sees.fields here (through-stands class name here found) ∙ ap (field_value writer.program) same),
              subst (λ field. NamesField field e → Says (exprs.StaticField (reader.ids.member_id here.key)) e) same
                  (λ names. one_field as_static names) names,
              never-this,
            )

        by : (path : ClassPath Id) → field_through_answer reader name path ≡ Some (field_target field)
            → IsBack writer sees locals (dot_meant reader 0 name mode value path) false (field_value writer.program field) e
        by (whole_path class) is = found-by class (field_through reader.view class name) refl is
        by front_path is = absurd cc
        by no_path is = absurd cc
