-- A class of a program's view is one that lives.
use Rattle.std.proofs.Common.{◌≡◌, Bool, true, false, ◌&&◌, cond, List, [], ◌∷◌, Option, Some, None, Contains, refl, sym, ◌∙◌, ap, subst}
use Rattle.std.specs.FinMap.{get, entries, find, get-entries}
use Rattle.std.specs.Option.{option_and_then}
use Rattle.std.specs.Ordering.{eq_by_cmp}
use Rattle.std.proofs.lemmas.Bool.Decides.{same_from_decides}
use Rattle.std.proofs.lemmas.List.Elements.{All-contains, All-from_recursion}
use Rattle.jav_names.proofs.Lists.{stands_first, stands_later}
use Rattle.jav_names.proofs.Ways.{has_class-decides}
use Rattle.jav_names.specs.Ancestors.{HasClass}
use Rattle.jav_scope.specs.Answers.{answered}
use Rattle.jav_scope.specs.declared.found.Found.TheVariants as answer
use Rattle.jav_names.specs.LookUps.{has_class, class_in, found_or}
use Rattle.jav_names.specs.Views.{class_type, ViewClass, AreOrdered}
use Rattle.mol_base.specs.Order.{id_cmp, id_cmp-total, id_cmp-IsAntisymmetric}
use Rattle.mol_base.specs.declared.ident.Id.{Id}
use Rattle.mol_resolve_rules.proofs.ProgramsViewed.{programs_viewed}
use Rattle.mol_resolve_rules.proofs.Stands.{in_some, from_some}
use Rattle.mol_resolve_rules.specs.ProgramReaders.{class_at}
use Rattle.mol_resolve_rules.specs.ProgramViews.{living_class, program_view}
use Rattle.mol_table_rules.proofs.Counts.{each_found}
use Rattle.mol_table_rules.proofs.Living.{id_tied}
use Rattle.mol_table_rules.specs.Program.{Program, living_at}
use Rattle.mol_table_rules.specs.Renumber.{is_class, is_living_class}
use Rattle.mol_values_types.specs.declared.known.Known.{Known}
use Rattle.mol_values_types.specs.declared.known.Known.TheVariants as knowns
use Rattle.mol_scope_classes.specs.classes.ClassEntries.{class_as}

-- ---- entries

each-known : (program : Program) (entry : Id × Known) → Contains (entries program.known) entry → get program.known entry.0 ≡ Some entry.1
each-known program entry stands = All-contains (λ (e : Id × Known). get program.known e.0 ≡ Some e.1) (entries program.known) entry
    (All-from_recursion (λ (e : Id × Known). get program.known e.0 ≡ Some e.1) (entries program.known)
    (each_found id_cmp-total id_cmp-IsAntisymmetric program.known)) stands

found-stands : (es : List (Id × Known)) (id : Id) (known : Known) → find id_cmp id es ≡ Some known → Contains es (id, known)
found-stands [] id known is = absurd cc
found-stands (e ∷ es) id known is = by (eq_by_cmp id_cmp id e.0) refl is (found-stands es id known) where
  by : (b : Bool) → eq_by_cmp id_cmp id e.0 ≡ b → cond b (Some e.1) (find id_cmp id es) ≡ Some known
      → (find id_cmp id es ≡ Some known → Contains es (id, known)) → Contains (e ∷ es) (id, known)
  by true tied is more =
      let what : e.1 ≡ known = cc in
      subst (Contains (e ∷ es)) (λ i. (sym (id_tied id e.0 tied) i, what i)) (stands_first e es)
  by false tied is more = stands_later e (id, known) es (more is)

entry-stands : (program : Program) (id : Id) (known : Known) → get program.known id ≡ Some known
    → Contains (entries program.known) (id, known)
entry-stands program id known is = found-stands (entries program.known) id known (sym (get-entries program.known id) ∙ is)

-- ---- classes

-- a class, if it is one that lives
pub class_at-is : (program : Program) (id : Id) → class_at program id ≡ cond (is_living_class program id) (Some (class_as program id)) None
class_at-is program id = by (get program.known id) where
  by : (o : Option Known) → option_and_then (λ (known : Known). living_class program (id, known)) o
      ≡ cond (is_class o && living_at program id) (Some (class_as program id)) None
  by None = refl
  by (Some knowns.Class) = refl
  by (Some (knowns.Method kind)) = refl
  by (Some (knowns.Decl method)) = refl
  by (Some knowns.Field) = refl
  by (Some (knowns.Param method)) = refl

module _ (program : Program) (key : Id) where
  classes-ordered : AreOrdered (program_view program).classes
  classes-ordered = (programs_viewed.ordered program).classes

  stands-if-lives : is_living_class program key ≡ true → HasClass (program_view program).classes key
  stands-if-lives lives = by (get program.known key) refl where
    at : class_at program key ≡ Some (class_as program key)
    at = class_at-is program key ∙ ap (λ b. cond b (Some (class_as program key)) None) lives

    by : (o : Option Known) → get program.known key ≡ o → HasClass (program_view program).classes key
    by None is =
        let none : None ≡ Some (class_as program key) =
        sym (ap (option_and_then (λ (known : Known). living_class program (key, known))) is) ∙ at in absurd cc
    by (Some known) is = record {
      class = class_as program key;
      stands = in_some (living_class program) (entries program.known) (key, known) (class_as program key)
          (entry-stands program key known is)
          (sym (ap (option_and_then (λ (k : Known). living_class program (key, k))) is) ∙ at);
      is = refl;
    }

  lives-if-stands : HasClass (program_view program).classes key → is_living_class program key ≡ true
  lives-if-stands has =
      let from = from_some (living_class program) (entries program.known) has.class has.stands in
      let known = each-known program from.0 from.1 in
      by from.0.0 (is_living_class program from.0.0) refl (
      sym (class_at-is program from.0.0)
      ∙ ap (option_and_then (λ (k : Known). living_class program (from.0.0, k))) known ∙ from.2
      ) where
        by : (id : Id) (b : Bool) → is_living_class program id ≡ b → cond b (Some (class_as program id)) None ≡ Some has.class
            → is_living_class program key ≡ true
        by id true lives is =
            let same : class_as program id ≡ has.class = cc in
            subst (λ k. is_living_class program k ≡ true) (ap (λ (c : ViewClass Id). c.key) same ∙ has.is) lives
        by id false lives is = absurd cc

  pub has-is : has_class (program_view program).classes key ≡ is_living_class program key
  has-is = same_from_decides (has_class (program_view program).classes key) (is_living_class program key)
      (has_class-decides (program_view program).classes classes-ordered key) (stands-if-lives, lives-if-stands)

  -- a class that is extended is found where it lives
  pub extended-class : answered (λ (class : Id). class) (found_or (class_in (program_view program).classes (Some (class_type key))) false)
      ≡ cond (is_living_class program key) (answer.Found key) answer.NotFound
  extended-class = ap (λ b. answered (λ (class : Id). class) (found_or (cond b (Some key) None) false)) has-is
      ∙ by (is_living_class program key) where
        by : (b : Bool) → answered (λ (class : Id). class) (found_or (cond b (Some key) None) false)
            ≡ cond b (answer.Found key) answer.NotFound
        by true = refl
        by false = refl
