-- The view of a program is in the order of its keys.
use Rattle.std.proofs.Common.{◌≡◌, Bool, true, false, List, [], ◌∷◌, Option, Some, None, option_map, filter_map, if◌then◌else◌, refl, sym, ◌∙◌, ap, subst, Ordering, Less, Equal, Greater}
use Rattle.std.specs.Prelude.{T, ◌&&◌}
use Rattle.std.specs.FinMap.{FinMap, entries, entries_sorted, is_sorted}
use Rattle.std.specs.FinMap.Entries.{below_all}
use Rattle.std.specs.List.{AllByRecursion, cons_option}
use Rattle.std.specs.List.Sorted.{IsStrictlySortedBy}
use Rattle.std.specs.Ordering.{on, is_lt}
use Rattle.mol_base.specs.Order.{id_cmp, id_cmp-total, id_cmp-IsAntisymmetric}
use Rattle.mol_base.specs.declared.ident.Id.{Id}
use Rattle.mol_table_rules.specs.Program.{Program, living_at, owner_at}
use Rattle.mol_values_types.specs.declared.known.Known.{Known}
use Rattle.mol_values_types.specs.declared.known.Known.TheVariants as knowns
use Rattle.jav_names.specs.Views.{ViewClass, ViewField, ViewDeclaration, IsKeyOrder, IsOrdered}
use Rattle.mol_resolve_rules.specs.Laws.{ProgramsViewed}
use Rattle.mol_resolve_rules.specs.ProgramViews.{living_class, field_of, living_field, declaration_of, living_declaration, program_view}

id_cmp-IsKeyOrder : IsKeyOrder id_cmp
id_cmp-IsKeyOrder = record { total = id_cmp-total; same = id_cmp-IsAntisymmetric }

split : (a b : Bool) → T (a && b) → T a × T b
split true b h = (tt, h)
split false b h = absurd h

is-less : (o : Ordering) → T (is_lt o) → o ≡ Less
is-less Less h = refl
is-less Equal h = absurd h
is-less Greater h = absurd h

-- What is made of entries, each with the key of its entry, ascends as the entries do.
module _ {X Y : Type 0} (made : Id × X → Option Y) (key : Y → Id)
    (keyed : (entry : Id × X) (y : Y) → made entry ≡ Some y → key y ≡ entry.0) where
  above : (id : Id) (es : List (Id × X)) → T (below_all id_cmp id es) → AllByRecursion (λ y. id_cmp id (key y) ≡ Less) (filter_map made es)
  above id [] h = tt
  above id (e ∷ es) h =
      let parts = split (is_lt (id_cmp id e.0)) (below_all id_cmp id es) h in by_made (made e) refl parts.0 (above id es parts.1) where
        by_made : (o : Option Y) → made e ≡ o → T (is_lt (id_cmp id e.0))
            → AllByRecursion (λ y. id_cmp id (key y) ≡ Less) (filter_map made es)
            → AllByRecursion (λ y. id_cmp id (key y) ≡ Less) (cons_option o (filter_map made es))
        by_made None is less rest = rest
        by_made (Some y) is less rest = (ap (id_cmp id) (keyed e y is) ∙ is-less (id_cmp id e.0) less, rest)

  ascending : (es : List (Id × X)) → T (is_sorted id_cmp es) → IsStrictlySortedBy (on key id_cmp) (filter_map made es)
  unfolding IsStrictlySortedBy
  ascending [] h = tt
  ascending (e ∷ es) h =
      let parts = split (below_all id_cmp e.0 es) (is_sorted id_cmp es) h in by_made (made e) refl parts.0 (ascending es parts.1) where
        by_made : (o : Option Y) → made e ≡ o → T (below_all id_cmp e.0 es) → IsStrictlySortedBy (on key id_cmp) (filter_map made es)
            → IsStrictlySortedBy (on key id_cmp) (cons_option o (filter_map made es))
        by_made None is below up = up
        by_made (Some y) is below up = (
          subst (λ id. AllByRecursion (λ z. id_cmp id (key z) ≡ Less) (filter_map made es)) (sym (keyed e y is))
              (above e.0 es below),
          up,
        )

  pub made-ascend : (map : FinMap id_cmp X) → IsStrictlySortedBy (on key id_cmp) (filter_map made (entries map))
  made-ascend map = ascending (entries map) (entries_sorted map)

-- what is made where a test passes has the key of what is made
made-keyed : {Y : Type 0} (key : Y → Id) (x y : Y) → Some x ≡ Some y → key y ≡ key x
made-keyed key x y is = let same : x ≡ y = cc in ap key (sym same)

tested-keyed : {Y : Type 0} (key : Y → Id) (id : Id) (b : Bool) (o : Option Y) (y : Y) → ((x : Y) → o ≡ Some x → key x ≡ id)
    → (if b then o else None) ≡ Some y → key y ≡ id
tested-keyed key id true o y keyed is = keyed y is
tested-keyed key id false o y keyed is = absurd cc

mapped-keyed : {Y : Type 0} (key : Y → Id) (id : Id) (make : Id → Y) → ((owner : Id) → key (make owner) ≡ id) → (o : Option Id) (y : Y)
    → option_map make o ≡ Some y → key y ≡ id
mapped-keyed key id make keyed None y is = absurd cc
mapped-keyed key id make keyed (Some owner) y is = made-keyed key (make owner) y is ∙ keyed owner

module _ (program : Program) where
  class-keyed : (entry : Id × Known) (class : ViewClass Id) → living_class program entry ≡ Some class → class.key ≡ entry.0
  class-keyed (id, knowns.Class) class is =
      tested-keyed (λ (c : ViewClass Id). c.key) id (living_at program id) _ class (λ c. made-keyed (λ (c : ViewClass Id). c.key) _ c) is
  class-keyed (id, knowns.Method kind) class is = absurd cc
  class-keyed (id, knowns.Decl method) class is = absurd cc
  class-keyed (id, knowns.Field) class is = absurd cc
  class-keyed (id, knowns.Param method) class is = absurd cc

  field-keyed : (entry : Id × Known) (field : ViewField Id Id) → living_field program entry ≡ Some field → field.key ≡ entry.0
  field-keyed (id, knowns.Field) field is =
      tested-keyed (λ (f : ViewField Id Id). f.key) id (living_at program id) (option_map (field_of program id) (owner_at program id)) field
      (mapped-keyed (λ (f : ViewField Id Id). f.key) id (field_of program id) (λ owner. refl) (owner_at program id)) is
  field-keyed (id, knowns.Class) field is = absurd cc
  field-keyed (id, knowns.Method kind) field is = absurd cc
  field-keyed (id, knowns.Decl method) field is = absurd cc
  field-keyed (id, knowns.Param method) field is = absurd cc

  declaration-keyed : (entry : Id × Known) (declared : ViewDeclaration Id Id) → living_declaration program entry ≡ Some declared
      → declared.key ≡ entry.0
  declaration-keyed (id, knowns.Decl method) declared is =
      tested-keyed (λ (d : ViewDeclaration Id Id). d.key) id (living_at program id)
      (option_map (declaration_of program id method) (owner_at program id)) declared
      (mapped-keyed (λ (d : ViewDeclaration Id Id). d.key) id (declaration_of program id method) (λ owner. refl) (owner_at program id)) is
  declaration-keyed (id, knowns.Class) declared is = absurd cc
  declaration-keyed (id, knowns.Method kind) declared is = absurd cc
  declaration-keyed (id, knowns.Field) declared is = absurd cc
  declaration-keyed (id, knowns.Param method) declared is = absurd cc

ordered : (program : Program) → IsOrdered (program_view program)
ordered program = record {
  classes = record {
    order = id_cmp-IsKeyOrder;
    ascending = made-ascend (living_class program) (λ (c : ViewClass Id). c.key) (class-keyed program) program.known;
  };
  order = id_cmp-IsKeyOrder;
  fields = made-ascend (living_field program) (λ (f : ViewField Id Id). f.key) (field-keyed program) program.known;
  declarations = made-ascend (living_declaration program) (λ (d : ViewDeclaration Id Id). d.key) (declaration-keyed program) program.known;
}

pub programs_viewed : ProgramsViewed
programs_viewed = record { ordered = ordered }
