-- Which simple names stand for what in a file, and what it imports, where the names that it uses are given.
use Rattle.std.proofs.Common.{◌≡◌, true, false, List, [], ◌∷◌, filter_map, Option, Some, None, codes, refl, ap, sym, ◌∙◌, nat_cmp}
use Rattle.std.specs.List.Sorted.{IsStrictlySortedBy}
use Rattle.std.specs.Cmp.Lexicographic.{slice_cmp, nat_list_cmp_total}
use Rattle.std.specs.FinMap.{nat_cmp-IsAntisymmetric, slice_cmp-IsAntisymmetric}
use Rattle.mol_base.specs.Order.{id_cmp}
use Rattle.mol_base.specs.declared.ident.Id.{Id}
use Rattle.mol_spell_rules.specs.references.References.{Target, field_target, outside_target}
use Rattle.mol_table_rules.specs.Program.{Program, package_at, name_at}
use Rattle.mol_values_types.specs.declared.iexpr.IExpr.{IExpr}
use Rattle.mol_values_types.specs.declared.iexpr.IExpr.TheFolds.{fold-roll-IExpr}
use Rattle.mol_values_types.specs.declared.iexpr.IExpr.TheOpen.{IExpr-F}
use Rattle.mol_values_types.specs.declared.iexpr.IExpr.TheVariants as exprs
use Rattle.mol_values_types.specs.declared.itype.IType.TheVariants as itypes
use Rattle.std.specs.Option.{option_and_then}
use Rattle.jav_tree.specs.declared.expr.Expr.{Expr}
use Rattle.jav_tree.specs.declared.expr.ExprNode.TheVariants as node
use Rattle.jav_tree.specs.declared.types.TypeName.TheVariants as types
use Rattle.jav_names.specs.DottedNames.{Name}
use Rattle.jav_names.specs.Views.{class_type, static_method, View, IsKeyOrder}
use Rattle.mol_resolve_rules.proofs.ReadEquations.{reads-Name, reads-Dot}
use Rattle.mol_resolve_rules.specs.Locals.{no_locals}
use Rattle.mol_resolve_rules.specs.Readers.{Reader}
use Rattle.mol_resolve_rules.specs.ReadTrees.{Meant, Reading}
use Rattle.mol_resolve_rules.specs.StaticTypes.{class_of_only_declaration}
use Rattle.mol_spell_rules.proofs.ExampleRows.{base, int, class_in, field_in, method_in, in_class}
use Rattle.mol_spell_rules.proofs.SetItems.{set-is}
use Rattle.mol_spell_rules.proofs.SpelledEquations.{spelled-StaticCall, type-Imported}
use Rattle.mol_spell_rules.specs.Answers.{answer}
use Rattle.mol_spell_rules.specs.ReadInstead.{word_step, argument_step, word_target, asked_instead}
use Rattle.mol_spell_rules.specs.Sets.{as_set}
use Rattle.mol_spell_rules.specs.SimpleNames.{near_class, is_simple_by, import_of, imports_by}
use Rattle.mol_spell_rules.specs.SpelledExpressions.{made, name_tree, dot_tree, spelled_expr}
use Rattle.mol_spell_rules.specs.SpelledTypes.{spelled_type}
use Rattle.mol_spell_rules.specs.Writers.{Importable, program_class, outside_import, Writer, hides_none, Use, importable_use, type_asked, static_field_asked, static_method_asked}

-- ---- sets of no name and of one

names-IsKeyOrder : IsKeyOrder (slice_cmp nat_cmp)
names-IsKeyOrder = record { total = nat_list_cmp_total; same = slice_cmp-IsAntisymmetric nat_cmp-IsAntisymmetric }

set-none : as_set (slice_cmp nat_cmp) [] ≡ []
unfolding IsStrictlySortedBy
set-none = set-is (slice_cmp nat_cmp) names-IsKeyOrder [] [] tt (λ x. (λ h. h, λ h. h))

pub set-one : (name : Name) → as_set (slice_cmp nat_cmp) (name ∷ []) ≡ name ∷ []
unfolding IsStrictlySortedBy
set-one name = set-is (slice_cmp nat_cmp) names-IsKeyOrder (name ∷ []) (name ∷ []) (tt, tt) (λ x. (λ h. h, λ h. h))

-- ---- a file with these uses

-- A use where nothing hides the name.
abbrev used : Importable → Use
used what = importable_use what false

module _ (program : Program) where
  -- `Cart` renamed to `Basket` and moved to `store`: the file of `Till` (`:3`) uses it beside `Desk` (`:2`), a class of its package
  module _ (basket : name_at program (base 1) ≡ codes "Basket") (packed : package_at program (base 1) ≡ codes "store")
      (desk : name_at program (base 2) ≡ codes "Desk") (near : near_class program (base 3) (codes "Basket") ≡ None)
      (desk_near : near_class program (base 3) (codes "Desk") ≡ Some (base 2)) where
    abbrev in_till : List Use
    in_till = used (program_class (base 2)) ∷ used (program_class (base 1)) ∷ []

    basket-simple : is_simple_by program (base 3) in_till (program_class (base 1)) ≡ true
    basket-simple = simp (basket, near, desk) refl

    basket-imported : imports_by program (base 3) in_till ≡ codes "store.Basket" ∷ []
    basket-imported = ap (as_set (slice_cmp nat_cmp)) is ∙ set-one (codes "store.Basket") where
      is : filter_map (import_of program (base 3) in_till) in_till ≡ codes "store.Basket" ∷ []
      is = simp (basket, desk, near, desk_near, packed) refl

  -- a class `q.Date` (`:1`) and the imported `java.util.Date`, both used in a file of the package `p`: neither is simple
  module _ (date : name_at program (base 1) ≡ codes "Date") (near : near_class program (base 2) (codes "Date") ≡ None) where
    abbrev two_dates : List Use
    two_dates = used (outside_import (codes "java.util.Date")) ∷ used (program_class (base 1)) ∷ []

    class-in-full : is_simple_by program (base 2) two_dates (program_class (base 1)) ≡ false
    class-in-full = simp (date, near) refl

    import-in-full : is_simple_by program (base 2) two_dates (outside_import (codes "java.util.Date")) ≡ false
    import-in-full = simp (near, date) refl

    none-imported : imports_by program (base 2) two_dates ≡ []
    none-imported = ap (as_set (slice_cmp nat_cmp)) is ∙ set-none where
      is : filter_map (import_of program (base 2) two_dates) two_dates ≡ []
      is = simp (near, date) refl

    -- where its simple name is hidden at each use, it is simple, and not imported
    hidden-not-imported : imports_by program (base 2) (importable_use (program_class (base 1)) true ∷ []) ≡ []
    hidden-not-imported = set-none

  -- `imported a` and `imported a.b` with the rest `C`, where a class `b` (`:1`) is near: `import a;`, `a x;`, `a.b.C y;`
  module _ (named : name_at program (base 1) ≡ codes "b") (no_class : near_class program (base 2) (codes "a") ≡ None)
      (class_near : near_class program (base 2) (codes "b") ≡ Some (base 1)) where
    abbrev one_part : List Use
    one_part = used (outside_import (codes "a")) ∷ used (outside_import (codes "a.b")) ∷ []

    abbrev in_file : Reader Id Id → Writer
    in_file reader = record { program = program; reader = reader; is_simple = is_simple_by program (base 2) one_part }

    a-imported : imports_by program (base 2) one_part ≡ codes "a" ∷ []
    a-imported = ap (as_set (slice_cmp nat_cmp)) is ∙ set-one (codes "a") where
      is : filter_map (import_of program (base 2) one_part) one_part ≡ codes "a" ∷ []
      is = simp (no_class, class_near) refl

    x-written : (reader : Reader Id Id)
        → (spelled_type (in_file reader) hides_none no_locals (itypes.Imported (codes "a") [])).tree
        ≡ types.Named (codes "a")
    x-written reader = ap (λ part. part.tree)
        (type-Imported (in_file reader) hides_none no_locals (codes "a") []) ∙ simp (no_class) refl

    y-written : (reader : Reader Id Id)
        → (spelled_type (in_file reader) hides_none no_locals (itypes.Imported (codes "a.b") (codes "C"))).tree
        ≡ types.Named (codes "a.b.C")
    y-written reader = ap (λ part. part.tree)
        (type-Imported (in_file reader) hides_none no_locals (codes "a.b") (codes "C")) ∙ simp (class_near) refl

-- so written, the second type reads as what it is
abbrev with_b : View Id Id
with_b = record {
  classes = record { cmp = id_cmp; items = class_in 1 "p" "b" ∷ class_in 2 "p" "U" ∷ [] };
  member_cmp = id_cmp;
  fields = [];
  declarations = [];
  superclass = λ class. None;
}

abbrev beside_b : Reader Id Id
beside_b = record (in_class with_b (class_in 2 "p" "U")) {
  header = record { own = Some (class_in 2 "p" "U"); «package» = codes "p"; imports = codes "a" ∷ [] };
}

y-answered : answer beside_b no_locals (type_asked (codes "a.b.C")) ≡ Some (outside_target (codes "a.b.C"))
y-answered = refl

-- ---- two classes `X`, in `a` and `b`, both used in `p.U`, under a parameter `a`

abbrev two_xs : View Id Id
two_xs = record {
  classes = record { cmp = id_cmp; items = class_in 1 "a" "X" ∷ class_in 2 "b" "X" ∷ class_in 3 "p" "U" ∷ [] };
  member_cmp = id_cmp;
  fields = [];
  declarations = method_in 4 1 "m" 0 static_method int ∷ method_in 5 2 "m" 0 static_method int ∷ [];
  superclass = λ class. None;
}

abbrev under_a : Reader Id Id
under_a = record (in_class two_xs (class_in 3 "p" "U")) { params = record { name = codes "a"; type = int; id = base 10 } ∷ [] }

module _ (program : Program) (first : name_at program (base 1) ≡ codes "X") (second : name_at program (base 2) ≡ codes "X")
    (packed : package_at program (base 1) ≡ codes "a") (near : near_class program (base 3) (codes "X") ≡ None)
    (named : name_at program (base 7) ≡ codes "m") (owned : class_of_only_declaration program (base 7) ≡ Some (base 1)) where
  abbrev both_used : List Use
  both_used = used (program_class (base 1)) ∷ used (program_class (base 2)) ∷ []

  abbrev in_u : Writer
  in_u = record { program = program; reader = under_a; is_simple = is_simple_by program (base 3) both_used }

  -- neither has the simple name, so `X.m()` of the first is written `a.X.m()`
  call-written : (spelled_expr in_u no_locals (exprs.StaticCall (base 7) [])).tree
      ≡ made (node.Call (Some (dot_tree (name_tree (codes "a")) (codes "X"))) (codes "m") [])
  call-written = ap (λ part. part.tree) (spelled-StaticCall in_u no_locals (base 7) [] [] refl)
      ∙ simp (named, owned, first, near, second, packed) refl

-- there `a` is the parameter, so it reads as nothing
call-answered : answer under_a no_locals (static_method_asked (record { first = codes "a"; rest = codes "X" ∷ [] }) (codes "m") 0) ≡ None
call-answered = refl

-- ---- a class that has the name of a package

-- `q.B extends p.A`, where `q` has a class `p`: `p.A` reads as nothing
abbrev class_p : View Id Id
class_p = record {
  classes = record { cmp = id_cmp; items = class_in 1 "p" "A" ∷ class_in 2 "q" "A" ∷ class_in 3 "q" "B" ∷ class_in 4 "q" "p" ∷ [] };
  member_cmp = id_cmp;
  fields = [];
  declarations = [];
  superclass = λ class. None;
}

superclass-answered : answer (in_class class_p (class_in 3 "q" "B")) no_locals (type_asked (codes "p.A")) ≡ None
superclass-answered = refl

-- ---- through the class

-- In `q.C` with a parameter `D p`, the field `f` (`:4`) of `p.C`, which is no static one, is written `p.C.f`. By the parameter and its
-- field `C`, of the type `p.C`, that is `f`, and through the class it is nothing.
abbrev through_class : View Id Id
through_class = record {
  classes = record { cmp = id_cmp; items = class_in 1 "p" "C" ∷ class_in 2 "q" "C" ∷ class_in 3 "q" "D" ∷ [] };
  member_cmp = id_cmp;
  fields = field_in (base 4) 1 "f" ∷ record (field_in (base 6) 3 "C") { type = class_type (base 1) } ∷ [];
  declarations = [];
  superclass = λ class. None;
}

abbrev with_p : Reader Id Id
with_p = record (in_class through_class (class_in 2 "q" "C")) {
  params = record { name = codes "p"; type = class_type (base 3); id = base 8 } ∷ [];
}

f-answered : answer with_p no_locals (static_field_asked (record { first = codes "p"; rest = codes "C" ∷ [] }) (codes "f") []) ≡ None
f-answered = refl

-- read as any names are, it is that field
abbrev whole : Expr
whole = dot_tree (dot_tree (name_tree (codes "p")) (codes "C")) (codes "f")

word-Field : (field : Id) (e : IExpr) → word_target (exprs.Field field e) ≡ Some (field_target field)
word-Field field e = ap word_target (sym (exprs.rolls-Field field e))
    ∙ fold-roll-IExpr (Option Target) (Option Target) word_step argument_step (IExpr-F.Field field e)

f-instead : asked_instead with_p no_locals (static_field_asked (record { first = codes "p"; rest = codes "C" ∷ [] }) (codes "f") [])
    ≡ Some (field_target (base 4))
f-instead =
    ap (λ (part : Reading Id). option_and_then (λ (value : Meant Id). word_target value.tree) (part.means no_locals (Some [])).value)
    (reads-Dot with_p 0 (dot_tree (name_tree (codes "p")) (codes "C")) (codes "f") _
    (reads-Dot with_p 0 (name_tree (codes "p")) (codes "C") _ (reads-Name with_p 0 (codes "p"))))
    ∙ word-Field (base 4) (exprs.Field (base 6) (exprs.Param (base 8)))
