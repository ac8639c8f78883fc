-- The lists of faults hold the faults of files.
use Rattle.std.proofs.Common.{◌≡◌, ◌≢◌, ◌⊎◌, inl, inr, ◌↔◌, ℕ, zero, suc, ◌+◌, ◌==◌, Bool, true, false, ◌&&◌, ◌||◌, not, List, [], ◌∷◌, ◌++◌, length, filter, Option, Some, None, option_map, cond, Contains, flat_map, slice_get, refl, sym, ◌∙◌, ap, subst, arith, true≢false, eqb-true, eq-eqb}
use Rattle.std.specs.Bool.{Decides}
use Rattle.std.specs.List.{list_any, enumerate_from}
use Rattle.std.specs.Option.{option_flatten}
use Rattle.std.specs.Str.{bytes_eq}
use Rattle.std.specs.declared.cmp.Ordering.{Ordering}
use Rattle.std.proofs.lemmas.Bool.Decides.{Decides-like, Decides-not, Decides-and, Decides-or, Decides-ltb}
use Rattle.std.proofs.lemmas.Option.{slice_get-map}
use Rattle.std.proofs.lemmas.Slice.Eq.{bytes_eq-Decides}
use Rattle.mol_base.specs.Paths.{path_of}
use Rattle.jav_tree.specs.declared.types.TypeName.{TypeName}
use Rattle.jav_tree.specs.declared.unit.Member.{Member}
use Rattle.jav_tree.specs.declared.unit.Member.TheVariants as member
use Rattle.jav_names.specs.Ancestors.{Extends, IsAncestor, Leads}
use Rattle.jav_names.specs.DottedNames.{Name, dot, simple_name}
use Rattle.jav_names.specs.LookUps.{is_ancestor}
use Rattle.jav_names.specs.StaticTypes.{same_type}
use Rattle.jav_names.specs.UnitViews.{MemberKey, numbered, classes_of, superclass_of}
use Rattle.jav_names.specs.Views.{ViewType, class_type, IsKeyOrder, AreOrdered, View}
use Rattle.jav_names.proofs.AncestorsFound.{ancestors_known}
use Rattle.jav_names.proofs.EqualTypes.{types_compared}
use Rattle.jav_names.proofs.Lists.{stands_first, stands_later, stands_where, stands_nowhere, stands-mapped, list_any-decides}
use Rattle.jav_names.proofs.Ways.{same_key as keys-decide}
use Rattle.mol_resolve_rules.specs.FaultKinds.{FaultKind, every_kind, path_differs, duplicate_class, package_is_class, super_cycle, import_clash, duplicate_member, overload_by_type, result_differs, static_hidden, redeclared, unknown_name, unknown_member, static_by_instance, receiver_type}
use Rattle.mol_resolve_rules.specs.FaultLists.{begins_with, is_namesake, is_inside, do_clash, has_fault, same_types, same_kind, are_alike, take_as_many, are_in_order, take_the_same, differ_in_types, are_related, is_between, at_place, faults_between, faults_beside, faults_of}
use Rattle.mol_resolve_rules.specs.Files.{File, Files, HasFile, units, class_name, files_view, type_of_file}
use Rattle.mol_resolve_rules.specs.MemberFaults.{MemberKind, a_field, a_method, a_constructor, Row, HaveEqualTypes, AreInOrder, AreAlike, DifferInTypes, AreRelated, AreDuplicates, AreOverloads, DifferInResult, HidesStatic, IsBetween, row_of}
use Rattle.mol_resolve_rules.specs.Outcomes.{TreeFault}
use Rattle.mol_resolve_rules.specs.ReadFiles.{tree_faults}
use Rattle.mol_resolve_rules.specs.ResolveFaults.{BeginsWith, PathDiffers, DuplicateClass, PackageIsClass, ImportClash, Fails, rows_in, rows}
use Rattle.mol_resolve_rules.proofs.FilesStand.{some-same, files-ordered}
use Rattle.mol_resolve_rules.proofs.Stands.{in_front, behind, in_either, from_map, in_each, from_each, from_numbered, in_numbered}

-- ---- lists

module _ {X : Type 0} (p : X → Bool) where
  in_filter : (xs : List X) (x : X) → Contains xs x → p x ≡ true → Contains (filter p xs) x
  in_filter [] x stands is = absurd (stands_nowhere x stands)
  in_filter (z ∷ xs) x stands is = by (p z) refl (stands_where z x xs stands) (λ later. in_filter xs x later is) where
    by : (b : Bool) → p z ≡ b → (z ≡ x) ⊎ Contains xs x → (Contains xs x → Contains (filter p xs) x)
        → Contains (cond b (z ∷ filter p xs) (filter p xs)) x
    by true passes (inl same) more = subst (Contains (z ∷ filter p xs)) same (stands_first z (filter p xs))
    by true passes (inr later) more = stands_later z x (filter p xs) (more later)
    by false fails (inl same) more = absurd (true≢false (sym is ∙ ap p (sym same) ∙ fails))
    by false fails (inr later) more = more later

  from_filter : (xs : List X) (x : X) → Contains (filter p xs) x → p x ≡ true
  from_filter [] x stands = absurd (stands_nowhere x stands)
  from_filter (z ∷ xs) x stands = by (p z) refl stands (from_filter xs x) where
    by_place : p z ≡ true → (z ≡ x) ⊎ Contains (filter p xs) x → (Contains (filter p xs) x → p x ≡ true) → p x ≡ true
    by_place passes (inl same) more = ap p (sym same) ∙ passes
    by_place passes (inr later) more = more later

    by : (b : Bool) → p z ≡ b → Contains (cond b (z ∷ filter p xs) (filter p xs)) x → (Contains (filter p xs) x → p x ≡ true) → p x ≡ true
    by true passes here more = by_place passes (stands_where z x (filter p xs) here) more
    by false fails here more = more here

kind-stands : (kind : FaultKind) → Contains every_kind kind
kind-stands path_differs = (0, omega arith, refl)
kind-stands duplicate_class = (1, omega arith, refl)
kind-stands package_is_class = (2, omega arith, refl)
kind-stands super_cycle = (3, omega arith, refl)
kind-stands import_clash = (4, omega arith, refl)
kind-stands duplicate_member = (5, omega arith, refl)
kind-stands overload_by_type = (6, omega arith, refl)
kind-stands result_differs = (7, omega arith, refl)
kind-stands static_hidden = (8, omega arith, refl)
kind-stands redeclared = (9, omega arith, refl)
kind-stands unknown_name = (10, omega arith, refl)
kind-stands unknown_member = (11, omega arith, refl)
kind-stands static_by_instance = (12, omega arith, refl)
kind-stands receiver_type = (13, omega arith, refl)

-- ---- texts

head-same : {X : Type 0} {x y : X} {xs ys : List X} → x ∷ xs ≡ y ∷ ys → x ≡ y
head-same is = cc

tail-same : {X : Type 0} {x y : X} {xs ys : List X} → x ∷ xs ≡ y ∷ ys → xs ≡ ys
tail-same is = cc

begins : (text front : Name) → Decides (begins_with text front) (BeginsWith text front)
begins [] front = (λ is. absurd (true≢false (sym is)), λ is. absurd (nothing front is.rest is.is)) where
  nothing : (front rest : Name) → [] ≢ front ++ dot ∷ rest
  nothing [] rest is = cc
  nothing (byte ∷ front) rest is = cc
begins (byte ∷ text) [] = (
  λ is. record { rest = text; is = ap (λ b. b ∷ text) (eqb-true byte dot is) },
  λ begins. eq-eqb byte dot (head-same begins.is),
)
begins (byte ∷ text) (first ∷ front) = Decides-like (byte == first && begins_with text front)
    (λ both. record { rest = both.1.rest; is = λ i. both.0 i ∷ both.1.is i })
    (λ begins. (head-same begins.is, record { rest = begins.rest; is = tail-same begins.is }))
    (Decides-and (byte == first) (begins_with text front) (eqb-true byte first, eq-eqb byte first) (begins text front))

none-some : {A : Type 0} (a : A) → None ≢ Some a
none-some a is = cc

none-numbered : {X : Type 0} (n : ℕ) (xs : List X) (k : ℕ) → slice_get xs k ≡ None → slice_get (enumerate_from n xs) k ≡ None
none-numbered n [] k none = refl
none-numbered n (x ∷ xs) zero none = absurd cc
none-numbered n (x ∷ xs) (suc k) none = none-numbered (n + 1) xs k none

-- ---- two members

same_kind-Decides : (first second : MemberKind) → Decides (same_kind first second) (first ≡ second)
same_kind-Decides a_field a_field = (λ is. refl, λ same. refl)
same_kind-Decides a_method a_method = (λ is. refl, λ same. refl)
same_kind-Decides a_constructor a_constructor = (λ is. refl, λ same. refl)
same_kind-Decides a_field a_method = (λ is. absurd (true≢false (sym is)), λ same. absurd cc)
same_kind-Decides a_field a_constructor = (λ is. absurd (true≢false (sym is)), λ same. absurd cc)
same_kind-Decides a_method a_field = (λ is. absurd (true≢false (sym is)), λ same. absurd cc)
same_kind-Decides a_method a_constructor = (λ is. absurd (true≢false (sym is)), λ same. absurd cc)
same_kind-Decides a_constructor a_field = (λ is. absurd (true≢false (sym is)), λ same. absurd cc)
same_kind-Decides a_constructor a_method = (λ is. absurd (true≢false (sym is)), λ same. absurd cc)

module _ {C : Type 0} (cmp : C → C → Ordering) (order : IsKeyOrder cmp) where
  same_types-Decides : (first second : List (ViewType C)) → Decides (same_types cmp first second) (HaveEqualTypes first second)
  same_types-Decides [] [] = (λ is. tt, λ same. refl)
  same_types-Decides [] (second ∷ others) = (λ is. absurd (true≢false (sym is)), λ same. absurd same)
  same_types-Decides (first ∷ rest) [] = (λ is. absurd (true≢false (sym is)), λ same. absurd same)
  same_types-Decides (first ∷ rest) (second ∷ others) = Decides-and (same_type cmp first second) (same_types cmp rest others)
      ((types_compared C).tested cmp first second order) (same_types-Decides rest others)

module _ {C M : Type 0} (view : View C M) (ordered : AreOrdered view.classes) (first second : Row C) where
  alike : (kind : MemberKind) → Decides (are_alike kind first second) (AreAlike kind first second)
  alike kind = Decides-like (are_alike kind first second)
      (λ all. record { first_is = all.0; second_is = all.1.0; named = all.1.1 })
      (λ alike. (alike.first_is, (alike.second_is, alike.named)))
      (Decides-and (same_kind first.kind kind) (same_kind second.kind kind && bytes_eq first.name second.name)
      (same_kind-Decides first.kind kind)
      (Decides-and (same_kind second.kind kind) (bytes_eq first.name second.name) (same_kind-Decides second.kind kind)
      (bytes_eq-Decides first.name second.name)))

  in_order : Decides (are_in_order view first second) (AreInOrder first second)
  in_order = Decides-like (are_in_order view first second) (λ both. record { one_class = both.0; ordered = both.1 })
      (λ is. (is.one_class, is.ordered))
      (Decides-and _ _ (keys-decide ordered.order first.owner second.owner) (Decides-ltb first.place second.place))

  as_many : Decides (take_as_many first second) (length first.params ≡ length second.params)
  as_many = (eqb-true (length first.params) (length second.params), eq-eqb (length first.params) (length second.params))

  the_same : Decides (take_the_same view first second) (HaveEqualTypes first.params second.params)
  the_same = same_types-Decides view.classes.cmp ordered.order first.params second.params

  differ : Decides (differ_in_types view first second) (DifferInTypes first second)
  differ = Decides-like (differ_in_types view first second) (λ both. record { as_many = both.0; differ = both.1 })
      (λ is. (is.as_many, is.differ))
      (Decides-and (take_as_many first second) (not (take_the_same view first second)) as_many
      (Decides-not (take_the_same view first second) the_same))

  above : Decides (is_ancestor view second.owner first.owner) (IsAncestor view second.owner first.owner)
  above = (ancestors_known C M).tested view second.owner first.owner ordered

  related : Decides (are_related view first second) (AreRelated view first second)
  related = Decides-like (are_related view first second) (λ all. record { alike = all.0; as_many = all.1.0; placed = all.1.1 })
      (λ is. (is.alike, (is.as_many, is.placed)))
      (Decides-and (are_alike a_method first second)
      (take_as_many first second && (are_in_order view first second || is_ancestor view second.owner first.owner)) (alike a_method)
      (Decides-and (take_as_many first second) (are_in_order view first second || is_ancestor view second.owner first.owner) as_many
      (Decides-or (are_in_order view first second) (is_ancestor view second.owner first.owner) in_order above)))

  abbrev AreTwice : Type 0
  AreTwice = AreInOrder first second × (AreAlike a_field first second
      ⊎ ((AreAlike a_method first second ⊎ AreAlike a_constructor first second) × HaveEqualTypes first.params second.params))

  twice : AreTwice → AreDuplicates first second
  twice (order, inl fields) = AreDuplicates.fields order fields
  twice (order, inr (inl methods, types)) = AreDuplicates.methods order methods types
  twice (order, inr (inr constructors, types)) = AreDuplicates.constructors order constructors types

  from_twice : AreDuplicates first second → AreTwice
  from_twice (AreDuplicates.fields order fields) = (order, inl fields)
  from_twice (AreDuplicates.methods order methods types) = (order, inr (inl methods, types))
  from_twice (AreDuplicates.constructors order constructors types) = (order, inr (inr constructors, types))

  duplicates : Decides (is_between view first second duplicate_member) (AreDuplicates first second)
  duplicates = Decides-like (is_between view first second duplicate_member) twice from_twice
      (Decides-and (are_in_order view first second) _ in_order
      (Decides-or (are_alike a_field first second) _ (alike a_field)
      (Decides-and (are_alike a_method first second || are_alike a_constructor first second) (take_the_same view first second)
      (Decides-or (are_alike a_method first second) (are_alike a_constructor first second) (alike a_method)
      (alike a_constructor)) the_same)))

  abbrev AreApart : Type 0
  AreApart = (AreRelated view first second × DifferInTypes first second)
      ⊎ (AreInOrder first second × (AreAlike a_constructor first second × DifferInTypes first second))

  overloaded : AreApart → AreOverloads view first second
  overloaded (inl (related, differ)) = AreOverloads.methods related differ
  overloaded (inr (order, (alike, differ))) = AreOverloads.constructors order alike differ

  from_overloaded : AreOverloads view first second → AreApart
  from_overloaded (AreOverloads.methods related differ) = inl (related, differ)
  from_overloaded (AreOverloads.constructors order alike differ) = inr (order, (alike, differ))

  overloads : Decides (is_between view first second overload_by_type) (AreOverloads view first second)
  overloads = Decides-like (is_between view first second overload_by_type) overloaded from_overloaded
      (Decides-or (are_related view first second && differ_in_types view first second) _
      (Decides-and (are_related view first second) (differ_in_types view first second) related differ)
      (Decides-and (are_in_order view first second) _ in_order
      (Decides-and (are_alike a_constructor first second) (differ_in_types view first second) (alike a_constructor) differ)))

  results : Decides (is_between view first second result_differs) (DifferInResult view first second)
  results = Decides-like (is_between view first second result_differs) (λ both. record { related = both.0; differ = both.1 })
      (λ is. (is.related, is.differ))
      (Decides-and (are_related view first second) (not (same_type view.classes.cmp first.type second.type)) related
      (Decides-not (same_type view.classes.cmp first.type second.type)
      ((types_compared C).tested view.classes.cmp first.type second.type ordered.order)))

  true-Decides : (b : Bool) → Decides b (b ≡ true)
  true-Decides b = (λ is. is, λ is. is)

  hidden : Decides (is_between view first second static_hidden) (HidesStatic view first second)
  hidden = Decides-like (is_between view first second static_hidden)
      (λ all. record { related = all.0; above = all.1.0; static = all.1.1 }) (λ is. (is.related, (is.above, is.static)))
      (Decides-and (are_related view first second) _ related
      (Decides-and (is_ancestor view second.owner first.owner) (first.is_static || second.is_static) above
      (Decides-or first.is_static second.is_static (true-Decides first.is_static) (true-Decides second.is_static))))

  pub between-found : (kind : FaultKind) → is_between view first second kind ≡ true → IsBetween view kind first second
  between-found duplicate_member is = IsBetween.by_duplicate (duplicates.0 is)
  between-found overload_by_type is = IsBetween.by_types (overloads.0 is)
  between-found result_differs is = IsBetween.by_result (results.0 is)
  between-found static_hidden is = IsBetween.by_static (hidden.0 is)
  between-found kind is = absurd (true≢false (sym is))

  pub between-there : (kind : FaultKind) → IsBetween view kind first second → is_between view first second kind ≡ true
  between-there kind (IsBetween.by_duplicate is) = duplicates.1 is
  between-there kind (IsBetween.by_types is) = overloads.1 is
  between-there kind (IsBetween.by_result is) = results.1 is
  between-there kind (IsBetween.by_static is) = hidden.1 is

-- ---- classes

module _ (files : Files) (number : ℕ) (file : File) (stands : HasFile files number file) where
  paths : Decides (has_fault files (number, file) path_differs) (PathDiffers files number)
  paths = Decides-like _ (λ differs. record { file = file; stands = stands; differs = differs })
      (λ is. subst (λ (f : File). f.path ≢ path_of f.unit.«package» f.unit.class.name) (some-same (sym is.stands ∙ stands)) is.differs)
      (Decides-not (bytes_eq file.path (path_of file.unit.«package» file.unit.class.name))
      (bytes_eq-Decides file.path (path_of file.unit.«package» file.unit.class.name)))

  abbrev IsNamesake : ℕ × File → Type 0
  IsNamesake other = (¬ (number ≡ other.0)) × (class_name file ≡ class_name other.1)

  namesakes : Decides (has_fault files (number, file) duplicate_class) (DuplicateClass files number)
  namesakes = Decides-like _
      (λ found. record {
        file = file;
        other = found.0.1;
        second = found.0.0;
        apart = found.2.0;
        stands = stands;
        other_stands = from_numbered files found.0 found.1;
        same = found.2.1;
      })
      (λ is. (
        (is.second, is.other),
        in_numbered files is.second is.other is.other_stands,
        (is.apart, ap class_name (some-same (sym stands ∙ is.stands)) ∙ is.same),
      ))
      (list_any-decides IsNamesake (is_namesake (number, file))
      (λ other. Decides-and (not (number == other.0)) (bytes_eq (class_name file) (class_name other.1))
      (Decides-not (number == other.0) (eqb-true number other.0, eq-eqb number other.0))
      (bytes_eq-Decides (class_name file) (class_name other.1))) (numbered files))

  abbrev IsInside : File → Type 0
  IsInside other = (other.unit.«package» ≡ class_name file) ⊎ BeginsWith other.unit.«package» (class_name file)

  packages : Decides (has_fault files (number, file) package_is_class) (PackageIsClass files number)
  packages = Decides-like _
      (λ found. record { file = file; other = found.0; stands = stands; other_stands = found.1; inside = found.2 })
      (λ is. (
        is.other,
        is.other_stands,
        subst (λ (f : File).
            (is.other.unit.«package» ≡ class_name f) ⊎ BeginsWith is.other.unit.«package» (class_name f))
            (some-same (sym is.stands ∙ stands)) is.inside,
      ))
      (list_any-decides IsInside (is_inside (class_name file))
      (λ other. Decides-or (bytes_eq other.unit.«package» (class_name file)) (begins_with other.unit.«package» (class_name file))
      (bytes_eq-Decides other.unit.«package» (class_name file)) (begins other.unit.«package» (class_name file))) files)

  circles : Decides (has_fault files (number, file) super_cycle) (Leads (files_view files) number number)
  circles = (ancestors_known ℕ MemberKey).circles (files_view files) number (files-ordered files).classes

  abbrev DoClash : Name → Name → Type 0
  DoClash import other = (¬ (import ≡ other)) × (simple_name import ≡ simple_name other)

  abbrev ClashesSome : Name → Type 0
  ClashesSome import = (other : Name) × Contains (class_name file ∷ file.unit.imports) other × DoClash import other

  imported : (other : Name) → Contains (class_name file ∷ file.unit.imports) other
      → (other ≡ class_name file) ⊎ Contains file.unit.imports other
  imported other there = by (stands_where (class_name file) other file.unit.imports there) where
    by : (class_name file ≡ other) ⊎ Contains file.unit.imports other → (other ≡ class_name file) ⊎ Contains file.unit.imports other
    by (inl same) = inl (sym same)
    by (inr later) = inr later

  known : (other : Name) → (other ≡ class_name file) ⊎ Contains file.unit.imports other
      → Contains (class_name file ∷ file.unit.imports) other
  known other (inl same) = subst (Contains (class_name file ∷ file.unit.imports)) (sym same)
      (stands_first (class_name file) file.unit.imports)
  known other (inr later) = stands_later (class_name file) other file.unit.imports later

  from_clash : ImportClash files number → (import : Name) × Contains file.unit.imports import × ClashesSome import
  from_clash is =
      let same : is.file ≡ file = some-same (sym is.stands ∙ stands) in (
        is.import,
        subst (λ (f : File). Contains f.unit.imports is.import) same is.imported,
        (
          is.other,
          known is.other (subst (λ (f : File). (is.other ≡ class_name f) ⊎ Contains f.unit.imports is.other) same is.known),
          (is.apart, is.same),
        ),
      )

  imports : Decides (has_fault files (number, file) import_clash) (ImportClash files number)
  imports = Decides-like _
      (λ found. record {
        file = file;
        stands = stands;
        import = found.0;
        other = found.2.0;
        imported = found.1;
        known = imported found.2.0 found.2.1;
        apart = found.2.2.0;
        same = found.2.2.1;
      })
      from_clash
      (list_any-decides ClashesSome (λ import. list_any (do_clash import) (class_name file ∷ file.unit.imports))
      (λ import. list_any-decides (DoClash import) (do_clash import)
      (λ other. Decides-and (not (bytes_eq import other)) (bytes_eq (simple_name import) (simple_name other))
      (Decides-not (bytes_eq import other) (bytes_eq-Decides import other))
      (bytes_eq-Decides (simple_name import) (simple_name other))) (class_name file ∷ file.unit.imports)) file.unit.imports)

  class-found : (kind : FaultKind) → has_fault files (number, file) kind ≡ true → Fails files kind number 0
  class-found path_differs is = Fails.by_path (paths.0 is)
  class-found duplicate_class is = Fails.by_class (namesakes.0 is)
  class-found package_is_class is = Fails.by_package (packages.0 is)
  class-found super_cycle is = Fails.by_superclass (circles.0 is)
  class-found import_clash is = Fails.by_import (imports.0 is)
  class-found kind is = absurd (true≢false (sym is))

-- ---- all faults

module _ (files : Files) where
  abbrev FaultsOf : FaultKind → ℕ → ℕ → Type 0
  FaultsOf kind number at =
      (file : File) × (HasFile files number file × Contains (faults_of files (number, file)) (record { kind = kind; at = at }))

  abbrev of_classes : ℕ × File → List TreeFault
  of_classes file = at_place 0 (filter (has_fault files file) every_kind)

  abbrev of_members : ℕ × File → List TreeFault
  of_members file = flat_map (faults_beside files) (rows_in files file)

  -- a fault of its class
  class-there : (kind : FaultKind) (number : ℕ) (file : File) → HasFile files number file → has_fault files (number, file) kind ≡ true
      → FaultsOf kind number 0
  class-there kind number file stands is = (
    file,
    (
      stands,
      in_front (of_classes (number, file) ++ of_members (number, file)) (tree_faults files (number, file)) (record { kind = kind; at = 0 })
          (in_front (of_classes (number, file)) (of_members (number, file)) (record { kind = kind; at = 0 })
          (stands-mapped (λ kind. record { kind = kind; at = 0 }) (filter (has_fault files (number, file)) every_kind) kind
          (in_filter (has_fault files (number, file)) every_kind kind (kind-stands kind) is))),
    ),
  )

  -- the file of a class in a circle
  circle-file : (number : ℕ) → Leads (files_view files) number number → (file : File) × HasFile files number file
  circle-file number leads = extended (first-step leads) where
    first-step : Leads (files_view files) number number → (above : ℕ) × Extends (files_view files) number above
    first-step (Leads.last_step extends) = (number, extends)
    first-step (Leads.step {above = above} extends more) = (above, extends)

    extended : (above : ℕ) × Extends (files_view files) number above → (file : File) × HasFile files number file
    extended step = by (slice_get files number) refl where
      by : (o : Option File) → slice_get files number ≡ o → (file : File) × HasFile files number file
      by (Some file) is = (file, is)
      by None none =
          let no_unit : slice_get (units files) number ≡ None
          = slice_get-map (λ (f : File). f.unit) files number ∙ ap (option_map (λ (f : File). f.unit)) none in
          let nothing : (files_view files).superclass number ≡ None
          = ap option_flatten (slice_get-map (superclass_of (classes_of (units files))) (numbered (units files)) number
          ∙ ap (option_map (superclass_of (classes_of (units files)))) (none-numbered 0 (units files) number no_unit)) in
          absurd (none-some (class_type step.0) (sym nothing ∙ step.1.named))

  row-owner : (see : TypeName → ViewType ℕ) (class : ℕ) (m : ℕ × Member) → (row_of see class m).owner ≡ class
  row-owner see class (place, member.Field f) = refl
  row-owner see class (place, member.Method m) = refl
  row-owner see class (place, member.Ctor c) = refl

  owner-is : (file : ℕ × File) (row : Row ℕ) → Contains (rows_in files file) row → row.owner ≡ file.0
  owner-is file row stands =
      let of_member = from_map (row_of (type_of_file files file) file.0) (numbered file.1.unit.class.members) row stands in
      ap (λ (r : Row ℕ). r.owner) (sym of_member.2) ∙ row-owner (type_of_file files file) file.0 of_member.0

  -- a fault between members
  member-there : (kind : FaultKind) (first second : Row ℕ) → Contains (rows files) first → Contains (rows files) second
      → IsBetween (files_view files) kind first second → FaultsOf kind second.owner second.at
  member-there kind first second first-in second-in is =
      let of_file = from_each (rows_in files) (numbered files) second second-in in
      let fault : TreeFault = record { kind = kind; at = second.at } in
      let between : Contains (faults_between (files_view files) first second) fault
      = stands-mapped (λ kind. record { kind = kind; at = second.at }) (filter (is_between (files_view files) first second) every_kind) kind
      (in_filter (is_between (files_view files) first second) every_kind kind (kind-stands kind)
      (between-there (files_view files) (files-ordered files).classes first second kind is)) in
      let beside : Contains (faults_beside files second) fault
      = in_each (λ (r : Row ℕ). faults_between (files_view files) r second) (rows files) first fault first-in between in
      subst (λ number. FaultsOf kind number second.at) (sym (owner-is of_file.0 second of_file.2)) (
        of_file.0.1,
        (
          from_numbered files of_file.0 of_file.1,
          in_front (of_classes of_file.0 ++ of_members of_file.0) (tree_faults files of_file.0) fault
              (behind (of_classes of_file.0) (of_members of_file.0) fault
              (in_each (faults_beside files) (rows_in files of_file.0) second fault of_file.2 beside)),
        ),
      )

  to_lists : (kind : FaultKind) (number at : ℕ) → Fails files kind number at → FaultsOf kind number at
  to_lists kind number at (Fails.by_path is) = class-there path_differs number is.file is.stands
      ((paths files number is.file is.stands).1 is)
  to_lists kind number at (Fails.by_class is) = class-there duplicate_class number is.file is.stands
      ((namesakes files number is.file is.stands).1 is)
  to_lists kind number at (Fails.by_package is) = class-there package_is_class number is.file is.stands
      ((packages files number is.file is.stands).1 is)
  to_lists kind number at (Fails.by_superclass is) =
      let there = circle-file number is in class-there super_cycle number there.0 there.1 ((circles files number there.0 there.1).1 is)
  to_lists kind number at (Fails.by_import is) = class-there import_clash number is.file is.stands
      ((imports files number is.file is.stands).1 is)
  to_lists kind number at (Fails.between_members {first = first} {second = second} first-in second-in is) =
      member-there kind first second first-in second-in is
  to_lists kind number at (Fails.in_tree {file = file} stands is) = (
    file,
    (
      stands,
      behind (of_classes (number, file) ++ of_members (number, file)) (tree_faults files (number, file))
          (record { kind = kind; at = at }) is,
    ),
  )

  from_lists : (kind : FaultKind) (number at : ℕ) → FaultsOf kind number at → Fails files kind number at
  from_lists kind number at (file, (stands, listed)) =
      by (in_either (of_classes (number, file) ++ of_members (number, file)) (tree_faults files (number, file))
      (record { kind = kind; at = at }) listed) where
        by_class : Contains (of_classes (number, file)) (record { kind = kind; at = at }) → Fails files kind number at
        by_class there =
            let of_kind = from_map (λ kind. record { kind = kind; at = 0 }) (filter (has_fault files (number, file)) every_kind)
            (record { kind = kind; at = at }) there in
            subst (λ (f : TreeFault). Fails files f.kind number f.at) of_kind.2
            (class-found files number file stands of_kind.0 (from_filter (has_fault files (number, file)) every_kind of_kind.0 of_kind.1))

        by_member : Contains (of_members (number, file)) (record { kind = kind; at = at }) → Fails files kind number at
        by_member there =
            let of_second = from_each (faults_beside files) (rows_in files (number, file)) (record { kind = kind; at = at }) there in
            let second = of_second.0 in
            let of_first = from_each (λ (r : Row ℕ). faults_between (files_view files) r second) (rows files)
            (record { kind = kind; at = at })
            of_second.2 in
            let of_kind = from_map (λ kind. record { kind = kind; at = second.at })
            (filter (is_between (files_view files) of_first.0 second) every_kind) (record { kind = kind; at = at }) of_first.2 in
            let second-in : Contains (rows files) second
            = in_each (rows_in files) (numbered files) (number, file) second (in_numbered files number file stands) of_second.1 in
            let is : IsBetween (files_view files) of_kind.0 of_first.0 second
            = between-found (files_view files) (files-ordered files).classes of_first.0 second of_kind.0
            (from_filter (is_between (files_view files) of_first.0 second) every_kind of_kind.0 of_kind.1) in
            let owner : second.owner ≡ number = owner-is (number, file) second of_second.1 in
            subst (λ (f : TreeFault). Fails files f.kind number f.at) of_kind.2
            (subst (λ n. Fails files of_kind.0 n second.at) owner (Fails.between_members of_first.1 second-in is))

        by_front : Contains (of_classes (number, file)) (record { kind = kind; at = at })
            ⊎ Contains (of_members (number, file)) (record { kind = kind; at = at }) → Fails files kind number at
        by_front (inl there) = by_class there
        by_front (inr there) = by_member there

        by : Contains (of_classes (number, file) ++ of_members (number, file)) (record { kind = kind; at = at })
            ⊎ Contains (tree_faults files (number, file)) (record { kind = kind; at = at }) → Fails files kind number at
        by (inl front) = by_front (in_either (of_classes (number, file)) (of_members (number, file))
            (record { kind = kind; at = at }) front)
        by (inr there) = Fails.in_tree stands there

  pub listed : (kind : FaultKind) (number at : ℕ) → Fails files kind number at ↔ FaultsOf kind number at
  listed kind number at = (to_lists kind number at, from_lists kind number at)
