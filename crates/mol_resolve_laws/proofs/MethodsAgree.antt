-- Where files have no fault, the declarations of a method have its kind, and a static method and a constructor have one declaration.
use Rattle.std.proofs.Common.{◌≡◌, ◌≢◌, ◌⊎◌, inl, inr, ℕ, ◌<◌, ◌≤◌, Bool, true, false, if◌then◌else◌, length, Some, Contains, refl, sym, ◌∙◌, ap, subst, arith}
use Rattle.std.proofs.lemmas.Bool.{cases_lt}
use Rattle.std.specs.Prelude.{IsTrue}
use Rattle.std.proofs.lemmas.List.{length-map}
use Rattle.jav_tree.specs.declared.types.TypeName.{TypeName}
use Rattle.jav_tree.specs.declared.unit.Member.{Member}
use Rattle.jav_tree.specs.declared.unit.Member.TheVariants as member
use Rattle.jav_tree.specs.declared.unit.Unit.{Unit as Source}
use Rattle.jav_names.proofs.Lists.{stands-mapped}
use Rattle.jav_names.specs.Ancestors.{IsAncestor, HasNoCircle}
use Rattle.jav_names.specs.UnitViews.{MemberKey, numbered, classes_of, declaration_in}
use Rattle.jav_names.specs.Views.{ViewType, DeclarationKind, instance_method, static_method, constructor, ViewDeclaration, Classes}
use Rattle.jav_names.specs.LookUps.{is_constructor}
use Rattle.mol_resolve_rules.proofs.FilesStand.{StandsAt, some-same, files-ordered, stands-found, declaration-made}
use Rattle.mol_resolve_rules.proofs.OneMethod.{topmost-below}
use Rattle.mol_resolve_rules.proofs.Stands.{in_each, in_numbered}
use Rattle.mol_resolve_rules.specs.Expected.{kind_of}
use Rattle.mol_resolve_rules.specs.FaultKinds.{duplicate_member, overload_by_type, static_hidden, super_cycle}
use Rattle.mol_resolve_rules.specs.Files.{Files, units, files_view, type_of_file, declaration_at}
use Rattle.mol_resolve_rules.specs.MemberFaults.{a_method, Row, row_of, HaveEqualTypes, AreInOrder, AreAlike, AreDuplicates, AreOverloads, by_duplicate, by_types, by_static}
use Rattle.mol_resolve_rules.specs.Numbering.{topmost}
use Rattle.mol_resolve_rules.specs.ReadAs.{HasNoFault}
use Rattle.mol_resolve_rules.specs.ResolveFaults.{rows_in, rows, between_members, by_superclass}

module _ (files : Files) (no_fault : HasNoFault files) where
  abbrev Declaration : Type 0
  Declaration = ViewDeclaration ℕ MemberKey

  pub no_circle : HasNoCircle (files_view files)
  no_circle class leads = no_fault super_cycle class 0 (by_superclass leads)

  -- ---- the row of a method's declaration

  record IsRow (declared : Declaration) (row : Row ℕ) : Type 0 where
    stands : Contains (rows files) row
    owner : row.owner ≡ declared.owner
    place : row.place ≡ declared.key.member
    unit : declared.owner ≡ declared.key.unit
    kind : row.kind ≡ a_method
    named : row.name ≡ declared.name
    many : length row.params ≡ declared.arity
    static : declared.kind ≡ static_method → IsTrue row.is_static

  in-rows : (key : MemberKey) (at : StandsAt files key)
      → Contains (rows files) (row_of (type_of_file files (key.unit, at.file)) key.unit (key.member, at.member))
  in-rows key at = in_each (rows_in files) (numbered files) (key.unit, at.file) _
      (in_numbered files key.unit at.file at.in_files)
      (stands-mapped (row_of (type_of_file files (key.unit, at.file)) key.unit) (numbered at.file.unit.class.members)
      (key.member, at.member)
      (in_numbered at.file.unit.class.members key.member at.member at.in_class))

  -- what is in a row and in a declaration alike
  record AreAlikeRow (declared : Declaration) (key : MemberKey) (row : Row ℕ) : Type 0 where
    owner : row.owner ≡ declared.owner
    place : row.place ≡ declared.key.member
    unit : declared.owner ≡ declared.key.unit
    kind : row.kind ≡ a_method
    named : row.name ≡ declared.name
    many : length row.params ≡ declared.arity
    static : declared.kind ≡ static_method → IsTrue row.is_static

  static-if : (b : Bool) → (if b then static_method else instance_method) ≡ static_method → b ≡ true
  static-if true is = refl
  static-if false is = absurd cc

  made-row : (see : TypeName → ViewType ℕ) (classes : Classes ℕ) (unit : ℕ × Source) (number : ℕ) (m : Member) (declared : Declaration)
      → declaration_in classes unit (number, m) ≡ Some declared → declared.kind ≢ constructor
      → AreAlikeRow declared (record { unit = unit.0; member = number }) (row_of see unit.0 (number, m))
  made-row see classes unit number (member.Field f) declared is differs = absurd cc
  made-row see classes unit number (member.Method m) declared is differs =
      subst (λ (d : Declaration). AreAlikeRow d (record { unit = unit.0; member = number }) (row_of see unit.0 (number, member.Method m)))
      (some-same is) (record {
        owner = refl;
        place = refl;
        unit = refl;
        kind = refl;
        named = refl;
        many = length-map m.params _;
        static = static-if m.is_static;
      })
  made-row see classes unit number (member.Ctor c) declared is differs =
      absurd (differs (ap (λ (d : Declaration). d.kind) (sym (some-same is))))

  method-row : (declared : Declaration) → Contains (files_view files).declarations declared → declared.kind ≢ constructor
      → (row : Row ℕ) × IsRow declared row
  method-row declared stands differs =
      let made = declaration-made files declared stands in
      let see = type_of_file files (declared.key.unit, made.at.file) in
      let alike = made-row see (classes_of (units files)) (declared.key.unit, made.at.file.unit) declared.key.member made.at.member declared
      made.made differs in (
        row_of see declared.key.unit (declared.key.member, made.at.member),
        record {
          stands = in-rows declared.key made.at;
          owner = alike.owner;
          place = alike.place;
          unit = alike.unit;
          kind = alike.kind;
          named = alike.named;
          many = alike.many;
          static = alike.static;
        },
      )

  -- ---- two declarations of one name and number of parameters

  module _ (first second : Declaration) (row other : Row ℕ) (of_first : IsRow first row) (of_second : IsRow second other)
      (named : first.name ≡ second.name) (many : first.arity ≡ second.arity) where
    alike : AreAlike a_method row other
    alike = record {
      first_is = of_first.kind;
      second_is = of_second.kind;
      named = of_first.named ∙ named ∙ sym of_second.named;
    }

    as_many : length row.params ≡ length other.params
    as_many = of_first.many ∙ many ∙ sym of_second.many

    -- they do not stand one after the other in a class
    never-after : first.owner ≡ second.owner → ¬ (first.key.member < second.key.member)
    never-after one less = differ-not (λ equal. no_fault duplicate_member other.owner other.at
        (between_members of_first.stands of_second.stands (by_duplicate (AreDuplicates.methods ordered alike equal)))) where
          ordered : AreInOrder row other
          ordered = record {
            one_class = of_first.owner ∙ one ∙ sym of_second.owner;
            ordered = let here = of_first.place in let there = of_second.place in omega (arith, less, here, there);
          }

          differ-not : ¬ HaveEqualTypes row.params other.params → ⊥
          differ-not differ = no_fault overload_by_type other.owner other.at
              (between_members of_first.stands of_second.stands (by_types (AreOverloads.methods
              (record { alike = alike; as_many = as_many; placed = inl ordered }) (record { as_many = as_many; differ = differ }))))

    -- and where one stands above the other, none is static
    never-static : IsAncestor (files_view files) second.owner first.owner → ¬ (IsTrue row.is_static ⊎ IsTrue other.is_static)
    never-static above static =
        let up = subst (λ c. IsAncestor (files_view files) c row.owner) (sym of_second.owner)
        (subst (IsAncestor (files_view files) second.owner) (sym of_first.owner) above) in
        no_fault static_hidden other.owner other.at
        (between_members of_first.stands of_second.stands (by_static (record {
          related = record { alike = alike; as_many = as_many; placed = inr up };
          above = up;
          static = static;
        })))

  -- ---- a declaration and the topmost one

  abbrev topmost_of : Declaration → Declaration
  topmost_of = topmost (files_view files)

  equal-numbers : (a b : ℕ) → ¬ (a < b) → ¬ (b < a) → a ≡ b
  equal-numbers a b no-less no-more = by (cases_lt a b) (cases_lt b a) where
    by : (a < b) ⊎ (b ≤ a) → (b < a) ⊎ (a ≤ b) → a ≡ b
    by (inl less) other = absurd (no-less less)
    by first (inl more) = absurd (no-more more)
    by (inr down) (inr up) = omega (arith, down, up)

  -- in one class it is the declaration itself
  same-class : (declared top : Declaration) → Contains (files_view files).declarations declared
      → Contains (files_view files).declarations top → declared.kind ≢ constructor → top.kind ≢ constructor
      → top.name ≡ declared.name → top.arity ≡ declared.arity → top.owner ≡ declared.owner → top ≡ declared
  same-class declared top stands stands-top method method-top named many one =
      let row = method-row declared stands method in
      let other = method-row top stands-top method-top in
      let unit : top.key.unit ≡ declared.key.unit = sym other.1.unit ∙ one ∙ row.1.unit in
      let number : top.key.member ≡ declared.key.member
      = equal-numbers top.key.member declared.key.member
      (never-after top declared other.0 row.0 other.1 row.1 named many one)
      (never-after declared top row.0 other.0 row.1 other.1 (sym named) (sym many) (sym one)) in
      some-same (sym (stands-found files top stands-top)
      ∙ (λ i. declaration_at (files_view files) (record { unit = unit i; member = number i })) ∙ stands-found files declared stands)

  pub record TopmostIs (declared : Declaration) : Type 0 where
    pub kind : kind_of (topmost_of declared).kind ≡ kind_of declared.kind
    pub single : declared.kind ≢ instance_method → topmost_of declared ≡ declared
    pub takes : (topmost_of declared).arity ≡ declared.arity
    pub stands : Contains (files_view files).declarations (topmost_of declared)

  not-instance : (kind : DeclarationKind) → kind ≢ static_method → kind ≢ constructor → kind ≡ instance_method
  not-instance instance_method static of = refl
  not-instance static_method static of = absurd (static refl)
  not-instance constructor static of = absurd (of refl)

  of-method : (declared : Declaration) → Contains (files_view files).declarations declared → declared.kind ≢ constructor
      → TopmostIs declared
  of-method declared stands method =
      let below = topmost-below (files_view files) (files-ordered files) no_circle declared stands method in
      by below.stands below.is_method.is_method below.is_method.named below.is_method.takes below.owned where
        top : Declaration
        top = topmost_of declared

        by : Contains (files_view files).declarations top → top.kind ≢ constructor → top.name ≡ declared.name → top.arity ≡ declared.arity
            → (top.owner ≡ declared.owner) ⊎ IsAncestor (files_view files) declared.owner top.owner → TopmostIs declared
        by stands-top method-top named many (inl one) =
            let same = same-class declared top stands stands-top method method-top named many one in
            record {
              kind = ap (λ (d : Declaration). kind_of d.kind) same;
              single = λ differs. same;
              takes = many;
              stands = stands-top;
            }
        by stands-top method-top named many (inr above) =
            let row = method-row declared stands method in
            let other = method-row top stands-top method-top in
            let never = never-static top declared other.0 row.0 other.1 row.1 named many above in
            let is : declared.kind ≡ instance_method = not-instance declared.kind (λ static. never (inr (row.1.static static))) method in
            let is-top : top.kind ≡ instance_method = not-instance top.kind (λ static. never (inl (other.1.static static))) method-top in
            record {
              kind = ap kind_of (is-top ∙ sym is);
              single = λ differs. absurd (differs is);
              takes = many;
              stands = stands-top;
            }

  of-constructor : (declared : Declaration) → Contains (files_view files).declarations declared → declared.kind ≡ constructor
      → TopmostIs declared
  of-constructor declared stands is =
      let same : topmost_of declared ≡ declared = rw (ap is_constructor is) refl in
      record {
        kind = ap (λ (d : Declaration). kind_of d.kind) same;
        single = λ differs. same;
        takes = ap (λ (d : Declaration). d.arity) same;
        stands = subst (Contains (files_view files).declarations) (sym same) stands;
      }

  pub topmost-is : (declared : Declaration) → Contains (files_view files).declarations declared → TopmostIs declared
  topmost-is declared stands = by declared.kind refl where
    by : (kind : DeclarationKind) → declared.kind ≡ kind → TopmostIs declared
    by constructor is = of-constructor declared stands is
    by instance_method is = of-method declared stands (λ no. absurd (let both : instance_method ≡ constructor = sym is ∙ no in cc))
    by static_method is = of-method declared stands (λ no. absurd (let both : static_method ≡ constructor = sym is ∙ no in cc))
