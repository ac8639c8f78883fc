-- The topmost declarations of methods: they are members, and each has its place.
use Rattle.std.proofs.Common.{◌≡◌, ℕ, suc, ◌<◌, ◌==◌, Bool, true, false, if◌then◌else◌, List, [], ◌∷◌, map, length, get_or, Option, Some, None, unwrap_or, Contains, refl, sym, ◌∙◌, ap, true≢false, eqb-true, eq-eqb}
use Rattle.std.specs.Option.{option_map_or}
use Rattle.std.proofs.lemmas.Bool.{false_from_ne_true}
use Rattle.std.proofs.lemmas.List.{get_or-map, length-map}
use Rattle.std.proofs.lemmas.List.FromFn.{length-map-range_with_len}
use Rattle.std.proofs.lemmas.List.Sums.{passes_at_first}
use Rattle.jav_tree.specs.declared.unit.Ctor.{Ctor}
use Rattle.jav_tree.specs.declared.unit.Field.{Field}
use Rattle.jav_tree.specs.declared.unit.Member.{Member}
use Rattle.jav_tree.specs.declared.unit.Member.TheVariants as member
use Rattle.jav_tree.specs.declared.unit.Method.{Method}
use Rattle.jav_names.specs.LookUps.{is_constructor, way}
use Rattle.jav_names.specs.TypeTexts.{type_in}
use Rattle.jav_names.specs.UnitViews.{MemberKey, declaration_in, header_of}
use Rattle.jav_names.specs.Views.{void_type, instance_method, static_method, constructor, ViewDeclaration, View, IsOrdered}
use Rattle.jav_names.proofs.UnitsViewed.{units_viewed}
use Rattle.jav_scope.specs.Entries.{classes_in, units_of, view_in}
use Rattle.jav_scope.specs.declared.source.SourceUnit.{SourceUnit}
use Rattle.mol_resolve_members.proofs.places_lemmas.OrderPlaces.{position-inside}
use Rattle.mol_resolve_rules.specs.Files.{declaration_at}
use Rattle.mol_resolve_rules.specs.Numbering.{below, numbered_in_method, numbered_method, numbered_param, same_key, topmost}
use Rattle.mol_resolve_rules.proofs.NumbersApart.{key-is, key-self}
use Rattle.mol_resolve_members.specs.numbers.Given.{given, given_at}
use Rattle.mol_resolve_members.specs.numbers.Members.{IsMember, keys_of, place_of}
use Rattle.mol_resolve_members.specs.numbers.Tops.{top_key, tops_of}
use Rattle.mol_resolve_members.specs.numbers.Ways.{last_along}
use Rattle.mol_resolve_members.proofs.numbers_lemmas.OnWays.{along-found}
use Rattle.mol_resolve_members.proofs.numbers_lemmas.MemberKeys.{declared-in, found-there, made-there}

abbrev Declaration : Type 0
Declaration = ViewDeclaration ℕ MemberKey

module _ (sources : List SourceUnit) where
  abbrev view : View ℕ MemberKey
  view = view_in sources

  ordered : IsOrdered view
  ordered = units_viewed.ordered (units_of sources)

  -- ---- places

  pub place-inside : (key : MemberKey) → Contains (keys_of sources) key → place_of sources key < length (keys_of sources)
  place-inside key stands = position-inside (same_key key) (keys_of sources) key stands (key-self key)

  pub key-at : (key d : MemberKey) → Contains (keys_of sources) key → get_or (keys_of sources) (place_of sources key) d ≡ key
  key-at key d stands = sym (key-is key (get_or (keys_of sources) (place_of sources key) d)
      (passes_at_first (same_key key) (keys_of sources) d (place-inside key stands)))

  -- keys of one place are one
  pub same-place : (first second : MemberKey) → Contains (keys_of sources) first → Contains (keys_of sources) second
      → (place_of sources first == place_of sources second) ≡ same_key first second
  same-place first second in_first in_second = by (same_key first second) refl where
    by : (b : Bool) → same_key first second ≡ b → (place_of sources first == place_of sources second) ≡ b
    by true same = eq-eqb (place_of sources first) (place_of sources second) (ap (place_of sources) (key-is first second same))
    by false apart = false_from_ne_true (place_of sources first == place_of sources second) (λ same.
        let one : first ≡ second =
        sym (key-at first first in_first)
        ∙ ap (λ place. get_or (keys_of sources) place first) (eqb-true (place_of sources first) (place_of sources second) same)
        ∙ key-at second first in_second in
        true≢false (sym (key-self second) ∙ ap (λ key. same_key key second) (sym one) ∙ apart))

  -- ---- topmost declarations

  pub topmost-stands : (declared : Declaration) → Contains view.declarations declared → Contains view.declarations (topmost view declared)
  topmost-stands declared stands = by (is_constructor declared.kind) where
    last : Option Declaration
    last = last_along view declared.name declared.arity (way view declared.owner)

    found : (o : Option Declaration) → last ≡ o → Contains view.declarations (unwrap_or o declared)
    found None is = stands
    found (Some top) is = (along-found view ordered declared.name declared.arity _ top is).stands

    by : (b : Bool) → Contains view.declarations (if b then declared else unwrap_or last declared)
    by true = stands
    by false = found last refl

  pub topmost-takes : (declared : Declaration) → (topmost view declared).arity ≡ declared.arity
  topmost-takes declared = by (is_constructor declared.kind) where
    last : Option Declaration
    last = last_along view declared.name declared.arity (way view declared.owner)

    found : (o : Option Declaration) → last ≡ o → (unwrap_or o declared).arity ≡ declared.arity
    found None is = refl
    found (Some top) is = (along-found view ordered declared.name declared.arity _ top is).method.takes

    by : (b : Bool) → (if b then declared else unwrap_or last declared).arity ≡ declared.arity
    by true = refl
    by false = found last refl

  pub top-in : (key : MemberKey) → Contains (keys_of sources) key → Contains (keys_of sources) (top_key view key)
  top-in key stands = by (declaration_at view key) refl where
    by : (o : Option Declaration) → declaration_at view key ≡ o
        → Contains (keys_of sources) (option_map_or (λ (declared : Declaration). (topmost view declared).key) o key)
    by None is = stands
    by (Some declared) is =
        declared-in sources (topmost view declared) (topmost-stands declared (found-there sources key declared is).0)

  -- ---- the list of their places

  pub tops-length : (tops : List ℕ) → tops ≡ tops_of sources → length tops ≡ length (keys_of sources)
  tops-length tops are = ap length are ∙ length-map (keys_of sources) (λ key. place_of sources (top_key view key))

  pub top-there : (tops : List ℕ) → tops ≡ tops_of sources → (key : MemberKey) → Contains (keys_of sources) key → (place d : ℕ)
      → place ≡ place_of sources key → get_or tops place d ≡ place_of sources (top_key view key)
  top-there tops are key stands place d is =
      ap (λ (all : List ℕ). get_or all place d) are ∙ ap (λ place. get_or (tops_of sources) place d) is
      ∙ get_or-map (λ key. place_of sources (top_key view key)) (keys_of sources) (place_of sources key) key d (place-inside key stands)
      ∙ ap (λ key. place_of sources (top_key view key)) (key-at key key stands)

  -- ---- of each kind of member

  abbrev key_at : ℕ → ℕ → MemberKey
  key_at unit number = record { unit = unit; member = number }

  abbrev top_of : MemberKey → Option Declaration → MemberKey
  top_of key found = option_map_or (λ (declared : Declaration). (topmost view declared).key) found key

  module _ (unit number : ℕ) where
    pub top-of-field : (field : Field) → IsMember sources (key_at unit number) (member.Field field)
        → top_key view (key_at unit number) ≡ key_at unit number
    top-of-field field is = ap (top_of (key_at unit number)) (made-there sources (key_at unit number) (member.Field field) is)

    pub top-of-constructor : (declared : Ctor) → IsMember sources (key_at unit number) (member.Ctor declared)
        → top_key view (key_at unit number) ≡ key_at unit number
    top-of-constructor declared is =
        ap (top_of (key_at unit number)) (made-there sources (key_at unit number) (member.Ctor declared) is)

    no-constructor : (b : Bool) → is_constructor (if b then static_method else instance_method) ≡ false
    no-constructor true = refl
    no-constructor false = refl

    top-of-declared : (declared : Declaration) → is_constructor declared.kind ≡ false
        → (topmost view declared).key ≡ option_map_or (λ (last : Declaration). last.key)
        (last_along view declared.name declared.arity (way view declared.owner)) declared.key
    top-of-declared declared not =
        ap (λ b. (if b then declared else unwrap_or last declared).key) not ∙ by last where
          last : Option Declaration
          last = last_along view declared.name declared.arity (way view declared.owner)

          by : (o : Option Declaration) → (unwrap_or o declared).key ≡ option_map_or (λ (last : Declaration). last.key) o declared.key
          by None = refl
          by (Some top) = refl

    pub top-of-method : (method : Method) → IsMember sources (key_at unit number) (member.Method method)
        → top_key view (key_at unit number) ≡ option_map_or (λ (last : Declaration). last.key)
        (last_along view method.name (length method.params) (way view unit)) (key_at unit number)
    top-of-method method is =
        ap (top_of (key_at unit number)) (made-there sources (key_at unit number) (member.Method method) is)
        ∙ top-of-declared (record {
          key = key_at unit number;
          owner = unit;
          name = method.name;
          arity = length method.params;
          kind = if method.is_static then static_method else instance_method;
          result = type_in (classes_in sources) (header_of (unit, is.source.unit)) method.result;
        }) (no-constructor method.is_static)

    -- ---- numbers that are given

    in-method : (declared : Declaration) → length (numbered_in_method view declared)
        ≡ (if same_key (topmost view declared).key declared.key then suc declared.arity else 0)
    in-method declared = by (same_key (topmost view declared).key declared.key) where
      by : (b : Bool)
          → length (if b then numbered_method declared.key ∷ map (numbered_param declared.key) (below declared.arity) else [])
          ≡ (if b then suc declared.arity else 0)
      by true = ap (λ n. suc n) (length-map-range_with_len (numbered_param declared.key) 0 declared.arity)
      by false = refl

    pub given-is : (kept : Member) → IsMember sources (key_at unit number) kept
        → given kept (same_key (top_key view (key_at unit number)) (key_at unit number)) ≡ given_at view (key_at unit number)
    given-is kept is = by kept is (made-there sources (key_at unit number) kept is) where
      key : MemberKey
      key = key_at unit number

      many : Option Declaration → ℕ
      many found = length (option_map_or (numbered_in_method view) found [])

      by : (kept : Member) (is : IsMember sources key kept) → declaration_at view key
          ≡ declaration_in (classes_in sources) (unit, is.source.unit) (number, kept)
          → given kept (same_key (top_key view key) key) ≡ given_at view key
      by (member.Field field) is made = sym (ap many made)
      by (member.Method method) is made =
          ap (λ found. if same_key (top_of key found) key then suc (length method.params) else 0) made
          ∙ sym (ap many made ∙ in-method (record {
            key = key;
            owner = unit;
            name = method.name;
            arity = length method.params;
            kind = if method.is_static then static_method else instance_method;
            result = type_in (classes_in sources) (header_of (unit, is.source.unit)) method.result;
          }))
      by (member.Ctor declared) is made =
          ap (λ found. if same_key (top_of key found) key then suc (length declared.params) else 0) made
          ∙ sym (ap many made ∙ in-method (record {
            key = key;
            owner = unit;
            name = [];
            arity = length declared.params;
            kind = constructor;
            result = void_type;
          }))
