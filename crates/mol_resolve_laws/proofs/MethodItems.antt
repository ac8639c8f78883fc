-- What has a number as a method or a parameter: the topmost declaration that it is of, and the list of parameters.
use Rattle.std.proofs.Common.{◌≡◌, ◌⊎◌, inl, inr, ℕ, suc, ◌<◌, Bool, true, false, cond, List, [], ◌∷◌, ◌++◌, map, length, Option, Some, None, option_map, Contains, flat_map, refl, sym, ◌∙◌, ap, subst, arith}
use Rattle.std.specs.List.{zip}
use Rattle.std.specs.Option.{option_map_or, option_zip}
use Rattle.jav_tree.specs.declared.unit.Member.{Member}
use Rattle.jav_tree.specs.declared.unit.Member.TheVariants as member
use Rattle.jav_tree.specs.declared.unit.Param.{Param}
use Rattle.jav_tree.specs.declared.unit.Unit.{Unit as Source}
use Rattle.jav_names.proofs.Lists.{stands_first, stands_later, stands_where, stands_nowhere, stands-mapped}
use Rattle.jav_names.specs.UnitViews.{MemberKey, numbered, classes_of, declaration_in}
use Rattle.jav_names.specs.Views.{ViewDeclaration, Classes}
use Rattle.mol_base.specs.declared.ident.Id.{Id}
use Rattle.mol_resolve_rules.proofs.FilesStand.{StandsAt, some-same, found-stands, made-found, declaration-made, key-in_order}
use Rattle.mol_resolve_rules.proofs.NumbersApart.{key-self, key-is}
use Rattle.mol_resolve_rules.proofs.Stands.{behind, in_either, from_map, in_each, from_each, in_range, from_range}
use Rattle.mol_resolve_rules.specs.Expected.{listed}
use Rattle.mol_resolve_rules.specs.Files.{File, Files, units, files_view, params_of, declaration_at}
use Rattle.mol_resolve_rules.specs.Numbering.{Numbered, numbered_class, numbered_member, numbered_method, numbered_param, same_key, topmost, by_path, below, keys_in_order, numbered_in_method, numbered_at_key, in_order, id_at, ids_of}
use Rattle.mol_resolve_rules.specs.Outcomes.{Outcome, all}
use Rattle.mol_resolve_rules.specs.ReadTypes.{ReadType}
use Rattle.mol_values_types.specs.declared.param.Param.{Param as Listed}
use Rattle.mol_resolve_laws.proofs.Gives.{none-some}

module _ (files : Files) where
  abbrev Declaration : Type 0
  Declaration = ViewDeclaration ℕ MemberKey

  abbrev IsParamOf : MemberKey → ℕ → Numbered → Type 0
  IsParamOf key arity item = (place : ℕ) × (place < arity) × (item ≡ numbered_param key place)

  -- the topmost declaration of this key, and the method or a parameter of it
  pub record IsInMethod (key : MemberKey) (item : Numbered) : Type 0 where
    pub declared : Declaration
    pub found : declaration_at (files_view files) key ≡ Some declared
    pub top : (topmost (files_view files) declared).key ≡ key
    pub either : (item ≡ numbered_method key) ⊎ IsParamOf key declared.arity item

  -- ---- from the order

  in-list : (key : MemberKey) (declared : Declaration) → declaration_at (files_view files) key ≡ Some declared → declared.key ≡ key
      → (b : Bool) → same_key (topmost (files_view files) declared).key declared.key ≡ b → (item : Numbered)
      → Contains (cond b (numbered_method declared.key ∷ map (numbered_param declared.key) (below declared.arity)) []) item
      → IsInMethod key item
  in-list key declared found same false is item stands = absurd (stands_nowhere item stands)
  in-list key declared found same true is item stands = record {
    declared = declared;
    found = found;
    top = key-is (topmost (files_view files) declared).key declared.key is ∙ same;
    either = by (stands_where (numbered_method declared.key) item (map (numbered_param declared.key) (below declared.arity)) stands);
  } where
    by : (numbered_method declared.key ≡ item) ⊎ Contains (map (numbered_param declared.key) (below declared.arity)) item
        → (item ≡ numbered_method key) ⊎ IsParamOf key declared.arity item
    by (inl is) = inl (sym is ∙ ap (λ k. numbered_method k) same)
    by (inr later) =
        let place = from_map (numbered_param declared.key) (below declared.arity) item later in
        inr (place.0, from_range declared.arity place.0 place.1, sym place.2 ∙ ap (λ k. numbered_param k place.0) same)

  at-key : (key : MemberKey) (item : Numbered) → Contains (numbered_at_key (files_view files) key) item → IsInMethod key item
  at-key key item stands = by (declaration_at (files_view files) key) refl stands where
    by : (o : Option Declaration) → declaration_at (files_view files) key ≡ o
        → Contains (option_map_or (numbered_in_method (files_view files)) o []) item → IsInMethod key item
    by None none here = absurd (stands_nowhere item here)
    by (Some declared) found here = in-list key declared found (found-stands files key declared found).1
        (same_key (topmost (files_view files) declared).key declared.key) refl item here

  abbrev classes_numbered : List Numbered
  classes_numbered = map (λ (file : ℕ × File). numbered_class file.0) (by_path (numbered files))

  abbrev members_numbered : List Numbered
  members_numbered = map numbered_member (keys_in_order files)

  abbrev methods_numbered : List Numbered
  methods_numbered = flat_map (numbered_at_key (files_view files)) (keys_in_order files)

  -- a method or a parameter stands among the methods
  data IsLate : Numbered → Type 0 where
    a_method : {key : MemberKey} → IsLate (numbered_method key)
    a_param : {key : MemberKey} {place : ℕ} → IsLate (numbered_param key place)

  late-class : (number : ℕ) → ¬ IsLate (numbered_class number)
  late-class number late = elim late [ ]

  late-member : (key : MemberKey) → ¬ IsLate (numbered_member key)
  late-member key late = elim late [ ]

  late-stands : (item : Numbered) → IsLate item → Contains (in_order files) item → Contains methods_numbered item
  late-stands item late stands = by (in_either (classes_numbered ++ members_numbered) methods_numbered item stands) where
    front : Contains classes_numbered item ⊎ Contains members_numbered item → ⊥
    front (inl class) =
        let of = from_map (λ (file : ℕ × File). numbered_class file.0) (by_path (numbered files)) item class in
        late-class of.0.0 (subst IsLate (sym of.2) late)
    front (inr member) = let of = from_map numbered_member (keys_in_order files) item member in
        late-member of.0 (subst IsLate (sym of.2) late)

    by : Contains (classes_numbered ++ members_numbered) item ⊎ Contains methods_numbered item → Contains methods_numbered item
    by (inl early) = absurd (front (in_either classes_numbered members_numbered item early))
    by (inr there) = there

  in-some : (item : Numbered) → IsLate item → Contains (in_order files) item → (key : MemberKey) × IsInMethod key item
  in-some item late stands =
      let of = from_each (numbered_at_key (files_view files)) (keys_in_order files) item (late-stands item late stands) in
      (of.0, at-key of.0 item of.2)

  method-key : {x y : MemberKey} → numbered_method x ≡ numbered_method y → x ≡ y
  method-key is = cc

  param-parts : {x y : MemberKey} {m n : ℕ} → numbered_param x m ≡ numbered_param y n → (x ≡ y) × (m ≡ n)
  param-parts is = (cc, cc)

  pub method-item : (key : MemberKey) → Contains (in_order files) (numbered_method key) → IsInMethod key (numbered_method key)
  method-item key stands =
      let found = in-some (numbered_method key) IsLate.a_method stands in
      subst (λ k. IsInMethod k (numbered_method key)) (by found.0 found.1.either) found.1 where
        by : (other : MemberKey) {arity : ℕ}
            → (numbered_method key ≡ numbered_method other) ⊎ IsParamOf other arity (numbered_method key) → other ≡ key
        by other (inl is) = sym (method-key is)
        by other (inr param) = absurd (let no = param.2 in cc)

  pub record IsParamItem (key : MemberKey) (place : ℕ) : Type 0 where
    pub method : IsInMethod key (numbered_method key)
    pub below : place < method.declared.arity

  pub param-item : (key : MemberKey) (place : ℕ) → Contains (in_order files) (numbered_param key place) → IsParamItem key place
  param-item key place stands =
      let found = in-some (numbered_param key place) IsLate.a_param stands in
      by found.0 found.1 found.1.either where
        by : (other : MemberKey) (found : IsInMethod other (numbered_param key place))
            → (numbered_param key place ≡ numbered_method other) ⊎ IsParamOf other found.declared.arity (numbered_param key place)
            → IsParamItem key place
        by other found (inl is) = absurd cc
        by other found (inr param) =
            let parts = param-parts param.2 in
            record {
              method = record {
                declared = found.declared;
                found = ap (declaration_at (files_view files)) parts.0 ∙ found.found;
                top = found.top ∙ sym parts.0;
                either = inl refl;
              };
              below = omega (arith, param.1, parts.1);
            }

  -- ---- to the order

  module _ (key : MemberKey) (method : IsInMethod key (numbered_method key)) where
    abbrev of_key : Declaration
    of_key = method.declared

    key-same : of_key.key ≡ key
    key-same = (found-stands files key of_key method.found).1

    listed-here : (item : Numbered)
        → Contains (numbered_method of_key.key ∷ map (numbered_param of_key.key) (below of_key.arity)) item
        → Contains (in_order files) item
    listed-here item stands =
        let made = declaration-made files of_key (found-stands files key of_key method.found).0 in
        let top : same_key (topmost (files_view files) of_key).key of_key.key ≡ true
        = ap (same_key (topmost (files_view files) of_key).key) (key-same ∙ sym method.top)
        ∙ key-self (topmost (files_view files) of_key).key in
        behind (classes_numbered ++ members_numbered) methods_numbered item
        (in_each (numbered_at_key (files_view files)) (keys_in_order files) key item
        (key-in_order files key (subst (StandsAt files) key-same made.at))
        (subst (λ (o : Option Declaration). Contains (option_map_or (numbered_in_method (files_view files)) o []) item) (sym method.found)
        (subst (λ b. Contains (cond b (numbered_method of_key.key ∷ map (numbered_param of_key.key) (below of_key.arity)) []) item)
        (sym top) stands)))

    pub method-stands : Contains (in_order files) (numbered_method key)
    method-stands = subst (λ k. Contains (in_order files) (numbered_method k)) key-same
        (listed-here (numbered_method of_key.key) (stands_first (numbered_method of_key.key) _))

    pub param-stands : (place : ℕ) → place < of_key.arity → Contains (in_order files) (numbered_param key place)
    param-stands place below-arity = subst (λ k. Contains (in_order files) (numbered_param k place)) key-same
        (listed-here (numbered_param of_key.key place)
        (stands_later (numbered_method of_key.key) (numbered_param of_key.key place) _
        (stands-mapped (numbered_param of_key.key) (below of_key.arity) place (in_range of_key.arity place below-arity))))

    -- ---- the list of parameters

    abbrev pub ids : List Id
    ids = map (λ place. id_at files (numbered_param key place)) (below of_key.arity)

    pub ids-are : (ids_of files).param_ids of_key ≡ ids
    ids-are = ap (λ (k : MemberKey). map (λ place. id_at files (numbered_param k place)) (below of_key.arity)) method.top

    pub in-ids : (place : ℕ) → place < of_key.arity → Contains ids (id_at files (numbered_param key place))
    in-ids place below-arity = stands-mapped (λ (place : ℕ). id_at files (numbered_param key place)) (below of_key.arity) place
        (in_range of_key.arity place below-arity)

    pub from-ids : (id : Id) → Contains ids id → (place : ℕ) × (place < of_key.arity) × (id_at files (numbered_param key place) ≡ id)
    from-ids id stands =
        let of = from_map (λ (place : ℕ). id_at files (numbered_param key place)) (below of_key.arity) id stands in
        (of.0, from_range of_key.arity of.0 of.1, of.2)

  -- ---- a declaration has as many parameters as its member

  arity-some : (x declared : Declaration) → Some x ≡ Some declared → declared.arity ≡ x.arity
  arity-some x declared is = ap (λ (d : Declaration). d.arity) (sym (some-same is))

  made-arity : (classes : Classes ℕ) (unit : ℕ × Source) (number : ℕ) (m : Member) (declared : Declaration)
      → declaration_in classes unit (number, m) ≡ Some declared → declared.arity ≡ length (params_of m)
  made-arity classes unit number (member.Field f) declared is = absurd cc
  made-arity classes unit number (member.Method m) declared is = arity-some _ declared is
  made-arity classes unit number (member.Ctor c) declared is = arity-some _ declared is

  pub declared-arity : (key : MemberKey) (at : StandsAt files key) (declared : Declaration)
      → declaration_at (files_view files) key ≡ Some declared → declared.arity ≡ length (params_of at.member)
  declared-arity key at declared found = made-arity (classes_of (units files)) (key.unit, at.file.unit) key.member at.member declared
      (sym (made-found files key at) ∙ found)

-- the value of several parts has as many
pub all-length : {X A : Type 0} (make : X → Outcome A) (xs : List X) (values : List A) → (all (map make xs)).value ≡ Some values
    → length values ≡ length xs
all-length make [] values is = ap length (sym (some-same is))
all-length {X} {A} make (x ∷ xs) values is = by (make x).value (all (map make xs)).value is (all-length make xs) where
  by : (v : Option A) (w : Option (List A)) → option_map (λ (parts : A × List A). parts.0 ∷ parts.1) (option_zip v w) ≡ Some values
      → ((rest : List A) → w ≡ Some rest → length rest ≡ length xs) → length values ≡ suc (length xs)
  by None w is more = absurd (none-some is)
  by (Some v) None is more = absurd (none-some is)
  by (Some v) (Some w) is more = ap length (sym (some-same is)) ∙ ap suc (more w refl)

-- listed parameters have these identities
pub listed-ids : (ids : List Id) (params : List (Param × ReadType ℕ)) → length ids ≡ length params
    → map (λ (p : Listed). p.id) (map listed (zip ids params)) ≡ ids
listed-ids [] params same = refl
listed-ids (id ∷ ids) [] same = absurd (omega (arith, same))
listed-ids (id ∷ ids) (param ∷ params) same = ap (λ rest. id ∷ rest) (listed-ids ids params (omega (arith, same)))

pub zip-length : {X Y : Type 0} (xs : List X) (ys : List Y) → length xs ≡ length ys → length (zip xs ys) ≡ length xs
zip-length [] ys same = refl
zip-length (x ∷ xs) [] same = absurd (omega (arith, same))
zip-length (x ∷ xs) (y ∷ ys) same = ap suc (zip-length xs ys (omega (arith, same)))
