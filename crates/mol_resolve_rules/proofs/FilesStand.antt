-- What stands in files: their declarations as members of them, and what has a number.
use Rattle.std.proofs.Common.{◌≡◌, ◌⊎◌, inl, inr, ℕ, Bool, true, false, cond, List, [], ◌∷◌, ◌++◌, map, length, Option, Some, None, option_map, Contains, slice_get, flat_map, refl, sym, ◌∙◌, ap, subst, arith}
use Rattle.std.specs.Bool.{Decides}
use Rattle.std.specs.Option.{option_map_or}
use Rattle.std.specs.Ordering.{is_eq, is_lt}
use Rattle.std.proofs.lemmas.List.Elements.{All-contains}
use Rattle.std.proofs.lemmas.Option.{slice_get-map, slice_get_within}
use Rattle.jav_tree.specs.declared.unit.Member.{Member}
use Rattle.jav_tree.specs.declared.unit.Member.TheVariants as member
use Rattle.jav_tree.specs.declared.unit.Unit.{Unit as Source}
use Rattle.jav_names.specs.UnitViews.{MemberKey, member_key_cmp, numbered, classes_of, declaration_in, declarations_of}
use Rattle.jav_names.specs.Views.{ViewDeclaration, Classes, IsOrdered}
use Rattle.jav_names.proofs.Lists.{stands_first, stands_later, stands_where, stands_nowhere, stands-mapped, find-found, find-none, one_of_key}
use Rattle.jav_names.proofs.UnitsViewed.{units_viewed}
use Rattle.jav_names.proofs.Ways.{same_key as keys-decide}
use Rattle.mol_resolve_rules.specs.Files.{File, Files, HasFile, units, files_view, declaration_at, placed, member_at}
use Rattle.mol_resolve_rules.specs.Numbering.{Numbered, numbered_class, numbered_member, numbered_method, numbered_param, same_key, topmost, path_cmp, put_by_path, by_path, below, member_keys, keys_in_order, numbered_in_method, numbered_at_key, in_order}
use Rattle.mol_resolve_rules.proofs.NumbersApart.{key-self}
use Rattle.mol_resolve_rules.proofs.Stands.{in_front, behind, from_map, in_each, from_each, from_some, in_some, from_numbered, in_numbered, in_range, from_range, get-below}

abbrev Declaration : Type 0
Declaration = ViewDeclaration ℕ MemberKey

-- ---- declarations, by their keys

pub files-ordered : (files : Files) → IsOrdered (files_view files)
files-ordered files = units_viewed.ordered (units files)

module _ (files : Files) where
  abbrev declarations : List Declaration
  declarations = (files_view files).declarations

  has_key : (key : MemberKey) (declared : Declaration) → Decides (is_eq (member_key_cmp declared.key key)) (declared.key ≡ key)
  has_key key declared = keys-decide (files-ordered files).order declared.key key

  -- what is found by a key stands in the view and has the key
  pub found-stands : (key : MemberKey) (declared : Declaration) → declaration_at (files_view files) key ≡ Some declared
      → Contains declarations declared × (declared.key ≡ key)
  found-stands key declared is = find-found (λ (d : Declaration). d.key ≡ key) (λ (d : Declaration). is_eq (member_key_cmp d.key key))
      (has_key key) declarations declared is

  -- and what stands in the view is found by its key
  pub stands-found : (declared : Declaration) → Contains declarations declared
      → declaration_at (files_view files) declared.key ≡ Some declared
  stands-found declared stands = by (declaration_at (files_view files) declared.key) refl where
    by : (o : Option Declaration) → declaration_at (files_view files) declared.key ≡ o → o ≡ Some declared
    by None is = absurd (All-contains (λ (d : Declaration). ¬ (d.key ≡ declared.key)) declarations declared
        (find-none (λ (d : Declaration). d.key ≡ declared.key) (λ (d : Declaration). is_eq (member_key_cmp d.key declared.key))
        (has_key declared.key) declarations is) stands refl)
    by (Some other) is =
        let found = found-stands declared.key other is in
        ap (λ (d : Declaration). Some d) (one_of_key member_key_cmp (λ (d : Declaration). d.key)
        (files-ordered files).order declarations other declared
        (files-ordered files).declarations found.0 stands found.1)

-- ---- members, by their keys

pub record StandsAt (files : Files) (key : MemberKey) : Type 0 where
  pub file : File
  pub in_files : HasFile files key.unit file
  pub member : Member
  pub in_class : slice_get file.unit.class.members key.member ≡ Some member

pub some-same : {X : Type 0} {x y : X} → Some x ≡ Some y → x ≡ y
some-same is = cc

module _ (files : Files) where
  pub unit-get : (number : ℕ) (file : File) → HasFile files number file → slice_get (units files) number ≡ Some file.unit
  unit-get number file is = slice_get-map (λ (f : File). f.unit) files number ∙ ap (option_map (λ (f : File). f.unit)) is

  pub get-unit : (number : ℕ) (unit : Source) → slice_get (units files) number ≡ Some unit → (file : File) × HasFile files number file
      × (file.unit ≡ unit)
  get-unit number unit is = by (slice_get files number) refl (sym (slice_get-map (λ (f : File). f.unit) files number) ∙ is) where
    by : (o : Option File) → slice_get files number ≡ o → option_map (λ (f : File). f.unit) o ≡ Some unit
        → (file : File) × HasFile files number file × (file.unit ≡ unit)
    by None none is = absurd cc
    by (Some file) there is = let same : file.unit ≡ unit = cc in (file, there, same)

  -- what a member of a file is in the view, if it is a declaration
  abbrev pub made_of : (key : MemberKey) → StandsAt files key → Option Declaration
  made_of key at = declaration_in (classes_of (units files)) (key.unit, at.file.unit) (key.member, at.member)

  key-some : (x declared : Declaration) → Some x ≡ Some declared → declared.key ≡ x.key
  key-some x declared is = let same : x ≡ declared = cc in ap (λ (d : Declaration). d.key) (sym same)

  keyed : (classes : Classes ℕ) (unit : ℕ × Source) (number : ℕ) (m : Member) (declared : Declaration)
      → declaration_in classes unit (number, m) ≡ Some declared → declared.key ≡ record { unit = unit.0; member = number }
  keyed classes unit number (member.Field f) declared is = absurd cc
  keyed classes unit number (member.Method m) declared is = key-some _ declared is
  keyed classes unit number (member.Ctor c) declared is = key-some _ declared is

  -- a declaration of the view is made of a member
  pub record IsMade (declared : Declaration) : Type 0 where
    pub at : StandsAt files declared.key
    pub made : made_of declared.key at ≡ Some declared

  pub declaration-made : (declared : Declaration) → Contains (files_view files).declarations declared → IsMade declared
  declaration-made declared stands =
      let of_file = from_each (declarations_of (classes_of (units files))) (numbered (units files)) declared stands in
      let of_member = from_some (declaration_in (classes_of (units files)) of_file.0)
      (numbered of_file.0.1.class.members) declared of_file.2 in
      let key : declared.key ≡ record { unit = of_file.0.0; member = of_member.0.0 }
      = keyed (classes_of (units files)) of_file.0 of_member.0.0 of_member.0.1 declared of_member.2 in
      let file = get-unit of_file.0.0 of_file.0.1 (from_numbered (units files) of_file.0 of_file.1) in
      let unit-is : declared.key.unit ≡ of_file.0.0 = ap (λ (k : MemberKey). k.unit) key in
      let member-is : declared.key.member ≡ of_member.0.0 = ap (λ (k : MemberKey). k.member) key in
      record {
        at = record {
          file = file.0;
          in_files = ap (slice_get files) unit-is ∙ file.1;
          member = of_member.0.1;
          in_class = ap (slice_get file.0.unit.class.members) member-is
              ∙ ap (λ (unit : Source). slice_get unit.class.members of_member.0.0) file.2
              ∙ from_numbered of_file.0.1.class.members of_member.0 of_member.1;
        };
        made = (λ i. declaration_in (classes_of (units files)) (unit-is i, file.2 i) (member-is i, of_member.0.1)) ∙ of_member.2;
      }

  -- a member that is a declaration is one of the view
  made-stands : (key : MemberKey) (at : StandsAt files key) (declared : Declaration) → made_of key at ≡ Some declared
      → Contains (files_view files).declarations declared
  made-stands key at declared is =
      in_each (declarations_of (classes_of (units files))) (numbered (units files)) (key.unit, at.file.unit) declared
      (in_numbered (units files) key.unit at.file.unit (unit-get key.unit at.file at.in_files))
      (in_some (declaration_in (classes_of (units files)) (key.unit, at.file.unit)) (numbered at.file.unit.class.members)
      (key.member, at.member) declared (in_numbered at.file.unit.class.members key.member at.member at.in_class) is)

  -- two files of one number are one, and two members of one place
  one-made : (key other : MemberKey) (at : StandsAt files key) (second : StandsAt files other) → other ≡ key
      → made_of key at ≡ made_of other second
  one-made key other at second same =
      let file : at.file ≡ second.file
      = some-same (sym at.in_files ∙ ap (λ (k : MemberKey). slice_get files k.unit) (sym same) ∙ second.in_files) in
      let member : at.member ≡ second.member
      = some-same (sym at.in_class ∙ (λ i. slice_get (file i).unit.class.members (sym same i).member) ∙ second.in_class) in
      λ i. declaration_in (classes_of (units files)) ((sym same i).unit, (file i).unit) ((sym same i).member, member i)

  -- what is found by the key of a member is what that is in the view
  pub made-found : (key : MemberKey) (at : StandsAt files key) → declaration_at (files_view files) key ≡ made_of key at
  made-found key at = by (made_of key at) refl where
    by_found : made_of key at ≡ None → (o : Option Declaration) → declaration_at (files_view files) key ≡ o → o ≡ None
    by_found is None none = refl
    by_found is (Some declared) found =
        let stands = found-stands files key declared found in
        let made = declaration-made declared stands.0 in
        absurd (let no : None ≡ Some declared = sym is ∙ one-made key declared.key at made.at stands.1 ∙ made.made in cc)

    by : (o : Option Declaration) → made_of key at ≡ o → declaration_at (files_view files) key ≡ o
    by None is = by_found is (declaration_at (files_view files) key) refl
    by (Some declared) is =
        let same : declared.key ≡ key = keyed (classes_of (units files)) (key.unit, at.file.unit) key.member at.member declared is in
        subst (λ (k : MemberKey). declaration_at (files_view files) k ≡ Some declared) same
        (stands-found files declared (made-stands key at declared is))

  -- the member of a key
  pub member-found : (key : MemberKey) (at : StandsAt files key)
      → member_at files key ≡ Some (placed files (key.unit, at.file) (key.member, at.member))
  member-found key at = rw (at.in_files, at.in_class) refl

-- ---- the order of files

module _ (file : ℕ × File) where
  pub in-put : (files : List (ℕ × File)) (x : ℕ × File) → (file ≡ x) ⊎ Contains files x → Contains (put_by_path file files) x
  in-put [] x (inl same) = (0, omega arith, same)
  in-put [] x (inr later) = absurd (stands_nowhere x later)
  in-put (next ∷ rest) x among = by (is_lt (path_cmp next.1.path file.1.path)) among (in-put rest x) where
    after : (next ≡ x) ⊎ Contains rest x → ((file ≡ x) ⊎ Contains rest x → Contains (put_by_path file rest) x)
        → Contains (next ∷ put_by_path file rest) x
    after (inl same) more = subst (Contains (next ∷ put_by_path file rest)) same (stands_first next (put_by_path file rest))
    after (inr later) more = stands_later next x (put_by_path file rest) (more (inr later))

    by : (b : Bool) → (file ≡ x) ⊎ Contains (next ∷ rest) x → ((file ≡ x) ⊎ Contains rest x → Contains (put_by_path file rest) x)
        → Contains (cond b (next ∷ put_by_path file rest) (file ∷ next ∷ rest)) x
    by true (inl same) more = stands_later next x (put_by_path file rest) (more (inl same))
    by true (inr there) more = after (stands_where next x rest there) more
    by false (inl same) more = subst (Contains (file ∷ next ∷ rest)) same (stands_first file (next ∷ rest))
    by false (inr there) more = stands_later file x (next ∷ rest) there

  pub from-put : (files : List (ℕ × File)) (x : ℕ × File) → Contains (put_by_path file files) x → (file ≡ x) ⊎ Contains files x
  from-put [] x stands = stands_where file x [] stands
  from-put (next ∷ rest) x stands = by (is_lt (path_cmp next.1.path file.1.path)) stands (from-put rest x) where
    after : (next ≡ x) ⊎ Contains (put_by_path file rest) x → (Contains (put_by_path file rest) x → (file ≡ x) ⊎ Contains rest x)
        → (file ≡ x) ⊎ Contains (next ∷ rest) x
    after (inl same) more = inr (subst (Contains (next ∷ rest)) same (stands_first next rest))
    after (inr later) more = by_more (more later) where
      by_more : (file ≡ x) ⊎ Contains rest x → (file ≡ x) ⊎ Contains (next ∷ rest) x
      by_more (inl same) = inl same
      by_more (inr there) = inr (stands_later next x rest there)

    by : (b : Bool) → Contains (cond b (next ∷ put_by_path file rest) (file ∷ next ∷ rest)) x
        → (Contains (put_by_path file rest) x → (file ≡ x) ⊎ Contains rest x) → (file ≡ x) ⊎ Contains (next ∷ rest) x
    by true there more = after (stands_where next x (put_by_path file rest) there) more
    by false there more = stands_where file x (next ∷ rest) there

pub in-by_path : (files : List (ℕ × File)) (x : ℕ × File) → Contains files x → Contains (by_path files) x
in-by_path [] x stands = absurd (stands_nowhere x stands)
in-by_path (file ∷ files) x stands = in-put file (by_path files) x (by (stands_where file x files stands) (in-by_path files x)) where
  by : (file ≡ x) ⊎ Contains files x → (Contains files x → Contains (by_path files) x) → (file ≡ x) ⊎ Contains (by_path files) x
  by (inl same) more = inl same
  by (inr later) more = inr (more later)

pub from-by_path : (files : List (ℕ × File)) (x : ℕ × File) → Contains (by_path files) x → Contains files x
from-by_path [] x stands = absurd (stands_nowhere x stands)
from-by_path (file ∷ files) x stands = by (from-put file (by_path files) x stands) (from-by_path files x) where
  by : (file ≡ x) ⊎ Contains (by_path files) x → (Contains (by_path files) x → Contains files x) → Contains (file ∷ files) x
  by (inl same) more = subst (Contains (file ∷ files)) same (stands_first file files)
  by (inr later) more = stands_later file x files (more later)

-- ---- what has a number

module _ (files : Files) where
  pub key-in_order : (key : MemberKey) → StandsAt files key → Contains (keys_in_order files) key
  key-in_order key at = in_each member_keys (by_path (numbered files)) (key.unit, at.file) key
      (in-by_path (numbered files) (key.unit, at.file) (in_numbered files key.unit at.file at.in_files))
      (stands-mapped (λ number. record { unit = key.unit; member = number }) (below (length at.file.unit.class.members)) key.member
      (in_range (length at.file.unit.class.members) key.member
      (slice_get_within at.file.unit.class.members key.member at.member at.in_class)))

  pub from-keys : (key : MemberKey) → Contains (keys_in_order files) key → StandsAt files key
  from-keys key stands =
      let of_file = from_each member_keys (by_path (numbered files)) key stands in
      let of_number = from_map (λ number. record { unit = of_file.0.0; member = number })
      (below (length of_file.0.1.unit.class.members)) key
      of_file.2 in
      let there : HasFile files of_file.0.0 of_file.0.1
      = from_numbered files of_file.0 (from-by_path (numbered files) of_file.0 of_file.1) in
      let found = get-below of_file.0.1.unit.class.members of_number.0
      (from_range (length of_file.0.1.unit.class.members) of_number.0 of_number.1) in
      subst (StandsAt files) of_number.2 (record { file = of_file.0.1; in_files = there; member = found.0; in_class = found.1 })

  abbrev classes_numbered : List Numbered
  classes_numbered = map (λ (file : ℕ × File). numbered_class file.0) (by_path (numbered files))

  abbrev members_numbered : List Numbered
  members_numbered = map numbered_member (keys_in_order files)

  abbrev methods_numbered : List Numbered
  methods_numbered = flat_map (numbered_at_key (files_view files)) (keys_in_order files)

  pub member-in_order : (key : MemberKey) → StandsAt files key → Contains (in_order files) (numbered_member key)
  member-in_order key at = in_front (classes_numbered ++ members_numbered) methods_numbered (numbered_member key)
      (behind classes_numbered members_numbered (numbered_member key)
      (stands-mapped numbered_member (keys_in_order files) key (key-in_order key at)))

  method-first : (declared : Declaration) → topmost (files_view files) declared ≡ declared
      → Contains (numbered_in_method (files_view files) declared) (numbered_method declared.key)
  method-first declared is = by (same_key (topmost (files_view files) declared).key declared.key)
      (ap (λ (d : Declaration). same_key d.key declared.key) is ∙ key-self declared.key) where
        by : (b : Bool) → b ≡ true
            → Contains (cond b (numbered_method declared.key ∷ map (numbered_param declared.key) (below declared.arity)) [])
            (numbered_method declared.key)
        by true is = stands_first (numbered_method declared.key) (map (numbered_param declared.key) (below declared.arity))
        by false is = absurd cc

  -- a topmost declaration has a number as a method
  pub method-in_order : (declared : Declaration) → Contains (files_view files).declarations declared
      → topmost (files_view files) declared ≡ declared → Contains (in_order files) (numbered_method declared.key)
  method-in_order declared stands is = behind (classes_numbered ++ members_numbered) methods_numbered (numbered_method declared.key)
      (in_each (numbered_at_key (files_view files)) (keys_in_order files) declared.key (numbered_method declared.key)
      (key-in_order declared.key (declaration-made files declared stands).at)
      (subst (λ (o : Option Declaration). Contains (option_map_or (numbered_in_method (files_view files)) o [])
      (numbered_method declared.key))
      (sym (stands-found files declared stands)) (method-first declared is)))
