-- Nothing stands twice in the order of what has a number.
use Rattle.std.proofs.Common.{◌≡◌, ◌⊎◌, inl, inr, ℕ, zero, suc, ◌+◌, ◌≤◌, Bool, true, false, cond, List, [], ◌∷◌, ◌++◌, map, length, Option, Some, None, Contains, flat_map, slice_get, refl, sym, ◌∙◌, ap, subst, arith}
use Rattle.std.specs.Prelude.{⊤}
use Rattle.std.specs.List.{enumerate_from, range_with_len}
use Rattle.std.specs.Option.{option_map_or}
use Rattle.std.specs.Ordering.{is_lt}
use Rattle.jav_names.proofs.Lists.{stands_first, stands_later, stands_where, stands_nowhere}
use Rattle.jav_names.specs.UnitViews.{MemberKey, numbered}
use Rattle.jav_names.specs.Views.{ViewDeclaration}
use Rattle.mol_resolve_rules.proofs.FilesStand.{some-same, from-put, from-by_path, found-stands}
use Rattle.mol_resolve_rules.proofs.Stands.{in_either, from_map, from_each, from_numbered}
use Rattle.mol_resolve_rules.specs.Files.{File, Files, files_view, declaration_at}
use Rattle.mol_resolve_rules.specs.Numbering.{Numbered, numbered_class, numbered_member, numbered_method, numbered_param, same_key, topmost, path_cmp, put_by_path, by_path, below, member_keys, keys_in_order, numbered_in_method, numbered_at_key, in_order}

-- nothing stands twice in the list
abbrev pub IsOnce : {X : Type 0} → List X → Type 0
IsOnce [] = ⊤
IsOnce (x ∷ xs) = (¬ Contains xs x) × IsOnce xs

module _ {X : Type 0} where
  once-append : (xs ys : List X) → IsOnce xs → IsOnce ys → ((x : X) → Contains xs x → ¬ Contains ys x) → IsOnce (xs ++ ys)
  once-append [] ys first second apart = second
  once-append (x ∷ xs) ys first second apart = (
    λ stands. by (in_either xs ys x stands),
    once-append xs ys first.1 second (λ y in_xs. apart y (stands_later x y xs in_xs)),
  ) where
    by : Contains xs x ⊎ Contains ys x → ⊥
    by (inl front) = first.0 front
    by (inr back) = apart x (stands_first x xs) back

module _ {X Y : Type 0} where
  once-map : (make : X → Y) (xs : List X) → IsOnce xs → ((x y : X) → Contains xs x → Contains xs y → make x ≡ make y → x ≡ y)
      → IsOnce (map make xs)
  once-map make [] once one = tt
  once-map make (x ∷ xs) once one = (
    λ stands. let other = from_map make xs (make x) stands in
        once.0 (subst (Contains xs) (one other.0 x (stands_later x other.0 xs other.1) (stands_first x xs) other.2) other.1),
    once-map make xs once.1 (λ y z in_y in_z same. one y z (stands_later x y xs in_y) (stands_later x z xs in_z) same),
  )

  once-each : (make : X → List Y) (xs : List X) → IsOnce xs → ((x : X) → Contains xs x → IsOnce (make x))
      → ((x y : X) (z : Y) → Contains xs x → Contains xs y → Contains (make x) z → Contains (make y) z → x ≡ y)
      → IsOnce (flat_map make xs)
  once-each make [] once each one = tt
  once-each make (x ∷ xs) once each one = once-append (make x) (flat_map make xs) (each x (stands_first x xs))
      (once-each make xs once.1 (λ y in_y. each y (stands_later x y xs in_y))
      (λ y z w in_y in_z. one y z w (stands_later x y xs in_y) (stands_later x z xs in_z)))
      (λ w here later. let other = from_each make xs w later in
      once.0 (subst (Contains xs) (one other.0 x w (stands_later x other.0 xs other.1) (stands_first x xs) other.2 here) other.1))

-- ---- numbers

least-number : {X : Type 0} (n : ℕ) (xs : List X) (entry : ℕ × X) → Contains (enumerate_from n xs) entry → n ≤ entry.0
least-number n [] entry stands = absurd (stands_nowhere entry stands)
least-number n (x ∷ xs) entry stands = by (stands_where (n, x) entry (enumerate_from (n + 1) xs) stands)
    (least-number (n + 1) xs entry) where
      by : ((n, x) ≡ entry) ⊎ Contains (enumerate_from (n + 1) xs) entry → (Contains (enumerate_from (n + 1) xs) entry → n + 1 ≤ entry.0)
          → n ≤ entry.0
      by (inl same) more = omega (arith, ap (λ (e : _). e.0) same)
      by (inr later) more = omega (arith, more later)

once-numbered : {X : Type 0} (n : ℕ) (xs : List X) → IsOnce (enumerate_from n xs)
once-numbered n [] = tt
once-numbered n (x ∷ xs) = (
  λ stands. absurd (let least = least-number (n + 1) xs (n, x) stands in omega (arith, least)),
  once-numbered (n + 1) xs,
)

least-range : (n count k : ℕ) → Contains (range_with_len n count) k → n ≤ k
least-range n zero k stands = absurd (stands_nowhere k stands)
least-range n (suc count) k stands = by (stands_where n k (range_with_len (n + 1) count) stands) (least-range (n + 1) count k) where
  by : (n ≡ k) ⊎ Contains (range_with_len (n + 1) count) k → (Contains (range_with_len (n + 1) count) k → n + 1 ≤ k) → n ≤ k
  by (inl same) more = omega (arith, same)
  by (inr later) more = omega (arith, more later)

pub once-range : (n count : ℕ) → IsOnce (range_with_len n count)
once-range n zero = tt
once-range n (suc count) = (
  λ stands. absurd (let least = least-range (n + 1) count n stands in omega (arith, least)),
  once-range (n + 1) count,
)

-- ---- files by their paths

once-put : (file : ℕ × File) (files : List (ℕ × File)) → IsOnce files → ¬ Contains files file → IsOnce (put_by_path file files)
once-put file [] once new = (stands_nowhere file, tt)
once-put file (next ∷ rest) once new = by (is_lt (path_cmp next.1.path file.1.path))
    (once-put file rest once.1 (λ stands. new (stands_later next file rest stands))) where
      apart : ¬ Contains (put_by_path file rest) next
      apart stands = at (from-put file rest next stands) where
        at : (file ≡ next) ⊎ Contains rest next → ⊥
        at (inl same) = new (subst (Contains (next ∷ rest)) (sym same) (stands_first next rest))
        at (inr later) = once.0 later

      by : (b : Bool) → IsOnce (put_by_path file rest) → IsOnce (cond b (next ∷ put_by_path file rest) (file ∷ next ∷ rest))
      by true more = (apart, more)
      by false more = (new, once)

once-by_path : (files : List (ℕ × File)) → IsOnce files → IsOnce (by_path files)
once-by_path [] once = tt
once-by_path (file ∷ files) once = once-put file (by_path files) (once-by_path files once.1)
    (λ stands. once.0 (from-by_path files file stands))

-- ---- the order

module _ (files : Files) where
  abbrev sorted : List (ℕ × File)
  sorted = by_path (numbered files)

  once-sorted : IsOnce sorted
  once-sorted = once-by_path (numbered files) (once-numbered 0 files)

  -- a file is told by its number
  one-file : (x y : ℕ × File) → Contains sorted x → Contains sorted y → x.0 ≡ y.0 → x ≡ y
  one-file x y in_x in_y same =
      let file : x.1 ≡ y.1 = some-same (sym (from_numbered files x (from-by_path (numbered files) x in_x)) ∙ ap (slice_get files) same
      ∙ from_numbered files y (from-by_path (numbered files) y in_y)) in
      λ i. (same i, file i)

  abbrev classes : List Numbered
  classes = map (λ (file : ℕ × File). numbered_class file.0) sorted

  abbrev members : List Numbered
  members = map numbered_member (keys_in_order files)

  abbrev methods : List Numbered
  methods = flat_map (numbered_at_key (files_view files)) (keys_in_order files)

  class-number : {x y : ℕ} → numbered_class x ≡ numbered_class y → x ≡ y
  class-number is = cc

  member-key : {x y : MemberKey} → numbered_member x ≡ numbered_member y → x ≡ y
  member-key is = cc

  once-classes : IsOnce classes
  once-classes = once-map (λ (file : ℕ × File). numbered_class file.0) sorted once-sorted
      (λ x y in_x in_y same. one-file x y in_x in_y (class-number same))

  key-of : (file : ℕ × File) (key : MemberKey) → Contains (member_keys file) key → key.unit ≡ file.0
  key-of file key stands =
      let number = from_map (λ (number : ℕ). record { unit = file.0; member = number })
      (below (length file.1.unit.class.members)) key stands in
      ap (λ (k : MemberKey). k.unit) (sym number.2)

  once-keys : IsOnce (keys_in_order files)
  once-keys = once-each member_keys sorted once-sorted
      (λ file in_file. once-map (λ (number : ℕ). record { unit = file.0; member = number }) (below (length file.1.unit.class.members))
      (once-range 0 (length file.1.unit.class.members)) (λ x y in_x in_y same. ap (λ (k : MemberKey). k.member) same))
      (λ x y key in_x in_y of_x of_y. one-file x y in_x in_y (sym (key-of x key of_x) ∙ key-of y key of_y))

  once-members : IsOnce members
  once-members = once-map numbered_member (keys_in_order files) once-keys (λ x y in_x in_y same. member-key same)

  -- what is numbered with a method
  pub data IsOfMethod (key : MemberKey) : Numbered → Type 0 where
    the_method : IsOfMethod key (numbered_method key)
    a_param : {place : ℕ} → IsOfMethod key (numbered_param key place)

  listed-of : (key : MemberKey) (count : ℕ) (b : Bool) (item : Numbered)
      → Contains (cond b (numbered_method key ∷ map (numbered_param key) (below count)) []) item → IsOfMethod key item
  listed-of key count false item stands = absurd (stands_nowhere item stands)
  listed-of key count true item stands = by (stands_where (numbered_method key) item (map (numbered_param key) (below count)) stands) where
    by : (numbered_method key ≡ item) ⊎ Contains (map (numbered_param key) (below count)) item → IsOfMethod key item
    by (inl same) = subst (IsOfMethod key) same IsOfMethod.the_method
    by (inr later) = let place = from_map (numbered_param key) (below count) item later in
        subst (IsOfMethod key) place.2 IsOfMethod.a_param

  abbrev Declaration : Type 0
  Declaration = ViewDeclaration ℕ MemberKey

  at-key : (key : MemberKey) (item : Numbered) → Contains (numbered_at_key (files_view files) key) item → IsOfMethod key item
  at-key key item stands = by (declaration_at (files_view files) key) refl stands where
    by : (o : Option Declaration) → declaration_at (files_view files) key ≡ o
        → Contains (option_map_or (numbered_in_method (files_view files)) o []) item → IsOfMethod key item
    by None none here = absurd (stands_nowhere item here)
    by (Some declared) found here = subst (λ k. IsOfMethod k item) (found-stands files key declared found).1
        (listed-of declared.key declared.arity (same_key (topmost (files_view files) declared).key declared.key) item here)

  one-method : (x y : MemberKey) (item : Numbered) → IsOfMethod x item → IsOfMethod y item → x ≡ y
  one-method x y item IsOfMethod.the_method second = method-of x y second where
    method-of : (x y : MemberKey) → IsOfMethod y (numbered_method x) → x ≡ y
    method-of x y IsOfMethod.the_method = refl
  one-method x y item (IsOfMethod.a_param {place = place}) second = param-of x y place second where
    param-of : (x y : MemberKey) (place : ℕ) → IsOfMethod y (numbered_param x place) → x ≡ y
    param-of x y place IsOfMethod.a_param = refl

  param-place : {key : MemberKey} {x y : ℕ} → numbered_param key x ≡ numbered_param key y → x ≡ y
  param-place is = cc

  once-listed : (key : MemberKey) (count : ℕ) (b : Bool) → IsOnce (cond b (numbered_method key ∷ map (numbered_param key) (below count)) [])
  once-listed key count false = tt
  once-listed key count true = (
    λ stands. let place = from_map (numbered_param key) (below count) (numbered_method key) stands in absurd (let no = place.2 in cc),
    once-map (numbered_param key) (below count) (once-range 0 count) (λ x y in_x in_y same. param-place same),
  )

  once-at_key : (key : MemberKey) → IsOnce (numbered_at_key (files_view files) key)
  once-at_key key = by (declaration_at (files_view files) key) where
    by : (o : Option Declaration) → IsOnce (option_map_or (numbered_in_method (files_view files)) o [])
    by None = tt
    by (Some declared) = once-listed declared.key declared.arity (same_key (topmost (files_view files) declared).key declared.key)

  once-methods : IsOnce methods
  once-methods = once-each (numbered_at_key (files_view files)) (keys_in_order files) once-keys (λ key in_key. once-at_key key)
      (λ x y item in_x in_y of_x of_y. one-method x y item (at-key x item of_x) (at-key y item of_y))

  abbrev IsClass : Numbered → Type 0
  IsClass item = (number : ℕ) × (numbered_class number ≡ item)

  abbrev IsMember : Numbered → Type 0
  IsMember item = (key : MemberKey) × (numbered_member key ≡ item)

  is-class : (item : Numbered) → Contains classes item → IsClass item
  is-class item stands = let of = from_map (λ (file : ℕ × File). numbered_class file.0) sorted item stands in (of.0.0, of.2)

  is-member : (item : Numbered) → Contains members item → IsMember item
  is-member item stands = let of = from_map numbered_member (keys_in_order files) item stands in (of.0, of.2)

  class-apart : (item : Numbered) → IsClass item → ¬ IsMember item
  class-apart item class member = absurd (let no : numbered_class class.0 ≡ numbered_member member.0 = class.1 ∙ sym member.1 in cc)

  pub order-once : IsOnce (in_order files)
  order-once = once-append (classes ++ members) methods
      (once-append classes members once-classes once-members
      (λ item class member. class-apart item (is-class item class) (is-member item member))) once-methods
      (λ item front back. by item (in_either classes members item front)
      (let of = from_each (numbered_at_key (files_view files)) (keys_in_order files) item back in (of.0, at-key of.0 item of.2))) where
        member-no : (key : MemberKey) (item : Numbered) → IsOfMethod key item → ¬ IsMember item
        member-no key item IsOfMethod.the_method is = absurd (let no = is.1 in cc)
        member-no key item IsOfMethod.a_param is = absurd (let no = is.1 in cc)

        class-no : (key : MemberKey) (item : Numbered) → IsOfMethod key item → ¬ IsClass item
        class-no key item IsOfMethod.the_method is = absurd (let no = is.1 in cc)
        class-no key item IsOfMethod.a_param is = absurd (let no = is.1 in cc)

        by : (item : Numbered) → Contains classes item ⊎ Contains members item → (key : MemberKey) × IsOfMethod key item → ⊥
        by item (inl class) of = class-no of.0 item of.1 (is-class item class)
        by item (inr member) of = member-no of.0 item of.1 (is-member item member)
