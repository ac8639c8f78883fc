-- Where what stands in files has its number, in the order of numbers.
use Rattle.std.proofs.Common.{◌≡◌, ◌⊎◌, inl, inr, ℕ, suc, ◌+◌, ◌<◌, ◌≤◌, ◌==◌, Bool, true, false, not, cond, if◌then◌else◌, List, [], ◌∷◌, ◌++◌, map, flat_map, length, take, sum_by, Option, Some, None, Contains, slice_get, refl, sym, ◌∙◌, ap, arith, length-append, true≢false, eqb-true}
use Rattle.std.specs.List.{position_or_len}
use Rattle.std.specs.Option.{option_map_or}
use Rattle.std.proofs.lemmas.Bool.{false_from_ne_true}
use Rattle.std.proofs.lemmas.List.{length-map, take_all}
use Rattle.std.proofs.lemmas.List.Sums.{sum_by-cons}
use Rattle.std.proofs.lemmas.Option.{slice_get_within}
use Rattle.jav_names.specs.UnitViews.{MemberKey, numbered}
use Rattle.jav_names.specs.Views.{ViewDeclaration, View}
use Rattle.jav_names.proofs.Lists.{stands_first, stands_later, stands_where, stands_nowhere}
use Rattle.jav_scope.specs.Entries.{view_in}
use Rattle.jav_scope.specs.declared.source.SourceUnit.{SourceUnit}
use Rattle.mol_resolve_members.specs.places.Orders.{numbers_by_path, position}
use Rattle.mol_resolve_members.proofs.places_lemmas.FilesInOrder.{order-length, place-within}
use Rattle.mol_resolve_members.proofs.places_lemmas.MemberPlaces.{position-front, position-behind, position-map, position-none}
use Rattle.mol_resolve_members.proofs.places_lemmas.PathOrder.{all-sorted}
use Rattle.mol_resolve_members.proofs.places_lemmas.StableOrder.{AllOf, all-each}
use Rattle.mol_resolve_members.specs.sources.Sources.{files_of}
use Rattle.mol_resolve_members.proofs.sources_lemmas.Sourced.{source-there}
use Rattle.mol_resolve_rules.specs.Files.{File, declaration_at}
use Rattle.mol_resolve_rules.specs.Numbering.{Numbered, numbered_class, numbered_member, numbered_method, numbered_param, below, by_path, numbered_at_key, numbered_in_method, order_by, same_key, same_numbered, topmost}
use Rattle.mol_resolve_rules.proofs.NumbersApart.{key-is, key-self}
use Rattle.mol_resolve_rules.proofs.Stands.{from_numbered}
use Rattle.mol_resolve_members.specs.numbers.Given.{given_at}
use Rattle.mol_resolve_members.specs.numbers.Members.{keys_of, place_of}
use Rattle.mol_resolve_members.proofs.numbers_lemmas.MemberKeys.{found-there}
use Rattle.mol_resolve_members.proofs.numbers_lemmas.TopKeys.{place-inside}

abbrev Declaration : Type 0
Declaration = ViewDeclaration ℕ MemberKey

all-map : {X Y : Type 0} (P : Y → Type 0) (make : X → Y) (xs : List X) → ((x : X) → P (make x)) → AllOf P (map make xs)
all-map P make [] each = tt
all-map P make (x ∷ xs) each = (each x, all-map P make xs each)

all-both : {X : Type 0} (P : X → Type 0) (xs ys : List X) → AllOf P xs → AllOf P ys → AllOf P (xs ++ ys)
all-both P [] ys first second = second
all-both P (x ∷ xs) ys first second = (first.0, all-both P xs ys first.1 second)

-- ---- in blocks, each of a key

module _ {Y : Type 0} (p : Y → Bool) (block : MemberKey → List Y) where
  abbrev size : MemberKey → ℕ
  size key = length (block key)

  -- where none of them has it
  in-none : (keys : List MemberKey) → ((key : MemberKey) → Contains keys key → position_or_len p (block key) ≡ length (block key))
      → position_or_len p (flat_map block keys) ≡ sum_by size keys
  in-none [] none = refl
  in-none (key ∷ keys) none =
      position-behind p (block key) (flat_map block keys) (none key (stands_first key keys))
      ∙ ap (λ n. size key + n) (in-none keys (λ later there. none later (stands_later key later keys there)))
      ∙ sym (sum_by-cons size key keys)

  -- where that of a key has it, and no other
  in-block : (key : MemberKey) → position_or_len p (block key) < length (block key)
      → ((other : MemberKey) → same_key key other ≡ false → position_or_len p (block other) ≡ length (block other))
      → (keys : List MemberKey) → Contains keys key
      → position_or_len p (flat_map block keys)
      ≡ sum_by size (take (position_or_len (same_key key) keys) keys) + position_or_len p (block key)
  in-block key inside others [] there = absurd (stands_nowhere key there)
  in-block key inside others (first ∷ rest) there =
      by (same_key key first) refl (stands_where first key rest there) (in-block key inside others rest) where
        further : ℕ
        further = position_or_len (same_key key) rest

        by : (b : Bool) → same_key key first ≡ b → (first ≡ key) ⊎ Contains rest key
            → (Contains rest key → position_or_len p (flat_map block rest)
            ≡ sum_by size (take further rest) + position_or_len p (block key))
            → position_or_len p (block first ++ flat_map block rest)
            ≡ sum_by size (take (cond (not b) (1 + further) 0) (first ∷ rest)) + position_or_len p (block key)
        by true same place more =
            ap (λ first. position_or_len p (block first ++ flat_map block rest)) (sym (key-is key first same))
            ∙ position-front p (block key) (flat_map block rest) inside
            ∙ (let e : position_or_len p (block key) ≡ 0 + position_or_len p (block key) = omega arith in e)
        by false apart (inl same) more = absurd (true≢false (sym (key-self key) ∙ ap (same_key key) (sym same) ∙ apart))
        by false apart (inr later) more =
            let next : 1 + further ≡ suc further = omega arith in
            let sums : sum_by size (take (1 + further) (first ∷ rest)) ≡ size first + sum_by size (take further rest) =
            ap (λ k. sum_by size (take k (first ∷ rest))) next ∙ sum_by-cons size first (take further rest) in
            position-behind p (block first) (flat_map block rest) (others first apart) ∙ ap (λ n. size first + n) (more later)
            ∙ (let sum : size first + (sum_by size (take further rest) + position_or_len p (block key))
            ≡ sum_by size (take (1 + further) (first ∷ rest)) + position_or_len p (block key) = omega (arith, sums) in sum)

-- ---- in the order

module _ (sources : List SourceUnit) where
  abbrev view : View ℕ MemberKey
  view = view_in sources

  abbrev in_paths : List (ℕ × File)
  in_paths = by_path (numbered (files_of sources))

  abbrev classes : List Numbered
  classes = map (λ (file : ℕ × File). numbered_class file.0) in_paths

  abbrev members : List Numbered
  members = map numbered_member (keys_of sources)

  abbrev methods : List Numbered
  methods = flat_map (numbered_at_key view) (keys_of sources)

  abbrev place : Numbered → ℕ
  place item = position_or_len (same_numbered item) (order_by view (files_of sources))

  classes-length : length classes ≡ length sources
  classes-length = length-map in_paths (λ (file : ℕ × File). numbered_class file.0)
      ∙ sym (length-map in_paths (λ (file : ℕ × File). file.0)) ∙ order-length sources

  members-length : length members ≡ length (keys_of sources)
  members-length = length-map (keys_of sources) numbered_member

  front-length : length (classes ++ members) ≡ length sources + length (keys_of sources)
  front-length = length-append classes members ∙ (λ i. classes-length i + members-length i)

  -- classes come first
  pub class-place : (unit : ℕ) (source : SourceUnit) → slice_get sources unit ≡ Some source
      → place (numbered_class unit) ≡ position (numbers_by_path sources) unit
  class-place unit source there =
      position-front p (classes ++ members) methods (omega (arith, inside, front, front-length))
      ∙ front where
        p : Numbered → Bool
        p = same_numbered (numbered_class unit)

        is : position_or_len p classes ≡ position (numbers_by_path sources) unit
        is = position-map (λ (file : ℕ × File). numbered_class file.0) p in_paths
            ∙ sym (position-map (λ (file : ℕ × File). file.0) (λ number. unit == number) in_paths)

        inside : position (numbers_by_path sources) unit < length sources
        inside = omega (arith, place-within sources unit source there, order-length sources)

        front : position_or_len p (classes ++ members) ≡ position (numbers_by_path sources) unit
        front = position-front p classes members (omega (arith, is, inside, classes-length)) ∙ is

  -- what is the number of no file has no place
  pub class-nowhere : (unit : ℕ) → length sources ≤ unit → place (numbered_class unit)
      ≡ length sources + length (keys_of sources) + sum_by (given_at view) (keys_of sources)
  class-nowhere unit past =
      position-behind p (classes ++ members) methods none-front
      ∙ (λ i. front-length i + in-none p (numbered_at_key view) (keys_of sources) (λ key there.
      none-given (declaration_at view key)) i) where
        p : Numbered → Bool
        p = same_numbered (numbered_class unit)

        apart : AllOf (λ (file : ℕ × File). (unit == file.0) ≡ false) in_paths
        apart = all-sorted (λ file. (unit == file.0) ≡ false) (numbered (files_of sources))
            (all-each (λ (file : ℕ × File). (unit == file.0) ≡ false) (numbered (files_of sources)) (λ file there.
            let known = source-there sources file.0 file.1 (from_numbered (files_of sources) file there) in
            false_from_ne_true (unit == file.0)
            (λ same. omega (arith, past, eqb-true unit file.0 same, slice_get_within sources file.0 known.0 known.1))))

        none-classes : position_or_len p classes ≡ length classes
        none-classes = position-map (λ (file : ℕ × File). numbered_class file.0) p in_paths
            ∙ position-none (λ (file : ℕ × File). unit == file.0) in_paths apart
            ∙ sym (length-map in_paths (λ (file : ℕ × File). numbered_class file.0))

        none-front : position_or_len p (classes ++ members) ≡ length (classes ++ members)
        none-front = position-behind p classes members none-classes
            ∙ ap (λ n. length classes + n) (position-none p members
            (all-map (λ item. p item ≡ false) numbered_member (keys_of sources) (λ key. refl)))
            ∙ sym (length-append classes members)

        none-given : (o : Option Declaration)
            → position_or_len p (option_map_or (numbered_in_method view) o []) ≡ length (option_map_or (numbered_in_method view) o [])
        none-given None = refl
        none-given (Some declared) = by (same_key (topmost view declared).key declared.key) where
          by : (b : Bool) → position_or_len p
              (if b then numbered_method declared.key ∷ map (numbered_param declared.key) (below declared.arity) else [])
              ≡ length (if b then numbered_method declared.key ∷ map (numbered_param declared.key) (below declared.arity) else [])
          by false = refl
          by true = position-none p (numbered_method declared.key ∷ map (numbered_param declared.key) (below declared.arity))
              (refl, all-map (λ item. p item ≡ false) (numbered_param declared.key) (below declared.arity) (λ param. refl))

  -- then members
  pub member-place : (key : MemberKey) → Contains (keys_of sources) key
      → place (numbered_member key) ≡ length sources + place_of sources key
  member-place key there =
      position-front p (classes ++ members) methods (omega (arith, front, front-length, place-inside sources key there)) ∙ front where
        p : Numbered → Bool
        p = same_numbered (numbered_member key)

        none : position_or_len p classes ≡ length classes
        none = position-none p classes
            (all-map (λ item. p item ≡ false) (λ (file : ℕ × File). numbered_class file.0) in_paths (λ file. refl))

        front : position_or_len p (classes ++ members) ≡ length sources + place_of sources key
        front = position-behind p classes members none
            ∙ (λ i. classes-length i + position-map numbered_member p (keys_of sources) i)

  -- and then methods and parameters
  module _ (item : Numbered) (no_class : (number : ℕ) → same_numbered item (numbered_class number) ≡ false)
      (no_member : (key : MemberKey) → same_numbered item (numbered_member key) ≡ false) where
    behind-members : place item ≡ length sources + length (keys_of sources) + position_or_len (same_numbered item) methods
    behind-members =
        position-behind (same_numbered item) (classes ++ members) methods
        (position-none (same_numbered item) (classes ++ members) (all-both (λ x. same_numbered item x ≡ false) classes members
        (all-map (λ x. same_numbered item x ≡ false) (λ (file : ℕ × File). numbered_class file.0) in_paths (λ file. no_class file.0))
        (all-map (λ x. same_numbered item x ≡ false) numbered_member (keys_of sources) no_member)))
        ∙ ap (λ n. n + position_or_len (same_numbered item) methods) front-length

    -- of one key alone
    module _ (key : MemberKey)
        (no_method : (other : MemberKey) → same_key key other ≡ false → same_numbered item (numbered_method other) ≡ false)
        (no_param : (other : MemberKey) (param : ℕ) → same_key key other ≡ false
        → same_numbered item (numbered_param other param) ≡ false) where
      abbrev in_block : MemberKey → ℕ
      in_block other = position_or_len (same_numbered item) (numbered_at_key view other)

      not-in : (other : MemberKey) → same_key key other ≡ false → in_block other ≡ length (numbered_at_key view other)
      not-in other apart = by (declaration_at view other) refl where
        by : (o : Option Declaration) → declaration_at view other ≡ o
            → position_or_len (same_numbered item) (option_map_or (numbered_in_method view) o [])
            ≡ length (option_map_or (numbered_in_method view) o [])
        by None none = refl
        by (Some declared) found = at (same_key (topmost view declared).key declared.key) where
          differs : same_key key declared.key ≡ false
          differs = ap (same_key key) (found-there sources other declared found).1 ∙ apart

          at : (b : Bool) → position_or_len (same_numbered item)
              (if b then numbered_method declared.key ∷ map (numbered_param declared.key) (below declared.arity) else [])
              ≡ length (if b then numbered_method declared.key ∷ map (numbered_param declared.key) (below declared.arity) else [])
          at false = refl
          at true =
              position-none (same_numbered item) (numbered_method declared.key ∷ map (numbered_param declared.key) (below declared.arity)) (
                no_method declared.key differs,
                all-map (λ x. same_numbered item x ≡ false) (numbered_param declared.key) (below declared.arity)
                    (λ param. no_param declared.key param differs),
              )

      module _ (stands : Contains (keys_of sources) key) where
        -- where it has a number there
        pub numbered-place : in_block key < length (numbered_at_key view key)
            → place item ≡ length sources + length (keys_of sources)
            + (sum_by (given_at view) (take (place_of sources key) (keys_of sources)) + in_block key)
        numbered-place inside =
            behind-members ∙ ap (λ n. length sources + length (keys_of sources) + n)
            (in-block (same_numbered item) (numbered_at_key view) key inside not-in (keys_of sources) stands)

        -- and where it has none
        pub nowhere-place : numbered_at_key view key ≡ [] → place item
            ≡ length sources + length (keys_of sources) + sum_by (given_at view) (take (length (keys_of sources)) (keys_of sources))
        nowhere-place none =
            behind-members ∙ ap (λ n. length sources + length (keys_of sources) + n)
            (in-none (same_numbered item) (numbered_at_key view) (keys_of sources) (λ other there. by other (same_key key other) refl)
            ∙ ap (sum_by (given_at view)) (sym (take_all (length (keys_of sources)) (keys_of sources) (omega arith)))) where
              by : (other : MemberKey) (b : Bool) → same_key key other ≡ b → in_block other ≡ length (numbered_at_key view other)
              by other true same =
                  let empty : numbered_at_key view other ≡ [] = ap (numbered_at_key view) (sym (key-is key other same)) ∙ none in
                  ap (position_or_len (same_numbered item)) empty ∙ sym (ap length empty)
              by other false apart = not-in other apart
