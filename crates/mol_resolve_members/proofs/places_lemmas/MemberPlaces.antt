-- Where a member stands among those of all files, in the order of their paths.
use Rattle.std.proofs.Common.{◌≡◌, ◌⊎◌, inl, inr, ℕ, zero, suc, ◌+◌, ◌<◌, ◌==◌, Bool, true, false, cond, not, List, [], ◌∷◌, ◌++◌, map, length, take, sum_by, flat_map, Contains, refl, sym, ◌∙◌, ap, subst, arith, true≢false, eqb-true, eq-eqb}
use Rattle.std.specs.List.{position_or_len, range_with_len}
use Rattle.std.proofs.lemmas.List.{length-map}
use Rattle.std.proofs.lemmas.List.FromFn.{get_or-range_with_len, length-range_with_len}
use Rattle.std.proofs.lemmas.Bool.{false_from_ne_true}
use Rattle.std.proofs.lemmas.List.Sums.{position_or_len_is, sum_by-cons}
use Rattle.jav_names.specs.UnitViews.{MemberKey}
use Rattle.jav_names.proofs.Lists.{stands_where, stands_nowhere}
use Rattle.mol_resolve_rules.specs.Files.{File}
use Rattle.mol_resolve_rules.specs.Numbering.{below, same_key, member_keys}
use Rattle.mol_resolve_rules.proofs.NumbersApart.{key-self, key-is}
use Rattle.mol_resolve_members.specs.places.Orders.{position}
use Rattle.mol_resolve_members.proofs.places_lemmas.StableOrder.{AllOf}

-- ---- in lists that are put together

module _ {X : Type 0} (p : X → Bool) where
  -- what is found in front
  pub position-front : (xs ys : List X) → position_or_len p xs < length xs → position_or_len p (xs ++ ys) ≡ position_or_len p xs
  position-front [] ys inside = absurd (omega (arith, inside))
  position-front (x ∷ xs) ys inside = by (p x) inside (position-front xs ys) where
    by : (b : Bool) → cond (not b) (1 + position_or_len p xs) 0 < length (x ∷ xs)
        → (position_or_len p xs < length xs → position_or_len p (xs ++ ys) ≡ position_or_len p xs)
        → cond (not b) (1 + position_or_len p (xs ++ ys)) 0 ≡ cond (not b) (1 + position_or_len p xs) 0
    by true inside more = refl
    by false inside more = ap (λ n. 1 + n) (more (omega (arith, inside)))

  -- and what is not
  pub position-behind : (xs ys : List X) → position_or_len p xs ≡ length xs
      → position_or_len p (xs ++ ys) ≡ length xs + position_or_len p ys
  position-behind [] ys none = omega arith
  position-behind (x ∷ xs) ys none = by (p x) none (position-behind xs ys) where
    by : (b : Bool) → cond (not b) (1 + position_or_len p xs) 0 ≡ length (x ∷ xs)
        → (position_or_len p xs ≡ length xs → position_or_len p (xs ++ ys) ≡ length xs + position_or_len p ys)
        → cond (not b) (1 + position_or_len p (xs ++ ys)) 0 ≡ length (x ∷ xs) + position_or_len p ys
    by true none more = absurd (omega (arith, none))
    by false none more = omega (arith, more (omega (arith, none)))

  pub position-none : (xs : List X) → AllOf (λ x. p x ≡ false) xs → position_or_len p xs ≡ length xs
  position-none [] none = refl
  position-none (x ∷ xs) none =
      ap (λ b. cond (not b) (1 + position_or_len p xs) 0) none.0 ∙ (let more = position-none xs none.1 in omega (arith, more))

pub position-map : {X Y : Type 0} (make : X → Y) (p : Y → Bool) (xs : List X)
    → position_or_len p (map make xs) ≡ position_or_len (λ x. p (make x)) xs
position-map make p [] = refl
position-map make p (x ∷ xs) = ap (λ n. cond (not (p (make x))) (1 + n) 0) (position-map make p xs)

-- ---- in one file

abbrev key_of : ℕ → ℕ → MemberKey
key_of unit member = record { unit = unit; member = member }

key-fails : (key other : MemberKey) → ¬ (key ≡ other) → same_key key other ≡ false
key-fails key other apart = false_from_ne_true (same_key key other) (λ is. apart (key-is key other is))

all-map : {X Y : Type 0} (P : Y → Type 0) (make : X → Y) (xs : List X) → ((x : X) → P (make x)) → AllOf P (map make xs)
all-map P make [] each = tt
all-map P make (x ∷ xs) each = (each x, all-map P make xs each)

keys-counted : (file : ℕ × File) → length (member_keys file) ≡ length file.1.unit.class.members
keys-counted file = length-map (below (length file.1.unit.class.members)) (key_of file.0)
    ∙ length-range_with_len 0 (length file.1.unit.class.members)

place-in_file : (file : ℕ × File) (member : ℕ) → member < length file.1.unit.class.members
    → position_or_len (same_key (key_of file.0 member)) (member_keys file) ≡ member
place-in_file file member below =
    position-map (key_of file.0) (same_key (key_of file.0 member)) (range_with_len 0 count)
    ∙ position_or_len_is here (range_with_len 0 count) member 0 (omega (arith, below, length-range_with_len 0 count))
    (λ k earlier. ap here (get_or-range_with_len 0 count k 0 (omega (arith, earlier, below)))
    ∙ key-fails (key_of file.0 member) (key_of file.0 (0 + k))
    (λ same. absurd (omega (arith, earlier, ap (λ (key : MemberKey). key.member) same))))
    (λ within. ap here (get_or-range_with_len 0 count member 0 below)
    ∙ ap here (let e : 0 + member ≡ member = omega arith in e) ∙ key-self (key_of file.0 member)) where
      count : ℕ
      count = length file.1.unit.class.members

      here : ℕ → Bool
      here k = same_key (key_of file.0 member) (key_of file.0 k)

-- ---- in all of them

abbrev numbers : List (ℕ × File) → List ℕ
numbers files = map (λ (file : ℕ × File). file.0) files

module _ (at : ℕ → ℕ) where
  abbrev pub IsCounted : ℕ × File → Type 0
  IsCounted file = at file.0 ≡ length file.1.unit.class.members

  pub place-in_order : (files : List (ℕ × File)) → AllOf IsCounted files → (unit member : ℕ)
      → Contains (numbers files) unit → member < at unit
      → position_or_len (same_key (key_of unit member)) (flat_map member_keys files)
      ≡ sum_by at (take (position (numbers files) unit) (numbers files)) + member
  place-in_order [] all unit member there within = absurd (stands_nowhere unit there)
  place-in_order (file ∷ files) all unit member there within =
      by (unit == file.0) refl (stands_where file.0 unit (numbers files) there)
      (λ later. place-in_order files all.1 unit member later within) where
        rest : List MemberKey
        rest = flat_map member_keys files

        here : member < length file.1.unit.class.members
            → position_or_len (same_key (key_of file.0 member)) (member_keys file ++ rest) ≡ 0 + member
        here inside =
            let place = place-in_file file member inside in
            position-front (same_key (key_of file.0 member)) (member_keys file) rest (omega (arith, place, inside, keys-counted file))
            ∙ place ∙ (let e : member ≡ 0 + member = omega arith in e)

        not_here : ¬ (unit ≡ file.0)
            → position_or_len (same_key (key_of unit member)) (member_keys file ++ rest)
            ≡ at file.0 + position_or_len (same_key (key_of unit member)) rest
        not_here apart =
            position-behind (same_key (key_of unit member)) (member_keys file) rest
            (position-none (same_key (key_of unit member)) (member_keys file)
            (all-map (λ key. same_key (key_of unit member) key ≡ false) (key_of file.0) (below_of file)
            (λ k. key-fails (key_of unit member) (key_of file.0 k) (λ same. apart (ap (λ (key : MemberKey). key.unit) same)))))
            ∙ ap (λ n. n + position_or_len (same_key (key_of unit member)) rest) (keys-counted file ∙ sym all.0) where
              below_of : ℕ × File → List ℕ
              below_of file = below (length file.1.unit.class.members)

        by : (b : Bool) → (unit == file.0) ≡ b → (file.0 ≡ unit) ⊎ Contains (numbers files) unit
            → (Contains (numbers files) unit → position_or_len (same_key (key_of unit member)) rest
            ≡ sum_by at (take (position (numbers files) unit) (numbers files)) + member)
            → position_or_len (same_key (key_of unit member)) (member_keys file ++ rest)
            ≡ sum_by at (take (cond (not b) (1 + position (numbers files) unit) 0) (file.0 ∷ numbers files)) + member
        by true same place more =
            let is : unit ≡ file.0 = eqb-true unit file.0 same in
            ap (λ u. position_or_len (same_key (key_of u member)) (member_keys file ++ rest)) is
            ∙ here (let counted : at file.0 ≡ length file.1.unit.class.members = all.0 in omega (arith, within, ap at is, counted))
        by false apart (inl same) more = absurd (true≢false (sym (eq-eqb unit file.0 (sym same)) ∙ apart))
        by false apart (inr later) more =
            let further : ℕ = position (numbers files) unit in
            let next : 1 + further ≡ suc further = omega arith in
            let sums : sum_by at (take (1 + further) (file.0 ∷ numbers files)) ≡ at file.0 + sum_by at (take further (numbers files))
            = ap (λ k. sum_by at (take k (file.0 ∷ numbers files))) next ∙ sum_by-cons at file.0 (take further (numbers files)) in
            not_here (λ same. true≢false (sym (eq-eqb unit file.0 same) ∙ apart)) ∙ ap (λ n. at file.0 + n) (more later)
            ∙ (let sum : at file.0 + (sum_by at (take further (numbers files)) + member)
            ≡ sum_by at (take (1 + further) (file.0 ∷ numbers files)) + member = omega (arith, sums) in sum)
