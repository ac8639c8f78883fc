-- Arrays of many dimensions, and their items.
use Rattle.std.proofs.Common.{◌≡◌, ℕ, zero, suc, ◌<◌, ◌≤◌, ◌-◌, false, Some, None, refl, ◌∙◌, ap, arith}
use Rattle.std.specs.Option.{option_map_or}
use Rattle.std.specs.declared.cmp.Ordering.{Ordering}
use Rattle.jav_names.specs.StaticTypes.{same_type}
use Rattle.jav_names.specs.Views.{ViewType, primitive_type, void_type, class_type, outside_type, array_type, unread_type}
use Rattle.mol_resolve_rules.specs.ReadTrees.{arrays}
use Rattle.mol_scope.specs.types.Items.{item_at}

-- ---- one dimension after the other

module _ {C : Type 0} where
  pub item-next : (count : ℕ) (type item : ViewType C) → 0 < count → Some item ≡ item_at 1 type
      → item_at count type ≡ item_at (count - 1) item
  item-next zero type item some is = absurd (omega (arith, some))
  item-next (suc count) (array_type own) item some is =
      let less : count ≡ suc count - 1 = omega arith in
      let same : own ≡ item = cc in
      λ i. item_at (less i) (same i)
  item-next (suc count) (primitive_type name) item some is = absurd cc
  item-next (suc count) void_type item some is = absurd cc
  item-next (suc count) (class_type class) item some is = absurd cc
  item-next (suc count) (outside_type text) item some is = absurd cc
  item-next (suc count) unread_type item some is = absurd cc

  pub item-none : (count : ℕ) (type : ViewType C) → 0 < count → None ≡ item_at 1 type → None ≡ item_at count type
  item-none zero type some is = absurd (omega (arith, some))
  item-none (suc count) (array_type own) some is = absurd cc
  item-none (suc count) (primitive_type name) some is = refl
  item-none (suc count) void_type some is = refl
  item-none (suc count) (class_type class) some is = refl
  item-none (suc count) (outside_type text) some is = refl
  item-none (suc count) unread_type some is = refl

-- ---- equal arrays

module _ {C : Type 0} (cmp : C → C → Ordering) where
  -- a type is an array of so many dimensions where its items so far in are
  same_type-items : (count : ℕ) (first second : ViewType C)
      → option_map_or (λ item. same_type cmp item second) (item_at count first) false ≡ same_type cmp first (arrays count second)
  same_type-items zero first second = refl
  same_type-items (suc count) (array_type item) second = same_type-items count item second
  same_type-items (suc count) (primitive_type name) second = refl
  same_type-items (suc count) void_type second = refl
  same_type-items (suc count) (class_type class) second = refl
  same_type-items (suc count) (outside_type text) second = refl
  same_type-items (suc count) unread_type second = refl

  items-same_type : (count : ℕ) (first second : ViewType C)
      → option_map_or (λ item. same_type cmp first item) (item_at count second) false ≡ same_type cmp (arrays count first) second
  items-same_type zero first second = refl
  items-same_type (suc count) first (array_type item) = items-same_type count first item
  items-same_type (suc count) first (primitive_type name) = refl
  items-same_type (suc count) first void_type = refl
  items-same_type (suc count) first (class_type class) = refl
  items-same_type (suc count) first (outside_type text) = refl
  items-same_type (suc count) first unread_type = refl

  pub same-below : (more further : ℕ) (first second : ViewType C) → more ≤ further
      → option_map_or (λ item. same_type cmp item second) (item_at (further - more) first) false
      ≡ same_type cmp (arrays more first) (arrays further second)
  same-below zero further first second within =
      let all : further - 0 ≡ further = omega arith in
      ap (λ n. option_map_or (λ item. same_type cmp item second) (item_at n first) false) all ∙ same_type-items further first second
  same-below (suc more) zero first second within = absurd (omega (arith, within))
  same-below (suc more) (suc further) first second within =
      let less : suc further - suc more ≡ further - more = omega arith in
      ap (λ n. option_map_or (λ item. same_type cmp item second) (item_at n first) false) less
      ∙ same-below more further first second (omega (arith, within))

  pub same-above : (more further : ℕ) (first second : ViewType C) → further ≤ more
      → option_map_or (λ item. same_type cmp first item) (item_at (more - further) second) false
      ≡ same_type cmp (arrays more first) (arrays further second)
  same-above more zero first second within =
      let all : more - 0 ≡ more = omega arith in
      ap (λ n. option_map_or (λ item. same_type cmp first item) (item_at n second) false) all ∙ items-same_type more first second
  same-above zero (suc further) first second within = absurd (omega (arith, within))
  same-above (suc more) (suc further) first second within =
      let less : suc more - suc further ≡ more - further = omega arith in
      ap (λ n. option_map_or (λ item. same_type cmp first item) (item_at n second) false) less
      ∙ same-above more further first second (omega (arith, within))
