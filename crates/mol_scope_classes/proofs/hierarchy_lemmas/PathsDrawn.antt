-- Classes that are added to paths.
use Rattle.std.proofs.Common.{◌≡◌, ℕ, suc, ◌≤◌, Bool, true, false, cond, List, [], Some, refl, sym, ◌∙◌, ap, true≢false, arith}
use Rattle.std.specs.FinMap.{get-empty}
use Rattle.std.specs.Option.{option_map_or}
use Rattle.mol_base.specs.Order.{id_cmp}
use Rattle.mol_base.specs.declared.ident.Id.{Id}
use Rattle.mol_table_rules.proofs.Living.{id_apart, id_tied, same_id-own}
use Rattle.mol_table_rules.specs.Heights.{upward}
use Rattle.mol_table_rules.specs.Program.{Program, same_id}
use Rattle.mol_scope_classes.specs.hierarchy.Paths.{AreDrawn, ArePaths, CanFollow, Extends, Follows, IsNext, last_in, place_on, position_in}
use Rattle.mol_scope_classes.specs.declared.hierarchy.position.Position.{Position}

-- without any, each class stands first
pub none-drawn : (program : Program) → AreDrawn program [] []
none-drawn program = record {
  paths = record {
    first = λ class top is. ap (λ (p : Position). p.top) (sym (alone class) ∙ is);
    further = λ class top depth is.
        let deeper : 0 ≡ suc depth = ap (λ (p : Position). p.depth) (sym (alone class) ∙ is) in absurd (omega (arith, deeper));
    apart = λ first second same. ap (λ (p : Position). p.top) (sym (alone first) ∙ same ∙ alone second);
  };
  within = λ class top depth is.
      let here : 0 ≡ depth = ap (λ (p : Position). p.depth) (sym (alone class) ∙ is) in omega (arith, here);
} where
  alone : (class : Id) → position_in [] class ≡ place_on class 0
  alone class = ap (λ found. option_map_or (λ (p : Position). p) found (place_on class 0)) (get-empty id_cmp class)

module _ (program : Program) (positions new_positions : List (Id × Position)) (lasts new_lasts : List (Id × ℕ)) (class above : Id)
    (place : Position) (up : upward program (Some class) ≡ Some above) (drawn : AreDrawn program positions lasts)
    (next : IsNext positions lasts class above place) (follows : Follows positions lasts class place new_positions new_lasts) where
  abbrev can : CanFollow positions lasts class (position_in positions above)
  can = next.can

  abbrev depth : ℕ
  depth = place.depth

  abbrev top : Id
  top = place.top

  abbrev above_top : Id
  above_top = (position_in positions above).top

  same-top : place.top ≡ above_top
  same-top = ap (λ (p : Position). p.top) next.is

  deeper : place.depth ≡ suc ((position_in positions above).depth)
  deeper = ap (λ (p : Position). p.depth) next.is

  abbrev high : ℕ
  high = (position_in positions above).depth

  abbrev paths : ArePaths program positions
  paths = drawn.paths

  put-at : (id : Id) (b : Bool) → same_id id class ≡ b
      → position_in new_positions id ≡ cond b (place_on top depth) (position_in positions id)
  put-at id b is = follows.placed id ∙ ap (λ b. cond b (place_on top depth) (position_in positions id)) is

  grown-at : (id : Id) (b : Bool) → same_id id top ≡ b → last_in new_lasts id ≡ cond b depth (last_in lasts id)
  grown-at id b is = follows.ends id ∙ ap (λ b. cond b depth (last_in lasts id)) is

  -- the class stood first, on a path without others
  own-first : class ≡ (position_in positions class).top
  own-first = paths.first class ((position_in positions class).top) (ap (place_on ((position_in positions class).top)) can.alone)

  other-above : same_id above class ≡ false
  other-above = id_apart above class (λ same. can.elsewhere
      (ap (λ (id : Id). (position_in positions id).top) same ∙ sym own-first))

  new-above : position_in new_positions above ≡ place_on top high
  new-above = put-at above false other-above ∙ (λ i. place_on (sym same-top i) high)

  new-first : (id head : Id) → position_in new_positions id ≡ place_on head 0 → id ≡ head
  new-first id head is = by (same_id id class) refl where
    by : (b : Bool) → same_id id class ≡ b → id ≡ head
    by true same =
        let clash : depth ≡ 0 = ap (λ (p : Position). p.depth) (sym (put-at id true same) ∙ is) in absurd (omega (arith, clash, deeper))
    by false apart = paths.first id head (sym (put-at id false apart) ∙ is)

  new-further : (id head : Id) (low : ℕ) → position_in new_positions id ≡ place_on head (suc low)
      → Extends program new_positions id (place_on head low)
  new-further id head low is = by (same_id id class) refl where
    old : Extends program positions id (place_on head low) → position_in positions id ≡ place_on head (suc low)
        → Extends program new_positions id (place_on head low)
    old extends stood = at (same_id extends.above class) refl where
      at : (b : Bool) → same_id extends.above class ≡ b → Extends program new_positions id (place_on head low)
      at true same =
          let stands : position_in positions class ≡ place_on head low =
          ap (position_in positions) (sym (id_tied extends.above class same)) ∙ extends.stands in
          let of : head ≡ class = sym (ap (λ (p : Position). p.top) stands) ∙ sym own-first in
          let most = drawn.within id head (suc low) stood in
          let free : last_in lasts head ≡ 0 = ap (last_in lasts) of ∙ can.free in
          absurd (omega (arith, most, free))
      at false apart = record {
        above = extends.above;
        up = extends.up;
        stands = put-at extends.above false apart ∙ extends.stands;
      }

    by : (b : Bool) → same_id id class ≡ b → Extends program new_positions id (place_on head low)
    by true same =
        let place : place_on top depth ≡ place_on head (suc low) = sym (put-at id true same) ∙ is in
        let of : top ≡ head = ap (λ (p : Position). p.top) place in
        let down : depth ≡ suc low = ap (λ (p : Position). p.depth) place in
        let level : high ≡ low = omega (arith, down, deeper) in
        record {
          above = above;
          up = ap (λ (x : Id). upward program (Some x)) (id_tied id class same) ∙ up;
          stands = new-above ∙ (λ i. place_on (of i) (level i));
        }
    by false apart =
        let stood : position_in positions id ≡ place_on head (suc low) = sym (put-at id false apart) ∙ is in
        old (paths.further id head low stood) stood

  -- no class stood at the new place
  unmet : (id : Id) → place_on top depth ≡ position_in positions id → ⊥
  unmet id is =
      let most = drawn.within id top depth (sym is) in
      let end : last_in lasts top ≡ high = ap (last_in lasts) same-top ∙ can.last in
      absurd (omega (arith, most, end, deeper))

  new-apart : (first second : Id) → position_in new_positions first ≡ position_in new_positions second → first ≡ second
  new-apart first second is = by (same_id first class) (same_id second class) refl refl where
    by : (a b : Bool) → same_id first class ≡ a → same_id second class ≡ b → first ≡ second
    by true true one two = id_tied first class one ∙ sym (id_tied second class two)
    by true false one two = absurd (unmet second (sym (put-at first true one) ∙ is ∙ put-at second false two))
    by false true one two = absurd (unmet first (sym (put-at second true two) ∙ sym is ∙ put-at first false one))
    by false false one two = paths.apart first second (sym (put-at first false one) ∙ is ∙ put-at second false two)

  new-within : (id head : Id) (low : ℕ) → position_in new_positions id ≡ place_on head low → low ≤ last_in new_lasts head
  new-within id head low is = by (same_id id class) (same_id head top) refl refl where
    by : (a b : Bool) → same_id id class ≡ a → same_id head top ≡ b → low ≤ last_in new_lasts head
    by true true one two =
        let down : depth ≡ low = ap (λ (p : Position). p.depth) (sym (put-at id true one) ∙ is) in
        omega (arith, down, grown-at head true two)
    by true false one two =
        let of : top ≡ head = ap (λ (p : Position). p.top) (sym (put-at id true one) ∙ is) in
        absurd (true≢false (sym (same_id-own top) ∙ ap (λ (x : Id). same_id x top) of ∙ two))
    by false true one two =
        let most = drawn.within id head low (sym (put-at id false one) ∙ is) in
        let at : last_in lasts head ≡ high = ap (last_in lasts) (id_tied head top two ∙ same-top) ∙ can.last in
        omega (arith, most, at, deeper, grown-at head true two)
    by false false one two =
        let most = drawn.within id head low (sym (put-at id false one) ∙ is) in
        omega (arith, most, grown-at head false two)

  pub more-drawn : AreDrawn program new_positions new_lasts
  more-drawn = record {
    paths = record { first = new-first; further = new-further; apart = new-apart };
    within = new-within;
  }
