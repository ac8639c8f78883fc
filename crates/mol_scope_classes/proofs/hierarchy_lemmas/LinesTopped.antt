-- The end of a line: its last classes are given a place at the top.
use Rattle.std.proofs.Common.{◌≡◌, ◌⊎◌, inl, inr, ℕ, zero, suc, ◌+◌, ◌<◌, ◌≤◌, Bool, true, false, cond, not, List, [], ◌∷◌, ◌++◌, take, drop, length, get_or, Some, None, Contains, slice_get, refl, sym, ◌∙◌, ap, subst, arith, true≢false}
use Rattle.std.specs.Prelude.{Result, Ok, Err, IfOk, OnOk}
use Rattle.std.specs.Cmp.{eq_by_cmp_equiv}
use Rattle.std.specs.List.{list_any, IsDistinct}
use Rattle.std.proofs.lemmas.Bool.{cases_lt}
use Rattle.std.proofs.lemmas.List.{take-append-drop, get_or-take, get_or-drop, length-take, length-drop, length-append}
use Rattle.std.proofs.lemmas.List.Elements.{Contains-append_left, Contains-append_right, Contains-push_cases}
use Rattle.std.proofs.lemmas.Map.Keys.{apart_from_distinct}
use Rattle.std.proofs.lemmas.Map.Views.{Contains-from_any, list_any-from_Contains}
use Rattle.mol_base.specs.Order.{id_cmp-total}
use Rattle.mol_base.specs.declared.ident.Id.{Id}
use Rattle.mol_base.specs.declared.memory.OutOfMemory.{OutOfMemory}
use Rattle.mol_resolve_rules.proofs.Stands.{in_place}
use Rattle.mol_table_rules.proofs.Living.{id_tied, same_id-own}
use Rattle.mol_table_rules.specs.Heights.{upward}
use Rattle.mol_table_rules.specs.Program.{Program, same_id}
use Rattle.mol_values_types.proofs.Ties.{id_ties, any_tied}
use Rattle.mol_values_types.specs.Order.{id_eq}
use Rattle.mol_scope_classes.specs.hierarchy.Forest.{top_place}
use Rattle.mol_scope_classes.specs.hierarchy.Placed.{number_in, ArePlaced, AreNew, IsLine, Adds, Keeps}
use Rattle.mol_table_rules.specs.Heights.{Leads}
use Rattle.mol_scope_classes.specs.hierarchy.Reaching.{AreTop}
use Rattle.mol_scope_classes.specs.declared.hierarchy.line.Line.{Line}
use Rattle.mol_scope_classes.specs.declared.hierarchy.place.Place.{Place}
use Rattle.mol_scope_classes.proofs.hierarchy_lemmas.PlacesAdded.{new-number, kept, top-added}
use Rattle.mol_scope_classes.proofs.hierarchy_lemmas.Tops.{leads-front, last-top, circle-top}
use Rattle.mol_scope_classes.proofs.hierarchy_lemmas.WaysUp.{get-front, get-inside}

-- ---- lists

drop-at : {X : Type 0} (xs : List X) (i : ℕ) (x : X) → slice_get xs i ≡ Some x → drop i xs ≡ x ∷ drop (suc i) xs
drop-at [] i x is = absurd cc
drop-at (y ∷ xs) zero x is = let same : y ≡ x = cc in ap (λ z. z ∷ xs) same
drop-at (y ∷ xs) (suc i) x is = drop-at xs i x is

take-front : {X : Type 0} (front back : List X) → take (length front) (front ++ back) ≡ front
take-front [] back = refl
take-front (x ∷ front) back = ap (λ rest. x ∷ rest) (take-front front back)

drop-front : {X : Type 0} (front back : List X) → drop (length front) (front ++ back) ≡ back
drop-front [] back = refl
drop-front (x ∷ front) back = drop-front front back

-- what stands in front does not stand behind
parted : (ids : List Id) (i : ℕ) (id : Id) → IsDistinct id_eq ids → Contains (take i ids) id → Contains (drop i ids) id → ⊥
parted ids i id distinct front back =
    let low : front.0 < i = omega (arith, front.1, length-take i ids) in
    let high : i + back.0 < length ids = omega (arith, back.1, length-drop i ids) in
    let apart = apart_from_distinct id_eq ids front.0 (i + back.0) id distinct (omega (arith, low)) high in
    let first : get_or ids front.0 id ≡ id = sym (get_or-take i ids front.0 id low) ∙ front.2 in
    let second : get_or ids (i + back.0) id ≡ id = sym (get_or-drop i ids back.0 id) ∙ back.2 in
    true≢false (sym (id_ties id id ∙ same_id-own id) ∙ (λ k. id_eq (sym first k) (sym second k)) ∙ apart)

-- ---- whether a class was met

opposite : (a b : Bool) → a ≡ not b → a ≡ true → b ≡ false
opposite a true is holds = absurd (true≢false (sym holds ∙ is))
opposite a false is holds = refl

agreeing : (a b : Bool) → a ≡ not b → a ≡ false → b ≡ true
agreeing a true is fails = refl
agreeing a false is fails = absurd (true≢false (sym is ∙ fails))

module _ (keys more : List Id) (at : Id) (is_new : Bool) (is : is_new ≡ not (list_any (id_eq at) keys))
    (put : more ≡ cond (list_any (id_eq at) keys) keys (keys ++ at ∷ [])) where
  pub pushed : is_new ≡ true → more ≡ keys ++ at ∷ []
  pushed holds = put ∙ ap (λ b. cond b keys (keys ++ at ∷ [])) (opposite is_new (list_any (id_eq at) keys) is holds)

  pub unmet-before : is_new ≡ true → list_any (same_id at) keys ≡ false
  unmet-before holds = sym (any_tied (λ x. x) at keys) ∙ opposite is_new (list_any (id_eq at) keys) is holds

  pub same-keys : is_new ≡ false → more ≡ keys
  same-keys fails = put ∙ ap (λ b. cond b keys (keys ++ at ∷ [])) (agreeing is_new (list_any (id_eq at) keys) is fails)

-- the place at which it is found
pub found-at : (more : List Id) (first : ℕ) (at k : Id) → slice_get more first ≡ Some k → id_eq at k ≡ true → slice_get more first ≡ Some at
found-at more first at k is same = is ∙ ap (λ x. Some x) (sym (id_tied at k (sym (id_ties at k) ∙ same)))

-- one more class without a place
pub pushed-new : (numbers : List (Id × ℕ)) (keys : List Id) (at : Id) → AreNew numbers keys → number_in numbers at ≡ None
    → AreNew numbers (keys ++ at ∷ [])
pushed-new numbers keys at new bare x stands = by (Contains-push_cases keys at x stands) where
  by : Contains keys x ⊎ (at ≡ x) → number_in numbers x ≡ None
  by (inl old) = new x old
  by (inr own) = ap (number_in numbers) (sym own) ∙ bare

-- ---- lines that end

pub record IsEnded (program : Program) (numbers : List (Id × ℕ)) (class at : Id) (more : List Id) (first : ℕ) : Type 0 where
  pub leads : Leads program (Some class) (take first more) (Some at)
  pub top : AreTop program at (drop first more)
  pub unplaced : AreNew numbers more

module _ (program : Program) (numbers : List (Id × ℕ)) (class at : Id) (keys more : List Id) (first : ℕ)
    (leads : Leads program (Some class) keys (Some at)) (unplaced : AreNew numbers keys) (there : slice_get more first ≡ Some at) where
  -- in a circle
  pub circle-ended : more ≡ keys → IsEnded program numbers class at more first
  circle-ended same =
      let on : Leads program (Some class) more (Some at) = subst (λ ids. Leads program (Some class) ids (Some at)) (sym same) leads in
      let whole : Leads program (Some class) (take first more ++ drop first more) (Some at) =
      subst (λ ids. Leads program (Some class) ids (Some at)) (sym (take-append-drop first more)) on in
      let parts = leads-front program (Some class) (take first more) (drop first more) (Some at) whole in
      let back : Leads program parts.0 (at ∷ drop (suc first) more) (Some at) =
      subst (λ ids. Leads program parts.0 ids (Some at)) (drop-at more first at there) parts.2 in
      record {
        leads = subst (Leads program (Some class) (take first more)) back.0 parts.1;
        top = subst (AreTop program at) (sym (drop-at more first at there))
            (circle-top program at (drop (suc first) more) (subst
            (λ o. Leads program o (at ∷ drop (suc first) more) (Some at)) back.0 back));
        unplaced = subst (AreNew numbers) (sym same) unplaced;
      }

  -- where the last class extends no class that lives
  pub last-ended : more ≡ keys ++ at ∷ [] → upward program (Some at) ≡ None → number_in numbers at ≡ None
      → list_any (same_id at) keys ≡ false → IsEnded program numbers class at more first
  last-ended same up bare new = record {
    leads = subst (λ ids. Leads program (Some class) ids (Some at)) (sym taken) leads;
    top = subst (AreTop program at) (sym dropped) (last-top program at up);
    unplaced = subst (AreNew numbers) (sym same) (pushed-new numbers keys at unplaced bare);
  } where
    long : first < length (keys ++ at ∷ [])
    long = get-inside (keys ++ at ∷ []) first at (ap (λ ids. slice_get ids first) (sym same) ∙ there)

    not-low : first < length keys → ⊥
    not-low low =
        let inside : slice_get keys first ≡ Some at =
        sym (get-front keys (at ∷ []) first low) ∙ ap (λ ids. slice_get ids first) (sym same) ∙ there in
        true≢false (sym (list_any-from_Contains (eq_by_cmp_equiv id_cmp-total) at keys (in_place keys first at inside)) ∙ new)

    last : first ≡ length keys
    last = by_side (cases_lt first (length keys)) where
      by_side : (first < length keys) ⊎ (length keys ≤ first) → first ≡ length keys
      by_side (inl low) = absurd (not-low low)
      by_side (inr high) = omega (arith, high, long, length-append keys (at ∷ []))

    taken : take first more ≡ keys
    taken = (λ i. take (last i) (same i)) ∙ take-front keys (at ∷ [])

    dropped : drop first more ≡ at ∷ []
    dropped = (λ i. drop (last i) (same i)) ∙ drop-front keys (at ∷ [])

module _ (program : Program) (numbers : List (Id × ℕ)) (places : List Place) (class at : Id) (more : List Id) (first : ℕ)
    (ended : IsEnded program numbers class at more first) (new_numbers : List (Id × ℕ)) (new_places : List Place)
    (adds : Adds numbers places (drop first more) (top_place (length places)) new_numbers new_places) where
  new : AreNew numbers (drop first more)
  new x stands = ended.unplaced x (subst (λ ids. Contains ids x) (take-append-drop first more)
      (Contains-append_right (take first more) (drop first more) x stands))

  pub ended-placed : ArePlaced program numbers places → ArePlaced program new_numbers new_places
  ended-placed placed = top-added program numbers places (drop first more)
      (top_place (length places)) new_numbers new_places adds new placed
      at ended.top refl

  pub ended-line : IsLine program new_numbers class (take first more) (length places)
  ended-line = record {
    at = at;
    leads = ended.leads;
    is = new-number program numbers places (drop first more)
        (top_place (length places)) new_numbers new_places adds new at ended.top.stands;
  }

  pub ended-kept : Keeps numbers new_numbers
  ended-kept = kept program numbers places (drop first more) (top_place (length places)) new_numbers new_places adds new

  pub ended-unplaced : IsDistinct id_eq more → AreNew new_numbers (take first more)
  ended-unplaced distinct x stands =
      by (list_any (same_id x) (drop first more)) refl where
        by : (b : Bool) → list_any (same_id x) (drop first more) ≡ b → number_in new_numbers x ≡ None
        by true among = absurd (parted more first x distinct stands (Contains-from_any id_tied x (drop first more) among))
        by false not =
            adds.numbered x ∙ ap (λ b. cond b (Some (length places)) (number_in numbers x)) not
            ∙ ended.unplaced x (subst (λ ids. Contains ids x) (take-append-drop first more)
            (Contains-append_left (take first more) (drop first more) x stands))

-- ---- what is answered

module _ (r : Result Line OutOfMemory) (front : List Id) (last : ℕ) (Added : Type 0) (left : IfOk r (λ line. line.classes.keys ≡ front))
    (above : IfOk r (λ line. line.above ≡ last)) (added : OnOk r Added) where
  pub of-line : (P : List Id → ℕ → Type 0) → (Added → P front last) → IfOk r (λ line. P line.classes.keys line.above)
  of-line P from = by r left above added where
    by : (r : Result Line OutOfMemory) → IfOk r (λ line. line.classes.keys ≡ front) → IfOk r (λ line. line.above ≡ last) → OnOk r Added
        → IfOk r (λ line. P line.classes.keys line.above)
    by (Ok line) keys number a = subst (λ ids. P ids line.above) (sym keys) (subst (P front) (sym number) (from a))
    by (Err e) keys number a = tt

pub of-state : (r : Result Line OutOfMemory) (Added Q : Type 0) → OnOk r Added → (Added → Q) → OnOk r Q
of-state (Ok line) Added Q a from = from a
of-state (Err e) Added Q a from = tt
