-- The heights of classes, found once each.
use Rattle.std.specs.Prelude.{◌≡◌, ℕ, ◌+◌, ◌≤◌, Bool, true, false, cond, List, [], ◌∷◌, ◌++◌, length, Option, None, Some, IfSome}
use Rattle.std.proofs.Common.{suc, zero, refl, sym, ap, subst, ◌∙◌, arith}
use Rattle.std.specs.FinMap.{get}
use Rattle.mol_base.specs.declared.ident.Id.{Id}
use Rattle.mol_table_rules.specs.Heights.{upward, climb, height}
use Rattle.mol_table.specs.Maps.{counts_of, program_in}
use Rattle.mol_table_rules.specs.Program.{Program, same_id}
use Rattle.mol_table_numbers.specs.Tops.{height_in, height_at, Ends, IsHeight, AreHeights}
use Rattle.mol_table_rules.specs.Heights.{Leads}
use Rattle.mol_table.specs.declared.maps.Maps.{Maps}
use Rattle.mol_table_rules.proofs.Counts.{none-some, some-same}
use Rattle.mol_table_rules.proofs.Living.{id_tied}
use Rattle.mol_table_numbers.proofs.TopsFound.{height-up, climb-on, ends-up}

-- what holds of the item of an option
pub held : {A : Type 0} (P : A → Type 0) (o : Option A) (x : A) → o ≡ Some x → IfSome o P → P x
held P o x is = subst (λ o. IfSome o P) is

module _ (maps : Maps) where
  abbrev program : Program
  program = program_in maps

  -- one class more
  pub leads-push : (start : Option Id) (classes : List Id) (class : Id) → Leads program start classes (Some class) → Leads program start (classes ++ class ∷ []) (upward program (Some class))
  leads-push start [] class e = (e, ap (upward program) e)
  leads-push start (x ∷ classes) class h = (h.0, leads-push (upward program start) classes class h.1)

  pub none-ends : Ends maps None
  none-ends = at (suc (length maps.known.entries)) where
    at : (n : ℕ) → climb program n None ≡ None
    at zero = refl
    at (suc n) = at n

  -- the classes are as many steps
  leads-climb : (start : Option Id) (classes : List Id) (at : Option Id) → Leads program start classes at → (n : ℕ) → climb program (length classes + n) start ≡ climb program n at
  leads-climb start [] at e n = let same : length {A = Id} [] + n ≡ n = omega arith in ap (λ k. climb program k start) same ∙ ap (climb program n) e
  leads-climb start (class ∷ classes) at h n =
      let same : length (class ∷ classes) + n ≡ suc (length classes + n) = omega arith in
      ap (λ k. climb program k start) same ∙ leads-climb (upward program start) classes at h.1 n

  -- as many steps as a class is high are enough
  height-climb : (n : ℕ) (at : Option Id) → climb program n at ≡ None → climb program (height program n at) at ≡ None
  height-climb zero at e = e
  height-climb (suc n) None e = refl
  height-climb (suc n) (Some class) e = height-climb n (upward program (Some class)) e

  -- where the last class ends, and the first is no higher than this, the first ends
  pub leads-ends : (start : Option Id) (classes : List Id) (at : Option Id) → Leads program start classes at → Ends maps at
      → (length classes + height_at maps at) ≤ suc (length maps.known.entries) → Ends maps start
  leads-ends start classes at leads ends few =
      climb-on maps (length classes + height_at maps at) (suc (length maps.known.entries)) start few (leads-climb start classes at leads (height_at maps at) ∙ last at ends) where
        last : (at : Option Id) → Ends maps at → climb program (height_at maps at) at ≡ None
        last None ends = refl
        last (Some class) ends = height-climb (suc (length maps.known.entries)) (Some class) ends

  pub step : (class : Id) → Ends maps (Some class) → height_in maps class ≡ suc (height_at maps (upward program (Some class)))
  step class ends = at (upward program (Some class)) refl where
    at : (o : Option Id) → upward program (Some class) ≡ o → height_in maps class ≡ suc (height_at maps o)
    at None e = ap (λ o. suc (height program (length maps.known.entries) o)) e ∙ ap suc (top (length maps.known.entries)) where
      top : (n : ℕ) → height program n None ≡ 0
      top zero = refl
      top (suc n) = refl
    at (Some parent) e = height-up maps class parent ends e

  -- the first is as many higher as there are classes
  pub leads-height : (start : Option Id) (classes : List Id) (at : Option Id) → Leads program start classes at → Ends maps start → height_at maps start ≡ length classes + height_at maps at
  leads-height start [] at e ends = let same = ap (height_at maps) e in omega (arith, same)
  leads-height start (class ∷ classes) at h ends =
      let first = ap (height_at maps) h.0 in
      let up = step class (subst (Ends maps) h.0 ends) in
      let same = ap (λ o. height_at maps (upward program o)) h.0 in
      let rest = leads-height (upward program start) classes at h.1 (ends-up maps start ends) in
      omega (arith, first, up, same, rest)

  height-few : (class : Id) → height_in maps class ≤ suc (length maps.known.entries)
  height-few class = few (suc (length maps.known.entries)) (Some class) where
    few : (n : ℕ) (at : Option Id) → height program n at ≤ n
    few zero at = omega arith
    few (suc n) None = omega arith
    few (suc n) (Some class) = let rest = few n (upward program (Some class)) in omega (arith, rest)

  pub height-at-few : (at : Option Id) → height_at maps at ≤ suc (length maps.known.entries)
  height-at-few None = omega arith
  height-at-few (Some class) = height-few class

  -- one more height
  pub heights-more : (old new : List (Id × ℕ)) (class : Id) (high : ℕ) → IsHeight maps class high
      → ((q : Id) → get (counts_of new) q ≡ cond (same_id q class) (Some high) (get (counts_of old) q)) → AreHeights maps old → AreHeights maps new
  heights-more old new class high is put are q h e = at (same_id q class) refl where
    at : (b : Bool) → same_id q class ≡ b → IsHeight maps q h
    at true same =
        let found : h ≡ high = some-same h high (sym e ∙ put q ∙ ap (λ b. cond b (Some high) (get (counts_of old) q)) same) in
        subst (λ x. IsHeight maps x h) (sym (id_tied q class same)) (record { ends = is.ends; is = found ∙ is.is })
    at false same = are q h (sym (put q ∙ ap (λ b. cond b (Some high) (get (counts_of old) q)) same) ∙ e)

  pub heights-none : (heights : List (Id × ℕ)) → ((q : Id) → get (counts_of heights) q ≡ None) → AreHeights maps heights
  heights-none heights none q h e = absurd (none-some h (sym (none q) ∙ e))
