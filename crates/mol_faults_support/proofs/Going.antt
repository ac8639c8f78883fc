-- Going up from a class, step by step.
use Rattle.std.proofs.Common.{◌≡◌, ℕ, zero, suc, ◌+◌, ◌<◌, ◌≤◌, Bool, true, false, cond, ◌||◌, List, [], ◌∷◌, ◌++◌, Option, Some, None, refl, sym, ◌∙◌, ap, arith}
use Rattle.std.proofs.lemmas.List.{append_assoc, append-nil}
use Rattle.std.proofs.lemmas.List.Folds.{list_any-append}
use Rattle.std.specs.List.{list_any}
use Rattle.mol_base.specs.declared.ident.Id.{Id}
use Rattle.mol_faults_support.proofs.UpWays.{nothing}
use Rattle.mol_table_rules.specs.Ancestors.{living_parent, unmet, walk}
use Rattle.mol_table_rules.specs.Program.{Program, same_id, parent_at}

-- After so many steps these are met, and this class is next, if it was not met: what is left of the walk follows.
pub record Goes (program : Program) (steps : ℕ) (old : List Id) (class : Id) (now : List Id) (next : Option Id) (count : ℕ) : Type 0 where
  pub left : ℕ
  pub size : left + count ≡ steps
  pub met : List Id
  pub same : (id : Id) → list_any (same_id id) met ≡ list_any (same_id id) now
  pub rest : old ++ walk steps program old (unmet old (Some class)) ≡ now ++ walk left program met (unmet met next)

or-turn : (a b : Bool) → (a || b) ≡ (b || (a || false))
or-turn true true = refl
or-turn true false = refl
or-turn false true = refl
or-turn false false = refl

module _ (program : Program) (steps : ℕ) (old : List Id) (class : Id) where
  pub goes-start : Goes program steps old class old (Some class) 0
  goes-start = record { left = steps; size = omega arith; met = old; same = λ id. refl; rest = refl }

  -- where the next class was met
  pub goes-met : (now : List Id) (next : Id) (count : ℕ) → Goes program steps old class now (Some next) count
      → list_any (same_id next) now ≡ true → now ≡ old ++ walk steps program old (unmet old (Some class))
  goes-met now next count goes seen = sym (goes.rest
      ∙ ap (λ b. now ++ walk goes.left program goes.met (cond b None (Some next))) (goes.same next ∙ seen)
      ∙ ap (λ ids. now ++ ids) (nothing program goes.left goes.met) ∙ append-nil now)

  -- where there is none
  pub goes-end : (now : List Id) (count : ℕ) → Goes program steps old class now None count
      → now ≡ old ++ walk steps program old (unmet old (Some class))
  goes-end now count goes =
      sym (goes.rest ∙ ap (λ ids. now ++ ids) (nothing program goes.left goes.met) ∙ append-nil now)

  -- where no step is left
  pub goes-out : (now : List Id) (next : Option Id) (count : ℕ) → steps ≤ count → Goes program steps old class now next count
      → now ≡ old ++ walk steps program old (unmet old (Some class))
  goes-out now next count far goes =
      let none : goes.left ≡ 0 = omega (arith, far, goes.size) in
      sym (goes.rest ∙ ap (λ n. now ++ walk n program goes.met (unmet goes.met next)) none ∙ append-nil now)

  -- one step more
  pub goes-more : (now : List Id) (next : Id) (count : ℕ) → count < steps → Goes program steps old class now (Some next) count
      → list_any (same_id next) now ≡ false
      → Goes program steps old class (now ++ next ∷ []) (living_parent program (parent_at program next)) (count + 1)
  goes-more now next count within goes new = at goes.left goes.size goes.rest where
    same : (id : Id) → list_any (same_id id) (next ∷ goes.met) ≡ list_any (same_id id) (now ++ next ∷ [])
    same id = ap (λ b. same_id id next || b) (goes.same id) ∙ or-turn (same_id id next) (list_any (same_id id) now)
        ∙ sym (list_any-append (same_id id) now (next ∷ []))

    at : (left : ℕ) → left + count ≡ steps
        → old ++ walk steps program old (unmet old (Some class)) ≡ now ++ walk left program goes.met (unmet goes.met (Some next))
        → Goes program steps old class (now ++ next ∷ []) (living_parent program (parent_at program next)) (count + 1)
    at zero size rest = absurd (omega (arith, size, within))
    at (suc left) size rest = record {
      left = left;
      size = omega (arith, size);
      met = next ∷ goes.met;
      same = same;
      rest = rest
          ∙ ap (λ b. now ++ walk (suc left) program goes.met (cond b None (Some next))) (goes.same next ∙ new)
          ∙ sym (append_assoc now (next ∷ [])
          (walk left program (next ∷ goes.met) (unmet (next ∷ goes.met) (living_parent program (parent_at program next)))));
    }
