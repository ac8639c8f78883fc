-- Parts that declare names, one after the other, and what is in scope afterwards.
use Rattle.std.proofs.Common.{◌≡◌, ℕ, ◌+◌, ◌<◌, ◌≤◌, List, [], ◌∷◌, ◌++◌, map, drop, take, length, get_or, refl, sym, ap, ◌∙◌, append_assoc, append-nil, arith}
use Rattle.std.proofs.lemmas.List.{at_drop_more, at_drop_all, length-take, take-take, take_all, take_at}
use Rattle.jav_names.specs.DottedNames.{Name, Names}
use Rattle.mol_spell_rules.specs.LocalClashes.{Scoped, Scopes, unscoped, then_next, in_block, each, declaring}

-- nothing is declared
pub then-none : (before : Scoped) → then_next before unscoped ≡ before
then-none before = λ i. record { in_scope = before.in_scope; clashes = append-nil before.clashes i }

-- one part and another, after what was before
pub then-both : (before : Scoped) (first second : Scopes)
    → then_next (then_next before first) second ≡ then_next before (λ names. then_next (first names) second)
then-both before first second =
    let last = second (first before.in_scope).in_scope in
    λ i. record {
      in_scope = last.in_scope;
      clashes = append_assoc before.clashes (first before.in_scope).clashes last.clashes i;
    }

-- ---- each of several

module _ {X : Type 0} (of : X → Scopes) (xs : List X) (i : ℕ) where
  pub turn-more : (x : X) (whole before after : Scoped) → i < length xs → x ≡ get_or xs i x
      → then_next before (each (map of (drop i xs))) ≡ whole → after ≡ then_next before (of x)
      → then_next after (each (map of (drop (i + 1) xs))) ≡ whole
  turn-more x whole before after within is so_far next =
      let rest = drop (i + 1) xs in
      ap (λ (scoped : Scoped). then_next scoped (each (map of rest))) next
      ∙ then-both before (of x) (each (map of rest))
      ∙ ap (λ (y : X). then_next before (each (map of (y ∷ rest)))) is
      ∙ sym (at_drop_more (λ (ys : List X). then_next before (each (map of ys))) xs i x within)
      ∙ so_far

  pub turn-done : (whole before : Scoped) → length xs ≤ i → then_next before (each (map of (drop i xs))) ≡ whole → before ≡ whole
  turn-done whole before past so_far =
      sym (then-none before) ∙ sym (at_drop_all (λ (ys : List X). then_next before (each (map of ys))) xs i past) ∙ so_far

-- ---- the same, in other words

pub stays : (before : Scoped) (whole : Scopes) → whole ≡ unscoped → before ≡ then_next before whole
stays before whole none = sym (then-none before) ∙ ap (then_next before) (sym none)

pub goes : (before after : Scoped) (part whole : Scopes) → whole ≡ part → after ≡ then_next before part → after ≡ then_next before whole
goes before after part whole same is = is ∙ ap (then_next before) (sym same)

pub goes-both : (before middle after : Scoped) (first second : Scopes) → middle ≡ then_next before first
    → after ≡ then_next middle second → after ≡ then_next before (λ names. then_next (first names) second)
goes-both before middle after first second once again =
    again ∙ ap (λ (scoped : Scoped). then_next scoped second) once ∙ then-both before first second

-- ---- what was in scope stays so

pub kept-own : (names : Names) → take (length names) names ≡ names
kept-own names = take_all (length names) names (omega arith)

pub kept-same : (before after : Names) → after ≡ before → take (length before) after ≡ before
kept-same before after same = ap (take (length before)) same ∙ kept-own before

pub kept-declared : (before after : Scoped) (name : Name) → after ≡ then_next before (declaring name)
    → take (length before.in_scope) after.in_scope ≡ before.in_scope
kept-declared before after name is =
    ap (λ (scoped : Scoped). take (length before.in_scope) scoped.in_scope) is
    ∙ take_at before.in_scope (name ∷ []) (length before.in_scope) refl

pub kept-further : (first middle last : Names) → take (length first) middle ≡ first → take (length middle) last ≡ middle
    → take (length first) last ≡ first
kept-further first middle last once again =
    let long : length first ≤ length middle = omega (arith, length-take (length first) middle, ap length once) in
    sym (take-take (length first) (length middle) last long) ∙ ap (take (length first)) again ∙ once

-- the end of a block
module _ (before middle after : Scoped) (mark : ℕ) (part whole : Scopes) (marked : mark ≡ length before.in_scope)
    (is : middle ≡ then_next before part) (kept : take (length before.in_scope) middle.in_scope ≡ before.in_scope)
    (ended : after ≡ record { in_scope = take mark middle.in_scope; clashes = middle.clashes })
    (blocked : whole ≡ (λ names. in_block names (part names))) where
  pub ended-kept : after.in_scope ≡ before.in_scope
  ended-kept = ap (λ (scoped : Scoped). scoped.in_scope) ended ∙ ap (λ n. take n middle.in_scope) marked ∙ kept

  pub ended-scope : after ≡ then_next before whole
  ended-scope =
      (λ i. record { in_scope = ended-kept i; clashes = (ended i).clashes })
      ∙ (λ i. record { in_scope = before.in_scope; clashes = (is i).clashes })
      ∙ ap (then_next before) (sym blocked)
