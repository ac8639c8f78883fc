-- The names in scope, one local further.
use Rattle.std.proofs.Common.{◌≡◌, ℕ, zero, suc, ◌<◌, List, [], ◌∷◌, ◌++◌, map, length, Option, Some, slice_get, refl, ◌∙◌, arith}
use Rattle.std.proofs.lemmas.List.{map_push}
use Rattle.std.proofs.lemmas.List.Elements.{All-head, All-tail}
use Rattle.std.specs.List.{All}
use Rattle.std.specs.Option.{option_map_or}
use Rattle.mol_resolve_rules.specs.Locals.{Local, Locals, declare, local_name, names_in_scope}

got-left : {X : Type 0} (xs : List X) (x : X) (k : ℕ) → k < length xs → slice_get (xs ++ x ∷ []) k ≡ slice_get xs k
got-left [] x k inside = absurd (omega arith)
got-left (y ∷ ys) x zero inside = refl
got-left (y ∷ ys) x (suc k) inside = got-left ys x k (omega arith)

got-last : {X : Type 0} (xs : List X) (x : X) → slice_get (xs ++ x ∷ []) (length xs) ≡ Some x
got-last [] x = refl
got-last (y ∷ ys) x = got-last ys x

module _ {C : Type 0} (locals : Locals C) (local : Local C) where
  abbrev Inside : ℕ → Type 0
  Inside number = number < length locals.declared

  abbrev name_in : Option (Local C) → List ℕ
  name_in found = option_map_or (λ (known : Local C). known.name) found []

  names-before : (numbers : List ℕ) → All Inside numbers
      → map (local_name (declare local locals)) numbers ≡ map (local_name locals) numbers
  names-before [] inside = refl
  names-before (number ∷ numbers) inside = λ i.
      name_in (got-left locals.declared local number (All-head Inside number numbers inside) i)
      ∷ names-before numbers (All-tail Inside number numbers inside) i

  pub names-declared : All Inside locals.in_scope
      → names_in_scope (declare local locals) ≡ names_in_scope locals ++ local.name ∷ []
  names-declared inside =
      map_push (local_name (declare local locals)) locals.in_scope (length locals.declared)
      ∙ (λ i. names-before locals.in_scope inside i ++ name_in (got-last locals.declared local i) ∷ [])
