-- Going up from a class in one program and in another one that has the same superclasses on the way.
use Rattle.std.proofs.Common.{◌≡◌, ℕ, zero, suc, Bool, true, false, List, [], ◌∷◌, ◌++◌, Option, None, Some, Contains, refl, sym, ap, subst, ◌∙◌, if◌then◌else◌, arith}
use Rattle.std.proofs.lemmas.Map.Views.{Contains-from_any, list_any-from_Contains}
use Rattle.std.specs.Cmp.{eq_by_cmp_equiv}
use Rattle.std.specs.List.{list_any}
use Rattle.std.specs.Prelude.{◌⊎◌}
use Rattle.std.proofs.Common.{inl, inr}
use Rattle.jav_names.proofs.Lists.{stands_first, stands_later, stands_nowhere, stands_where}
use Rattle.mol_base.specs.Order.{id_cmp-total}
use Rattle.mol_base.specs.declared.ident.Id.{Id}
use Rattle.mol_faults_laws.proofs.support_lemmas.Named.{upper}
use Rattle.mol_table_rules.proofs.Living.{id_tied}
use Rattle.mol_table_rules.specs.Ancestors.{is_on_way, unmet, walk, way}
use Rattle.mol_table_rules.specs.Program.{Program, same_id}

-- ---- lists

-- what stands in a list parts it
pub parted : (xs : List Id) (y : Id) → Contains xs y → (below : List Id) × (above : List Id) × (xs ≡ below ++ y ∷ above)
parted [] y stands = absurd (stands_nowhere y stands)
parted (x ∷ xs) y stands = by (stands_where x y xs stands) (parted xs y) where
  by : (x ≡ y) ⊎ Contains xs y → (Contains xs y → (below : List Id) × (above : List Id) × (xs ≡ below ++ y ∷ above))
      → (below : List Id) × (above : List Id) × (x ∷ xs ≡ below ++ y ∷ above)
  by (inl same) more = ([], xs, ap (λ z. z ∷ xs) same)
  by (inr later) more = let rest = more later in (x ∷ rest.0, rest.1, ap (λ zs. x ∷ zs) rest.2)

never-empty : (below : List Id) (y : Id) (above : List Id) → [] ≡ below ++ y ∷ above → ⊥
never-empty [] y above is = absurd cc
never-empty (x ∷ below) y above is = absurd cc

-- ---- ways

pub on-stands : (program : Program) (class above : Id) → is_on_way program class above ≡ true → Contains (way program class) above
on-stands program class above is = Contains-from_any id_tied above (way program class) is

pub stands-on : (program : Program) (class above : Id) → Contains (way program class) above → is_on_way program class above ≡ true
stands-on program class above stands = list_any-from_Contains (eq_by_cmp_equiv id_cmp-total) above (way program class) stands

pub way-begins : (program : Program) (class : Id) → Contains (way program class) class
way-begins program class = (zero, omega arith, refl)

-- what is above a class on the way is on it
abbrev pub IsClosedWay : Program → Id → Type 0
IsClosedWay program lower = (class above : Id) → Contains (way program lower) class → upper program class ≡ Some above
    → Contains (way program lower) above

nothing : (program : Program) (n : ℕ) (met : List Id) → walk n program met None ≡ []
nothing program zero met = refl
nothing program (suc n) met = refl

module _ (first second : Program) (lower : Id) (closed : IsClosedWay second lower) (Good : Id → Type 0) where
  -- Each class below the last one has the same one above it in the second program.
  abbrev pub Steps : List Id → Type 0
  Steps below = (class next : Id) → Contains below class → Good class → Contains (way second lower) class → upper first class ≡ Some next
      → (upper second class ≡ Some next) × Good next

  -- going on from a class
  abbrev Later : ℕ → List Id → List Id → Id → List Id → Type 0
  Later n met below last above = (y : Id) → walk n first met (Some y) ≡ below ++ last ∷ above → Good y → Contains (way second lower) y
      → Contains (way second lower) last

  pub climbs : (n : ℕ) (met : List Id) (x : Id) (below : List Id) (last : Id) (above : List Id)
      → walk n first met (Some x) ≡ below ++ last ∷ above → Good x → Contains (way second lower) x → Steps below
      → Contains (way second lower) last
  climbs zero met x below last above is good stands steps = absurd (never-empty below last above is)
  climbs (suc n) met x [] last above is good stands steps =
      let same : x ≡ last = cc in subst (Contains (way second lower)) same stands
  climbs (suc n) met x (b ∷ below) last above is good stands steps =
      by (upper first x) refl rest
      (λ y rest good stands. climbs n (x ∷ met) y below last above rest good stands
      (λ class next there. steps class next (stands_later b class below there)))
    where
      same : b ≡ x
      same = cc

      rest : walk n first (x ∷ met) (unmet (x ∷ met) (upper first x)) ≡ below ++ last ∷ above
      rest = cc

      ended : walk n first (x ∷ met) None ≡ below ++ last ∷ above → ⊥
      ended is = never-empty below last above (sym (nothing first n (x ∷ met)) ∙ is)

      chosen : (y : Id) → upper first x ≡ Some y → Later n (x ∷ met) below last above → (b : Bool)
          → walk n first (x ∷ met) (if b then None else Some y) ≡ below ++ last ∷ above → Contains (way second lower) last
      chosen y up later true is = absurd (ended is)
      chosen y up later false is =
          let step = steps x y (subst (Contains (b ∷ below)) same (stands_first b below)) good stands up in
          later y is step.1 (closed x y stands step.0)

      by : (o : Option Id) → upper first x ≡ o → walk n first (x ∷ met) (unmet (x ∷ met) o) ≡ below ++ last ∷ above
          → Later n (x ∷ met) below last above → Contains (way second lower) last
      by None up is later = absurd (ended is)
      by (Some y) up is later = chosen y up later (list_any (same_id y) (x ∷ met)) is
