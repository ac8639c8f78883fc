-- Following superclasses.
use Rattle.std.proofs.Common.{◌≡◌, ◌⊎◌, inl, inr, ℕ, zero, suc, ◌+◌, Option, Some, None, refl, sym, ◌∙◌, ap, subst, arith}
use Rattle.mol_base.specs.declared.ident.Id.{Id}
use Rattle.mol_table_rules.specs.Heights.{upward, climb}
use Rattle.mol_table_rules.specs.Program.{Program}
use Rattle.mol_table_rules.proofs.Counts.{none-some, some-same}
use Rattle.mol_scope_classes.specs.hierarchy.Reaching.{Reaches}

module _ (program : Program) where
  pub climb-none : (steps : ℕ) → climb program steps None ≡ None
  climb-none zero = refl
  climb-none (suc steps) = climb-none steps

  pub nowhere : (steps : ℕ) (start : Option Id) (above : Id) → start ≡ None → climb program steps start ≡ Some above → ⊥
  nowhere steps start above none is = none-some above (sym (climb-none steps) ∙ sym (ap (climb program steps) none) ∙ is)

  pub climb-on : (first next : ℕ) (at : Option Id) → climb program (first + next) at ≡ climb program next (climb program first at)
  climb-on zero next at = let same : 0 + next ≡ next = omega arith in ap (λ n. climb program n at) same
  climb-on (suc first) next at =
      let same : suc first + next ≡ suc (first + next) = omega arith in
      ap (λ n. climb program n at) same ∙ climb-on first next (upward program at)

  pub itself : (class : Id) → Reaches program class class
  itself class = record { steps = 0; leads = refl }

  pub one-step : (class next : Id) → upward program (Some class) ≡ Some next → Reaches program class next
  one-step class next is = record { steps = 1; leads = is }

  pub further : (class next above : Id) → Reaches program class next → Reaches program next above → Reaches program class above
  further class next above to on = record {
    steps = to.steps + on.steps;
    leads = climb-on to.steps on.steps (Some class) ∙ ap (climb program on.steps) to.leads ∙ on.leads;
  }

  -- to the class itself, or past the next one
  pub first-step : (class above : Id) → Reaches program class above
      → (class ≡ above) ⊎ ((next : Id) × (upward program (Some class) ≡ Some next) × Reaches program next above)
  first-step class above reaches = by reaches.steps reaches.leads (upward program (Some class)) refl where
    by : (steps : ℕ) → climb program steps (Some class) ≡ Some above → (o : Option Id) → upward program (Some class) ≡ o
        → (class ≡ above) ⊎ ((next : Id) × (upward program (Some class) ≡ Some next) × Reaches program next above)
    by zero is o up = inl (some-same class above is)
    by (suc steps) is None up = absurd (nowhere steps (upward program (Some class)) above up is)
    by (suc steps) is (Some next) up = inr (next, up, record { steps = steps; leads = sym (ap (climb program steps) up) ∙ is })

  -- it does not lead out of what is closed
  pub stays : (Within : Id → Type 0) → ((below above : Id) → Within below → upward program (Some below) ≡ Some above → Within above)
      → (steps : ℕ) (class above : Id) → climb program steps (Some class) ≡ Some above → Within class → Within above
  stays Within closed zero class above is within = subst Within (some-same class above is) within
  stays Within closed (suc steps) class above is within = by (upward program (Some class)) refl
      (λ next. stays Within closed steps next above) where
        by : (o : Option Id) → upward program (Some class) ≡ o
            → ((next : Id) → climb program steps (Some next) ≡ Some above → Within next → Within above) → Within above
        by None up more = absurd (nowhere steps (upward program (Some class)) above up is)
        by (Some next) up more = more next (sym (ap (climb program steps) up) ∙ is) (closed class next within up)
