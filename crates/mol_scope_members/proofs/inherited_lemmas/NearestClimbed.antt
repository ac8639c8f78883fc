-- Going up past classes that lack what is looked for.
use Rattle.std.proofs.Common.{◌≡◌, ℕ, zero, suc, ◌+◌, ◌<◌, ◌≤◌, false, Option, Some, None, option_map, if◌then◌else◌, refl, sym, ◌∙◌, ap, arith}
use Rattle.jav_scope.specs.Climbs.{above, climb, found_first, look_from}
use Rattle.jav_names.proofs.Ways.{has_class-decides}
use Rattle.jav_names.specs.LookUps.{class_in, found_or, is_outside}
use Rattle.jav_names.specs.Views.{View, found, not_found}
use Rattle.mol_base.specs.declared.ident.Id.{Id}
use Rattle.mol_scope_members.specs.declaring.Owners.{IsNearest}
use Rattle.mol_scope_members.specs.declared.declaring.nearest.Nearest.{Nearest}
use Rattle.mol_scope_classes.proofs.hierarchy_lemmas.Following.{nowhere}
use Rattle.mol_resolve_rules.proofs.ProgramsViewed.{programs_viewed}
use Rattle.mol_resolve_rules.specs.ProgramViews.{program_view}
use Rattle.mol_table_rules.proofs.Counts.{some-same}
use Rattle.mol_table_rules.specs.Heights.{upward, climb as upwards}
use Rattle.mol_table_rules.specs.Program.{Program}
use Rattle.mol_table_rules.specs.Rules.{IsProgram}
use Rattle.mol_scope_members.proofs.inherited_lemmas.Reached.{extends}

module _ (program : Program) (rules : IsProgram program) where
  abbrev view : View Id Id
  view = program_view program

  -- a superclass that lives is met next
  above-found : (class next : Id) → upward program (Some class) ≡ Some next → above view class ≡ found next
  above-found class next up =
      let step = extends program rules class next up in
      let ordered = (programs_viewed.ordered program).classes in
      ap (λ type. found_or (class_in view.classes type) (is_outside type)) step.named
      ∙ ap (λ b. found_or (if b then Some next else None) false)
      ((has_class-decides view.classes ordered next).1 step.stands)

  module _ {X : Type 0} (here : Id → Option X) where
    -- the classes that are met in so many steps lack it
    abbrev Lack : ℕ → Option Id → Type 0
    Lack steps at = (less : ℕ) (class : Id) → less < steps → upwards program less at ≡ Some class → here class ≡ None

    one-up : (n : ℕ) (class next : Id) → here class ≡ None → upward program (Some class) ≡ Some next
        → climb (suc n) view here class ≡ climb n view here next
    one-up n class next none up =
        ap (λ o. found_first o (look_from (above view class) (climb n view here))) none
        ∙ ap (λ f. look_from f (climb n view here)) (above-found class next up)

    lack-next : (steps : ℕ) (class next : Id) → upward program (Some class) ≡ Some next → Lack (suc steps) (Some class)
        → Lack steps (Some next)
    lack-next steps class next up lack less at few led =
        lack (suc less) at (omega (arith, few)) (ap (upwards program less) up ∙ led)

    past : (steps : ℕ) (class next : Id) → upwards program steps (Some class) ≡ Some next → Lack steps (Some class) → (n : ℕ)
        → climb (steps + n) view here class ≡ climb n view here next
    past zero class next led lack n =
        let none : 0 + n ≡ n = omega arith in
        (λ i. climb (none i) view here (some-same class next led i))
    past (suc steps) class next led lack n = by (upward program (Some class)) refl (λ above. past steps above next) where
      more : suc steps + n ≡ suc (steps + n)
      more = omega arith

      by : (o : Option Id) → upward program (Some class) ≡ o
          → ((above : Id) → upwards program steps (Some above) ≡ Some next → Lack steps (Some above) → (m : ℕ)
          → climb (steps + m) view here above ≡ climb m view here next)
          → climb (suc steps + n) view here class ≡ climb n view here next
      by None up on = absurd (nowhere program steps (upward program (Some class)) next up led)
      by (Some above) up on =
          ap (λ m. climb m view here class) more
          ∙ one-up (steps + n) class above (lack 0 class (omega arith) refl) up
          ∙ on above (sym (ap (upwards program steps) up) ∙ led) (lack-next steps class above up lack) n

    too-few : (steps n : ℕ) (class next : Id) → upwards program steps (Some class) ≡ Some next → Lack steps (Some class) → n ≤ steps
        → climb n view here class ≡ not_found
    too-few steps zero class next led lack few = refl
    too-few zero (suc n) class next led lack few = absurd (omega (arith, few))
    too-few (suc steps) (suc n) class next led lack few =
        by (upward program (Some class)) refl (λ above. too-few steps n above next) where
          by : (o : Option Id) → upward program (Some class) ≡ o
              → ((above : Id) → upwards program steps (Some above) ≡ Some next → Lack steps (Some above) → n ≤ steps
              → climb n view here above ≡ not_found)
              → climb (suc n) view here class ≡ not_found
          by None up on = absurd (nowhere program steps (upward program (Some class)) next up led)
          by (Some above) up on =
              one-up n class above (lack 0 class (omega arith) refl) up
              ∙ on above (sym (ap (upwards program steps) up) ∙ led) (lack-next steps class above up lack) (omega (arith, few))

    -- ---- to the class to look at next

    module _ (class : Id) (nearest : Nearest) (is : IsNearest program (λ at. here at ≡ None) class nearest) where
      pub climb-near : (n : ℕ) → climb (nearest.steps + n) view here class ≡ climb n view here nearest.class
      climb-near = past nearest.steps class nearest.class is.leads is.lacking

      pub climb-short : (n : ℕ) → n ≤ nearest.steps → climb n view here class ≡ not_found
      climb-short n few = too-few nearest.steps n class nearest.class is.leads is.lacking few

-- what lacks something lacks what is made of it
pub nearest-made : {X Y : Type 0} (program : Program) (here : Id → Option X) (make : X → Y) (class : Id) (nearest : Nearest)
    → IsNearest program (λ at. here at ≡ None) class nearest → IsNearest program (λ at. option_map make (here at) ≡ None) class nearest
nearest-made program here make class nearest is = record {
  leads = is.leads;
  lacking = λ steps above few led. ap (option_map make) (is.lacking steps above few led);
}
