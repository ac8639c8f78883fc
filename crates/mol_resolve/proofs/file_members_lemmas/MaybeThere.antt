-- What is read of a part that may be missing.
use Rattle.std.proofs.Common.{◌≡◌, Option, Some, None, option_map, refl, sym, subst}
use Rattle.mol_resolve_expr.proofs.Outcomes.{made_read}
use Rattle.mol_resolve_readings.specs.reads.Reads.{Reads}
use Rattle.mol_resolve_rules.specs.Outcomes.{TreeFault, Outcome, maybe}

module _ {S A : Type 0} (read : S → Outcome A) (part : Option S) where
  pub none-read : (first : Option TreeFault) → part ≡ None → Reads (maybe (option_map read part)) (Some None) first first
  none-read first is = subst (λ part. Reads (maybe (option_map read part)) (Some None) first first) (sym is)
      (record { value_read = refl; faults_noted = refl })

  pub some-read : (there : S) (value : Option A) (made : Option (Option A)) (first next : Option TreeFault) → part ≡ Some there
      → Reads (read there) value first next → made ≡ option_map (λ a. Some a) value
      → Reads (maybe (option_map read part)) made first next
  some-read there value made first next is reads made_is =
      subst (λ part. Reads (maybe (option_map read part)) made first next) (sym is)
      (made_read (λ (a : A). Some a) (read there) value made first next reads made_is)
