-- What stands at a name after something was put at one.
use Rattle.std.proofs.Common.{◌≡◌, ℕ, Bool, true, false, cond, if◌then◌else◌, Option, Some, refl}
use Rattle.std.specs.Option.{option_flatten}

pub put-found : (here : Bool) (value : Option ℕ) (old : Option (Option ℕ))
    → option_flatten (cond here (Some value) old) ≡ (if here then value else option_flatten old)
put-found true value old = refl
put-found false value old = refl
