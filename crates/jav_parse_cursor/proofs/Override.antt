-- The name `Override` as a test and a step.
use Rattle.std.proofs.Common.{◌≡◌, Bool, true, false, List, [], ◌∷◌, Err, if◌then◌else◌, refl}
use Rattle.mol_base.specs.Token.{Token}
use Rattle.jav_parse_cursor.specs.Reading.{take_token, begins_override, expect_override}

pub override_is : (ts : List Token) → expect_override ts ≡ (if begins_override ts then take_token ts else Err ts)
unfolding expect_override take_token
override_is [] = refl
override_is (t ∷ ts) = refl
