-- A result that is handed over: what was made with what it holds, and what that is.
use Rattle.std.proofs.Common.{Ok, Err, Result}
use Rattle.std.specs.Prelude.{IfOk, IsOkAnd}

pub with_part : {A E : Type 0} (r : Result A E) (Made Is : A → Type 0) (C : Type 0) → IsOkAnd r Made → IfOk r Is
    → ((part : A) → Made part → Is part → C) → C
with_part (Ok part) Made Is C made is use_both = use_both part made is
with_part (Err e) Made Is C made is use_both = absurd made
