-- What is made with a part that was written last: where it is made, that part is there. And what is made for a kind that was found.
use Rattle.std.proofs.Common.{◌≡◌, Ok, Err, Result, sym, ap, ◌∙◌}
use Rattle.std.specs.Prelude.{IfOk, IsOkAnd}

pub with_last : {A B E : Type 0} (r : Result A E) (make : A → B) (last : A) (whole : B) → IsOkAnd r (λ part. whole ≡ make part)
    → IfOk r (λ part. part ≡ last) → whole ≡ make last
with_last (Ok part) make last whole is same = is ∙ ap make same
with_last (Err e) make last whole is same = absurd is

pub as_found : {K A E : Type 0} (r : Result A E) (make : K → A) (kind found : K) → kind ≡ found → IfOk r (λ whole. whole ≡ make found)
    → IfOk r (λ whole. whole ≡ make kind)
as_found (Ok whole) make kind found same is = is ∙ sym (ap make same)
as_found (Err e) make kind found same is = tt
