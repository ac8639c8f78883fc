-- Lists whose items belong together, place by place.
use Rattle.std.proofs.Common.{List, [], ◌∷◌, ◌++◌}
use Rattle.std.specs.List.{AllZip}

-- what is said of each two is said of each two in another way
pub zip-each : {A B : Type 0} (R S : A → B → Type 0) → ((x : A) (y : B) → R x y → S x y) → (xs : List A) (ys : List B) → AllZip R xs ys
    → AllZip S xs ys
zip-each R S more [] [] all = tt {0}
zip-each R S more [] (y ∷ ys) all = absurd all
zip-each R S more (x ∷ xs) [] all = absurd all
zip-each R S more (x ∷ xs) (y ∷ ys) all = (more x y all.0, zip-each R S more xs ys all.1)

-- two more at the ends
pub zip-more : {A B : Type 0} (R : A → B → Type 0) (xs : List A) (ys : List B) (x : A) (y : B) → AllZip R xs ys → R x y
    → AllZip R (xs ++ x ∷ []) (ys ++ y ∷ [])
zip-more R [] [] x y all one = (one, tt {0})
zip-more R [] (z ∷ ys) x y all one = absurd all
zip-more R (z ∷ xs) [] x y all one = absurd all
zip-more R (w ∷ xs) (z ∷ ys) x y all one = (all.0, zip-more R xs ys x y all.1 one)
