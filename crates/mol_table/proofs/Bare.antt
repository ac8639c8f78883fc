-- The least constructor without parameters, among those that more and more declarations declare.
use Rattle.std.specs.Prelude.{◌≡◌, Bool, true, false, cond, ◌&&◌, ◌||◌, List, [], ◌∷◌, ◌++◌, map, Option, None, Some, T, is_some}
use Rattle.std.proofs.Common.{refl, sym, ap, subst, ◌∙◌, true≢false}
use Rattle.std.proofs.lemmas.List.Folds.{list_any-append}
use Rattle.std.specs.List.{AllByRecursion, find, list_any}
use Rattle.std.specs.Option.{option_map_or}
use Rattle.std.specs.Ordering.{is_lt, is_eq, ordering_reverse}
use Rattle.std.specs.Cmp.{eq_by_cmp_equiv}
use Rattle.std.specs.declared.cmp.Ordering.{Ordering}
use Rattle.std.specs.declared.cmp.Ordering.TheVariants.{Less, Equal, Greater}
use Rattle.std.specs.FinMap.{entries, entries_sorted, keys, get, get-entries, is_sorted}
use Rattle.std.specs.FinMap.Entries.{below_all, is_some-find}
use Rattle.mol_base.specs.Order.{id_cmp, id_cmp-total, id_cmp-IsAntisymmetric}
use Rattle.mol_base.specs.declared.ident.Id.{Id}
use Rattle.mol_table.specs.Bare.{lesser, plain_in, bare_of, is_decl_in, is_bare_by, bare_by}
use Rattle.mol_table_rules.specs.Counting.{living_as, living_of, is_of}
use Rattle.mol_table_rules.specs.Life.{is_decl_of}
use Rattle.mol_table_rules.specs.Program.{Program, same_id, living_at, owner_at, params_at}
use Rattle.mol_table_rules.specs.Tidy.{is_constructor, is_plain, is_living_decl_in, bare_constructor}
use Rattle.mol_table.specs.Tidying.{bare_in}
use Rattle.mol_values_types.specs.TokenForms.{is_empty}
use Rattle.mol_values_types.specs.declared.known.Known.{Known}
use Rattle.mol_values_types.specs.declared.known.Known.TheVariants as knowns
use Rattle.mol_table_rules.proofs.Counts.{none-some, some-same, each_found}
use Rattle.mol_table_rules.proofs.Living.{id_tied, same_id-own}

-- ---- lists in order

abbrev pub Below : Id → List Id → Type 0
Below x [] = Unit {0}
Below x (k ∷ ks) = (id_cmp x k ≡ Less) × Below x ks

abbrev pub Ascends : List Id → Type 0
Ascends [] = Unit {0}
Ascends (k ∷ ks) = Below k ks × Ascends ks

both : (a b : Bool) → T (a && b) → T a × T b
both true b h = (tt, h)
both false b h = absurd h

less : (o : Ordering) → T (is_lt o) → o ≡ Less
less Less h = refl
less Equal h = absurd h
less Greater h = absurd h

below-keys : (x : Id) (es : List (Id × Known)) → T (below_all id_cmp x es) → Below x (map (λ e. e.0) es)
below-keys x [] h = tt {0}
below-keys x (e ∷ es) h = let parts = both _ _ h in (less _ parts.0, below-keys x es parts.1)

ascends-keys : (es : List (Id × Known)) → T (is_sorted id_cmp es) → Ascends (map (λ e. e.0) es)
ascends-keys [] h = tt {0}
ascends-keys (e ∷ es) h = let parts = both _ _ h in (below-keys e.0 es parts.0, ascends-keys es parts.1)

below-found : (p : Id → Bool) (x : Id) (ks : List Id) → Below x ks → (l : Id) → find p ks ≡ Some l → id_cmp x l ≡ Less
below-found p x [] below l e = absurd (none-some l e)
below-found p x (k ∷ ks) below l e = at (p k) e (below-found p x ks below.1 l) where
  at : (b : Bool) → cond b (Some k) (find p ks) ≡ Some l → (find p ks ≡ Some l → id_cmp x l ≡ Less) → id_cmp x l ≡ Less
  at true is later = subst (λ y. id_cmp x y ≡ Less) (some-same k l is) below.0
  at false is later = later is

pub below-has : (x q : Id) (ks : List Id) → Below x ks → list_any (same_id q) ks ≡ true → id_cmp x q ≡ Less
below-has x q [] below has = absurd (true≢false (sym has))
below-has x q (k ∷ ks) below has = at (same_id q k) refl has (below-has x q ks below.1) where
  at : (b : Bool) → same_id q k ≡ b → (b || list_any (same_id q) ks) ≡ true → (list_any (same_id q) ks ≡ true → id_cmp x q ≡ Less) → id_cmp x q ≡ Less
  at true is h later = subst (λ y. id_cmp x y ≡ Less) (sym (id_tied q k is)) below.0
  at false is h later = later h

is_lt-own : (x k : Id) → same_id x k ≡ true → is_lt (id_cmp x k) ≡ false
is_lt-own x k is = at (id_cmp x k) is where
  at : (o : Ordering) → is_eq o ≡ true → is_lt o ≡ false
  at Less e = absurd cc
  at Equal e = refl
  at Greater e = refl

is_lt-after : (x k : Id) → id_cmp k x ≡ Less → is_lt (id_cmp x k) ≡ false
is_lt-after x k is = ap is_lt (id_cmp-total.antisymm x k ∙ ap ordering_reverse is)

-- what passes does not come before the first that passes
pub find-first : (p : Id → Bool) (ks : List Id) → Ascends ks → (t : Id) → find p ks ≡ Some t → (x : Id) → p x ≡ true → list_any (same_id x) ks ≡ true → is_lt (id_cmp x t) ≡ false
find-first p [] up t is x passes has = absurd (none-some t is)
find-first p (k ∷ ks) up t is x passes has = at (p k) refl is (same_id x k) refl has (λ h any. find-first p ks up.1 t h x passes any) where
  at : (b : Bool) → p k ≡ b → cond b (Some k) (find p ks) ≡ Some t → (s : Bool) → same_id x k ≡ s → (s || list_any (same_id x) ks) ≡ true
      → (find p ks ≡ Some t → list_any (same_id x) ks ≡ true → is_lt (id_cmp x t) ≡ false) → is_lt (id_cmp x t) ≡ false
  at true e h true same any rest = ap (λ y. is_lt (id_cmp x y)) (sym (some-same k t h)) ∙ is_lt-own x k same
  at true e h false same any rest = ap (λ y. is_lt (id_cmp x y)) (sym (some-same k t h)) ∙ is_lt-after x k (below-has k x ks up.0 any)
  at false e h true same any rest = absurd (true≢false (sym passes ∙ ap p (id_tied x k same) ∙ e))
  at false e h false same any rest = rest h any

-- the least that passes one of two tests, the second of which is that it is x
pub find-or : (p : Id → Bool) (x : Id) (ks : List Id) → Ascends ks → list_any (same_id x) ks ≡ true
    → find (λ k. p k || same_id k x) ks ≡ Some (lesser (find p ks) x)
find-or p x [] up has = absurd (true≢false (sym has))
find-or p x (k ∷ ks) up has = at (p k) (same_id k x) refl (find-or p x ks up.1) where
  flipped : same_id x k ≡ same_id k x
  flipped = (eq_by_cmp_equiv id_cmp-total).symm x k

  rest : same_id k x ≡ false → list_any (same_id x) ks ≡ true
  rest apart = ap (λ b. b || list_any (same_id x) ks) (sym (flipped ∙ apart)) ∙ has

  not-before : (b : Bool) → same_id x k ≡ b → is_lt (id_cmp x k) ≡ false
  not-before true is = is_lt-own x k is
  not-before false is = is_lt-after x k (below-has k x ks up.0 (rest (sym flipped ∙ is)))

  head : (o : Option Id) → find p ks ≡ o → same_id k x ≡ true → k ≡ lesser o x
  head None is e = id_tied k x e
  head (Some l) is e =
      let before : id_cmp x l ≡ Less = subst (λ y. id_cmp y l ≡ Less) (id_tied k x e) (below-found p k ks up.0 l is) in
      id_tied k x e ∙ sym (ap (λ o. cond (is_lt o) x l) before)

  at : (b t : Bool) → same_id k x ≡ t → (list_any (same_id x) ks ≡ true → find (λ y. p y || same_id y x) ks ≡ Some (lesser (find p ks) x))
      → cond (b || t) (Some k) (find (λ y. p y || same_id y x) ks) ≡ Some (lesser (cond b (Some k) (find p ks)) x)
  at true t e later = ap Some (sym (ap (λ c. cond c x k) (not-before (same_id x k) refl)))
  at false true e later = ap Some (head (find p ks) refl e)
  at false false e later = later (rest e)

pub find-same : (p q : Id → Bool) → ((k : Id) → p k ≡ q k) → (ks : List Id) → find p ks ≡ find q ks
find-same p q same [] = refl
find-same p q same (k ∷ ks) = λ i. cond (same k i) (Some k) (find-same p q same ks i)

-- ---- the constructors of a program

module _ (program : Program) where
  pub known-ascend : Ascends (keys program.known)
  known-ascend = ascends-keys (entries program.known) (entries_sorted program.known)

  -- what is a constructor is known
  plain-known : (method : Id) → is_plain program method ≡ true → list_any (same_id method) (keys program.known) ≡ true
  plain-known method plain = sym (ap is_some (get-entries program.known method) ∙ is_some-find id_cmp method (entries program.known)) ∙ at (get program.known method) plain where
    at : (o : Option Known) → (is_constructor o && is_empty (params_at program method)) ≡ true → is_some o ≡ true
    at None h = absurd (true≢false (sym h))
    at (Some known) h = refl

  or-last : (p : Id → Bool) (decls : List Id) (decl : Id) → list_any p (decls ++ decl ∷ []) ≡ (list_any p decls || p decl)
  or-last p decls decl = list_any-append p decls (decl ∷ []) ∙ ap (λ b. list_any p decls || b) (or-false (p decl)) where
    or-false : (b : Bool) → (b || false) ≡ b
    or-false true = refl
    or-false false = refl

  and-or : (a b c : Bool) → (a && (b || c)) ≡ ((a && b) || (a && c))
  and-or true b c = refl
  and-or false b c = refl

  or-false : (a b : Bool) → b ≡ false → (a || b) ≡ a
  or-false true b e = refl
  or-false false b e = e

  -- what one more declaration adds
  by-one-more : (class : Id) (decls : List Id) (decl method : Id)
      → is_bare_by program class (decls ++ decl ∷ []) method ≡ (is_bare_by program class decls method || (is_plain program method && is_decl_in program class method decl))
  by-one-more class decls decl method =
      ap (λ b. is_plain program method && b) (or-last (is_decl_in program class method) decls decl)
      ∙ and-or (is_plain program method) (list_any (is_decl_in program class method) decls) (is_decl_in program class method decl)

  -- one that adds nothing
  pub bare-same : (class : Id) (decls : List Id) (decl : Id) → ((method : Id) → (is_plain program method && is_decl_in program class method decl) ≡ false)
      → bare_by program class (decls ++ decl ∷ []) ≡ bare_by program class decls
  bare-same class decls decl nothing =
      find-same _ _ (λ method. by-one-more class decls decl method ∙ or-false _ _ (nothing method)) (keys program.known)

  -- a living declaration of a constructor without parameters
  pub bare-more : (class : Id) (decls : List Id) (decl constructor : Id) → is_plain program constructor ≡ true
      → ((method : Id) → (is_plain program method && is_decl_in program class method decl) ≡ same_id method constructor)
      → bare_by program class (decls ++ decl ∷ []) ≡ Some (lesser (bare_by program class decls) constructor)
  bare-more class decls decl constructor plain is =
      find-same _ _ (λ method. by-one-more class decls decl method ∙ ap (λ b. is_bare_by program class decls method || b) (is method)) (keys program.known)
      ∙ find-or (is_bare_by program class decls) constructor (keys program.known) known-ascend (plain-known constructor plain)

  -- ---- one declaration

  plain-and : (class decl method : Id) (o : Option Id) → living_of program decl ≡ o → (owner : Option Id) → owner_at program decl ≡ owner
      → (is_plain program method && is_decl_in program class method decl) ≡ (is_plain program method && (is_of method o && option_map_or (same_id class) owner false))
  plain-and class decl method o is owner at = λ i. is_plain program method && (is_of method (is i) && option_map_or (same_id class) (at i) false)

  and-false : (a : Bool) → (a && false) ≡ false
  and-false true = refl
  and-false false = refl

  and-true : (a : Bool) → (a && true) ≡ a
  and-true true = refl
  and-true false = refl

  -- it declares no constructor without parameters
  pub adds-none : (class decl method : Id) → bare_of program decl ≡ None → (is_plain program method && is_decl_in program class method decl) ≡ false
  adds-none class decl method none = by (living_of program decl) refl where
    by : (o : Option Id) → living_of program decl ≡ o → (is_plain program method && is_decl_in program class method decl) ≡ false
    by None is = plain-and class decl method None is (owner_at program decl) refl ∙ and-false (is_plain program method)
    by (Some own) is = plain-and class decl method (Some own) is (owner_at program decl) refl ∙ own-case (same_id method own) refl where
      not-plain : is_plain program own ≡ false
      not-plain = at (is_plain program own) (ap (plain_in program) (sym is) ∙ none) where
        at : (b : Bool) → cond b (Some own) None ≡ None → b ≡ false
        at true e = absurd (none-some own (sym e))
        at false e = refl

      own-case : (b : Bool) → same_id method own ≡ b → (is_plain program method && (b && option_map_or (same_id class) (owner_at program decl) false)) ≡ false
      own-case true e = ap (λ m. is_plain program m && option_map_or (same_id class) (owner_at program decl) false) (id_tied method own e)
          ∙ ap (λ b. b && option_map_or (same_id class) (owner_at program decl) false) not-plain
      own-case false e = and-false (is_plain program method)

  -- it stands in no class
  pub adds-unowned : (class decl method : Id) → owner_at program decl ≡ None → (is_plain program method && is_decl_in program class method decl) ≡ false
  adds-unowned class decl method none =
      plain-and class decl method (living_of program decl) refl None none ∙ ap (λ b. is_plain program method && b) (and-false (is_of method (living_of program decl)))
      ∙ and-false (is_plain program method)

  -- it stands in another class
  pub adds-elsewhere : (class decl method owner : Id) → owner_at program decl ≡ Some owner → same_id class owner ≡ false
      → (is_plain program method && is_decl_in program class method decl) ≡ false
  adds-elsewhere class decl method owner at apart =
      plain-and class decl method (living_of program decl) refl (Some owner) at
      ∙ ap (λ b. is_plain program method && (is_of method (living_of program decl) && b)) apart
      ∙ ap (λ b. is_plain program method && b) (and-false (is_of method (living_of program decl))) ∙ and-false (is_plain program method)

  -- what it declares is living, and is plain
  pub bare_of-is : (decl constructor : Id) → bare_of program decl ≡ Some constructor → (living_of program decl ≡ Some constructor) × (is_plain program constructor ≡ true)
  bare_of-is decl constructor is = by (living_of program decl) refl where
    by : (o : Option Id) → living_of program decl ≡ o → (living_of program decl ≡ Some constructor) × (is_plain program constructor ≡ true)
    by None e = absurd (none-some constructor (ap (plain_in program) (sym e) ∙ is))
    by (Some own) e = at (is_plain program own) refl (ap (plain_in program) (sym e) ∙ is) where
      at : (b : Bool) → is_plain program own ≡ b → cond b (Some own) None ≡ Some constructor → (living_of program decl ≡ Some constructor) × (is_plain program constructor ≡ true)
      at true plain h = let same = some-same own constructor h in (e ∙ ap Some same, subst (λ m. is_plain program m ≡ true) same plain)
      at false plain h = absurd (none-some constructor h)

  -- it declares this constructor in this class
  pub adds-own : (class decl constructor method : Id) → bare_of program decl ≡ Some constructor → owner_at program decl ≡ Some class
      → (is_plain program method && is_decl_in program class method decl) ≡ same_id method constructor
  adds-own class decl constructor method is at =
      plain-and class decl method (Some constructor) (bare_of-is decl constructor is).0 (Some class) at
      ∙ ap (λ b. is_plain program method && (same_id method constructor && b)) (same_id-own class)
      ∙ ap (λ b. is_plain program method && b) (and-true (same_id method constructor)) ∙ by (same_id method constructor) refl
    where
      by : (b : Bool) → same_id method constructor ≡ b → (is_plain program method && b) ≡ b
      by true e = ap (λ m. is_plain program m && true) (id_tied method constructor e) ∙ ap (λ b. b && true) (bare_of-is decl constructor is).1
      by false e = and-false (is_plain program method)

  -- an index with the constructor that a declaration adds
  pub put-more : (old new : List (Id × Id)) (owner decl constructor : Id) → bare_of program decl ≡ Some constructor → owner_at program decl ≡ Some owner
      → ((at : Id) → bare_in new at ≡ cond (same_id at owner) (Some (lesser (bare_in old owner) constructor)) (bare_in old at))
      → (class : Id) (decls : List Id) → bare_in old class ≡ bare_by program class decls → bare_in new class ≡ bare_by program class (decls ++ decl ∷ [])
  put-more old new owner decl constructor is owned put class decls was = put class ∙ at (same_id class owner) refl where
    at : (b : Bool) → same_id class owner ≡ b → cond b (Some (lesser (bare_in old owner) constructor)) (bare_in old class) ≡ bare_by program class (decls ++ decl ∷ [])
    at true e =
        let same = sym (id_tied class owner e) in
        ap (λ c. Some (lesser (bare_in old c) constructor)) same ∙ ap (λ o. Some (lesser o constructor)) was
        ∙ sym (bare-more class decls decl constructor (bare_of-is decl constructor is).1 (λ method. adds-own class decl constructor method is (owned ∙ ap Some same)))
    at false e = was ∙ sym (bare-same class decls decl (λ method. adds-elsewhere class decl method owner owned e))

  find-false : (ks : List Id) → find (λ k. false) ks ≡ None
  find-false [] = refl
  find-false (k ∷ ks) = find-false ks

  -- no declaration declares one
  pub bare-none : (class : Id) → bare_by program class [] ≡ None
  bare-none class = find-same _ (λ k. false) (λ method. and-false (is_plain program method)) (keys program.known) ∙ find-false (keys program.known)

  -- ---- all declarations

  decl-as : (class method : Id) (known : Known) (living owned : Bool) → (is_of method (living_as (Some known) living) && owned) ≡ (is_decl_of method known && living && owned)
  decl-as class method knowns.Class living owned = refl
  decl-as class method (knowns.Method kind) living owned = refl
  decl-as class method (knowns.Decl own) true owned = ap (λ b. b && owned) (sym (and-true (same_id method own)))
  decl-as class method (knowns.Decl own) false owned = ap (λ b. b && owned) (sym (and-false (same_id method own)))
  decl-as class method knowns.Field living owned = refl
  decl-as class method (knowns.Param own) living owned = refl

  any-entries : (class method : Id) (es : List (Id × Known)) → AllByRecursion (λ e. get program.known e.0 ≡ Some e.1) es
      → list_any (is_decl_in program class method) (map (λ e. e.0) es) ≡ list_any (is_living_decl_in program class method) es
  any-entries class method [] all = refl
  any-entries class method (e ∷ es) all =
      let here : is_decl_in program class method e.0 ≡ is_living_decl_in program class method e =
      ap (λ known. is_of method (living_as known (living_at program e.0)) && option_map_or (same_id class) (owner_at program e.0) false) all.0
      ∙ decl-as class method e.1 (living_at program e.0) (option_map_or (same_id class) (owner_at program e.0) false) in
      λ i. here i || any-entries class method es all.1 i

  -- with all declarations
  pub bare-known : (class : Id) → bare_by program class (keys program.known) ≡ bare_constructor program class
  bare-known class = find-same _ _ (λ method. ap (λ b. is_plain program method && b)
      (any-entries class method (entries program.known) (each_found id_cmp-total id_cmp-IsAntisymmetric program.known))) (keys program.known)

  -- ---- lists of the same identities

  any-has : (p : Id → Bool) (q : Id) (ys : List Id) → p q ≡ true → list_any (same_id q) ys ≡ true → list_any p ys ≡ true
  any-has p q [] is has = absurd (true≢false (sym has))
  any-has p q (y ∷ ys) is has = at (same_id q y) refl has (any-has p q ys is) where
    or-true : (b : Bool) → (b || true) ≡ true
    or-true true = refl
    or-true false = refl

    at : (b : Bool) → same_id q y ≡ b → (b || list_any (same_id q) ys) ≡ true → (list_any (same_id q) ys ≡ true → list_any p ys ≡ true) → (p y || list_any p ys) ≡ true
    at true e h later = ap (λ b. b || list_any p ys) (ap p (sym (id_tied q y e)) ∙ is)
    at false e h later = ap (λ b. p y || b) (later h) ∙ or-true (p y)

  or-second : (b c : Bool) → c ≡ true → (b || c) ≡ true
  or-second true c e = refl
  or-second false c e = e

  any-within : (p : Id → Bool) (xs ys : List Id) → ((q : Id) → list_any (same_id q) xs ≡ true → list_any (same_id q) ys ≡ true) → list_any p xs ≡ true → list_any p ys ≡ true
  any-within p [] ys within is = absurd (true≢false (sym is))
  any-within p (x ∷ xs) ys within is = at (p x) refl is (any-within p xs ys (λ q has. within q (or-second (same_id q x) _ has))) where
    at : (b : Bool) → p x ≡ b → (b || list_any p xs) ≡ true → (list_any p xs ≡ true → list_any p ys ≡ true) → list_any p ys ≡ true
    at true e h later = any-has p x ys e (within x (ap (λ b. b || list_any (same_id x) xs) (same_id-own x)))
    at false e h later = later h

  bool-same : (a b : Bool) → (a ≡ true → b ≡ true) → (b ≡ true → a ≡ true) → a ≡ b
  bool-same true b to back = sym (to refl)
  bool-same false true to back = back refl
  bool-same false false to back = refl

  pub bare-lists : (class : Id) (xs ys : List Id) → ((q : Id) → list_any (same_id q) xs ≡ list_any (same_id q) ys) → bare_by program class xs ≡ bare_by program class ys
  bare-lists class xs ys same = find-same _ _ (λ method. ap (λ b. is_plain program method && b)
      (bool-same _ _ (any-within (is_decl_in program class method) xs ys (λ q h. sym (same q) ∙ h)) (any-within (is_decl_in program class method) ys xs (λ q h. same q ∙ h))))
      (keys program.known)
