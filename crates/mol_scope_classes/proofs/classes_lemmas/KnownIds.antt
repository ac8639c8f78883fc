-- The known identities of a program in order, and what is made of what is known.
use Rattle.std.proofs.Common.{◌≡◌, ℕ, suc, ◌+◌, Bool, true, false, cond, ◌||◌, List, [], ◌∷◌, ◌++◌, map, take, length, get_or, filter_map, Option, Some, None, option_map, is_some, IsTrue, refl, sym, ◌∙◌, ap, subst, arith, Ordering, Less, Equal, Greater}
use Rattle.std.specs.Prelude.{T, ◌&&◌, ◌<◌}
use Rattle.std.specs.Cmp.{eq_by_cmp_equiv}
use Rattle.std.specs.FinMap.{get, entries, keys, entries_sorted, find, is_sorted, contains_key-keys}
use Rattle.std.specs.FinMap.Entries.{below_all, same_entries}
use Rattle.std.specs.List.{AllByRecursion, cons_option, list_any}
use Rattle.std.specs.Option.{option_and_then, option_to_list}
use Rattle.std.specs.Ordering.{eq_by_cmp, is_lt}
use Rattle.std.proofs.lemmas.List.{take_more}
use Rattle.std.proofs.lemmas.List.Elements.{filter_map-append}
use Rattle.std.proofs.lemmas.Map.Views.{list_any-from_Contains, Contains-from_any}
use Rattle.mol_base.specs.Order.{id_cmp, id_cmp-total, id_cmp-IsAntisymmetric}
use Rattle.mol_base.specs.declared.ident.Id.{Id}
use Rattle.mol_table_rules.proofs.Counts.{each_found}
use Rattle.mol_table_rules.proofs.Living.{id_tied}
use Rattle.mol_table_rules.specs.Identities.{IsAscending, AreKnown}
use Rattle.mol_table_rules.specs.Program.{Program}
use Rattle.mol_values_types.specs.declared.known.Known.{Known}
use Rattle.mol_scope_classes.specs.classes.Made.{made_of}

both : (a b : Bool) → T a → T b → T (a && b)
both true b p q = q
both false b p q = p

first : (a b : Bool) → T (a && b) → T a
first true b p = tt
first false b p = p

second : (a b : Bool) → T (a && b) → T b
second true b p = p
second false b p = absurd p

less : (o : Ordering) → T (is_lt o) → o ≡ Less
less Less p = refl
less Equal p = absurd p
less Greater p = absurd p

is-less : (o : Ordering) → o ≡ Less → T (is_lt o)
is-less o is = subst (λ r. T (is_lt r)) (sym is) tt

-- ---- identities as keys of entries

abbrev Marked : Type 0
Marked = List (Id × Unit {0})

abbrev marked : List Id → Marked
marked ids = map (λ id. (id, tt)) ids

unmarked : (ids : List Id) → map (λ (e : Id × Unit {0}). e.0) (marked ids) ≡ ids
unmarked [] = refl
unmarked (id ∷ ids) = ap (λ rest. id ∷ rest) (unmarked ids)

find-marked : (q : Id) (ids : List Id) → find id_cmp q (marked ids) ≡ cond (list_any (eq_by_cmp id_cmp q) ids) (Some tt) None
find-marked q [] = refl
find-marked q (id ∷ ids) = by (eq_by_cmp id_cmp q id) (find-marked q ids) where
  by : (b : Bool) → find id_cmp q (marked ids) ≡ cond (list_any (eq_by_cmp id_cmp q) ids) (Some tt) None
      → cond b (Some tt) (find id_cmp q (marked ids)) ≡ cond (b || list_any (eq_by_cmp id_cmp q) ids) (Some tt) None
  by true rest = refl
  by false rest = rest

-- ---- identities that ascend

ascends-later : (x : Id) (ids : List Id) → IsAscending (x ∷ ids) → IsAscending ids
ascends-later x ids ascending k d within =
    let e : suc k + 1 ≡ suc (k + 1) = omega arith in
    subst (λ n. id_cmp (get_or ids k d) (get_or (x ∷ ids) n d) ≡ Less) e (ascending (suc k) d (omega (arith, within)))

below-less : (x y : Id) (es : Marked) → id_cmp x y ≡ Less → T (below_all id_cmp y es) → T (below_all id_cmp x es)
below-less x y [] p h = tt
below-less x y (e ∷ es) p h = both _ _
    (is-less (id_cmp x e.0) (id_cmp-total.trans x y e.0 p (less _ (first _ _ h)))) (below-less x y es p (second _ _ h))

below-first : (x : Id) (ids : List Id) → IsAscending (x ∷ ids) → T (below_all id_cmp x (marked ids))
below-first x [] ascending = tt
below-first x (y ∷ ids) ascending =
    let is : id_cmp x y ≡ Less = ascending 0 x (omega arith) in
    both _ _ (is-less (id_cmp x y) is)
    (below-less x y (marked ids) is (below-first y ids (ascends-later x (y ∷ ids) ascending)))

sorted-marked : (ids : List Id) → IsAscending ids → T (is_sorted id_cmp (marked ids))
sorted-marked [] ascending = tt
sorted-marked (x ∷ ids) ascending = both _ _ (below-first x ids ascending) (sorted-marked ids (ascends-later x ids ascending))

-- ---- keys ascend

below-keys : {X : Type 0} (x : Id) (es : List (Id × X)) → T (below_all id_cmp x es) → T (below_all id_cmp x (marked (map (λ e. e.0) es)))
below-keys x [] h = tt
below-keys x (e ∷ es) h = both _ _ (first _ _ h) (below-keys x es (second _ _ h))

sorted-keys : {X : Type 0} (es : List (Id × X)) → T (is_sorted id_cmp es) → T (is_sorted id_cmp (marked (map (λ e. e.0) es)))
sorted-keys [] h = tt
sorted-keys (e ∷ es) h = both _ _ (below-keys e.0 es (first _ _ h)) (sorted-keys es (second _ _ h))

-- ---- the known identities are the keys

same-tests : (a b : Bool) → (IsTrue a → IsTrue b) → (IsTrue b → IsTrue a) → a ≡ b
same-tests true b there back = sym (there refl)
same-tests false true there back = back refl
same-tests false false there back = refl

listed : (program : Program) (ids : List Id) → AreKnown program ids → (id : Id)
    → list_any (eq_by_cmp id_cmp id) ids ≡ is_some (get program.known id)
listed program ids known id = same-tests _ _
    (λ is. (known id).0 (Contains-from_any id_tied id ids is))
    (λ is. list_any-from_Contains (eq_by_cmp_equiv id_cmp-total) id ids ((known id).1 is))

pub ids-are : (program : Program) (ids : List Id) → IsAscending ids → AreKnown program ids → ids ≡ keys program.known
ids-are program ids ascending known =
    sym (unmarked ids)
    ∙ ap (map (λ (e : Id × Unit {0}). e.0)) (same_entries id_cmp id_cmp-total id_cmp-IsAntisymmetric (marked ids)
    (marked (keys program.known))
    (sorted-marked ids ascending) (sorted-keys (entries program.known) (entries_sorted program.known))
    (λ q. find-marked q ids
    ∙ ap (λ b. cond b (Some tt) None) (listed program ids known q ∙ contains_key-keys program.known q)
    ∙ sym (find-marked q (keys program.known))))
    ∙ unmarked (keys program.known)

-- ---- what is made of what is known

made-each : {Y : Type 0} (program : Program) (made : Id × Known → Option Y) (es : List (Id × Known))
    → AllByRecursion (λ (e : Id × Known). get program.known e.0 ≡ Some e.1) es
    → filter_map (made_of program made) (map (λ (e : Id × Known). e.0) es) ≡ filter_map made es
made-each program made [] all = refl
made-each {Y} program made (e ∷ es) all =
    ap (λ (o : Option Known). cons_option (option_and_then (λ (known : Known). made (e.0, known)) o)
    (filter_map (made_of program made) (map (λ (e : Id × Known). e.0) es))) all.0
    ∙ ap (cons_option (made e)) (made-each program made es all.1)

pub made-known : {Y : Type 0} (program : Program) (made : Id × Known → Option Y) (ids : List Id) → IsAscending ids → AreKnown program ids
    → filter_map (made_of program made) ids ≡ filter_map made (entries program.known)
made-known program made ids ascending known =
    ap (filter_map (made_of program made)) (ids-are program ids ascending known)
    ∙ made-each program made (entries program.known) (each_found id_cmp-total id_cmp-IsAntisymmetric program.known)

-- ---- one more

module _ {X Y : Type 0} (make : X → Option Y) (xs : List X) (i : ℕ) (x : X) (within : i < length xs) (is : x ≡ get_or xs i x) where
  pub made-more : filter_map make (take (i + 1) xs) ≡ filter_map make (take i xs) ++ option_to_list (make x)
  made-more =
      ap (filter_map make) (take_more xs i x within) ∙ filter_map-append make (take i xs) (get_or xs i x ∷ [])
      ∙ ap (λ y. filter_map make (take i xs) ++ filter_map make (y ∷ [])) (sym is)
      ∙ ap (λ ys. filter_map make (take i xs) ++ ys) (alone (make x)) where
        alone : (o : Option Y) → cons_option o [] ≡ option_to_list o
        alone None = refl
        alone (Some y) = refl

pub mapped-one : {X Y : Type 0} (f : X → Y) (o : Option X) → option_to_list (option_map f o) ≡ map f (option_to_list o)
mapped-one f None = refl
mapped-one f (Some x) = refl
