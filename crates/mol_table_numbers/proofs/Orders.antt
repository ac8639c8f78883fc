-- The classes that live by the paths of their files, and all that lives in the printed order.
use Rattle.std.specs.Prelude.{◌≡◌, ℕ, ◌+◌, ◌<◌, ◌^◌, Bool, true, false, cond, List, [], ◌∷◌, map, length, Option, None, Some, is_some}
use Rattle.std.proofs.Common.{suc, rules, refl, sym, ap, subst, ◌∙◌, arith, get_or, true≢false}
use Rattle.std.proofs.lemmas.List.{length-map, get_or-map}
use Rattle.std.proofs.lemmas.List.Sorted.{IsPermutation-map}
use Rattle.std.specs.Cmp.{IsTotalOrder}
use Rattle.std.specs.Cmp.Rules.{comparing}
use Rattle.std.specs.FinMap.{IsAntisymmetric, nat_cmp-IsAntisymmetric, slice_cmp-IsAntisymmetric, get}
use Rattle.std.specs.FinMap as finite
use Rattle.std.specs.List.{IsDistinct, filter, list_any}
use Rattle.std.specs.List.Sorted.{IsPermutation, IsSorted}
use Rattle.std.specs.Ordering.{nat_cmp, ordering_then, is_lt}
use Rattle.std.specs.Cmp.Lexicographic.{slice_cmp}
use Rattle.std.specs.declared.cmp.Ordering.{Ordering}
use Rattle.std.specs.declared.cmp.Ordering.TheVariants.{Less, Equal, Greater}
use Rattle.mol_base.specs.Order.{id_cmp, id_cmp-IsAntisymmetric}
use Rattle.mol_base.specs.declared.ident.Id.{Id}
use Rattle.indexmap.specs.IndexMap.{keys}
use Rattle.mol_table_numbers.specs.ClassFiles.{FileKey, key_cmp, file_of, file_at}
use Rattle.mol_table_rules.specs.Counting.{passing}
use Rattle.mol_table_rules.specs.Life.{lives_as, lives}
use Rattle.mol_table_numbers.specs.Looked.{HasClasses, rank_of}
use Rattle.mol_table.specs.Maps.{program_in, IsOrdered}
use Rattle.mol_values_types.specs.Order.{id_eq}
use Rattle.mol_table_rules.specs.Program.{Program, same_id}
use Rattle.mol_table_numbers.specs.Numbering.{AreNames, IsInOrder}
use Rattle.mol_values.specs.Renaming.{number_of}
use Rattle.mol_table_rules.specs.Renumber.{is_living_class, class_before, class_number, rank_as, rank, rank_cmp, comes_before, number, base_id, Rank}
use Rattle.mol_values_types.specs.declared.known.Known.{Known}
use Rattle.mol_values_types.specs.declared.known.Known.TheVariants as knowns
use Rattle.mol_table.specs.declared.maps.Maps.{Maps}
use Rattle.mol_table_numbers.specs.declared.classes.ClassFile.{ClassFile}
use Rattle.mol_table_numbers.specs.declared.rank.Rank as found
use Rattle.mol_table_numbers.proofs.Collected.{order-number}
use Rattle.mol_table_numbers.proofs.InOrder.{in-order}
use Rattle.mol_table_numbers.proofs.KnownKeys.{known-keys, class-lives}
use Rattle.mol_table_rules.proofs.Counts.{passing-fewer}
use Rattle.mol_table_rules.proofs.Programs.{keys-known}
use Rattle.mol_values_types.proofs.Ties.{id_ties}

pub key_cmp-total : IsTotalOrder key_cmp
key_cmp-total = search (comparing, rules) depth 9

pub rank_cmp-total : IsTotalOrder rank_cmp
rank_cmp-total = search (comparing, rules) depth 9

then_both : (a b : Ordering) → ordering_then a b ≡ Equal → (a ≡ Equal) × (b ≡ Equal)
then_both Less b e = absurd cc
then_both Equal b e = (refl, e)
then_both Greater b e = absurd cc

key_cmp-same : IsAntisymmetric key_cmp
key_cmp-same x y e =
    let both = then_both (slice_cmp nat_cmp x.path y.path) (id_cmp x.class y.class) e in
    let path = slice_cmp-IsAntisymmetric nat_cmp-IsAntisymmetric x.path y.path both.0 in
    let class = id_cmp-IsAntisymmetric x.class y.class both.1 in
    λ i. record { path = path i; class = class i }

rank_cmp-same : IsAntisymmetric rank_cmp
rank_cmp-same x y e =
    let one = then_both (nat_cmp x.part y.part) _ e in
    let two = then_both (nat_cmp x.class y.class) _ one.1 in
    let three = then_both (id_cmp x.printed y.printed) _ two.1 in
    let four = then_both (nat_cmp x.place y.place) (id_cmp x.own y.own) three.1 in
    let part = nat_cmp-IsAntisymmetric x.part y.part one.0 in
    let class = nat_cmp-IsAntisymmetric x.class y.class two.0 in
    let printed = id_cmp-IsAntisymmetric x.printed y.printed three.0 in
    let place = nat_cmp-IsAntisymmetric x.place y.place four.0 in
    let own = id_cmp-IsAntisymmetric x.own y.own four.1 in
    λ i. record { part = part i; class = class i; printed = printed i; place = place i; own = own i }

map-map : {A B C : Type 0} (f : B → C) (g : A → B) (xs : List A) → map f (map g xs) ≡ map (λ a. f (g a)) xs
map-map f g [] = refl
map-map f g (x ∷ xs) = ap (λ ys. f (g x) ∷ ys) (map-map f g xs)

sorted-map : {X Y : Type 0} (c : X → X → Ordering) (d : Y → Y → Ordering) (f : X → Y) → ((x y : X) → c x y ≡ d (f x) (f y)) → (xs : List X) → IsSorted c xs → IsSorted d (map f xs)
sorted-map c d f same [] sorted = λ k e low within. absurd (omega (arith, within))
sorted-map c d f same (x ∷ xs) sorted = λ k e low within.
    let long : k + 1 < length (x ∷ xs) = subst (λ n. k + 1 < n) (length-map (x ∷ xs) f) within in
    (λ i. is_lt (d (get_or-map f (x ∷ xs) (k + 1) x e long i) (get_or-map f (x ∷ xs) k x e (omega (arith, long)) i)))
    ∙ sym (ap is_lt (same (get_or (x ∷ xs) (k + 1) x) (get_or (x ∷ xs) k x))) ∙ sorted k x low long

module _ (maps : Maps) (ordered : IsOrdered maps) (distinct : IsDistinct id_eq (keys maps.known)) where
  abbrev program : Program
  program = program_in maps

  same-keys : finite.keys program.known ≡ keys maps.known
  same-keys = known-keys maps ordered distinct

  apart : IsDistinct same_id (keys maps.known)
  apart = subst (λ eq. IsDistinct eq (keys maps.known)) (λ i x y. id_ties x y i) distinct

  among : (id : Id) → lives program id ≡ true → list_any (same_id id) (keys maps.known) ≡ true
  among id live = keys-known maps.known.entries id ∙ at (get program.known id) refl where
    at : (o : Option Known) → get program.known id ≡ o → is_some (get program.known id) ≡ true
    at None e = absurd (true≢false (sym live ∙ ap (lives_as program id) e))
    at (Some known) e = ap is_some e

  pub classes-in-order : (files sorted : List ClassFile) → map file_of files ≡ map (file_at program) (filter (is_living_class program) (keys maps.known))
      → IsPermutation files sorted → IsSorted (λ x y. key_cmp (file_of x) (file_of y)) sorted
      → IsInOrder (is_living_class program) (class_number program) (passing (is_living_class program) (finite.keys program.known)) (map (λ (file : ClassFile). file.class) sorted)
  classes-in-order files sorted are permuted up =
      let test = is_living_class program in
      let order = in-order key_cmp key_cmp-total key_cmp-same test (file_at program) (λ (key : FileKey). key.class) (λ id. refl) (keys maps.known) apart
      (λ id is. among id (class-lives program id is)) (map file_of sorted)
      (subst (λ keys. IsPermutation keys (map file_of sorted)) are (IsPermutation-map file_of files sorted permuted))
      (sorted-map (λ x y. key_cmp (file_of x) (file_of y)) key_cmp file_of (λ x y. refl) sorted up) in
      subst (λ ks. IsInOrder test (λ id. suc (passing (class_before program id) ks)) (passing test ks) (map (λ (file : ClassFile). file.class) sorted)) (sym same-keys)
      (subst (λ ids. IsInOrder test (λ id. suc (passing (class_before program id) (keys maps.known))) (passing test (keys maps.known)) ids) (map-map (λ (key : FileKey). key.class) file_of sorted) order)

  own-rank : (id : Id) (o : Option Known) → (rank_as program id o).own ≡ id
  own-rank id None = refl
  own-rank id (Some knowns.Class) = refl
  own-rank id (Some (knowns.Method kind)) = refl
  own-rank id (Some (knowns.Decl method)) = refl
  own-rank id (Some knowns.Field) = refl
  own-rank id (Some (knowns.Param method)) = refl

  pub ranks-in-order : (ranks sorted : List found.Rank) → map rank_of ranks ≡ map (rank program) (filter (lives program) (keys maps.known))
      → IsPermutation ranks sorted → IsSorted (λ x y. rank_cmp (rank_of x) (rank_of y)) sorted
      → IsInOrder (lives program) (number program) (passing (lives program) (finite.keys program.known)) (map (λ (rank : found.Rank). rank.own) sorted)
  ranks-in-order ranks sorted are permuted up =
      let order = in-order rank_cmp rank_cmp-total rank_cmp-same (lives program) (rank program) (λ (rank : Rank). rank.own) (λ id. own-rank id (get program.known id)) (keys maps.known) apart among
      (map rank_of sorted) (subst (λ keys. IsPermutation keys (map rank_of sorted)) are (IsPermutation-map rank_of ranks sorted permuted))
      (sorted-map (λ x y. rank_cmp (rank_of x) (rank_of y)) rank_cmp rank_of (λ x y. refl) sorted up) in
      subst (λ ks. IsInOrder (lives program) (λ id. suc (passing (comes_before program id) ks)) (passing (lives program) ks) (map (λ (rank : found.Rank). rank.own) sorted)) (sym same-keys)
      (subst (λ ids. IsInOrder (lives program) (λ id. suc (passing (comes_before program id) (keys maps.known))) (passing (lives program) (keys maps.known)) ids)
      (map-map (λ (rank : Rank). rank.own) rank_of sorted) order)

-- the numbers of classes
pub has-classes : (program : Program) (many : ℕ) (ids : List Id) (names : List (Id × Id)) → IsInOrder (is_living_class program) (class_number program) many ids → AreNames ids names
    → HasClasses program names
has-classes program many ids names order named id =
    ap number_of (order-number (is_living_class program) (class_number program) many ids order names named id) ∙ at (is_living_class program id) where
      at : (b : Bool) → number_of (cond b (Some (base_id (class_number program id))) None) ≡ cond b (class_number program id) 0
      at true = refl
      at false = refl

-- no more classes live than things
pub few-classes : (program : Program) (ids : List Id) → passing (lives program) ids < 2 ^ 32 → passing (is_living_class program) ids < 2 ^ 32
few-classes program ids few = omega (arith, few, passing-fewer (is_living_class program) (lives program) (class-lives program) ids)
