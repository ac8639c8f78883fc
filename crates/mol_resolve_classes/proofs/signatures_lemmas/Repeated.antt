-- Whether a member repeats an earlier one is told by the first of those that tie with it in the order of signatures.
use Rattle.std.proofs.Common.{◌≡◌, ◌⊎◌, inl, inr, ℕ, ◌<◌, ◌≤◌, Bool, true, false, cond, ◌==◌, ◌&&◌, ◌||◌, not, List, [], ◌∷◌, map, length, get_or, ltb, ltb-false, le-ltb, Some, None, slice_get, refl, sym, ◌∙◌, ap, arith, true≢false, nat_cmp, Ordering, Less, Equal, Greater}
use Rattle.std.specs.Cmp.{IsTotalOrder}
use Rattle.std.specs.Cmp.Lexicographic.{slice_cmp}
use Rattle.std.specs.List.{list_any}
use Rattle.std.specs.List.Sorted.{IsSortedBy, IsPartitionPoint}
use Rattle.std.specs.Ordering.{is_eq, is_lt, ordering_then, ordering_reverse}
use Rattle.std.proofs.lemmas.Cmp.{on_total, then_total, nat_cmp_total, nat_list_cmp_total, ranked}
use Rattle.std.proofs.lemmas.List.Sorted.{ranks_by, sorted_far}
use Rattle.jav_names.specs.seen.Kept.{view_type}
use Rattle.jav_names.specs.StaticTypes.{is_unread}
use Rattle.jav_names.proofs.index_lemmas.Searched.{any-at, any-none, below-or_from, equal-is, get-past, get-within}
use Rattle.mol_resolve_rules.specs.FaultLists.{same_kind}
use Rattle.mol_resolve_classes.specs.signatures.Repeats.{kind_of, repeats, is_known}
use Rattle.mol_resolve_classes.specs.signatures.SignatureOrder.{kind_rank, types_of, key_cmp, signature_cmp}
use Rattle.mol_resolve_classes.specs.signatures.TypeOrder.{types_cmp}
use Rattle.mol_resolve_classes.specs.declared.signatures.member_kind.MemberKind.{MemberKind}
use Rattle.mol_resolve_classes.specs.declared.signatures.member_kind.MemberKind.TheVariants.{Field, Method, Constructor}
use Rattle.mol_resolve_classes.specs.declared.signatures.signature.Signature.{Signature}
use Rattle.mol_resolve_classes.proofs.signatures_lemmas.TypesOrdered.{types_cmp-total, tied-bytes, same-types}

pub key_cmp-total : IsTotalOrder key_cmp
key_cmp-total = then_total (then_total (on_total (λ (s : Signature). kind_rank s.kind) nat_cmp_total)
    (on_total (λ (s : Signature). s.name.now) nat_list_cmp_total)) (on_total types_of types_cmp-total)

pub signature_cmp-total : IsTotalOrder signature_cmp
signature_cmp-total = then_total key_cmp-total (on_total (λ (s : Signature). s.place) nat_cmp_total)

-- ---- tests

with-false : (b : Bool) → (b && false) ≡ false
with-false true = refl
with-false false = refl

same-kind : (a b : MemberKind) → same_kind (kind_of a) (kind_of b) ≡ is_eq (nat_cmp (kind_rank a) (kind_rank b))
same-kind Field Field = refl
same-kind Field Method = refl
same-kind Field Constructor = refl
same-kind Method Field = refl
same-kind Method Method = refl
same-kind Method Constructor = refl
same-kind Constructor Field = refl
same-kind Constructor Method = refl
same-kind Constructor Constructor = refl

any-mapped : {X Y : Type 0} (f : X → Y) (p : Y → Bool) (xs : List X) → list_any p (map f xs) ≡ list_any (λ x. p (f x)) xs
any-mapped f p [] = refl
any-mapped f p (x ∷ xs) = ap (λ b. p (f x) || b) (any-mapped f p xs)

parts : (kind name types : Ordering) (known : Bool)
    → ((is_eq kind && is_eq name) && (is_eq types && known)) ≡ (is_eq (ordering_then (ordering_then kind name) types) && known)
parts Less name types known = refl
parts Equal Less types known = refl
parts Equal Equal Less known = refl
parts Equal Equal Equal known = refl
parts Equal Equal Greater known = refl
parts Equal Greater types known = refl
parts Greater name types known = refl

-- ---- a member against those of the class

module _ (s : Signature) where
  -- in the order of signatures none that ties with it but for the place goes before this
  abbrev pub least : Signature
  least = record s { place = 0 }

  repeats-is : (y : Signature) → repeats s y ≡ (ltb y.place s.place && (is_eq (key_cmp y s) && is_known s))
  repeats-is y = ap (λ b. ltb y.place s.place && b) (
      (λ i. (same-kind y.kind s.kind i && sym (tied-bytes y.name.now s.name.now) i) && same-types (types_of y) (types_of s) i)
      ∙ parts (nat_cmp (kind_rank y.kind) (kind_rank s.kind)) (slice_cmp nat_cmp y.name.now s.name.now)
      (types_cmp (types_of y) (types_of s)) (not (list_any is_unread (types_of s)))
      ∙ ap (λ b. is_eq (key_cmp y s) && not b) (any-mapped view_type is_unread s.params.now)
      )

  untied : (y : Signature) → is_eq (key_cmp y s) ≡ false → repeats s y ≡ false
  untied y is =
      repeats-is y ∙ ap (λ b. ltb y.place s.place && (b && is_known s)) is ∙ with-false (ltb y.place s.place)

  later : (y : Signature) → ltb y.place s.place ≡ false → repeats s y ≡ false
  later y is = repeats-is y ∙ ap (λ b. b && (is_eq (key_cmp y s) && is_known s)) is

  unknown : (y : Signature) → is_known s ≡ false → repeats s y ≡ false
  unknown y is = repeats-is y ∙ ap (λ b. ltb y.place s.place && (is_eq (key_cmp y s) && b)) is
      ∙ ap (λ b. ltb y.place s.place && b) (with-false (is_eq (key_cmp y s))) ∙ with-false (ltb y.place s.place)

  -- what goes before the least ties with nothing that is looked for
  before : (y : Signature) → is_lt (signature_cmp y least) ≡ true → repeats s y ≡ false
  before y less = by (key_cmp y s) refl where
    never_less : (n : ℕ) → is_lt (nat_cmp n 0) ≡ false
    never_less n =
        ap (λ b. is_lt (cond b Less (cond (n == 0) Equal Greater))) (le-ltb n 0 (omega arith)) ∙ neither (n == 0) where
          neither : (b : Bool) → is_lt (cond b Equal Greater) ≡ false
          neither true = refl
          neither false = refl

    by : (o : Ordering) → key_cmp y s ≡ o → repeats s y ≡ false
    by Less is = untied y (ap is_eq is)
    by Equal is = absurd (true≢false (sym less ∙ ap (λ o. is_lt (ordering_then o (nat_cmp y.place 0))) is ∙ never_less y.place))
    by Greater is = untied y (ap is_eq is)

  -- beside the first that does not go before the least
  module _ (x : Signature) (not_before : is_lt (signature_cmp x least) ≡ false) (y : Signature)
      (not_less : is_lt (signature_cmp y x) ≡ false) where
    -- the one that is looked for goes before the first
    key-above : is_eq (key_cmp x s) ≡ false → key_cmp s x ≡ Less
    key-above differs = key_cmp-total.antisymm s x ∙ ap ordering_reverse (by (key_cmp x s) refl) where
      by : (o : Ordering) → key_cmp x s ≡ o → key_cmp x s ≡ Greater
      by Less is = absurd (true≢false (sym (ap (λ o. is_lt (ordering_then o (nat_cmp x.place 0))) is) ∙ not_before))
      by Equal is = absurd (true≢false (sym (ap is_eq is) ∙ differs))
      by Greater is = is

    behind_other : is_eq (key_cmp x s) ≡ false → repeats s y ≡ false
    behind_other differs = by (key_cmp y s) refl where
      by : (o : Ordering) → key_cmp y s ≡ o → repeats s y ≡ false
      by Less is = untied y (ap is_eq is)
      by Equal is =
          let less : key_cmp y x ≡ Less = key_cmp-total.congr y s x is ∙ key-above differs in
          absurd (true≢false (sym (ap (λ o. is_lt (ordering_then o (nat_cmp y.place x.place))) less) ∙ not_less))
      by Greater is = untied y (ap is_eq is)

    -- what ties with the first does not stand before it
    behind_tied : key_cmp x s ≡ Equal → ltb x.place s.place ≡ false → repeats s y ≡ false
    behind_tied ties late = by (key_cmp y s) refl where
      by : (o : Ordering) → key_cmp y s ≡ o → repeats s y ≡ false
      by Less is = untied y (ap is_eq is)
      by Equal is = later y (not_lower (nat_cmp y.place x.place) refl) where
        tied : key_cmp y x ≡ Equal
        tied = key_cmp-total.congr y s x is ∙ key_cmp-total.antisymm s x ∙ ap ordering_reverse ties

        not_lower : (o : Ordering) → nat_cmp y.place x.place ≡ o → ltb y.place s.place ≡ false
        not_lower Less less =
            absurd (true≢false (sym ((λ i. is_lt (ordering_then (tied i) (less i)))) ∙ not_less))
        not_lower Equal same = let at : y.place ≡ x.place = ranked y.place x.place Equal (sym same) in
            ap (λ n. ltb n s.place) at ∙ late
        not_lower Greater more = let at : x.place < y.place = ranked y.place x.place Greater (sym more) in
            le-ltb y.place s.place (omega (arith, at, ltb-false x.place s.place late))
      by Greater is = untied y (ap is_eq is)

  -- ---- in a list that ascends

  module _ (xs : List Signature) (up : IsSortedBy (λ x y. is_lt (signature_cmp x y)) xs) (i : ℕ)
      (start : IsPartitionPoint (λ x. is_lt (signature_cmp x least) ≡ true) (λ x. is_lt (signature_cmp x least) ≡ false) xs i) where
    early : (j : ℕ) (d : Signature) → j < length xs → j < i → repeats s (get_or xs j d) ≡ false
    early j d within below = before (get_or xs j d) (start.0 j d (omega arith) below)

    pub nothing-there : slice_get xs i ≡ None → list_any (repeats s) xs ≡ false
    nothing-there is = any-none (repeats s) xs (λ j d within. early j d within (omega (arith, within, get-past xs i is)))

    module _ (x : Signature) (there : slice_get xs i ≡ Some x) where
      at : (d : Signature) → (i < length xs) × (get_or xs i d ≡ x)
      at d = get-within xs i x d there

      not_before : is_lt (signature_cmp x least) ≡ false
      not_before = ap (λ z. is_lt (signature_cmp z least)) (sym (at x).1) ∙ start.1 i x (omega arith) (at x).0

      not_less : (j : ℕ) (d : Signature) → i ≤ j → j < length xs → is_lt (signature_cmp (get_or xs j d) x) ≡ false
      not_less j d from within = ap (λ z. is_lt (signature_cmp (get_or xs j d) z)) (sym (at d).1)
          ∙ sorted_far (λ x y. is_lt (signature_cmp x y)) (ranks_by signature_cmp-total (λ z. z)) xs up i j d from within

      all-none : ((j : ℕ) (d : Signature) → i ≤ j → j < length xs → repeats s (get_or xs j d) ≡ false) → list_any (repeats s) xs ≡ false
      all-none none = any-none (repeats s) xs (λ j d within. by_side j d within (below-or_from j i)) where
        by_side : (j : ℕ) (d : Signature) → j < length xs → (j < i) ⊎ (i ≤ j) → repeats s (get_or xs j d) ≡ false
        by_side j d within (inl below) = early j d within below
        by_side j d within (inr from) = none j d from within

      other-there : is_eq (key_cmp x s) ≡ false → list_any (repeats s) xs ≡ false
      other-there differs = all-none (λ j d from within. behind_other x not_before (get_or xs j d) (not_less j d from within) differs)

      tied-there : is_eq (key_cmp x s) ≡ true → (ltb x.place s.place && is_known s) ≡ list_any (repeats s) xs
      tied-there same = by (ltb x.place s.place) refl (is_known s) refl where
        ties : key_cmp x s ≡ Equal
        ties = equal-is (key_cmp x s) same

        by : (earlier : Bool) → ltb x.place s.place ≡ earlier → (known : Bool) → is_known s ≡ known
            → (ltb x.place s.place && is_known s) ≡ list_any (repeats s) xs
        by true earlier true known =
            let both : (ltb x.place s.place && is_known s) ≡ true = (λ k. earlier k && known k) in
            both ∙ sym (any-at (repeats s) xs i x there
            (repeats-is x ∙ ap (λ b. ltb x.place s.place && (b && is_known s)) same ∙ both))
        by true earlier false known =
            ap (λ b. ltb x.place s.place && b) known ∙ with-false (ltb x.place s.place)
            ∙ sym (any-none (repeats s) xs (λ j d within. unknown (get_or xs j d) known))
        by false late known is = ap (λ b. b && is_known s) late
            ∙ sym (all-none (λ j d from within. behind_tied x not_before (get_or xs j d) (not_less j d from within) ties late))

      -- the first that does not go before tells of all
      pub told-by_first : (is_eq (key_cmp x s) && (ltb x.place s.place && is_known s)) ≡ list_any (repeats s) xs
      told-by_first = by (is_eq (key_cmp x s)) refl where
        by : (tied : Bool) → is_eq (key_cmp x s) ≡ tied → (tied && (ltb x.place s.place && is_known s)) ≡ list_any (repeats s) xs
        by true same = tied-there same
        by false differs = sym (other-there differs)
