-- The faults of a member beside those of its class, and beside those of an ancestor of its class, by what they ask of these.
use Rattle.std.proofs.Common.{◌≡◌, ◌≢◌, ℕ, nat_lt, Bool, true, false, ◌&&◌, ◌||◌, not, List, [], ◌∷◌, Contains, refl, sym, ◌∙◌, ap, subst, bytes_eq}
use Rattle.std.specs.List.{list_any}
use Rattle.jav_names.specs.Ancestors.{IsAncestor}
use Rattle.jav_names.specs.LookUps.{is_ancestor}
use Rattle.jav_names.specs.UnitViews.{MemberKey}
use Rattle.jav_names.specs.Views.{View}
use Rattle.jav_names.proofs.AncestorsFound.{is_ancestor-decides, ancestors-never_itself}
use Rattle.jav_names.proofs.Lists.{Decides-fails, stands_first, stands_later}
use Rattle.jav_names.proofs.UnitsOrdered.{nat_cmp-IsKeyOrder}
use Rattle.jav_names.proofs.Ways.{same_key}
use Rattle.mol_resolve_rules.specs.FaultKinds.{duplicate_member, overload_by_type, result_differs, static_hidden}
use Rattle.mol_resolve_rules.specs.FaultLists.{same_kind, take_as_many, are_in_order, is_between}
use Rattle.mol_resolve_rules.specs.Files.{Files, files_view}
use Rattle.mol_resolve_rules.specs.MemberFaults.{MemberKind, a_field, a_method, a_constructor, Row}
use Rattle.mol_resolve_rules.proofs.FilesStand.{files-ordered}
use Rattle.mol_resolve_faults.specs.beside.Beside.{faulty_beside}
use Rattle.mol_resolve_faults.specs.beside.Between.{takes_same, gives_same, are_namesakes, is_before, repeats, faulty_here, faulty_below}
use Rattle.mol_resolve_faults.proofs.beside_lemmas.Tests.{alike, duplicates, overloaded, method-overloads, constructor-overloads, field-overloads, method-differs, other-unrelated, with-false, methods-above, method-overloads_above, other-overloads_above}

any-on : {X : Type 0} (p q : X → Bool) (xs : List X) → ((x : X) → Contains xs x → p x ≡ q x) → list_any p xs ≡ list_any q xs
any-on p q [] same = refl
any-on p q (x ∷ xs) same = λ i. same x (stands_first x xs) i || any-on p q xs (λ y there. same y (stands_later x y xs there)) i

any-never : {X : Type 0} (p : X → Bool) (xs : List X) → ((x : X) → Contains xs x → p x ≡ false) → list_any p xs ≡ false
any-never p [] never = refl
any-never p (x ∷ xs) never = λ i. never x (stands_first x xs) i || any-never p xs (λ y there. never y (stands_later x y xs there)) i

module _ (files : Files) (second : Row ℕ) where
  abbrev view : View ℕ MemberKey
  view = files_view files

  abbrev named : Row ℕ → Bool
  named first = bytes_eq first.name second.name

  -- ---- in one class

  module _ (first : Row ℕ) (owner : first.owner ≡ second.owner) where
    in-order : are_in_order view first second ≡ nat_lt first.place second.place
    in-order = ap (λ b. b && nat_lt first.place second.place) ((same_key nat_cmp-IsKeyOrder first.owner second.owner).1 owner)

    not-above : is_ancestor view second.owner first.owner ≡ false
    not-above = Decides-fails (is_ancestor-decides view (files-ordered files).classes second.owner first.owner)
        (subst (λ class. ¬ IsAncestor view second.owner class) (sym owner) (ancestors-never_itself view second.owner))

    duplicate-here : (first.kind ≡ a_field → second.kind ≡ a_field → takes_same first second ≡ true)
        → is_between view first second duplicate_member ≡ repeats first second
    duplicate-here bare =
        ap (λ b. b && (alike a_field first.kind second.kind (named first)
        || ((alike a_method first.kind second.kind (named first) || alike a_constructor first.kind second.kind (named first))
        && takes_same first second))) in-order
        ∙ duplicates first.kind second.kind (is_before first second) (named first) (takes_same first second) bare

    overload-here : is_between view first second overload_by_type
        ≡ overloaded first.kind second.kind (is_before first second) false (named first) (take_as_many first second)
        (takes_same first second)
    overload-here = λ i.
        overloaded first.kind second.kind (in-order i) (not-above i) (named first) (take_as_many first second) (takes_same first second)

    result-here : is_between view first second result_differs
        ≡ ((alike a_method first.kind second.kind (named first) && (take_as_many first second && (is_before first second || false)))
        && not (gives_same first second))
    result-here = λ i.
        (alike a_method first.kind second.kind (named first) && (take_as_many first second && (in-order i || not-above i)))
        && not (gives_same first second)

    static-here : is_between view first second static_hidden ≡ false
    static-here =
        ap (λ b. (alike a_method first.kind second.kind (named first)
        && (take_as_many first second && (are_in_order view first second || is_ancestor view second.owner first.owner)))
        && (b && (first.is_static || second.is_static))) not-above
        ∙ with-false (alike a_method first.kind second.kind (named first)
        && (take_as_many first second && (are_in_order view first second || is_ancestor view second.owner first.owner)))

  module _ (rows : List (Row ℕ)) (owned : (first : Row ℕ) → Contains rows first → first.owner ≡ second.owner)
      (bare : (first : Row ℕ) → Contains rows first → first.kind ≡ a_field → second.kind ≡ a_field → takes_same first second ≡ true) where
    duplicates-here : list_any (λ first. is_between view first second duplicate_member) rows ≡ list_any (λ first. repeats first second) rows
    duplicates-here = any-on (λ first. is_between view first second duplicate_member) (λ first. repeats first second) rows
        (λ first there. duplicate-here first (owned first there) (bare first there))

    static-nowhere : list_any (λ first. is_between view first second static_hidden) rows ≡ false
    static-nowhere = any-never (λ first. is_between view first second static_hidden) rows
        (λ first there. static-here first (owned first there))

    other-result : same_kind second.kind a_method ≡ false → list_any (λ first. is_between view first second result_differs) rows ≡ false
    other-result is = any-never (λ first. is_between view first second result_differs) rows (λ first there.
        result-here first (owned first there)
        ∙ ap (λ b. b && not (gives_same first second)) (other-unrelated first.kind second.kind (named first)
        (take_as_many first second && (is_before first second || false)) is))

    pub faulty-here : faulty_beside files rows second ≡ faulty_here second.kind rows second
    faulty-here = by second.kind refl where
      overload-of : (kind : MemberKind) → second.kind ≡ kind → (first : Row ℕ) → Contains rows first
          → is_between view first second overload_by_type
          ≡ overloaded first.kind kind (is_before first second) false (named first) (take_as_many first second) (takes_same first second)
      overload-of kind is first there = overload-here first (owned first there)
          ∙ ap (λ k. overloaded first.kind k (is_before first second) false (named first) (take_as_many first second)
          (takes_same first second)) is

      by : (kind : MemberKind) → second.kind ≡ kind → faulty_beside files rows second ≡ faulty_here kind rows second
      by a_field is = λ i. record {
        duplicate = duplicates-here i;
        overload = any-never (λ first. is_between view first second overload_by_type) rows (λ first there.
            overload-of a_field is first there
            ∙ field-overloads first.kind (is_before first second) false (named first) (take_as_many first second)
            (takes_same first second)) i;
        result = other-result (ap (λ k. same_kind k a_method) is) i;
        static = static-nowhere i;
      }
      by a_method is = λ i. record {
        duplicate = duplicates-here i;
        overload = any-on (λ first. is_between view first second overload_by_type)
            (λ first. are_namesakes a_method first second && (is_before first second && not (takes_same first second))) rows
            (λ first there. overload-of a_method is first there
            ∙ method-overloads first.kind (is_before first second) (named first) (take_as_many first second) (takes_same first second)) i;
        result = any-on (λ first. is_between view first second result_differs)
            (λ first. are_namesakes a_method first second && (is_before first second && not (gives_same first second))) rows
            (λ first there. result-here first (owned first there)
            ∙ ap (λ k. (alike a_method first.kind k (named first) && (take_as_many first second && (is_before first second || false)))
            && not (gives_same first second)) is
            ∙ method-differs first.kind (is_before first second) (named first) (take_as_many first second) (gives_same first second)) i;
        static = static-nowhere i;
      }
      by a_constructor is = λ i. record {
        duplicate = duplicates-here i;
        overload = any-on (λ first. is_between view first second overload_by_type)
            (λ first. are_namesakes a_constructor first second && (is_before first second && not (takes_same first second))) rows
            (λ first there. overload-of a_constructor is first there
            ∙ constructor-overloads first.kind (is_before first second) (named first) (take_as_many first second)
            (takes_same first second)) i;
        result = other-result (ap (λ k. same_kind k a_method) is) i;
        static = static-nowhere i;
      }

  -- ---- above

  module _ (first : Row ℕ) (above : is_ancestor view second.owner first.owner ≡ true) where
    other-class : first.owner ≢ second.owner
    other-class same = ancestors-never_itself view second.owner
        (subst (IsAncestor view second.owner) same
        ((is_ancestor-decides view (files-ordered files).classes second.owner first.owner).0 above))

    unordered : are_in_order view first second ≡ false
    unordered = ap (λ b. b && nat_lt first.place second.place)
        (Decides-fails (same_key nat_cmp-IsKeyOrder first.owner second.owner) other-class)

    duplicate-above : is_between view first second duplicate_member ≡ false
    duplicate-above = ap (λ b. b && (alike a_field first.kind second.kind (named first)
        || ((alike a_method first.kind second.kind (named first) || alike a_constructor first.kind second.kind (named first))
        && takes_same first second))) unordered

    overload-above : is_between view first second overload_by_type
        ≡ overloaded first.kind second.kind false true (named first) (take_as_many first second) (takes_same first second)
    overload-above = λ i.
        overloaded first.kind second.kind (unordered i) (above i) (named first) (take_as_many first second) (takes_same first second)

    result-above : is_between view first second result_differs
        ≡ ((alike a_method first.kind second.kind (named first) && (take_as_many first second && true)) && not (gives_same first second))
    result-above = λ i.
        (alike a_method first.kind second.kind (named first) && (take_as_many first second && (unordered i || above i)))
        && not (gives_same first second)

    static-above : is_between view first second static_hidden
        ≡ ((alike a_method first.kind second.kind (named first) && (take_as_many first second && true))
        && (first.is_static || second.is_static))
    static-above = λ i.
        (alike a_method first.kind second.kind (named first) && (take_as_many first second && (unordered i || above i)))
        && (above i && (first.is_static || second.is_static))

  module _ (rows : List (Row ℕ)) (up : (first : Row ℕ) → Contains rows first → is_ancestor view second.owner first.owner ≡ true) where
    duplicates-nowhere : list_any (λ first. is_between view first second duplicate_member) rows ≡ false
    duplicates-nowhere = any-never (λ first. is_between view first second duplicate_member) rows
        (λ first there. duplicate-above first (up first there))

    -- no other member than a method has faults there
    none-above : same_kind second.kind a_method ≡ false
        → faulty_beside files rows second ≡ record { duplicate = false; overload = false; result = false; static = false }
    none-above is = λ i. record {
      duplicate = duplicates-nowhere i;
      overload = any-never (λ first. is_between view first second overload_by_type) rows (λ first there.
          overload-above first (up first there)
          ∙ other-overloads_above first.kind second.kind (named first) (take_as_many first second) (takes_same first second) is) i;
      result = any-never (λ first. is_between view first second result_differs) rows (λ first there.
          result-above first (up first there)
          ∙ ap (λ b. b && not (gives_same first second))
          (other-unrelated first.kind second.kind (named first) (take_as_many first second && true) is)) i;
      static = any-never (λ first. is_between view first second static_hidden) rows (λ first there.
          static-above first (up first there)
          ∙ ap (λ b. b && (first.is_static || second.is_static))
          (other-unrelated first.kind second.kind (named first) (take_as_many first second && true) is)) i;
    }

    pub faulty-below : faulty_beside files rows second ≡ faulty_below second.kind rows second
    faulty-below = by second.kind refl where
      by : (kind : MemberKind) → second.kind ≡ kind → faulty_beside files rows second ≡ faulty_below kind rows second
      by a_field is = none-above (ap (λ k. same_kind k a_method) is)
      by a_constructor is = none-above (ap (λ k. same_kind k a_method) is)
      by a_method is = λ i. record {
        duplicate = duplicates-nowhere i;
        overload = any-on (λ first. is_between view first second overload_by_type)
            (λ first. are_namesakes a_method first second && not (takes_same first second)) rows
            (λ first there. overload-above first (up first there)
            ∙ ap (λ k. overloaded first.kind k false true (named first) (take_as_many first second) (takes_same first second)) is
            ∙ method-overloads_above first.kind (named first) (take_as_many first second) (takes_same first second)) i;
        result = any-on (λ first. is_between view first second result_differs)
            (λ first. are_namesakes a_method first second && not (gives_same first second)) rows
            (λ first there. result-above first (up first there)
            ∙ ap (λ k. (alike a_method first.kind k (named first) && (take_as_many first second && true))
            && not (gives_same first second)) is
            ∙ methods-above first.kind (named first) (take_as_many first second) (not (gives_same first second))) i;
        static = any-on (λ first. is_between view first second static_hidden)
            (λ first. are_namesakes a_method first second && (first.is_static || second.is_static)) rows
            (λ first there. static-above first (up first there)
            ∙ ap (λ k. (alike a_method first.kind k (named first) && (take_as_many first second && true))
            && (first.is_static || second.is_static)) is
            ∙ methods-above first.kind (named first) (take_as_many first second) (first.is_static || second.is_static)) i;
      }
