-- What the indexes of constructors find is what the rule finds.
use Rattle.std.proofs.Common.{◌≡◌, ℕ, ◌==◌, Bool, true, false, cond, not, ◌&&◌, ◌||◌, List, [], ◌∷◌, Option, Some, None, is_some, option_map, find, ◌≢◌, ne_eqb, refl, sym, ◌∙◌, ap, nat_cmp}
use Rattle.std.specs.List.{list_any}
use Rattle.std.specs.Ordering.{is_eq}
use Rattle.jav_names.specs.LookUps.{is_constructor, declares_constructor, constructor_or, constructor_from}
use Rattle.jav_names.specs.UnitViews.{MemberKey}
use Rattle.jav_names.specs.Views.{ViewDeclaration}
use Rattle.jav_names.specs.index.Seeking.{is_sought}
use Rattle.jav_names.specs.declared.index.entry.Entry.{Entry}
use Rattle.jav_scope.specs.Answers.{answered, entry_ref, declaration_ref, constructor_ref}
use Rattle.jav_scope.specs.Entries.{units_of, view_in}
use Rattle.jav_scope.specs.MemberLists.{constructor_entry, owner_entry, AreIndexed}
use Rattle.jav_scope.specs.declared.found.Found.TheVariants as answer
use Rattle.jav_scope.specs.declared.members.Members.{Members}
use Rattle.jav_scope.specs.declared.source.SourceUnit.{SourceUnit}
use Rattle.jav_scope.proofs.Finding.{option_map-twice, found-filtered, sought-is}
use Rattle.jav_scope.proofs.MemberOwners.{DeclarationOwned, declarations-owned, same-of_found}

is_some-find : {X : Type 0} (p : X → Bool) (xs : List X) → is_some (find p xs) ≡ list_any p xs
is_some-find p [] = refl
is_some-find {X} p (x ∷ xs) = by_test (p x) (is_some-find p xs) where
  by_test : (b : Bool) → is_some (find p xs) ≡ list_any p xs → is_some (cond b (Some x) (find p xs)) ≡ (b || list_any p xs)
  by_test true more = refl
  by_test false more = more

is_some-map : {X Y : Type 0} (f : X → Y) (o : Option X) → is_some (option_map f o) ≡ is_some o
is_some-map f None = refl
is_some-map f (Some x) = refl

of-both : (k o a : Bool) → (k && (o && (a && true))) ≡ ((o && k) && a)
of-both true true true = refl
of-both true true false = refl
of-both true false a = refl
of-both false true a = refl
of-both false false a = refl

kept : (k o : Bool) → (k && (o && true)) ≡ (o && k)
kept true true = refl
kept true false = refl
kept false true = refl
kept false false = refl

module _ (sources : List SourceUnit) (members : Members) (indexed : AreIndexed members (view_in sources)) (class : ℕ) where
  abbrev declares : ViewDeclaration ℕ MemberKey → Bool
  declares = declares_constructor (view_in sources) class

  abbrev takes : ℕ → ViewDeclaration ℕ MemberKey → Bool
  takes arity declared = declares declared && declared.arity == arity

  constructor-sought : (arity : ℕ) (declared : ViewDeclaration ℕ MemberKey)
      → (is_constructor declared.kind && is_sought class arity [] (constructor_entry declared)) ≡ takes arity declared
  constructor-sought arity declared =
      ap (λ b. is_constructor declared.kind && b) (sought-is class arity [] (constructor_entry declared))
      ∙ of-both (is_constructor declared.kind) (is_eq (nat_cmp declared.owner class)) (declared.arity == arity)

  owner-sought : (declared : ViewDeclaration ℕ MemberKey)
      → (is_constructor declared.kind && is_sought class 0 [] (owner_entry declared)) ≡ declares declared
  owner-sought declared =
      ap (λ b. is_constructor declared.kind && b) (sought-is class 0 [] (owner_entry declared))
      ∙ kept (is_constructor declared.kind) (is_eq (nat_cmp declared.owner class))

  found-declared : (arity : ℕ) → option_map entry_ref (find (is_sought class arity []) members.constructors)
      ≡ option_map declaration_ref (find (takes arity) (view_in sources).declarations)
  found-declared arity =
      ap (option_map entry_ref) (
      indexed.constructors class arity []
      ∙ found-filtered constructor_entry class arity [] (λ declared. is_constructor declared.kind) (takes arity) (constructor-sought arity)
      (view_in sources).declarations
      )
      ∙ option_map-twice constructor_entry entry_ref (find (takes arity) (view_in sources).declarations)
      ∙ same-of_found DeclarationOwned (λ d. entry_ref (constructor_entry d)) declaration_ref
      (λ d owned. (λ i. record { unit = owned i; member = d.key.member })) (takes arity) (view_in sources).declarations
      (declarations-owned (units_of sources))

  pub some-declared : is_some (find (is_sought class 0 []) members.constructed) ≡ list_any declares (view_in sources).declarations
  some-declared =
      ap is_some (
      indexed.constructed class 0 []
      ∙ found-filtered owner_entry class 0 [] (λ declared. is_constructor declared.kind) declares owner-sought
      (view_in sources).declarations
      )
      ∙ is_some-map owner_entry (find declares (view_in sources).declarations) ∙ is_some-find declares (view_in sources).declarations

  -- ---- what the look-up answers

  pub constructor-found : (arity : ℕ) (entry : Entry) → find (is_sought class arity []) members.constructors ≡ Some entry
      → answer.Found (Some (entry_ref entry)) ≡ answered constructor_ref (constructor_from (view_in sources) class arity)
  constructor-found arity entry is =
      by_found (find (takes arity) (view_in sources).declarations) (sym (ap (option_map entry_ref) is) ∙ found-declared arity) where
        by_found : (o : Option (ViewDeclaration ℕ MemberKey)) → Some (entry_ref entry) ≡ option_map declaration_ref o
            → answer.Found (Some (entry_ref entry))
            ≡ answered constructor_ref (constructor_or class o (not (list_any declares (view_in sources).declarations) && arity == 0))
        by_found None same = absurd cc
        by_found (Some declared) same = ap (λ m. answer.Found m) same

  none-declared : (arity : ℕ) → find (is_sought class arity []) members.constructors ≡ None
      → find (takes arity) (view_in sources).declarations ≡ None
  none-declared arity none =
      nowhere (find (takes arity) (view_in sources).declarations) (sym (ap (option_map entry_ref) none) ∙ found-declared arity) where
        nowhere : (o : Option (ViewDeclaration ℕ MemberKey)) → None ≡ option_map declaration_ref o → o ≡ None
        nowhere None same = refl
        nowhere (Some declared) same = absurd cc

  pub by-default : (arity : ℕ) → find (is_sought class arity []) members.constructors ≡ None → arity ≡ 0
      → answered constructor_ref (constructor_or {M = MemberKey} class None (not (list_any declares (view_in sources).declarations)))
      ≡ answered constructor_ref (constructor_from (view_in sources) class arity)
  by-default arity none zero =
      λ i. answered constructor_ref (constructor_or class (sym (none-declared arity none) i) (both i)) where
        with_true : (b : Bool) → b ≡ (b && true)
        with_true true = refl
        with_true false = refl

        both : not (list_any declares (view_in sources).declarations)
            ≡ (not (list_any declares (view_in sources).declarations) && arity == 0)
        both = with_true (not (list_any declares (view_in sources).declarations))
            ∙ ap (λ n. not (list_any declares (view_in sources).declarations) && n == 0) (sym zero)

  pub no-default : (arity : ℕ) → find (is_sought class arity []) members.constructors ≡ None → arity ≢ 0
      → answer.NotFound ≡ answered constructor_ref (constructor_from (view_in sources) class arity)
  no-default arity none differs =
      λ i. answered constructor_ref (constructor_or class (sym (none-declared arity none) i) (neither i)) where
        with_false : (b : Bool) → false ≡ (b && false)
        with_false true = refl
        with_false false = refl

        neither : false ≡ (not (list_any declares (view_in sources).declarations) && arity == 0)
        neither = with_false (not (list_any declares (view_in sources).declarations))
            ∙ ap (λ b. not (list_any declares (view_in sources).declarations) && b) (sym (ne_eqb arity 0 differs))

  -- ---- the default one

  abbrev Default : Type 0
  Default = (found : Option Entry) → found ≡ find (is_sought class 0 []) members.constructed → (b : Bool) → b ≡ is_some found
      → answered constructor_ref (constructor_or {M = MemberKey} class None (not b))
      ≡ answered constructor_ref (constructor_or {M = MemberKey} class None (not (list_any declares (view_in sources).declarations)))

  pub default-by : Default
  default-by found is b so =
      ap (λ c. answered constructor_ref (constructor_or {M = MemberKey} class None (not c))) (so ∙ ap is_some is ∙ some-declared)
