-- What the indexes of constructors find is what the rule finds.
use Rattle.std.proofs.Common.{◌≡◌, ◌≢◌, ℕ, ◌==◌, Bool, true, false, cond, not, ◌&&◌, ◌||◌, List, [], ◌∷◌, Option, Some, None, is_some, option_map, find, ne_eqb, refl, sym, ◌∙◌, ap, if◌then◌else◌}
use Rattle.std.specs.List.{list_any}
use Rattle.std.specs.Ordering.{is_eq}
use Rattle.std.proofs.Math.Bool.{and-true, and-false}
use Rattle.jav_scope.specs.Answers.{answered}
use Rattle.jav_scope.specs.declared.found.Found.TheVariants as answer
use Rattle.jav_names.specs.LookUps.{is_constructor, declares_constructor, constructor_or, constructor_from}
use Rattle.jav_names.specs.Views.{ViewDeclaration, View}
use Rattle.mol_base.specs.Order.{id_cmp}
use Rattle.mol_base.specs.declared.ident.Id.{Id}
use Rattle.jav_names.proofs.id_index_lemmas.Sought.{sought-is}
use Rattle.jav_names.specs.id_index.Seeking.{is_sought}
use Rattle.mol_resolve_rules.specs.ProgramViews.{program_view}
use Rattle.mol_table_rules.specs.Program.{Program}
use Rattle.mol_scope_members.specs.declaring.Indexed.{AreIndexed, constructor_id, found_in}
use Rattle.mol_scope_members.specs.declaring.MemberEntries.{constructor_entry, owner_entry, listed_constructor, listed_owner}
use Rattle.mol_scope_members.specs.declared.declaring.members.Members.{Members}
use Rattle.mol_scope_members.proofs.declaring_lemmas.EntriesMade.{id_of, Fits, found-made}

is_some-find : {X : Type 0} (p : X → Bool) (xs : List X) → is_some (find p xs) ≡ list_any p xs
is_some-find p [] = refl
is_some-find {X} p (x ∷ xs) = by_test (p x) (is_some-find p xs) where
  by_test : (b : Bool) → is_some (find p xs) ≡ list_any p xs → is_some (cond b (Some x) (find p xs)) ≡ (b || list_any p xs)
  by_test true more = refl
  by_test false more = more

is_some-map : {X Y : Type 0} (f : X → Y) (o : Option X) → is_some (option_map f o) ≡ is_some o
is_some-map f None = refl
is_some-map f (Some x) = refl

module _ (program : Program) (members : Members) (indexed : AreIndexed members program) (class : Id) where
  abbrev view : View Id Id
  view = program_view program

  abbrev key : ViewDeclaration Id Id → Id
  key declared = declared.key

  abbrev declares : ViewDeclaration Id Id → Bool
  declares = declares_constructor view class

  abbrev takes : ℕ → ViewDeclaration Id Id → Bool
  takes arity declared = declares declared && declared.arity == arity

  constructor-fits : (arity : ℕ) (declared : ViewDeclaration Id Id)
      → Fits listed_constructor key (takes arity) (is_sought class arity []) declared (listed_constructor declared)
  constructor-fits arity declared = by (is_constructor declared.kind) refl where
    by : (b : Bool) → is_constructor declared.kind ≡ b → Fits listed_constructor key (takes arity)
        (is_sought class arity []) declared (if b then Some (constructor_entry declared) else None)
    by true is = (
      sought-is class arity [] (constructor_entry declared)
          ∙ ap (λ b. is_eq (id_cmp declared.owner class) && b) (and-true (declared.arity == arity))
          ∙ ap (λ b. b && declared.arity == arity) (sym (and-true (is_eq (id_cmp declared.owner class))))
          ∙ ap (λ b. (is_eq (id_cmp declared.owner class) && b) && declared.arity == arity) (sym is),
      refl,
    )
    by false is = ap (λ b. (is_eq (id_cmp declared.owner class) && b) && declared.arity == arity) is
        ∙ ap (λ b. b && declared.arity == arity) (and-false (is_eq (id_cmp declared.owner class)))

  owner-fits : (declared : ViewDeclaration Id Id)
      → Fits listed_owner key declares (is_sought class 0 []) declared (listed_owner declared)
  owner-fits declared = by (is_constructor declared.kind) refl where
    by : (b : Bool) → is_constructor declared.kind ≡ b → Fits listed_owner key declares
        (is_sought class 0 []) declared (if b then Some (owner_entry declared) else None)
    by true is = (
      sought-is class 0 [] (owner_entry declared) ∙ ap (λ b. is_eq (id_cmp declared.owner class) && b) (sym is),
      refl,
    )
    by false is = ap (λ b. is_eq (id_cmp declared.owner class) && b) is ∙ and-false (is_eq (id_cmp declared.owner class))

  pub found-declared : (arity : ℕ) → found_in members.constructors arity [] class ≡ option_map key (find (takes arity) view.declarations)
  found-declared arity =
      ap (option_map id_of) (indexed.constructors class arity [])
      ∙ found-made listed_constructor key (takes arity) (is_sought class arity []) (constructor-fits arity) view.declarations

  pub some-declared : is_some (found_in members.constructed 0 [] class) ≡ list_any declares view.declarations
  some-declared =
      ap is_some (
      ap (option_map id_of) (indexed.constructed class 0 [])
      ∙ found-made listed_owner key declares (is_sought class 0 []) owner-fits view.declarations
      )
      ∙ is_some-map key (find declares view.declarations) ∙ is_some-find declares view.declarations

  -- ---- what the look-up answers

  pub constructor-found : (arity : ℕ) (id : Id) → Some id ≡ found_in members.constructors arity [] class
      → answer.Found (Some id) ≡ answered constructor_id (constructor_from view class arity)
  constructor-found arity id is = by_found (find (takes arity) view.declarations) (is ∙ found-declared arity) where
    by_found : (o : Option (ViewDeclaration Id Id)) → Some id ≡ option_map key o → answer.Found (Some id)
        ≡ answered constructor_id (constructor_or class o (not (list_any declares view.declarations) && arity == 0))
    by_found None same = absurd cc
    by_found (Some declared) same = ap (λ m. answer.Found m) same

  none-declared : (arity : ℕ) → None ≡ found_in members.constructors arity [] class → find (takes arity) view.declarations ≡ None
  none-declared arity none = nowhere (find (takes arity) view.declarations) (none ∙ found-declared arity) where
    nowhere : (o : Option (ViewDeclaration Id Id)) → None ≡ option_map key o → o ≡ None
    nowhere None same = refl
    nowhere (Some declared) same = absurd cc

  pub by-default : (arity : ℕ) → None ≡ found_in members.constructors arity [] class → arity ≡ 0
      → answered constructor_id (constructor_or {M = Id} class None (not (list_any declares view.declarations)))
      ≡ answered constructor_id (constructor_from view class arity)
  by-default arity none zero =
      λ i. answered constructor_id (constructor_or class (sym (none-declared arity none) i) (both i)) where
        both : not (list_any declares view.declarations) ≡ (not (list_any declares view.declarations) && arity == 0)
        both = sym (and-true (not (list_any declares view.declarations)))
            ∙ ap (λ n. not (list_any declares view.declarations) && n == 0) (sym zero)

  pub no-default : (arity : ℕ) → None ≡ found_in members.constructors arity [] class → arity ≢ 0
      → answer.NotFound ≡ answered constructor_id (constructor_from view class arity)
  no-default arity none differs =
      λ i. answered constructor_id (constructor_or class (sym (none-declared arity none) i) (neither i)) where
        neither : false ≡ (not (list_any declares view.declarations) && arity == 0)
        neither = sym (and-false (not (list_any declares view.declarations)))
            ∙ ap (λ b. not (list_any declares view.declarations) && b) (sym (ne_eqb arity 0 differs))

  -- ---- the default one

  pub default-by : (found : Option Id) → found ≡ found_in members.constructed 0 [] class → (b : Bool) → b ≡ is_some found
      → answered constructor_id (constructor_or {M = Id} class None (not b))
      ≡ answered constructor_id (constructor_or {M = Id} class None (not (list_any declares view.declarations)))
  default-by found is b so =
      ap (λ c. answered constructor_id (constructor_or {M = Id} class None (not c))) (so ∙ ap is_some is ∙ some-declared)
