-- Declarations with what they are found by: those of a program, and those of several keys.
use Rattle.std.proofs.Common.{◌≡◌, ◌⊎◌, inl, inr, ℕ, ◌+◌, ◌<◌, true, List, [], ◌∷◌, ◌++◌, take, get_or, length, filter_map, Option, Some, None, is_some, option_map, Contains, IsPermutation, refl, sym, ◌∙◌, ap, subst, arith}
use Rattle.std.specs.Prelude.{◌↔◌}
use Rattle.std.specs.FinMap.{get}
use Rattle.std.specs.List.Sorted.{IsSorted}
use Rattle.std.proofs.lemmas.List.{take_more}
use Rattle.std.proofs.lemmas.List.Sorted.{Contains-permutation, IsPermutation-sym}
use Rattle.jav_names.proofs.Lists.{stands_first, stands_nowhere, stands_where}
use Rattle.jav_names.specs.Views.{IsKeyOrder}
use Rattle.mol_base.specs.Order.{id_cmp, id_cmp-total, id_cmp-IsAntisymmetric}
use Rattle.mol_base.specs.declared.ident.Id.{Id}
use Rattle.mol_faults_support.specs.Declarations.{ConstructsAny, DeclaresAny}
use Rattle.mol_faults_support.specs.Links.{constructed_as, constructed_by, constructor_link, declared_as, declared_link, link, links_cmp, AreConstructed, AreDeclared, AreLinked, AreSorted, IsConstructed, IsDeclared}
use Rattle.mol_faults_support.specs.declared.link.Link.{Link}
use Rattle.mol_resolve_rules.proofs.Stands.{behind, from_some, in_either, in_front, in_some}
use Rattle.mol_spell_rules.specs.Support.{IsConstructorOf, IsDeclarationOf}
use Rattle.mol_table_rules.specs.Identities.{AreKnown}
use Rattle.mol_table_rules.specs.Program.{Program, owner_at}
use Rattle.mol_values_types.specs.declared.kind.MethodKind.TheVariants.{Instance, Static, Constructor}
use Rattle.mol_values_types.specs.declared.known.Known.{Known}
use Rattle.mol_values_types.specs.declared.known.Known.TheVariants as knowns

pub id-order : IsKeyOrder id_cmp
id-order = record { total = id_cmp-total; same = id_cmp-IsAntisymmetric }

-- ---- one more that is found

-- these are the old ones and some of those that are found
abbrev pub AreAdded : List Link → List Id → List Id → Type 0
AreAdded run old new = (id : Id) → Contains new id ↔ (Contains old id ⊎ ((found : Link) × Contains run found × (found.id ≡ id)))

pub none-added : (old : List Id) → AreAdded [] old old
none-added old id = (λ stands. inl stands, by) where
  by : Contains old id ⊎ ((found : Link) × Contains [] found × (found.id ≡ id)) → Contains old id
  by (inl stands) = stands
  by (inr found) = absurd (stands_nowhere found.0 found.1)

module _ (run : List Link) (i : ℕ) (x : Link) (within : i < length run) (is : x ≡ get_or run i x) (old before after : List Id)
    (so-far : AreAdded (take i run) old before) (one : after ≡ before ++ x.id ∷ []) where
  longer : take (i + 1) run ≡ take i run ++ x ∷ []
  longer = take_more run i x within ∙ ap (λ y. take i run ++ y ∷ []) (sym is)

  abbrev To : Id → Type 0
  To id = Contains old id ⊎ ((found : Link) × Contains (take (i + 1) run) found × (found.id ≡ id))

  wider : (id : Id) → Contains old id ⊎ ((found : Link) × Contains (take i run) found × (found.id ≡ id)) → To id
  wider id (inl stands) = inl stands
  wider id (inr found) = inr (
    found.0,
    subst (λ xs. Contains xs found.0) (sym longer) (in_front (take i run) (x ∷ []) found.0 found.1),
    found.2,
  )

  last : (id : Id) → (x.id ≡ id) ⊎ Contains [] id → To id
  last id (inl same) = inr (x, subst (λ xs. Contains xs x) (sym longer) (behind (take i run) (x ∷ []) x (stands_first x [])), same)
  last id (inr never) = absurd (stands_nowhere id never)

  to : (id : Id) → Contains before id ⊎ Contains (x.id ∷ []) id → To id
  to id (inl stands) = wider id ((so-far id).0 stands)
  to id (inr stands) = last id (stands_where x.id id [] stands)

  own : (found : Link) (id : Id) → (x ≡ found) ⊎ Contains [] found → found.id ≡ id → Contains after id
  own found id (inl same) named = subst (λ ids. Contains ids id) (sym one)
      (behind before (x.id ∷ []) id (0, omega arith, ap (λ (l : Link). l.id) same ∙ named))
  own found id (inr never) named = absurd (stands_nowhere found never)

  kept : (id : Id) → Contains before id → Contains after id
  kept id stands = subst (λ ids. Contains ids id) (sym one) (in_front before (x.id ∷ []) id stands)

  placed : (found : Link) (id : Id) → Contains (take i run) found ⊎ Contains (x ∷ []) found → found.id ≡ id → Contains after id
  placed found id (inl early) named = kept id ((so-far id).1 (inr (found, early, named)))
  placed found id (inr late) named = own found id (stands_where x found [] late) named

  back : (id : Id) → To id → Contains after id
  back id (inl stands) = kept id ((so-far id).1 (inl stands))
  back id (inr found) = placed found.0 id
      (in_either (take i run) (x ∷ []) found.0 (subst (λ xs. Contains xs found.0) longer found.1)) found.2

  pub one-added : AreAdded (take (i + 1) run) old after
  one-added id = (λ stands. to id (in_either before (x.id ∷ []) id (subst (λ ids. Contains ids id) one stands)), back id)

-- all that are found by a key
pub key-added : (links run : List Link) (key : Id) → ((found : Link) → Contains run found ↔ (Contains links found × (found.key ≡ key)))
    → (old new : List Id) → AreAdded run old new → (id : Id) → Contains new id ↔ (Contains old id ⊎ Contains links (link key id))
key-added links run key are old new added id = (λ stands. to ((added id).0 stands), λ either. (added id).1 (from either)) where
  to : Contains old id ⊎ ((found : Link) × Contains run found × (found.id ≡ id)) → Contains old id ⊎ Contains links (link key id)
  to (inl stands) = inl stands
  to (inr found) =
      let there = (are found.0).0 found.1 in
      let same : found.0 ≡ link key id = λ k. record { key = there.1 k; id = found.2 k } in
      inr (subst (Contains links) same there.0)

  from : Contains old id ⊎ Contains links (link key id) → Contains old id ⊎ ((found : Link) × Contains run found × (found.id ≡ id))
  from (inl stands) = inl stands
  from (inr stands) = inr (link key id, (are (link key id)).1 (stands, refl), refl)

-- ---- one key more

pub none-linked : (links : List Link) (found : List Id) → found ≡ [] → AreLinked links [] found
none-linked links found none id = (
  λ stands. absurd (stands_nowhere id (subst (λ ids. Contains ids id) none stands)),
  λ (linked : (key : Id) × Contains [] key × Contains links (link key id)). absurd (stands_nowhere linked.0 linked.1),
)

module _ (links : List Link) (keys : List Id) (i : ℕ) (x : Id) (within : i < length keys) (is : x ≡ get_or keys i x) (before after : List Id)
    (so-far : AreLinked links (take i keys) before)
    (added : (id : Id) → Contains after id ↔ (Contains before id ⊎ Contains links (link x id))) where
  more : take (i + 1) keys ≡ take i keys ++ x ∷ []
  more = take_more keys i x within ∙ ap (λ y. take i keys ++ y ∷ []) (sym is)

  abbrev Linked : Id → Type 0
  Linked id = (key : Id) × Contains (take (i + 1) keys) key × Contains links (link key id)

  linked-to : (id : Id) → Contains before id ⊎ Contains links (link x id) → Linked id
  linked-to id (inl stands) =
      let linked = (so-far id).0 stands in
      (linked.0, subst (λ xs. Contains xs linked.0) (sym more) (in_front (take i keys) (x ∷ []) linked.0 linked.1), linked.2)
  linked-to id (inr stands) = (x, subst (λ xs. Contains xs x) (sym more) (behind (take i keys) (x ∷ []) x (stands_first x [])), stands)

  last-key : (key id : Id) → (x ≡ key) ⊎ Contains [] key → Contains links (link key id) → Contains after id
  last-key key id (inl same) stands = (added id).1 (inr (subst (λ k. Contains links (link k id)) (sym same) stands))
  last-key key id (inr never) stands = absurd (stands_nowhere key never)

  by-key : (key id : Id) → Contains (take i keys) key ⊎ Contains (x ∷ []) key → Contains links (link key id) → Contains after id
  by-key key id (inl early) stands = (added id).1 (inl ((so-far id).1 (key, early, stands)))
  by-key key id (inr late) stands = last-key key id (stands_where x key [] late) stands

  pub one-linked : AreLinked links (take (i + 1) keys) after
  one-linked id = (
    λ stands. linked-to id ((added id).0 stands),
    λ (linked : Linked id). by-key linked.0 id
        (in_either (take i keys) (x ∷ []) linked.0 (subst (λ xs. Contains xs linked.0) more linked.1)) linked.2,
  )

-- ---- all of a program

-- the same, sorted
pub are-sorted : (Is : Link → Type 0) (links sorted : List Link) → ((found : Link) → Contains links found ↔ Is found)
    → IsPermutation links sorted → IsSorted links_cmp sorted → AreSorted Is sorted
are-sorted Is links sorted are same up = record {
  sorted = up;
  each = λ found. (
    λ stands. (are found).0 (Contains-permutation sorted links found (IsPermutation-sym links sorted same) stands),
    λ is. Contains-permutation links sorted found same ((are found).1 is),
  );
}

some-known : (o : Option Known) (known : Known) → o ≡ Some known → is_some o ≡ true
some-known o known is = ap is_some is

declared-is : (program : Program) (id : Id) (o : Option Known) (found : Link) → get program.known id ≡ o → declared_as id o ≡ Some found
    → IsDeclared program found
declared-is program id (Some (knowns.Decl method)) found is picked =
    subst (IsDeclared program) (let same : link method id ≡ found = cc in same) is
declared-is program id None found is picked = absurd cc
declared-is program id (Some knowns.Class) found is picked = absurd cc
declared-is program id (Some (knowns.Method kind)) found is picked = absurd cc
declared-is program id (Some knowns.Field) found is picked = absurd cc
declared-is program id (Some (knowns.Param method)) found is picked = absurd cc

owned-is : (program : Program) (method id : Id) (o : Option Id) (found : Link) → owner_at program id ≡ o → IsDeclarationOf program method id
    → get program.known method ≡ Some (knowns.Method Constructor) → option_map (λ class. link class id) o ≡ Some found
    → IsConstructed program found
owned-is program method id None found is declares constructs picked = absurd cc
owned-is program method id (Some class) found is declares constructs picked = subst (IsConstructed program)
    (let same : link class id ≡ found = cc in same)
    (record { method = method; declares = declares; is_constructor = constructs; owned = is })

constructed-is : (program : Program) (method id : Id) (o : Option Known) (found : Link) → get program.known method ≡ o
    → IsDeclarationOf program method id → constructed_by program id o ≡ Some found → IsConstructed program found
constructed-is program method id (Some (knowns.Method Constructor)) found is declares picked =
    owned-is program method id (owner_at program id) found refl declares is picked
constructed-is program method id None found is declares picked = absurd cc
constructed-is program method id (Some knowns.Class) found is declares picked = absurd cc
constructed-is program method id (Some (knowns.Method Instance)) found is declares picked = absurd cc
constructed-is program method id (Some (knowns.Method Static)) found is declares picked = absurd cc
constructed-is program method id (Some (knowns.Decl own)) found is declares picked = absurd cc
constructed-is program method id (Some knowns.Field) found is declares picked = absurd cc
constructed-is program method id (Some (knowns.Param own)) found is declares picked = absurd cc

constructor-is : (program : Program) (id : Id) (o : Option Known) (found : Link) → get program.known id ≡ o
    → constructed_as program id o ≡ Some found → IsConstructed program found
constructor-is program id (Some (knowns.Decl method)) found is picked =
    constructed-is program method id (get program.known method) found refl is picked
constructor-is program id None found is picked = absurd cc
constructor-is program id (Some knowns.Class) found is picked = absurd cc
constructor-is program id (Some (knowns.Method kind)) found is picked = absurd cc
constructor-is program id (Some knowns.Field) found is picked = absurd cc
constructor-is program id (Some (knowns.Param own)) found is picked = absurd cc

module _ (program : Program) (ids : List Id) (known : AreKnown program ids) where
  pub all-declared : (links : List Link) → links ≡ filter_map (declared_link program) ids
      → (found : Link) → Contains links found ↔ IsDeclared program found
  all-declared links made found = (there, back) where
    there : Contains links found → IsDeclared program found
    there stands =
        let picked = from_some (declared_link program) ids found (subst (λ xs. Contains xs found) made stands) in
        declared-is program picked.0 (get program.known picked.0) found refl picked.2

    back : IsDeclared program found → Contains links found
    back is = subst (λ xs. Contains xs found) (sym made)
        (in_some (declared_link program) ids found.id found ((known found.id).1 (some-known (get program.known found.id) _ is))
        (ap (declared_as found.id) is))

  pub all-constructed : (links : List Link) → links ≡ filter_map (constructor_link program) ids
      → (found : Link) → Contains links found ↔ IsConstructed program found
  all-constructed links made found = (there, back) where
    there : Contains links found → IsConstructed program found
    there stands =
        let picked = from_some (constructor_link program) ids found (subst (λ xs. Contains xs found) made stands) in
        constructor-is program picked.0 (get program.known picked.0) found refl picked.2

    back : IsConstructed program found → Contains links found
    back is = subst (λ xs. Contains xs found) (sym made)
        (in_some (constructor_link program) ids found.id found
        ((known found.id).1 (some-known (get program.known found.id) _ is.declares))
        (ap (constructed_as program found.id) is.declares ∙ ap (constructed_by program found.id) is.is_constructor
        ∙ ap (option_map (λ class. link class found.id)) is.owned))

-- ---- those of several methods and classes

pub declares-any : (program : Program) (links : List Link) (methods found : List Id) → AreDeclared program links
    → AreLinked links methods found → DeclaresAny program methods found
declares-any program links methods found are linked id = (
  λ stands. let from = (linked id).0 stands in (from.0, from.1, (are.each (link from.0 id)).0 from.2),
  λ (declared : (method : Id) × Contains methods method × IsDeclarationOf program method id).
      (linked id).1 (declared.0, declared.1, (are.each (link declared.0 id)).1 declared.2),
)

pub constructs-any : (program : Program) (links : List Link) (classes found : List Id) → AreConstructed program links
    → AreLinked links classes found → ConstructsAny program classes found
constructs-any program links classes found are linked id = (
  λ stands. let from = (linked id).0 stands in (from.0, from.1, (are.each (link from.0 id)).0 from.2),
  λ (constructor : (class : Id) × Contains classes class × IsConstructorOf program class id).
      (linked id).1 (constructor.0, constructor.1, (are.each (link constructor.0 id)).1 constructor.2),
)
