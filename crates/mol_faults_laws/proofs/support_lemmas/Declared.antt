-- What is known, one by one; and a method lives where a known declaration of it does.
use Rattle.std.proofs.Common.{◌≡◌, ◌⊎◌, inl, inr, Bool, true, false, ◌&&◌, ◌||◌, cond, List, [], ◌∷◌, Some, Contains, refl, sym, ap, subst, ◌∙◌, true≢false}
use Rattle.std.proofs.lemmas.List.Elements.{All-contains, All-from_recursion}
use Rattle.std.specs.FinMap.{entries, find, get, get-entries}
use Rattle.std.specs.List.{list_all, list_any}
use Rattle.jav_names.proofs.Lists.{stands_first, stands_later, stands_nowhere, stands_where}
use Rattle.mol_base.specs.Order.{id_cmp, id_cmp-IsAntisymmetric, id_cmp-total}
use Rattle.mol_base.specs.declared.ident.Id.{Id}
use Rattle.mol_faults_laws.proofs.support_lemmas.Held.{passing-stands}
use Rattle.mol_table_rules.proofs.Counts.{each_found}
use Rattle.mol_table_rules.proofs.Living.{id_tied, same_id-own}
use Rattle.mol_table_rules.specs.Life.{is_living_decl, lives_method}
use Rattle.mol_table_rules.specs.Program.{Knowns, Program, living_at, same_id}
use Rattle.mol_values_types.specs.declared.known.Known.{Known}
use Rattle.mol_values_types.specs.declared.known.Known.TheVariants as knowns

-- ---- what is known

find-stands : (es : List (Id × Known)) (id : Id) (what : Known) → find id_cmp id es ≡ Some what → Contains es (id, what)
find-stands [] id what is = absurd cc
find-stands (e ∷ es) id what is = by (same_id id e.0) refl is (find-stands es id what) where
  by : (b : Bool) → same_id id e.0 ≡ b → cond b (Some e.1) (find id_cmp id es) ≡ Some what
      → (find id_cmp id es ≡ Some what → Contains es (id, what)) → Contains (e ∷ es) (id, what)
  by true tied is more =
      let same : id ≡ e.0 = id_tied id e.0 tied in
      let known : e.1 ≡ what = cc in
      subst (Contains (e ∷ es)) (λ i. (sym same i, known i)) (stands_first e es)
  by false tied is more = stands_later e (id, what) es (more is)

module _ (known : Knowns) where
  known-stands : (id : Id) (what : Known) → get known id ≡ Some what → Contains (entries known) (id, what)
  known-stands id what is = find-stands (entries known) id what (sym (get-entries known id) ∙ is)

  stands-known : (entry : Id × Known) → Contains (entries known) entry → get known entry.0 ≡ Some entry.1
  stands-known entry stands = All-contains (λ (e : Id × Known). get known e.0 ≡ Some e.1) (entries known) entry
      (All-from_recursion (λ (e : Id × Known). get known e.0 ≡ Some e.1) (entries known)
      (each_found id_cmp-total id_cmp-IsAntisymmetric known)) stands

  module _ (p : Id × Known → Bool) where
    any-stands : (es : List (Id × Known)) → list_any p es ≡ true → (e : Id × Known) × Contains es e × (p e ≡ true)
    any-stands [] is = absurd (true≢false (sym is))
    any-stands (e ∷ es) is = by (p e) refl is (any-stands es) where
      by : (b : Bool) → p e ≡ b → (b || list_any p es) ≡ true → (list_any p es ≡ true → (f : Id × Known) × Contains es f × (p f ≡ true))
          → (f : Id × Known) × Contains (e ∷ es) f × (p f ≡ true)
      by true passes so more = (e, stands_first e es, passes)
      by false passes so more = let found = more so in (found.0, stands_later e found.0 es found.1, found.2)

    stands-any : (es : List (Id × Known)) (e : Id × Known) → Contains es e → p e ≡ true → list_any p es ≡ true
    stands-any [] e stands passes = absurd (stands_nowhere e stands)
    stands-any (f ∷ es) e stands passes = by (p f) refl (stands_where f e es stands) (λ later. stands-any es e later passes) where
      by : (b : Bool) → p f ≡ b → (f ≡ e) ⊎ Contains es e → (Contains es e → list_any p es ≡ true) → (p f || list_any p es) ≡ true
      by true is place more = ap (λ b. b || list_any p es) is
      by false is (inl same) more = absurd (true≢false (sym passes ∙ ap p (sym same) ∙ is))
      by false is (inr later) more = ap (λ b. b || list_any p es) is ∙ more later

    each-stands : (es : List (Id × Known)) → ((e : Id × Known) → Contains es e → p e ≡ true) → list_all p es ≡ true
    each-stands [] each = refl
    each-stands (e ∷ es) each =
        ap (λ b. b && list_all p es) (each e (stands_first e es)) ∙ each-stands es (λ f stands. each f (stands_later e f es stands))

    -- some of what is known passes
    pub some-known : list_any p (entries known) ≡ true → (id : Id) × (what : Known) × (get known id ≡ Some what) × (p (id, what) ≡ true)
    some-known is =
        let found = any-stands (entries known) is in (found.0.0, found.0.1, stands-known found.0 found.1, found.2)

    pub known-some : (id : Id) (what : Known) → get known id ≡ Some what → p (id, what) ≡ true → list_any p (entries known) ≡ true
    known-some id what is passes = stands-any (entries known) (id, what) (known-stands id what is) passes

    -- all of it does
    pub all-known : (id : Id) (what : Known) → list_all p (entries known) ≡ true → get known id ≡ Some what → p (id, what) ≡ true
    all-known id what all is = passing-stands p (entries known) (id, what) all (known-stands id what is)

    pub known-all : ((id : Id) (what : Known) → get known id ≡ Some what → p (id, what) ≡ true) → list_all p (entries known) ≡ true
    known-all each = each-stands (entries known) (λ e stands. each e.0 e.1 (stands-known e stands))

-- ---- declarations of a method

module _ (program : Program) (method : Id) where
  -- what passes as a living declaration is known as a declaration, and lives
  pub passes-declared : (id : Id) (what : Known) → is_living_decl program method (id, what) ≡ true
      → (what ≡ knowns.Decl method) × (living_at program id ≡ true)
  passes-declared id knowns.Class so = absurd (true≢false (sym so))
  passes-declared id knowns.Field so = absurd (true≢false (sym so))
  passes-declared id (knowns.Method kind) so = absurd (true≢false (sym so))
  passes-declared id (knowns.Param of) so = absurd (true≢false (sym so))
  passes-declared id (knowns.Decl own) so = by (same_id method own) refl so where
    by : (b : Bool) → same_id method own ≡ b → (b && living_at program id) ≡ true
        → (knowns.Decl own ≡ knowns.Decl method) × (living_at program id ≡ true)
    by true same more = (ap knowns.Decl (sym (id_tied method own same)), more)
    by false same more = absurd (true≢false (sym more))

  pub declared-passes : (id : Id) → living_at program id ≡ true → is_living_decl program method (id, knowns.Decl method) ≡ true
  declared-passes id lives = ap (λ b. b && living_at program id) (same_id-own method) ∙ lives

  pub living-method : lives_method program method ≡ true
      → (declaration : Id) × (get program.known declaration ≡ Some (knowns.Decl method)) × (living_at program declaration ≡ true)
  living-method lives =
      let found = some-known program.known (is_living_decl program method) lives in
      let declared = passes-declared found.0 found.1 found.3 in (found.0, found.2 ∙ ap Some declared.0, declared.1)

  pub has-living : (declaration : Id) → get program.known declaration ≡ Some (knowns.Decl method) → living_at program declaration ≡ true
      → lives_method program method ≡ true
  has-living declaration is lives = known-some program.known (is_living_decl program method) declaration (knowns.Decl method) is
      (declared-passes declaration lives)
