-- What is gone through in order of identities and leaves parameters out is equal in programs that know the same entities.
use Rattle.std.proofs.Common.{Bool, Contains, List, None, Option, Some, [], ap, cond, false, inl, inr, refl, subst, sym, true, ◌||◌, ◌∙◌, ◌∷◌, ◌≡◌, ◌⊎◌}
use Rattle.std.proofs.lemmas.List.Elements.{All-contains, All-from_recursion}
use Rattle.std.specs.FinMap.{get, entries, keys, get-entries, find as find_at}
use Rattle.std.specs.List.{find, cons_option, filter, filter_map, list_all, list_any}
use Rattle.std.specs.Ordering.{eq_by_cmp}
use Rattle.std.specs.Prelude.{map, ◌&&◌}
use Rattle.mol_base.specs.Order.{id_cmp, id_cmp-total, id_cmp-IsAntisymmetric}
use Rattle.mol_base.specs.declared.ident.Id.{Id}
use Rattle.mol_faults_laws.specs.sameness.Laws.{KnowAlike}
use Rattle.mol_table_rules.specs.Life.{entity_in}
use Rattle.mol_table_rules.specs.Program.{Program}
use Rattle.mol_values_types.specs.declared.known.Known.{Known}
use Rattle.mol_values_types.specs.declared.known.Known.TheVariants as knowns
use Rattle.jav_names.proofs.Lists.{stands_first, stands_later, stands_where, stands_nowhere}
use Rattle.mol_resolve_rules.proofs.ProgramsViewed.{made-ascend}
use Rattle.mol_spell_rules.proofs.SetItems.{same-members}
use Rattle.mol_table_rules.proofs.Counts.{each_found}
use Rattle.mol_table_rules.proofs.Living.{id_tied}
use Rattle.mol_faults_laws.proofs.sameness_lemmas.Lists.{filter-same, filter_map-same, find-same, list_all-same, list_any-same}

-- an entry that is no parameter
abbrev pub entity_entry : Id × Known → Option (Id × Known)
entity_entry (id, knowns.Param method) = None
entity_entry entry = Some entry

abbrev pub entities : Program → List (Id × Known)
entities program = filter_map entity_entry (entries program.known)

pub data Entry : Id × Known → Type 0 where
  of_param : {id : Id} {method : Id} → Entry (id, knowns.Param method)
  of_entity : {entry : Id × Known} → entity_entry entry ≡ Some entry → entity_in (Some entry.1) ≡ Some entry.1 → Entry entry

pub entry-of : (entry : Id × Known) → Entry entry
entry-of (id, knowns.Class) = of_entity refl refl
entry-of (id, knowns.Method kind) = of_entity refl refl
entry-of (id, knowns.Decl method) = of_entity refl refl
entry-of (id, knowns.Field) = of_entity refl refl
entry-of (id, knowns.Param method) = of_param

-- ---- one program

module _ (program : Program) where
  pub entry-known : (entry : Id × Known) → Contains (entries program.known) entry → get program.known entry.0 ≡ Some entry.1
  entry-known entry stands = All-contains (λ (e : Id × Known). get program.known e.0 ≡ Some e.1) (entries program.known) entry
      (All-from_recursion (λ (e : Id × Known). get program.known e.0 ≡ Some e.1) (entries program.known)
      (each_found id_cmp-total id_cmp-IsAntisymmetric program.known)) stands

  found-stands : (es : List (Id × Known)) (id : Id) (known : Known) → find_at id_cmp id es ≡ Some known → Contains es (id, known)
  found-stands [] id known is = absurd cc
  found-stands (e ∷ es) id known is = by (eq_by_cmp id_cmp id e.0) refl is (found-stands es id known) where
    by : (b : Bool) → eq_by_cmp id_cmp id e.0 ≡ b → cond b (Some e.1) (find_at id_cmp id es) ≡ Some known
        → (find_at id_cmp id es ≡ Some known → Contains es (id, known)) → Contains (e ∷ es) (id, known)
    by true tied is more =
        let what : e.1 ≡ known = cc in
        subst (Contains (e ∷ es)) (λ i. (sym (id_tied id e.0 tied) i, what i)) (stands_first e es)
    by false tied is more = stands_later e (id, known) es (more is)

  pub entry-stands : (id : Id) (known : Known) → get program.known id ≡ Some known → Contains (entries program.known) (id, known)
  entry-stands id known is = found-stands (entries program.known) id known (sym (get-entries program.known id) ∙ is)

-- ---- lists of entries

module _ {Y : Type 0} where
  pub made-of_entities : (make : Id × Known → Option Y) → ((id method : Id) → make (id, knowns.Param method) ≡ None)
      → (es : List (Id × Known)) → filter_map make es ≡ filter_map make (filter_map entity_entry es)
  made-of_entities make none [] = refl
  made-of_entities make none (e ∷ es) = by e (entry-of e) (made-of_entities make none es) where
    by : (e : Id × Known) → Entry e → (filter_map make es ≡ filter_map make (filter_map entity_entry es))
        → cons_option (make e) (filter_map make es)
        ≡ filter_map make (cons_option (entity_entry e) (filter_map entity_entry es))
    by e (of_param {id} {method}) rest = ap (λ o. cons_option o (filter_map make es)) (none id method) ∙ rest
    by e (of_entity is known) rest =
        ap (cons_option (make e)) rest ∙ ap (λ o. filter_map make (cons_option o (filter_map entity_entry es))) (sym is)

pub any-of_entities : (p : Id × Known → Bool) → ((id method : Id) → p (id, knowns.Param method) ≡ false)
    → (es : List (Id × Known)) → list_any p es ≡ list_any p (filter_map entity_entry es)
any-of_entities p none [] = refl
any-of_entities p none (e ∷ es) = by e (entry-of e) (any-of_entities p none es) where
  by : (e : Id × Known) → Entry e → (list_any p es ≡ list_any p (filter_map entity_entry es))
      → (p e || list_any p es) ≡ list_any p (cons_option (entity_entry e) (filter_map entity_entry es))
  by e (of_param {id} {method}) rest = ap (λ b. b || list_any p es) (none id method) ∙ rest
  by e (of_entity is known) rest =
      ap (λ b. p e || b) rest ∙ ap (λ o. list_any p (cons_option o (filter_map entity_entry es))) (sym is)

pub all-of_entities : (p : Id × Known → Bool) → ((id method : Id) → p (id, knowns.Param method) ≡ true)
    → (es : List (Id × Known)) → list_all p es ≡ list_all p (filter_map entity_entry es)
all-of_entities p passes [] = refl
all-of_entities p passes (e ∷ es) = by e (entry-of e) (all-of_entities p passes es) where
  by : (e : Id × Known) → Entry e → (list_all p es ≡ list_all p (filter_map entity_entry es))
      → (p e && list_all p es) ≡ list_all p (cons_option (entity_entry e) (filter_map entity_entry es))
  by e (of_param {id} {method}) rest = ap (λ b. b && list_all p es) (passes id method) ∙ rest
  by e (of_entity is known) rest =
      ap (λ b. p e && b) rest ∙ ap (λ o. list_all p (cons_option o (filter_map entity_entry es))) (sym is)

pub find-of_entities : (p : Id × Known → Bool) → ((id method : Id) → p (id, knowns.Param method) ≡ false)
    → (es : List (Id × Known)) → find p es ≡ find p (filter_map entity_entry es)
find-of_entities p none [] = refl
find-of_entities p none (e ∷ es) = by e (entry-of e) (find-of_entities p none es) where
  by : (e : Id × Known) → Entry e → (find p es ≡ find p (filter_map entity_entry es))
      → cond (p e) (Some e) (find p es) ≡ find p (cons_option (entity_entry e) (filter_map entity_entry es))
  by e (of_param {id} {method}) rest = ap (λ b. cond b (Some (id, knowns.Param method)) (find p es)) (none id method) ∙ rest
  by e (of_entity is known) rest =
      ap (cond (p e) (Some e)) rest ∙ ap (λ o. find p (cons_option o (filter_map entity_entry es))) (sym is)

abbrev pub ids_of : List (Id × Known) → List Id
ids_of es = map (λ (e : Id × Known). e.0) es

-- tests of identities that no parameter passes
pub kept-of_entities : (p : Id → Bool) (es : List (Id × Known))
    → ((id method : Id) → Contains es (id, knowns.Param method) → p id ≡ false)
    → filter p (ids_of es) ≡ filter p (ids_of (filter_map entity_entry es))
kept-of_entities p [] none = refl
kept-of_entities p (e ∷ es) none = by e (entry-of e) (λ id method is. none id method
    (subst (λ (x : Id × Known). Contains (e ∷ es) x) is (stands_first e es)))
    (kept-of_entities p es (λ id method stands. none id method (stands_later e (id, knowns.Param method) es stands))) where
      by : (e : Id × Known) → Entry e → ((id method : Id) → e ≡ (id, knowns.Param method) → p id ≡ false)
          → (filter p (ids_of es) ≡ filter p (ids_of (filter_map entity_entry es)))
          → filter p (ids_of (e ∷ es)) ≡ filter p (ids_of (cons_option (entity_entry e) (filter_map entity_entry es)))
      by e (of_param {id} {method}) fails rest = ap (λ b. cond b (id ∷ filter p (ids_of es)) (filter p (ids_of es))) (fails id method refl)
          ∙ rest
      by e (of_entity is known) fails rest =
          (λ i. cond (p e.0) (e.0 ∷ rest i) (rest i)) ∙ ap (λ o. filter p (ids_of (cons_option o (filter_map entity_entry es)))) (sym is)

pub found-of_entities : (p : Id → Bool) (es : List (Id × Known))
    → ((id method : Id) → Contains es (id, knowns.Param method) → p id ≡ false)
    → find p (ids_of es) ≡ find p (ids_of (filter_map entity_entry es))
found-of_entities p [] none = refl
found-of_entities p (e ∷ es) none = by e (entry-of e) (λ id method is. none id method
    (subst (λ (x : Id × Known). Contains (e ∷ es) x) is (stands_first e es)))
    (found-of_entities p es (λ id method stands. none id method (stands_later e (id, knowns.Param method) es stands))) where
      by : (e : Id × Known) → Entry e → ((id method : Id) → e ≡ (id, knowns.Param method) → p id ≡ false)
          → (find p (ids_of es) ≡ find p (ids_of (filter_map entity_entry es)))
          → find p (ids_of (e ∷ es)) ≡ find p (ids_of (cons_option (entity_entry e) (filter_map entity_entry es)))
      by e (of_param {id} {method}) fails rest = ap (λ b. cond b (Some id) (find p (ids_of es))) (fails id method refl) ∙ rest
      by e (of_entity is known) fails rest =
          ap (cond (p e.0) (Some e.0)) rest ∙ ap (λ o. find p (ids_of (cons_option o (filter_map entity_entry es)))) (sym is)

-- ---- two programs

module _ (first second : Program) (knows : KnowAlike first second) where
  -- an entity of the one is known to the other
  pub also-known : (id : Id) (known : Known) → get first.known id ≡ Some known → entity_in (Some known) ≡ Some known
      → get second.known id ≡ Some known
  also-known id known is entity = by (get second.known id) (sym entity ∙ sym (ap entity_in is) ∙ knows id) where
    by : (o : Option Known) → Some known ≡ entity_in o → o ≡ Some known
    by None same = absurd cc
    by (Some knowns.Class) same = sym same
    by (Some (knowns.Method kind)) same = sym same
    by (Some (knowns.Decl method)) same = sym same
    by (Some knowns.Field) same = sym same
    by (Some (knowns.Param method)) same = absurd cc

  pub entity-of : (program : Program) (entry : Id × Known) → Contains (entities program) entry
      → (get program.known entry.0 ≡ Some entry.1) × (entity_in (Some entry.1) ≡ Some entry.1)
  entity-of program entry stands = at (entries program.known) (entry-known program) stands where
    at : (es : List (Id × Known)) → ((e : Id × Known) → Contains es e → get program.known e.0 ≡ Some e.1)
        → Contains (filter_map entity_entry es) entry → (get program.known entry.0 ≡ Some entry.1) ×
        (entity_in (Some entry.1) ≡ Some entry.1)
    at [] known stands = absurd (stands_nowhere entry stands)
    at (e ∷ es) known stands = by e (entry-of e) (known e (stands_first e es))
        (at es (λ x there. known x (stands_later e x es there))) stands where
          by : (e : Id × Known) → Entry e → get program.known e.0 ≡ Some e.1
              → (Contains (filter_map entity_entry es) entry → (get program.known entry.0 ≡ Some entry.1) ×
              (entity_in (Some entry.1) ≡ Some entry.1))
              → Contains (cons_option (entity_entry e) (filter_map entity_entry es)) entry
              → (get program.known entry.0 ≡ Some entry.1) × (entity_in (Some entry.1) ≡ Some entry.1)
          by e of_param here more there = more there
          by e (of_entity is entity) here more there =
              choose (stands_where e entry (filter_map entity_entry es)
              (subst (λ o. Contains (cons_option o (filter_map entity_entry es)) entry) is there)) where
                choose : (e ≡ entry) ⊎ Contains (filter_map entity_entry es) entry
                    → (get program.known entry.0 ≡ Some entry.1) × (entity_in (Some entry.1) ≡ Some entry.1)
                choose (inl same) = subst (λ (x : Id × Known). (get program.known x.0 ≡ Some x.1) × (entity_in (Some x.1) ≡ Some x.1)) same
                    (here, entity)
                choose (inr later) = more later

  pub entity-stands : (program : Program) (entry : Id × Known) → get program.known entry.0 ≡ Some entry.1
      → entity_in (Some entry.1) ≡ Some entry.1
      → Contains (entities program) entry
  entity-stands program entry known entity = at (entries program.known) (entry-stands program entry.0 entry.1 known) where
    at : (es : List (Id × Known)) → Contains es entry → Contains (filter_map entity_entry es) entry
    at [] stands = absurd (stands_nowhere entry stands)
    at (e ∷ es) stands = by e (entry-of e) (stands_where e entry es stands) (at es) where
      by : (e : Id × Known) → Entry e → (e ≡ entry) ⊎ Contains es entry → (Contains es entry → Contains (filter_map entity_entry es) entry)
          → Contains (cons_option (entity_entry e) (filter_map entity_entry es)) entry
      by e (of_param {id} {method}) (inl same) more =
          let none : None ≡ Some entry.1 = ap (λ (x : Id × Known). entity_in (Some x.1)) same ∙ entity in absurd cc
      by e (of_entity is it) (inl same) more =
          subst (λ o. Contains (cons_option o (filter_map entity_entry es)) entry) (sym is)
          (subst (Contains (e ∷ filter_map entity_entry es)) same (stands_first e (filter_map entity_entry es)))
      by e of_param (inr later) more = more later
      by e (of_entity is it) (inr later) more =
          subst (λ o. Contains (cons_option o (filter_map entity_entry es)) entry) (sym is)
          (stands_later e entry (filter_map entity_entry es) (more later))

keyed : (entry made : Id × Known) → entity_entry entry ≡ Some made → made.0 ≡ entry.0
keyed entry made is = by entry (entry-of entry) is where
  by : (entry : Id × Known) → Entry entry → entity_entry entry ≡ Some made → made.0 ≡ entry.0
  by entry of_param is = absurd cc
  by entry (of_entity same it) is = let one : entry ≡ made = cc in ap (λ (e : Id × Known). e.0) (sym one)

back : (first second : Program) → KnowAlike first second → KnowAlike second first
back first second knows id = sym (knows id)

pub entities-same : (first second : Program) → KnowAlike first second → entities first ≡ entities second
entities-same first second knows = same-members id_cmp (λ (e : Id × Known). e.0)
    (record { total = id_cmp-total; same = id_cmp-IsAntisymmetric }) (entities first) (entities second)
    (made-ascend entity_entry (λ (e : Id × Known). e.0) keyed first.known)
    (made-ascend entity_entry (λ (e : Id × Known). e.0) keyed second.known)
    (λ entry. (
      λ stands. let of = entity-of first second knows first entry stands in
          entity-stands first second knows second entry (also-known first second knows entry.0 entry.1 of.0 of.1) of.1,
      λ stands. let of = entity-of first second knows second entry stands in
          entity-stands first second knows first entry (also-known second first (back first second knows) entry.0 entry.1 of.0 of.1) of.1,
    ))

-- what is said of each of them goes by what is known
module _ (first second : Program) (knows : KnowAlike first second) where
  pub made-alike : {Y : Type 0} (make other : Id × Known → Option Y) → ((id method : Id) → make (id, knowns.Param method) ≡ None)
      → ((id method : Id) → other (id, knowns.Param method) ≡ None)
      → ((id : Id) (known : Known) → get first.known id ≡ Some known → get second.known id ≡ Some known
      → entity_in (Some known) ≡ Some known
      → make (id, known) ≡ other (id, known))
      → filter_map make (entries first.known) ≡ filter_map other (entries second.known)
  made-alike make other none also same =
      made-of_entities make none (entries first.known)
      ∙ filter_map-same make other (entities first) (λ entry stands.
      let of = entity-of first second knows first entry stands in
      same entry.0 entry.1 of.0 (also-known first second knows entry.0 entry.1 of.0 of.1) of.1)
      ∙ ap (filter_map other) (entities-same first second knows)
      ∙ sym (made-of_entities other also (entries second.known))

  pub any-alike : (p q : Id × Known → Bool) → ((id method : Id) → p (id, knowns.Param method) ≡ false)
      → ((id method : Id) → q (id, knowns.Param method) ≡ false)
      → ((id : Id) (known : Known) → get first.known id ≡ Some known → get second.known id ≡ Some known
      → entity_in (Some known) ≡ Some known
      → p (id, known) ≡ q (id, known))
      → list_any p (entries first.known) ≡ list_any q (entries second.known)
  any-alike p q none also same =
      any-of_entities p none (entries first.known)
      ∙ list_any-same p q (entities first) (λ entry stands.
      let of = entity-of first second knows first entry stands in
      same entry.0 entry.1 of.0 (also-known first second knows entry.0 entry.1 of.0 of.1) of.1)
      ∙ ap (list_any q) (entities-same first second knows)
      ∙ sym (any-of_entities q also (entries second.known))

  pub all-alike : (p q : Id × Known → Bool) → ((id method : Id) → p (id, knowns.Param method) ≡ true)
      → ((id method : Id) → q (id, knowns.Param method) ≡ true)
      → ((id : Id) (known : Known) → get first.known id ≡ Some known → get second.known id ≡ Some known
      → entity_in (Some known) ≡ Some known
      → p (id, known) ≡ q (id, known))
      → list_all p (entries first.known) ≡ list_all q (entries second.known)
  all-alike p q passes also same =
      all-of_entities p passes (entries first.known)
      ∙ list_all-same p q (entities first) (λ entry stands.
      let of = entity-of first second knows first entry stands in
      same entry.0 entry.1 of.0 (also-known first second knows entry.0 entry.1 of.0 of.1) of.1)
      ∙ ap (list_all q) (entities-same first second knows)
      ∙ sym (all-of_entities q also (entries second.known))

  -- a test that no parameter passes finds the same
  pub find-alike : (p : Id × Known → Bool) → ((id method : Id) → p (id, knowns.Param method) ≡ false)
      → find p (entries first.known) ≡ find p (entries second.known)
  find-alike p none =
      find-of_entities p none (entries first.known) ∙ ap (find p) (entities-same first second knows)
      ∙ sym (find-of_entities p none (entries second.known))

  -- identities that pass tests which no parameter passes
  pub kept-alike : (p q : Id → Bool) → ((id method : Id) → get first.known id ≡ Some (knowns.Param method) → p id ≡ false)
      → ((id method : Id) → get second.known id ≡ Some (knowns.Param method) → q id ≡ false) → ((id : Id) → p id ≡ q id)
      → filter p (keys first.known) ≡ filter q (keys second.known)
  kept-alike p q none also same =
      kept-of_entities p (entries first.known) (λ id method stands. none id method (entry-known first (id, knowns.Param method) stands))
      ∙ filter-same p q (ids_of (entities first)) (λ id stands. same id)
      ∙ ap (λ es. filter q (ids_of es)) (entities-same first second knows)
      ∙ sym (kept-of_entities q (entries second.known) (λ id method stands. also id method
      (entry-known second (id, knowns.Param method) stands)))

  pub found-alike : (p q : Id → Bool) → ((id method : Id) → get first.known id ≡ Some (knowns.Param method) → p id ≡ false)
      → ((id method : Id) → get second.known id ≡ Some (knowns.Param method) → q id ≡ false) → ((id : Id) → p id ≡ q id)
      → find p (keys first.known) ≡ find q (keys second.known)
  found-alike p q none also same =
      found-of_entities p (entries first.known) (λ id method stands. none id method (entry-known first (id, knowns.Param method) stands))
      ∙ find-same p q (ids_of (entities first)) (λ id stands. same id)
      ∙ ap (λ es. find q (ids_of es)) (entities-same first second knows)
      ∙ sym (found-of_entities q (entries second.known) (λ id method stands. also id method
      (entry-known second (id, knowns.Param method) stands)))
