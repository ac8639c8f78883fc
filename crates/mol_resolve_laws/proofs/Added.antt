-- What a program holds and knows once entities are added to it.
use Rattle.std.proofs.Common.{◌≡◌, ◌≢◌, ◌⊎◌, inl, inr, suc, Bool, true, false, cond, ◌&&◌, List, [], ◌∷◌, flat_map, Option, Some, None, Contains, refl, sym, ◌∙◌, ap, subst, arith, true≢false}
use Rattle.std.specs.Prelude.{⊤, is_some}
use Rattle.std.specs.List.{AllPairs}
use Rattle.std.specs.FinMap.{get, insert, contains_key, get-insert}
use Rattle.jav_names.proofs.Lists.{stands_first, stands_later, stands_where, stands_nowhere}
use Rattle.mol_base.specs.Order.{id_cmp, id_cmp-total}
use Rattle.mol_base.specs.declared.ident.Id.{Id}
use Rattle.mol_resolve_rules.proofs.Stands.{in_front, behind, in_either}
use Rattle.mol_table_rules.proofs.CellOrder.{cell_cmp-total}
use Rattle.mol_table_rules.proofs.Living.{same_id-own, id_tied, id_apart, known-insert}
use Rattle.mol_table_rules.proofs.NewClasses.{both-tied}
use Rattle.mol_table_rules.specs.Program.{Program, Knowns, cell, same_id, value_at, params_in}
use Rattle.mol_table_rules.specs.Writes.{kept_or, with_params, known_by, with_value, with_values, known_as, with_entity, with_entities}
use Rattle.mol_table_rules.specs.declared.entity.NewEntity.{NewEntity}
use Rattle.mol_values_types.specs.Order.{slot_number}
use Rattle.mol_values_types.specs.Slots.{slot_of, same_slot}
use Rattle.mol_values_types.specs.declared.cell.Slot.{Slot}
use Rattle.mol_values_types.specs.declared.kind.Kind.{Kind}
use Rattle.mol_values_types.specs.declared.kind.Kind.TheVariants as kinds
use Rattle.mol_values_types.specs.declared.known.Known.{Known}
use Rattle.mol_values_types.specs.declared.known.Known.TheVariants as knowns
use Rattle.mol_values_types.specs.declared.param.Param.{Param}
use Rattle.mol_values_types.specs.declared.value.Value.{Value}
use Rattle.mol_values_types.specs.declared.value.Value.TheVariants as values
use Rattle.mol_resolve_laws.proofs.Gives.{none-some}

-- ---- entities whose identities differ

-- none of these has the identity
abbrev pub HasNoId : Id → List NewEntity → Type 0
HasNoId id entities = (entity : NewEntity) → Contains entities entity → entity.id ≢ id

abbrev pub AreApart : List NewEntity → Type 0
AreApart [] = ⊤
AreApart (entity ∷ entities) = HasNoId entity.id entities × AreApart entities

pub apart-pairs : (entities : List NewEntity) → AllPairs (λ (first second : NewEntity). first.id ≢ second.id) entities → AreApart entities
apart-pairs [] pairs = tt
apart-pairs (e ∷ entities) pairs = (
  λ other stands same. pairs 0 (suc stands.0) other (omega arith) (omega (arith, stands.1))
      (sym same ∙ ap (λ (x : NewEntity). x.id) (sym stands.2)),
  apart-pairs entities (λ i j d less below. pairs (suc i) (suc j) d (omega (arith, less)) (omega (arith, below))),
)

pub no-id-rest : (id : Id) (e : NewEntity) (entities : List NewEntity) → HasNoId id (e ∷ entities) → HasNoId id entities
no-id-rest id e entities none other stands = none other (stands_later e other entities stands)

-- ---- cells

value-put : (program : Program) (id : Id) (value : Value) (q : Id) (slot : Slot)
    → value_at (with_value program (cell id (slot_of value)) value) q slot
    ≡ cond (same_id q id && same_slot slot (slot_of value)) (Some value) (value_at program q slot)
value-put program id value q slot = get-insert cell_cmp-total program.cells (cell id (slot_of value)) value (cell q slot)
    ∙ ap (λ b. cond b (Some value) (value_at program q slot)) (both-tied (id_cmp q id) (slot_number slot) (slot_number (slot_of value)))

values-elsewhere : (vs : List Value) (program : Program) (id q : Id) → id ≢ q → (slot : Slot)
    → value_at (with_values program id vs) q slot ≡ value_at program q slot
values-elsewhere [] program id q apart slot = refl
values-elsewhere (v ∷ vs) program id q apart slot =
    values-elsewhere vs (with_value program (cell id (slot_of v)) v) id q apart slot ∙ value-put program id v q slot
    ∙ ap (λ b. cond (b && same_slot slot (slot_of v)) (Some v) (value_at program q slot)) (id_apart q id (λ same. apart (sym same)))

-- what some values leave in a slot
abbrev pub held : List Value → Slot → Option Value → Option Value
held [] slot old = old
held (v ∷ vs) slot old = held vs slot (cond (same_slot slot (slot_of v)) (Some v) old)

values-held : (vs : List Value) (program : Program) (id : Id) (slot : Slot)
    → value_at (with_values program id vs) id slot ≡ held vs slot (value_at program id slot)
values-held [] program id slot = refl
values-held (v ∷ vs) program id slot = values-held vs (with_value program (cell id (slot_of v)) v) id slot
    ∙ ap (held vs slot) (value-put program id v id slot
    ∙ ap (λ b. cond (b && same_slot slot (slot_of v)) (Some v) (value_at program id slot)) (same_id-own id))

abbrev named : Program → NewEntity → Program
named program e = record program { known = known_as program.known e.id e.kind }

pub cells-elsewhere : (entities : List NewEntity) (program : Program) (q : Id) → HasNoId q entities → (slot : Slot)
    → value_at (with_entities program entities) q slot ≡ value_at program q slot
cells-elsewhere [] program q none slot = refl
cells-elsewhere (e ∷ entities) program q none slot =
    cells-elsewhere entities (with_entity program e) q (no-id-rest q e entities none) slot
    ∙ values-elsewhere e.values (named program e) e.id q (none e (stands_first e entities)) slot

pub cells-held : (entities : List NewEntity) (program : Program) → AreApart entities → (e : NewEntity) → Contains entities e → (slot : Slot)
    → value_at (with_entities program entities) e.id slot ≡ held e.values slot (value_at program e.id slot)
cells-held [] program apart e stands slot = absurd (stands_nowhere e stands)
cells-held (first ∷ entities) program apart e stands slot =
    by (stands_where first e entities stands) (λ later. cells-held entities (with_entity program first) apart.1 e later slot) where
      by : (first ≡ e) ⊎ Contains entities e
          → (Contains entities e → value_at (with_entities (with_entity program first) entities) e.id slot
          ≡ held e.values slot (value_at (with_entity program first) e.id slot))
          → value_at (with_entities (with_entity program first) entities) e.id slot ≡ held e.values slot (value_at program e.id slot)
      by (inl same) more = subst (λ (x : NewEntity). value_at (with_entities (with_entity program first) entities) x.id slot
          ≡ held x.values slot (value_at program x.id slot)) same
          (cells-elsewhere entities (with_entity program first) first.id apart.0 slot
          ∙ values-held first.values (named program first) first.id slot)
      by (inr later) more = more later ∙ ap (held e.values slot)
          (values-elsewhere first.values (named program first) first.id e.id (λ same. apart.0 e later (sym same)) slot)

-- ---- what is known

-- once some values of an identity are written
abbrev pub known_after : Knowns → Id → List Value → Knowns
known_after known id [] = known
known_after known id (v ∷ vs) = known_after (known_by known id v) id vs

pub known-values : (vs : List Value) (program : Program) (id : Id) → (with_values program id vs).known ≡ known_after program.known id vs
known-values [] program id = refl
known-values (v ∷ vs) program id = known-values vs (with_value program (cell id (slot_of v)) v) id

abbrev pub known_with : Knowns → NewEntity → Knowns
known_with known e = known_after (known_as known e.id e.kind) e.id e.values

known-entity : (program : Program) (e : NewEntity) → (with_entity program e).known ≡ known_with program.known e
known-entity program e = known-values e.values (named program e) e.id

-- the parameters that values list
abbrev pub params_of : List Value → List Param
params_of vs = flat_map (λ (v : Value). params_in (Some v)) vs

abbrev is_known : Option Known → Bool
is_known = is_some

unknown : (known : Knowns) (id : Id) → contains_key known id ≡ false → get known id ≡ None
unknown known id none = by (get known id) none where
  by : (o : Option Known) → is_known o ≡ false → o ≡ None
  by None none = refl
  by (Some what) none = absurd (true≢false none)

-- what is known stays known

kept-or : (known : Knowns) (param q : Id) (new what : Known) → get known q ≡ Some what → get (kept_or known param new) q ≡ Some what
kept-or known param q new what is = by (contains_key known param) refl where
  by_id : (b : Bool) → same_id q param ≡ b → contains_key known param ≡ false → cond b (Some new) (get known q) ≡ Some what
  by_id true same none = absurd (none-some (sym (unknown known param none) ∙ ap (get known) (sym (id_tied q param same)) ∙ is))
  by_id false apart none = is

  by : (b : Bool) → contains_key known param ≡ b → get (cond b known (insert known param new)) q ≡ Some what
  by true there = is
  by false none = get-insert id_cmp-total known param new q ∙ by_id (same_id q param) refl none

pub kept-params : (params : List Param) (known : Knowns) (method q : Id) (what : Known) → get known q ≡ Some what
    → get (with_params known method params) q ≡ Some what
kept-params [] known method q what is = is
kept-params (param ∷ params) known method q what is = kept-params params (kept_or known param.id (knowns.Param method)) method q what
    (kept-or known param.id q (knowns.Param method) what is)

kept-by : (v : Value) (known : Knowns) (id q : Id) (what : Known) → id ≢ q → get known q ≡ Some what
    → get (known_by known id v) q ≡ Some what
kept-by (values.Kind kind) known id q what apart is = known-insert known id q (knowns.Method kind) (λ same. apart (sym same)) ∙ is
kept-by (values.Method method) known id q what apart is = known-insert known id q (knowns.Decl method) (λ same. apart (sym same)) ∙ is
kept-by (values.Params params) known id q what apart is = kept-params params known id q what is
kept-by (values.Live live) known id q what apart is = is
kept-by (values.Package name) known id q what apart is = is
kept-by (values.Owner owner) known id q what apart is = is
kept-by (values.Name name) known id q what apart is = is
kept-by (values.Super parent) known id q what apart is = is
kept-by (values.Result ty) known id q what apart is = is
kept-by (values.Fixed fixed) known id q what apart is = is
kept-by (values.Words words) known id q what apart is = is
kept-by (values.Notes notes) known id q what apart is = is
kept-by (values.Body body) known id q what apart is = is
kept-by (values.Value ty init) known id q what apart is = is

kept-after : (vs : List Value) (known : Knowns) (id q : Id) (what : Known) → id ≢ q → get known q ≡ Some what
    → get (known_after known id vs) q ≡ Some what
kept-after [] known id q what apart is = is
kept-after (v ∷ vs) known id q what apart is = kept-after vs (known_by known id v) id q what apart (kept-by v known id q what apart is)

-- the kind of an entity makes nothing else known
as-elsewhere : (kind : Kind) (known : Knowns) (id q : Id) → id ≢ q → get (known_as known id kind) q ≡ get known q
as-elsewhere kinds.Class known id q apart = known-insert known id q knowns.Class (λ same. apart (sym same))
as-elsewhere kinds.Field known id q apart = known-insert known id q knowns.Field (λ same. apart (sym same))
as-elsewhere kinds.Method known id q apart = refl
as-elsewhere kinds.Decl known id q apart = refl
as-elsewhere kinds.Param known id q apart = refl

kept-entity : (program : Program) (e : NewEntity) (q : Id) (what : Known) → e.id ≢ q → get program.known q ≡ Some what
    → get (with_entity program e).known q ≡ Some what
kept-entity program e q what apart is = ap (λ known. get known q) (known-entity program e)
    ∙ kept-after e.values (known_as program.known e.id e.kind) e.id q what apart
    (as-elsewhere e.kind program.known e.id q apart ∙ is)

pub known-kept : (entities : List NewEntity) (program : Program) (q : Id) (what : Known) → HasNoId q entities
    → get program.known q ≡ Some what → get (with_entities program entities).known q ≡ Some what
known-kept [] program q what none is = is
known-kept (e ∷ entities) program q what none is = known-kept entities (with_entity program e) q what (no-id-rest q e entities none)
    (kept-entity program e q what (none e (stands_first e entities)) is)

-- an entity is known as what its values say
pub known-own : (entities : List NewEntity) (program : Program) → AreApart entities → (e : NewEntity) → Contains entities e → (what : Known)
    → ((known : Knowns) → get (known_with known e) e.id ≡ Some what) → get (with_entities program entities).known e.id ≡ Some what
known-own [] program apart e stands what own = absurd (stands_nowhere e stands)
known-own (first ∷ entities) program apart e stands what own =
    by (stands_where first e entities stands) (λ later. known-own entities (with_entity program first) apart.1 e later what own) where
      by : (first ≡ e) ⊎ Contains entities e
          → (Contains entities e → get (with_entities (with_entity program first) entities).known e.id ≡ Some what)
          → get (with_entities (with_entity program first) entities).known e.id ≡ Some what
      by (inl same) more = known-kept entities (with_entity program first) e.id what
          (subst (λ (x : NewEntity). HasNoId x.id entities) same apart.0)
          (ap (λ (x : NewEntity). get (with_entity program x).known e.id) same
          ∙ ap (λ known. get known e.id) (known-entity program e) ∙ own program.known)
      by (inr later) more = more later

-- ---- what becomes known besides is a listed parameter

pub record IsListed (id q : Id) (what : Known) (params : List Param) : Type 0 where
  pub is : what ≡ knowns.Param id
  pub param : Param
  pub listed : Contains params param
  pub same : param.id ≡ q

new-or : (known : Knowns) (param q : Id) (new what : Known) → get (kept_or known param new) q ≡ Some what
    → (get known q ≡ Some what) ⊎ ((what ≡ new) × (param ≡ q))
new-or known param q new what = by (contains_key known param) where
  some : (a b : Known) → Some a ≡ Some b → b ≡ a
  some a b is = cc

  by_id : (b : Bool) → same_id q param ≡ b → cond b (Some new) (get known q) ≡ Some what
      → (get known q ≡ Some what) ⊎ ((what ≡ new) × (param ≡ q))
  by_id true same is = inr (some new what is, sym (id_tied q param same))
  by_id false apart is = inl is

  by : (b : Bool) → get (cond b known (insert known param new)) q ≡ Some what → (get known q ≡ Some what) ⊎ ((what ≡ new) × (param ≡ q))
  by true is = inl is
  by false is = by_id (same_id q param) refl (sym (get-insert id_cmp-total known param new q) ∙ is)

new-params : (params : List Param) (known : Knowns) (method q : Id) (what : Known) → get (with_params known method params) q ≡ Some what
    → (get known q ≡ Some what) ⊎ IsListed method q what params
new-params [] known method q what is = inl is
new-params (param ∷ params) known method q what is =
    by (new-params params (kept_or known param.id (knowns.Param method)) method q what is) where
      first : (get known q ≡ Some what) ⊎ ((what ≡ knowns.Param method) × (param.id ≡ q))
          → (get known q ≡ Some what) ⊎ IsListed method q what (param ∷ params)
      first (inl before) = inl before
      first (inr here) = inr (record { is = here.0; param = param; listed = stands_first param params; same = here.1 })

      by : (get (kept_or known param.id (knowns.Param method)) q ≡ Some what) ⊎ IsListed method q what params
          → (get known q ≡ Some what) ⊎ IsListed method q what (param ∷ params)
      by (inl before) = first (new-or known param.id q (knowns.Param method) what before)
      by (inr later) = inr (record {
        is = later.is;
        param = later.param;
        listed = stands_later param later.param params later.listed;
        same = later.same;
      })

new-by : (v : Value) (known : Knowns) (id q : Id) (what : Known) → id ≢ q → get (known_by known id v) q ≡ Some what
    → (get known q ≡ Some what) ⊎ IsListed id q what (params_in (Some v))
new-by (values.Kind kind) known id q what apart is =
    inl (sym (known-insert known id q (knowns.Method kind) (λ same. apart (sym same))) ∙ is)
new-by (values.Method method) known id q what apart is =
    inl (sym (known-insert known id q (knowns.Decl method) (λ same. apart (sym same))) ∙ is)
new-by (values.Params params) known id q what apart is = new-params params known id q what is
new-by (values.Live live) known id q what apart is = inl is
new-by (values.Package name) known id q what apart is = inl is
new-by (values.Owner owner) known id q what apart is = inl is
new-by (values.Name name) known id q what apart is = inl is
new-by (values.Super parent) known id q what apart is = inl is
new-by (values.Result ty) known id q what apart is = inl is
new-by (values.Fixed fixed) known id q what apart is = inl is
new-by (values.Words words) known id q what apart is = inl is
new-by (values.Notes notes) known id q what apart is = inl is
new-by (values.Body body) known id q what apart is = inl is
new-by (values.Value ty init) known id q what apart is = inl is

new-after : (vs : List Value) (known : Knowns) (id q : Id) (what : Known) → id ≢ q → get (known_after known id vs) q ≡ Some what
    → (get known q ≡ Some what) ⊎ IsListed id q what (params_of vs)
new-after [] known id q what apart is = inl is
new-after (v ∷ vs) known id q what apart is = by (new-after vs (known_by known id v) id q what apart is) where
  first : (get known q ≡ Some what) ⊎ IsListed id q what (params_in (Some v))
      → (get known q ≡ Some what) ⊎ IsListed id q what (params_of (v ∷ vs))
  first (inl before) = inl before
  first (inr here) = inr (record {
    is = here.is;
    param = here.param;
    listed = in_front (params_in (Some v)) (params_of vs) here.param here.listed;
    same = here.same;
  })

  by : (get (known_by known id v) q ≡ Some what) ⊎ IsListed id q what (params_of vs)
      → (get known q ≡ Some what) ⊎ IsListed id q what (params_of (v ∷ vs))
  by (inl before) = first (new-by v known id q what apart before)
  by (inr later) = inr (record {
    is = later.is;
    param = later.param;
    listed = behind (params_in (Some v)) (params_of vs) later.param later.listed;
    same = later.same;
  })

pub record IsListedIn (entities : List NewEntity) (q : Id) (what : Known) : Type 0 where
  pub entity : NewEntity
  pub stands : Contains entities entity
  pub listed : IsListed entity.id q what (params_of entity.values)

pub known-new : (entities : List NewEntity) (program : Program) (q : Id) (what : Known) → HasNoId q entities
    → get (with_entities program entities).known q ≡ Some what → (get program.known q ≡ Some what) ⊎ IsListedIn entities q what
known-new [] program q what none is = inl is
known-new (e ∷ entities) program q what none is =
    by (known-new entities (with_entity program e) q what (no-id-rest q e entities none) is) where
      apart : e.id ≢ q
      apart = none e (stands_first e entities)

      first : (get (known_as program.known e.id e.kind) q ≡ Some what) ⊎ IsListed e.id q what (params_of e.values)
          → (get program.known q ≡ Some what) ⊎ IsListedIn (e ∷ entities) q what
      first (inl before) = inl (sym (as-elsewhere e.kind program.known e.id q apart) ∙ before)
      first (inr here) = inr (record { entity = e; stands = stands_first e entities; listed = here })

      by : (get (with_entity program e).known q ≡ Some what) ⊎ IsListedIn entities q what
          → (get program.known q ≡ Some what) ⊎ IsListedIn (e ∷ entities) q what
      by (inl before) = first (new-after e.values (known_as program.known e.id e.kind) e.id q what apart
          (sym (ap (λ known. get known q) (known-entity program e)) ∙ before))
      by (inr later) = inr (record {
        entity = later.entity;
        stands = stands_later e later.entity entities later.stands;
        listed = later.listed;
      })

-- ---- what is listed is known

abbrev IsKnown : Knowns → Id → Type 0
IsKnown known q = (what : Known) × (get known q ≡ Some what)

or-known : (known : Knowns) (param : Id) (new : Known) → IsKnown (kept_or known param new) param
or-known known param new = by (contains_key known param) refl where
  there : (o : Option Known) → is_known o ≡ true → (what : Known) × (o ≡ Some what)
  there (Some what) is = (what, refl)
  there None is = absurd (true≢false (sym is))

  by : (b : Bool) → contains_key known param ≡ b → IsKnown (cond b known (insert known param new)) param
  by true is = there (get known param) is
  by false is = (new, get-insert id_cmp-total known param new param ∙ ap (λ b. cond b (Some new) (get known param)) (same_id-own param))

params-known : (params : List Param) (known : Knowns) (method : Id) (param : Param) → Contains params param
    → IsKnown (with_params known method params) param.id
params-known [] known method param stands = absurd (stands_nowhere param stands)
params-known (first ∷ params) known method param stands =
    by (stands_where first param params stands)
    (λ later. params-known params (kept_or known first.id (knowns.Param method)) method param later) where
      by : (first ≡ param) ⊎ Contains params param
          → (Contains params param → IsKnown (with_params (kept_or known first.id (knowns.Param method)) method params) param.id)
          → IsKnown (with_params (kept_or known first.id (knowns.Param method)) method params) param.id
      by (inl same) more = subst (λ (p : Param). IsKnown (with_params (kept_or known first.id (knowns.Param method)) method params) p.id)
          same
          (let here = or-known known first.id (knowns.Param method) in
          (here.0, kept-params params (kept_or known first.id (knowns.Param method)) method first.id here.0 here.1))
      by (inr later) more = more later

by-known : (v : Value) (known : Knowns) (id : Id) (param : Param) → Contains (params_in (Some v)) param
    → IsKnown (known_by known id v) param.id
by-known (values.Params params) known id param stands = params-known params known id param stands
by-known (values.Kind kind) known id param stands = absurd (stands_nowhere param stands)
by-known (values.Method method) known id param stands = absurd (stands_nowhere param stands)
by-known (values.Live live) known id param stands = absurd (stands_nowhere param stands)
by-known (values.Package name) known id param stands = absurd (stands_nowhere param stands)
by-known (values.Owner owner) known id param stands = absurd (stands_nowhere param stands)
by-known (values.Name name) known id param stands = absurd (stands_nowhere param stands)
by-known (values.Super parent) known id param stands = absurd (stands_nowhere param stands)
by-known (values.Result ty) known id param stands = absurd (stands_nowhere param stands)
by-known (values.Fixed fixed) known id param stands = absurd (stands_nowhere param stands)
by-known (values.Words words) known id param stands = absurd (stands_nowhere param stands)
by-known (values.Notes notes) known id param stands = absurd (stands_nowhere param stands)
by-known (values.Body body) known id param stands = absurd (stands_nowhere param stands)
by-known (values.Value ty init) known id param stands = absurd (stands_nowhere param stands)

after-known : (vs : List Value) (known : Knowns) (id : Id) (param : Param) → id ≢ param.id → Contains (params_of vs) param
    → IsKnown (known_after known id vs) param.id
after-known [] known id param apart stands = absurd (stands_nowhere param stands)
after-known (v ∷ vs) known id param apart stands =
    by (in_either (params_in (Some v)) (params_of vs) param stands) (after-known vs (known_by known id v) id param apart) where
      by : Contains (params_in (Some v)) param ⊎ Contains (params_of vs) param
          → (Contains (params_of vs) param → IsKnown (known_after (known_by known id v) id vs) param.id)
          → IsKnown (known_after (known_by known id v) id vs) param.id
      by (inl here) more = let known_here = by-known v known id param here in
          (known_here.0, kept-after vs (known_by known id v) id param.id known_here.0 apart known_here.1)
      by (inr later) more = more later

pub known-listed : (entities : List NewEntity) (program : Program) (e : NewEntity) (param : Param) → Contains entities e
    → Contains (params_of e.values) param → HasNoId param.id entities → IsKnown (with_entities program entities).known param.id
known-listed [] program e param stands listed none = absurd (stands_nowhere e stands)
known-listed (first ∷ entities) program e param stands listed none =
    by (stands_where first e entities stands)
    (λ later. known-listed entities (with_entity program first) e param later listed (no-id-rest param.id first entities none)) where
      here : Contains (params_of first.values) param → IsKnown (with_entity program first).known param.id
      here listed = let known = after-known first.values (known_as program.known first.id first.kind) first.id param
          (none first (stands_first first entities)) listed in
          (known.0, ap (λ known. get known param.id) (known-entity program first) ∙ known.1)

      by : (first ≡ e) ⊎ Contains entities e
          → (Contains entities e → IsKnown (with_entities (with_entity program first) entities).known param.id)
          → IsKnown (with_entities (with_entity program first) entities).known param.id
      by (inl same) more = let known = here (subst (λ (x : NewEntity). Contains (params_of x.values) param) (sym same) listed) in
          (known.0, known-kept entities (with_entity program first) param.id known.0 (no-id-rest param.id first entities none) known.1)
      by (inr later) more = more later
