-- What a method with its declaration is added as.
use Rattle.std.specs.Prelude.{◌≡◌, ◌≢◌, ◌⊎◌, ℕ, Bool, true, false, IsTrue, cond, ◌&&◌, ◌||◌, List, [], ◌∷◌, map, Option, None, Some}
use Prim.Native.Nat.{zero}
use Rattle.std.proofs.Common.{suc, refl, sym, ap, subst, ◌∙◌, true≢false, arith}
use mathlib.Core.Logic.{inl, inr}
use Rattle.std.specs.FinMap.{get, insert, get-insert}
use Rattle.std.specs.List.{All, AllPairs, AllByRecursion, list_any}
use Rattle.std.specs.Option.{option_or}
use Rattle.mol_base.specs.Order.{id_cmp-total}
use Rattle.mol_base.specs.declared.ident.Id.{Id}
use Rattle.mol_table_rules.specs.Forms.{is_formed, differ}
use Rattle.mol_table_rules.specs.Mentions.{a_class, a_method, type_mentions, body_mentions}
use Rattle.mol_table_rules.specs.Program.{Program, Knowns, cell, same_id}
use Rattle.mol_table_rules.specs.Rules.{IsProgram, fills, is_declared, has_many}
use Rattle.mol_values_types.specs.Words.{is_declaration}
use Rattle.mol_table_rules.specs.Writes.{AreNew, AreOfKind, with_entities, with_params, kept_or}
use Rattle.mol_table_rules.specs.declared.entity.NewEntity.{NewEntity}
use Rattle.mol_values_types.specs.declared.cell.Slot.TheVariants as slots
use Rattle.mol_values_types.specs.declared.iblock.IBody.{IBody}
use Rattle.mol_values_types.specs.declared.itype.IType.{IType}
use Rattle.mol_values_types.specs.declared.kind.MethodKind.{MethodKind}
use Rattle.mol_values_types.specs.declared.known.Known.{Known}
use Rattle.mol_values_types.specs.declared.known.Known.TheVariants as knowns
use Rattle.mol_values_types.specs.declared.param.Param.{Param}
use Rattle.mol_values_types.specs.declared.value.Value.TheVariants as values
use Rattle.mol_values_types.specs.declared.words.Notes.{Notes}
use Rattle.mol_values_types.specs.declared.words.Words.{Words}
use Rattle.mol_op.specs.Changes.{Name, know_all, put_all, last_write, first_name, written}
use Rattle.mol_op.specs.Keeps.{Belongs}
use Rattle.mol_op.specs.Kept.{may_be_params}
use Rattle.mol_op.specs.Rows.{entities_writes, values_writes, new_decl, new_method}
use Rattle.mol_op.specs.Seen.{named_params}
use Rattle.mol_op.specs.Tests.{is_named, mentions_fault}
use Rattle.mol_op.specs.Keeping.Added.{IsAdded, keeps-entities, is_entity, has_cells, value-written}
use Rattle.mol_op.specs.Keeping.AddedOne.{own-known, still-right}
use Rattle.mol_op.specs.ChangeLaws.{id_is, id_self, get-know_all, within-know_all, last-append, same_known}
use Rattle.mol_op.specs.Names.{first-params}
use Rattle.mol_op.specs.Keeping.ParamsPass.{Passes, params-formed, params-right, each-first}
use Rattle.mol_op.specs.RulesKept.{rules-written}
use Rattle.mol_op.specs.Keeping.Sets.{mentions-right}

-- ---- lists of two

pub all-two : {X : Type 0} (P : X → Type 0) (x y : X) → P x → P y → All P (x ∷ y ∷ [])
all-two P x y first second zero d within = first
all-two P x y first second (suc zero) d within = second
all-two P x y first second (suc (suc k)) d within = absurd (omega (arith, within))

pub pairs-two : {X : Type 0} (R : X → X → Type 0) (x y : X) → R x y → AllPairs R (x ∷ y ∷ [])
pairs-two R x y holds zero (suc zero) d before within = holds
pairs-two R x y holds zero zero d before within = absurd (omega (arith, before))
pairs-two R x y holds i (suc (suc j)) d before within = absurd (omega (arith, within))
pairs-two R x y holds (suc i) (suc zero) d before within = absurd (omega (arith, before))
pairs-two R x y holds (suc i) zero d before within = absurd (omega (arith, before))

-- ---- what becomes known

-- parameters that become known, as names
pub params-known : (params : List Param) (known : Knowns) (method : Id) → with_params known method params ≡ know_all known (named_params method params)
params-known [] known method = refl
params-known (param ∷ params) known method = params-known params (kept_or known param.id (knowns.Param method)) method

or-false : (a b : Bool) → (a || b) ≡ false → (a ≡ false) × (b ≡ false)
or-false false b e = (refl, e)
or-false true b e = absurd (true≢false e)

-- all that is needed of a method that is added with its declaration
pub record MayAdd (program : Program) (method decl owner : Id) (name : List ℕ) (result : IType) (params : List Param) (kind : MethodKind) (fixed : Bool) (words : Words) (notes : Notes) (body : Option IBody) : Type 0 where
  pub method_new : get program.known method ≡ None
  pub decl_new : get program.known decl ≡ None
  pub apart : same_id decl method ≡ false
  pub owner_class : get program.known owner ≡ Some knowns.Class
  pub pass : AllByRecursion (Passes program.known method ((method, knowns.Method kind) ∷ (decl, knowns.Decl method) ∷ [])) params
  pub differ_all : differ (map (λ (param : Param). param.id) params) ≡ true
  pub may : may_be_params params ≡ true
  pub name_formed : is_formed (knowns.Method kind) (values.Name name) ≡ true
  pub result_formed : is_formed (knowns.Method kind) (values.Result result) ≡ true
  pub fixed_formed : is_formed (knowns.Method kind) (values.Fixed fixed) ≡ true
  pub words_formed : is_formed (knowns.Decl method) (values.Words words) ≡ true
  pub notes_formed : is_formed (knowns.Decl method) (values.Notes notes) ≡ true
  pub body_formed : is_formed (knowns.Decl method) (values.Body body) ≡ true
  pub result_right : mentions_fault program.known (type_mentions result) ≡ None
  pub body_right : mentions_fault (know_all program.known ((method, knowns.Method kind) ∷ (decl, knowns.Decl method) ∷ named_params method params)) (body_mentions body) ≡ None
  pub declared : is_declaration kind words.texts body ≡ true

module _ (program : Program) (rules : IsProgram program) (method decl owner : Id) (name : List ℕ) (result : IType) (params : List Param) (kind : MethodKind) (fixed : Bool) (words : Words) (notes : Notes) (body : Option IBody)
    (may : MayAdd program method decl owner name result params kind fixed words notes body) where
  abbrev names : List Name
  names = (method, knowns.Method kind) ∷ (decl, knowns.Decl method) ∷ named_params method params

  abbrev after : Knowns
  after = know_all program.known names

  abbrev method_entity : NewEntity
  method_entity = new_method method name result params kind fixed

  abbrev decl_entity : NewEntity
  decl_entity = new_decl decl owner method words notes body

  abbrev entities : List NewEntity
  entities = method_entity ∷ decl_entity ∷ []

  method-known : get after method ≡ Some (knowns.Method kind)
  method-known = own-known program.known names method (knowns.Method kind) may.method_new (ap (λ b. cond b (Some (knowns.Method kind)) (first_name ((decl, knowns.Decl method) ∷ named_params method params) method)) (id_self method))

  decl-known : get after decl ≡ Some (knowns.Decl method)
  decl-known = own-known program.known names decl (knowns.Decl method) may.decl_new
      (ap (λ b. cond b (Some (knowns.Method kind)) (first_name ((decl, knowns.Decl method) ∷ named_params method params) decl)) may.apart
      ∙ ap (λ b. cond b (Some (knowns.Decl method)) (first_name (named_params method params) decl)) (id_self decl))

  owner-known : get after owner ≡ Some knowns.Class
  owner-known = within-know_all program.known names owner knowns.Class may.owner_class

  -- a parameter was not known: its method was not
  param-new : (id : Id) → (get program.known id ≡ Some (knowns.Param method)) ⊎ (get program.known id ≡ None) → get program.known id ≡ None
  param-new id (inl is) = absurd (true≢false (sym (rules.params id method is) ∙ ap (fills id a_method) may.method_new))
  param-new id (inr none) = none

  param-known : (id : Id) → (get program.known id ≡ Some (knowns.Param method)) ⊎ (get program.known id ≡ None) → is_named ((method, knowns.Method kind) ∷ (decl, knowns.Decl method) ∷ []) id ≡ false
      → first_name (named_params method params) id ≡ Some (knowns.Param method) → get after id ≡ Some (knowns.Param method)
  param-known id is unnamed first =
      let no-method = or-false (same_id id method) (same_id id decl || false) unnamed in
      let no-decl = or-false (same_id id decl) false no-method.1 in
      own-known program.known names id (knowns.Param method) (param-new id is)
      (ap (λ b. cond b (Some (knowns.Method kind)) (first_name ((decl, knowns.Decl method) ∷ named_params method params) id)) no-method.0
      ∙ ap (λ b. cond b (Some (knowns.Decl method)) (first_name (named_params method params) id)) no-decl.0 ∙ first)

  params-known-as : (rest : List Param) → AllByRecursion (Passes program.known method ((method, knowns.Method kind) ∷ (decl, knowns.Decl method) ∷ [])) rest
      → AllByRecursion (λ (param : Param). first_name (named_params method params) param.id ≡ Some (knowns.Param method)) rest
      → AllByRecursion (λ (param : Param). get after param.id ≡ Some (knowns.Param method)) rest
  params-known-as [] pass first = tt {0}
  params-known-as (param ∷ rest) pass first = (param-known param.id pass.0.is pass.0.unnamed first.0, params-known-as rest pass.1 first.1)

  method-added : IsAdded after method_entity (knowns.Method kind)
  method-added = record {
    is = method-known;
    slots = refl;
    formed = (may.name_formed, (may.result_formed, (params-formed params may.may may.differ_all, (refl, (may.fixed_formed, tt {0})))));
    refers = (refl, (still-right program.known after (within-know_all program.known names) method (type_mentions result) may.result_right, (params-right program.known after (within-know_all program.known names) method ((method, knowns.Method kind) ∷ (decl, knowns.Decl method) ∷ []) params may.pass (params-known-as params may.pass (each-first method params)), (refl, (refl, tt {0})))));
    agrees = (tt {0}, (tt {0}, (tt {0}, (method-known, (tt {0}, tt {0})))));
  }

  decl-added : IsAdded after decl_entity (knowns.Decl method)
  decl-added = record {
    is = decl-known;
    slots = refl;
    formed = (refl, (refl, (refl, (may.words_formed, (may.notes_formed, (may.body_formed, tt {0}))))));
    refers = (refl, (ap (λ o. fills decl a_class o && true) owner-known, (ap (λ o. fills decl a_method o && true) method-known, (refl, (refl, (mentions-right after decl (body_mentions body) may.body_right, tt {0}))))));
    agrees = (tt {0}, (tt {0}, (decl-known, (tt {0}, (tt {0}, (tt {0}, tt {0}))))));
  }

  params-covered : (rest : List Param) → AllByRecursion (λ (name : Name). has_cells name.1 ≡ true → is_entity entities name.0 ≡ true) (named_params method rest)
  params-covered [] = tt {0}
  params-covered (param ∷ rest) = (λ cells. absurd (true≢false (sym cells)), params-covered rest)

  params-belong : (rest : List Param) → AllByRecursion (λ (name : Name). Belongs after name.0 name.1) (named_params method rest)
  params-belong [] = tt {0}
  params-belong (param ∷ rest) = (ap (fills param.id a_method) method-known, params-belong rest)

  no-param : (rest : List Param) (id of : Id) → first_name (named_params method rest) id ≡ Some (knowns.Decl of) → ⊥
  no-param rest id of is = by (list_any (λ (param : Param). same_id id param.id) rest) (sym (first-params method rest id) ∙ is) where
    by : (b : Bool) → cond b (Some (knowns.Param method)) None ≡ Some (knowns.Decl of) → ⊥
    by true e = cc
    by false e = cc

  decl-same : (first second : Id) → Some (knowns.Decl first) ≡ Some (knowns.Decl second) → first ≡ second
  decl-same first second e = cc

  kind-same : (first second : MethodKind) → Some (knowns.Method first) ≡ Some (knowns.Method second) → first ≡ second
  kind-same first second e = cc

  not-decl : (of : Id) → Some (knowns.Method kind) ≡ Some (knowns.Decl of) → ⊥
  not-decl of e = cc

  -- the one declaration that is new
  new-decl-is : (id of : Id) → get program.known id ≡ None → get after id ≡ Some (knowns.Decl of) → (id ≡ decl) × (method ≡ of)
  new-decl-is id of none is =
      by (same_id id method) refl (same_id id decl) refl (sym (get-know_all names program.known id ∙ ap (λ o. option_or o (first_name names id)) none) ∙ is)
    where
      by : (a : Bool) → same_id id method ≡ a → (b : Bool) → same_id id decl ≡ b
          → cond a (Some (knowns.Method kind)) (cond b (Some (knowns.Decl method)) (first_name (named_params method params) id)) ≡ Some (knowns.Decl of) → (id ≡ decl) × (method ≡ of)
      by true e b f is = absurd (not-decl of is)
      by false e true f is = (id_is id decl f, decl-same method of is)
      by false e false f is = absurd (no-param params id of is)

  single : (of first second : Id) (own : MethodKind) → get after of ≡ Some (knowns.Method own) → has_many own ≡ false → get program.known first ≡ None
      → get after first ≡ Some (knowns.Decl of) → get after second ≡ Some (knowns.Decl of) → first ≡ second
  single of first second own is many none first-is second-is =
      let new = new-decl-is first of none first-is in
      by new (get program.known second) refl
    where
      by : (first ≡ decl) × (method ≡ of) → (o : Option Known) → get program.known second ≡ o → first ≡ second
      by new None e = new.0 ∙ sym (new-decl-is second of e second-is).0
      by new (Some what) e =
          let old : get program.known second ≡ Some (knowns.Decl method) =
          e ∙ sym (within-know_all program.known names second what e) ∙ second-is ∙ ap (λ m. Some (knowns.Decl m)) (sym new.1) in
          absurd (true≢false (sym (rules.decls second method old) ∙ ap (fills second a_method) may.method_new))

  words-written : last_write (entities_writes entities) (cell decl slots.Words) ≡ Some (values.Words words)
  words-written =
      last-append (values_writes method method_entity.values) (values_writes decl decl_entity.values) (cell decl slots.Words)
      ∙ ap (λ o. option_or o (last_write (values_writes method method_entity.values) (cell decl slots.Words))) (value-written decl_entity.values decl slots.Words)

  body-written : last_write (entities_writes entities) (cell decl slots.Body) ≡ Some (values.Body body)
  body-written =
      last-append (values_writes method method_entity.values) (values_writes decl decl_entity.values) (cell decl slots.Body)
      ∙ ap (λ o. option_or o (last_write (values_writes method method_entity.values) (cell decl slots.Body))) (value-written decl_entity.values decl slots.Body)

  decl-declared : IsTrue (is_declared kind (last_write (entities_writes entities) (cell decl slots.Words)) (last_write (entities_writes entities) (cell decl slots.Body)))
  decl-declared =
      ap (λ w. is_declared kind w (last_write (entities_writes entities) (cell decl slots.Body))) words-written
      ∙ ap (is_declared kind (Some (values.Words words))) body-written ∙ may.declared

  entity-is : (id : Id) → is_entity entities id ≡ true → (id ≡ method) ⊎ (id ≡ decl)
  entity-is id e = by (same_id id method) refl (same_id id decl) refl e where
    by : (a : Bool) → same_id id method ≡ a → (b : Bool) → same_id id decl ≡ b → (a || (b || false)) ≡ true → (id ≡ method) ⊎ (id ≡ decl)
    by true f b g e = inl (id_is id method f)
    by false f true g e = inr (id_is id decl g)
    by false f false g e = absurd (true≢false (sym e))

  declared-by : (id of : Id) (own : MethodKind) → get after id ≡ Some (knowns.Decl of) → get after of ≡ Some (knowns.Method own) → (id ≡ method) ⊎ (id ≡ decl)
      → IsTrue (is_declared own (last_write (entities_writes entities) (cell id slots.Words)) (last_write (entities_writes entities) (cell id slots.Body)))
  declared-by id of own is of-is (inl same) = absurd (not-decl of (sym method-known ∙ sym (ap (get after) same) ∙ is))
  declared-by id of own is of-is (inr same) =
      let of-same : method ≡ of = decl-same method of (sym decl-known ∙ sym (ap (get after) same) ∙ is) in
      let own-same : kind ≡ own = kind-same kind own (sym method-known ∙ ap (get after) of-same ∙ of-is) in
      subst (λ k. IsTrue (is_declared k (last_write (entities_writes entities) (cell id slots.Words)) (last_write (entities_writes entities) (cell id slots.Body)))) own-same
      (subst (λ q. IsTrue (is_declared kind (last_write (entities_writes entities) (cell q slots.Words)) (last_write (entities_writes entities) (cell q slots.Body)))) (sym same) decl-declared)

  -- what is known, in whichever order the identities become known
  known-written : insert (insert (with_params program.known method params) method (knowns.Method kind)) decl (knowns.Decl method) ≡ after
  known-written = same_known _ _ (λ q.
      get-insert id_cmp-total (insert (with_params program.known method params) method (knowns.Method kind)) decl (knowns.Decl method) q
      ∙ ap (cond (same_id q decl) (Some (knowns.Decl method))) (get-insert id_cmp-total (with_params program.known method params) method (knowns.Method kind) q
      ∙ ap (cond (same_id q method) (Some (knowns.Method kind))) (ap (λ known. get known q) (params-known params program.known method) ∙ get-know_all (named_params method params) program.known q))
      ∙ by q (same_id q decl) refl (same_id q method) refl
      ∙ sym (get-know_all names program.known q))
    where
      by : (q : Id) (a : Bool) → same_id q decl ≡ a → (b : Bool) → same_id q method ≡ b
          → cond a (Some (knowns.Decl method)) (cond b (Some (knowns.Method kind)) (option_or (get program.known q) (first_name (named_params method params) q)))
          ≡ option_or (get program.known q) (cond b (Some (knowns.Method kind)) (cond a (Some (knowns.Decl method)) (first_name (named_params method params) q)))
      by q true e b f =
          let own = id_is q decl e in
          let not-method : b ≡ false = sym f ∙ ap (λ x. same_id x method) own ∙ may.apart in
          sym (ap (λ o. option_or o (cond b (Some (knowns.Method kind)) (Some (knowns.Decl method)))) (ap (get program.known) own ∙ may.decl_new)
          ∙ ap (λ x. cond x (Some (knowns.Method kind)) (Some (knowns.Decl method))) not-method)
      by q false e true f = sym (ap (λ o. option_or o (Some (knowns.Method kind))) (ap (get program.known) (id_is q method f) ∙ may.method_new))
      by q false e false f = refl

  pub two-written : with_entities program entities ≡ written program (entities_writes entities) names
  two-written = λ i. record { cells = put_all program.cells (entities_writes entities); known = known-written i }

  pub two-may : AreNew program entities
  two-may = record {
    kinds = all-two AreOfKind method_entity decl_entity (record { entity_kind = λ e. cc; values = refl }) (record { entity_kind = λ e. cc; values = refl });
    unknown = all-two (λ (entity : NewEntity). get program.known entity.id ≡ None) method_entity decl_entity may.method_new may.decl_new;
    differ = pairs-two (λ (first second : NewEntity). first.id ≢ second.id) method_entity decl_entity
        (λ e. true≢false (sym (ap (λ x. same_id x method) (sym e) ∙ id_self method) ∙ may.apart));
    rules = subst IsProgram (sym two-written) (rules-written program rules (entities_writes entities) names (keeps-entities program entities names
        ((knowns.Method kind, method-added), ((knowns.Decl method, decl-added), tt {0}))
        (λ _. ap (λ b. b || (same_id method decl || false)) (id_self method), (λ _. (λ i. may.apart i || (id_self decl i || false)), params-covered params))
        (tt {0}, (ap (fills decl a_method) method-known, params-belong params))
        single
        (λ id of own is of-is one. declared-by id of own is of-is (entity-is id one))));
  }
