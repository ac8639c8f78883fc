-- How the number of living declarations of a method changes when a value is written, whatever rules hold.
use Rattle.std.specs.Prelude.{◌≡◌, ◌≢◌, ℕ, ◌+◌, ◌-◌, Bool, true, false, cond, ◌&&◌, List, [], ◌∷◌, Option, None, Some, is_some, unwrap_or}
use Rattle.std.proofs.Common.{refl, sym, ap, ◌∙◌, arith}
use Rattle.std.specs.Cmp.{eq_by_cmp_equiv}
use Rattle.std.specs.Ordering.{eq_by_cmp}
use Rattle.std.specs.FinMap.{get, insert, contains_key, get-insert}
use Rattle.mol_base.specs.Order.{id_cmp-total, id_cmp-IsAntisymmetric}
use Rattle.mol_base.specs.declared.ident.Id.{Id}
use Rattle.mol_table_rules.specs.Counting.{one_if, count, Counts, number_at, living_decls, living_as, living_of, is_of, raised, lowered}
use Rattle.mol_table_rules.specs.Life.{is_decl_of, is_living_decl, entity_in}
use Rattle.mol_values_types.specs.Order.{cell_cmp}
use Rattle.mol_table_rules.proofs.CellOrder.{cell_cmp-total, cell_cmp-IsAntisymmetric}
use Rattle.mol_table_rules.specs.Program.{Program, Knowns, same_id, cell, is_yes, living_at}
use Rattle.mol_values_types.specs.Slots.{slot_of}
use Rattle.mol_table_rules.specs.Writes.{kept_or, with_params, known_by, with_value, with_values, known_as, with_entity}
use Rattle.mol_values_types.specs.declared.cell.Cell.{Cell}
use Rattle.mol_values_types.specs.declared.cell.Slot.{Slot}
use Rattle.mol_values_types.specs.declared.cell.Slot.TheVariants as slots
use Rattle.mol_table_rules.specs.declared.entity.NewEntity.{NewEntity}
use Rattle.mol_values_types.specs.declared.kind.Kind.{Kind}
use Rattle.mol_values_types.specs.declared.kind.Kind.TheVariants as kinds
use Rattle.mol_values_types.specs.declared.known.Known.{Known}
use Rattle.mol_values_types.specs.declared.known.Known.TheVariants as knowns
use Rattle.mol_values_types.specs.declared.param.Param.{Param}
use Rattle.mol_values_types.specs.declared.value.Value.{Value}
use Rattle.mol_values_types.specs.declared.value.Value.TheVariants as values
use Rattle.mol_table_rules.proofs.Counts.{tied, part, count-insert, count-change}

pub same_id-own : (id : Id) → same_id id id ≡ true
same_id-own id = (eq_by_cmp_equiv id_cmp-total).refl id

pub id_tied : (x y : Id) → same_id x y ≡ true → x ≡ y
id_tied x y e = id_cmp-IsAntisymmetric x y (tied _ e)

pub id_apart : (x y : Id) → x ≢ y → same_id x y ≡ false
id_apart x y apart = by (same_id x y) refl where
  by : (b : Bool) → same_id x y ≡ b → b ≡ false
  by true e = absurd (apart (id_tied x y e))
  by false e = refl

some-none : {X : Type 0} (o : Option X) → is_some o ≡ false → o ≡ None
some-none None e = refl
some-none (Some x) e = absurd cc

-- ---- what an identity counts for

abbrev pub counts_for : Program → Id → Id → ℕ
counts_for program method id = part (is_living_decl program method) id (get program.known id)

pub counts_for-is : (program : Program) (method id : Id) → counts_for program method id ≡ one_if (is_of method (living_of program id))
counts_for-is program method id = by (get program.known id) (living_at program id) refl where
  by : (o : Option Known) (b : Bool) → living_at program id ≡ b → part (is_living_decl program method) id o ≡ one_if (is_of method (living_as o b))
  by None b e = refl
  by (Some knowns.Class) b e = refl
  by (Some (knowns.Method kind)) b e = refl
  by (Some knowns.Field) b e = refl
  by (Some (knowns.Param own)) b e = refl
  by (Some (knowns.Decl own)) true e = ap (λ b. one_if (same_id method own && b)) e ∙ ap one_if (and_true (same_id method own)) where
    and_true : (a : Bool) → (a && true) ≡ a
    and_true true = refl
    and_true false = refl
  by (Some (knowns.Decl own)) false e = ap (λ b. one_if (same_id method own && b)) e ∙ ap one_if (and_false (same_id method own)) where
    and_false : (a : Bool) → (a && false) ≡ false
    and_false true = refl
    and_false false = refl

-- ---- parameters that become known count for nothing

module _ (test : Id × Known → Bool) (never : (id method : Id) → test (id, knowns.Param method) ≡ false) where
  part-kept_or : (known : Knowns) (param method : Id) (id : Id) → part test id (get (kept_or known param (knowns.Param method)) id) ≡ part test id (get known id)
  part-kept_or known param method id = by (contains_key known param) refl where
    none : contains_key known param ≡ false → get known param ≡ None
    none e = some-none (get known param) e

    own : same_id id param ≡ true → contains_key known param ≡ false → one_if (test (id, knowns.Param method)) ≡ part test id (get known id)
    own t e = ap one_if (never id method) ∙ sym (ap (part test id) (ap (get known) (id_tied id param t) ∙ none e))

    at : (b : Bool) → same_id id param ≡ b → contains_key known param ≡ false → part test id (cond b (Some (knowns.Param method)) (get known id)) ≡ part test id (get known id)
    at true t e = own t e
    at false t e = refl

    by : (b : Bool) → contains_key known param ≡ b → part test id (get (cond b known (insert known param (knowns.Param method))) id) ≡ part test id (get known id)
    by true e = refl
    by false e = ap (part test id) (get-insert id_cmp-total known param (knowns.Param method) id) ∙ at (same_id id param) refl e

  part-with_params : (params : List Param) (known : Knowns) (method : Id) (id : Id) → part test id (get (with_params known method params) id) ≡ part test id (get known id)
  part-with_params [] known method id = refl
  part-with_params (param ∷ params) known method id =
      part-with_params params (kept_or known param.id (knowns.Param method)) method id ∙ part-kept_or known param.id method id

  count-kept_or : (known : Knowns) (param method : Id) → count test (kept_or known param (knowns.Param method)) ≡ count test known
  count-kept_or known param method = by (contains_key known param) refl where
    by : (b : Bool) → contains_key known param ≡ b → count test (cond b known (insert known param (knowns.Param method))) ≡ count test known
    by true e = refl
    by false e =
        let put = count-insert id_cmp-total id_cmp-IsAntisymmetric test known param (knowns.Param method) in
        let none = ap (part test param) (some-none (get known param) e) in
        let zero = ap one_if (never param method) in
        omega (arith, put, none, zero)

  count-with_params : (params : List Param) (known : Knowns) (method : Id) → count test (with_params known method params) ≡ count test known
  count-with_params [] known method = refl
  count-with_params (param ∷ params) known method =
      count-with_params params (kept_or known param.id (knowns.Param method)) method ∙ count-kept_or known param.id method

  put-own : (known : Knowns) (id : Id) (what : Known) → count test (insert known id what) + part test id (get known id) ≡ count test known + part test id (get (insert known id what) id)
  put-own known id what =
      count-insert id_cmp-total id_cmp-IsAntisymmetric test known id what
      ∙ ap (λ o. count test known + part test id o) (sym (get-insert id_cmp-total known id what id ∙ ap (λ b. cond b (Some what) (get known id)) (same_id-own id)))

  -- what a value makes known changes the count at its own identity alone
  pub count-known_by : (known : Knowns) (id : Id) (value : Value)
      → count test (known_by known id value) + part test id (get known id) ≡ count test known + part test id (get (known_by known id value) id)
  count-known_by known id (values.Kind kind) = put-own known id (knowns.Method kind)
  count-known_by known id (values.Method method) = put-own known id (knowns.Decl method)
  count-known_by known id (values.Params params) =
      let same = count-with_params params known id in
      let own = part-with_params params known id id in
      omega (arith, same, own)
  count-known_by known id (values.Live live) = refl
  count-known_by known id (values.Package name) = refl
  count-known_by known id (values.Owner owner) = refl
  count-known_by known id (values.Name name) = refl
  count-known_by known id (values.Super parent) = refl
  count-known_by known id (values.Result ty) = refl
  count-known_by known id (values.Fixed fixed) = refl
  count-known_by known id (values.Words words) = refl
  count-known_by known id (values.Notes notes) = refl
  count-known_by known id (values.Body body) = refl
  count-known_by known id (values.Value ty init) = refl

  pub count-known_as : (known : Knowns) (id : Id) (kind : Kind)
      → count test (known_as known id kind) + part test id (get known id) ≡ count test known + part test id (get (known_as known id kind) id)
  count-known_as known id kinds.Class = put-own known id knowns.Class
  count-known_as known id kinds.Field = put-own known id knowns.Field
  count-known_as known id kinds.Method = refl
  count-known_as known id kinds.Decl = refl
  count-known_as known id kinds.Param = refl

-- ---- a value written

never_param : (program : Program) (method : Id) (id own : Id) → is_living_decl program method (id, knowns.Param own) ≡ false
never_param program method id own = refl

other_cell : (q id : Id) (slot s : Slot) → q ≢ id → eq_by_cmp cell_cmp (cell q slot) (cell id s) ≡ false
other_cell q id slot s apart = by (eq_by_cmp cell_cmp (cell q slot) (cell id s)) refl where
  by : (b : Bool) → eq_by_cmp cell_cmp (cell q slot) (cell id s) ≡ b → b ≡ false
  by true e = absurd (apart (ap (λ (c : Cell). c.id) (cell_cmp-IsAntisymmetric (cell q slot) (cell id s) (tied _ e))))
  by false e = refl

-- a value of one identity does not change whether another lives
pub living-elsewhere : (program : Program) (at : Cell) (value : Value) (q : Id) → q ≢ at.id → living_at (with_value program at value) q ≡ living_at program q
living-elsewhere program at value q apart =
    ap is_yes (get-insert cell_cmp-total program.cells at value (cell q slots.Live)
    ∙ ap (λ b. cond b (Some value) (get program.cells (cell q slots.Live))) (other_cell q at.id slots.Live at.slot apart))

-- the number after, of what one identity changes
pub record Moves (old new : Program) (id : Id) : Type 0 where
  pub numbers : (method : Id) → living_decls new method + counts_for old method id ≡ living_decls old method + counts_for new method id

pub moves-on : (first second third : Program) (id : Id) → Moves first second id → Moves second third id → Moves first third id
moves-on first second third id one two = record { numbers = λ method. let a = one.numbers method in let b = two.numbers method in omega (arith, a, b) }

decl-agree : (old new : Program) (method q : Id) (what : Known) → living_at new q ≡ living_at old q → is_living_decl old method (q, what) ≡ is_living_decl new method (q, what)
decl-agree old new method q what e = ap (λ b. is_decl_of method what && b) (sym e)

pub moves-value : (program : Program) (at : Cell) (value : Value) → Moves program (with_value program at value) at.id
moves-value program at value = record {
  numbers = λ method.
      let known = known_by program.known at.id value in
      let new = with_value program at value in
      let one = count-known_by (is_living_decl program method) (never_param program method) program.known at.id value in
      let two = count-change id_cmp-total id_cmp-IsAntisymmetric (is_living_decl program method) (is_living_decl new method) known at.id
      (λ q what apart. decl-agree program new method q what (living-elsewhere program at value q apart)) in
      omega (arith, one, two);
}

moves-as : (program : Program) (id : Id) (kind : Kind) → Moves program (record program { known = known_as program.known id kind }) id
moves-as program id kind = record { numbers = λ method. count-known_as (is_living_decl program method) (never_param program method) program.known id kind }

pub moves-values : (values : List Value) (program : Program) (id : Id) → Moves program (with_values program id values) id
moves-values [] program id = record { numbers = λ method. refl }
moves-values (value ∷ values) program id =
    moves-on program (with_value program (cell id (slot_of value)) value) (with_values program id (value ∷ values)) id
    (moves-value program (cell id (slot_of value)) value)
    (moves-values values (with_value program (cell id (slot_of value)) value) id)

-- an entity added changes the numbers by what it counts for itself
pub moves-entity : (program : Program) (entity : NewEntity) → Moves program (with_entity program entity) entity.id
moves-entity program entity =
    let named : Program = record program { known = known_as program.known entity.id entity.kind } in
    moves-on program named (with_entity program entity) entity.id (moves-as program entity.id entity.kind) (moves-values entity.values named entity.id)

-- ---- what other identities are known as

pub known-insert : (known : Knowns) (id q : Id) (what : Known) → q ≢ id → get (insert known id what) q ≡ get known q
known-insert known id q what apart = get-insert id_cmp-total known id what q ∙ ap (λ b. cond b (Some what) (get known q)) (id_apart q id apart)

entity-kept_or : (known : Knowns) (param method q : Id) → entity_in (get (kept_or known param (knowns.Param method)) q) ≡ entity_in (get known q)
entity-kept_or known param method q = by (contains_key known param) refl where
  at : (b : Bool) → same_id q param ≡ b → contains_key known param ≡ false → entity_in (cond b (Some (knowns.Param method)) (get known q)) ≡ entity_in (get known q)
  at true t e = sym (ap entity_in (ap (get known) (id_tied q param t) ∙ some-none (get known param) e))
  at false t e = refl

  by : (b : Bool) → contains_key known param ≡ b → entity_in (get (cond b known (insert known param (knowns.Param method))) q) ≡ entity_in (get known q)
  by true e = refl
  by false e = ap entity_in (get-insert id_cmp-total known param (knowns.Param method) q) ∙ at (same_id q param) refl e

entity-with_params : (params : List Param) (known : Knowns) (method q : Id) → entity_in (get (with_params known method params) q) ≡ entity_in (get known q)
entity-with_params [] known method q = refl
entity-with_params (param ∷ params) known method q = entity-with_params params (kept_or known param.id (knowns.Param method)) method q ∙ entity-kept_or known param.id method q

-- a value of one identity makes no other one an entity
pub entity-known_by : (value : Value) (known : Knowns) (id q : Id) → q ≢ id → entity_in (get (known_by known id value) q) ≡ entity_in (get known q)
entity-known_by (values.Kind kind) known id q apart = ap entity_in (known-insert known id q (knowns.Method kind) apart)
entity-known_by (values.Method method) known id q apart = ap entity_in (known-insert known id q (knowns.Decl method) apart)
entity-known_by (values.Params params) known id q apart = entity-with_params params known id q
entity-known_by (values.Live live) known id q apart = refl
entity-known_by (values.Package name) known id q apart = refl
entity-known_by (values.Owner owner) known id q apart = refl
entity-known_by (values.Name name) known id q apart = refl
entity-known_by (values.Super parent) known id q apart = refl
entity-known_by (values.Result ty) known id q apart = refl
entity-known_by (values.Fixed fixed) known id q apart = refl
entity-known_by (values.Words words) known id q apart = refl
entity-known_by (values.Notes notes) known id q apart = refl
entity-known_by (values.Body body) known id q apart = refl
entity-known_by (values.Value ty init) known id q apart = refl

pub entity-values : (values : List Value) (program : Program) (id q : Id) → q ≢ id → entity_in (get (with_values program id values).known q) ≡ entity_in (get program.known q)
entity-values [] program id q apart = refl
entity-values (value ∷ values) program id q apart =
    entity-values values (with_value program (cell id (slot_of value)) value) id q apart ∙ entity-known_by value program.known id q apart

entity-known_as : (known : Knowns) (id q : Id) (kind : Kind) → q ≢ id → get (known_as known id kind) q ≡ get known q
entity-known_as known id q kinds.Class apart = known-insert known id q knowns.Class apart
entity-known_as known id q kinds.Field apart = known-insert known id q knowns.Field apart
entity-known_as known id q kinds.Method apart = refl
entity-known_as known id q kinds.Decl apart = refl
entity-known_as known id q kinds.Param apart = refl

pub entity-elsewhere : (program : Program) (entity : NewEntity) (q : Id) → q ≢ entity.id → entity_in (get (with_entity program entity).known q) ≡ entity_in (get program.known q)
entity-elsewhere program entity q apart =
    entity-values entity.values (record program { known = known_as program.known entity.id entity.kind }) entity.id q apart
    ∙ ap entity_in (entity-known_as program.known entity.id q entity.kind apart)

-- ---- numbers of counts

pub number-raised : (counts : Counts) (o : Option Id) (method : Id) → number_at (raised counts o) method ≡ number_at counts method + one_if (is_of method o)
number-raised counts None method = omega arith
number-raised counts (Some own) method =
    ap (λ o. unwrap_or o 0) (get-insert id_cmp-total counts own (number_at counts own + 1) method) ∙ by (same_id method own) refl where
      by : (b : Bool) → same_id method own ≡ b → unwrap_or (cond b (Some (number_at counts own + 1)) (get counts method)) 0 ≡ number_at counts method + one_if b
      by true e = ap (λ m. number_at counts m + 1) (sym (id_tied method own e))
      by false e = omega arith

pub number-lowered : (counts : Counts) (o : Option Id) (method : Id) → number_at (lowered counts o) method ≡ number_at counts method - one_if (is_of method o)
number-lowered counts None method = omega arith
number-lowered counts (Some own) method =
    ap (λ o. unwrap_or o 0) (get-insert id_cmp-total counts own (number_at counts own - 1) method) ∙ by (same_id method own) refl where
      by : (b : Bool) → same_id method own ≡ b → unwrap_or (cond b (Some (number_at counts own - 1)) (get counts method)) 0 ≡ number_at counts method - one_if b
      by true e = ap (λ m. number_at counts m - 1) (sym (id_tied method own e))
      by false e = omega arith
