-- The counts of living declarations are kept when values are written.
use Rattle.std.specs.Prelude.{◌≡◌, ℕ, ◌+◌, ◌-◌, ◌≤◌, Bool, true, false, cond, length, Option, None, Some, is_some, IsSome, IsTrue, unwrap_or}
use Rattle.std.proofs.Common.{refl, sym, ap, subst, ◌∙◌, arith, true≢false}
use Rattle.std.specs.FinMap.{get, insert, get-insert}
use Rattle.mol_base.specs.Order.{id_cmp-total, id_cmp-IsAntisymmetric}
use Rattle.mol_base.specs.declared.ident.Id.{Id}
use Rattle.mol_table_rules.specs.Counting.{one_if, Counts, number_at, living_as, living_of, is_of, Counted, same_method, recounted, raised, lowered, counted_by}
use Rattle.mol_table_rules.specs.Life.{is_living_decl, entity_in}
use Rattle.mol_table.specs.Maps.{program_in, counts_in}
use Rattle.mol_table_rules.specs.Program.{Program, same_id, living_at}
use Rattle.mol_table_rules.specs.Rules.{IsProgram, fills}
use Rattle.mol_table_rules.specs.Mentions.{a_method}
use Rattle.mol_table_rules.specs.Writes.{with_value, with_entity}
use Rattle.mol_values_types.specs.declared.cell.Cell.{Cell}
use Rattle.mol_table_rules.specs.declared.entity.NewEntity.{NewEntity}
use Rattle.mol_values_types.specs.declared.kind.MethodKind.{MethodKind}
use Rattle.mol_values_types.specs.declared.known.Known.{Known}
use Rattle.mol_values_types.specs.declared.known.Known.TheVariants as knowns
use Rattle.mol_table.specs.declared.maps.Maps.{Maps}
use Rattle.mol_values_types.specs.declared.value.Value.{Value}
use Rattle.mol_table_rules.proofs.Counts.{none-some, count-le, part-le}
use Rattle.mol_table_rules.proofs.Living.{same_id-own, id_tied, counts_for-is, moves-value, moves-entity, entity-elsewhere, number-raised, number-lowered}
use Rattle.mol_table_rules.proofs.Writing.{method-kept}

-- ---- numbers are small, and a method with living declarations has a place

pub number-le : (maps : Maps) → Counted (program_in maps) (counts_in maps) → (method : Id) → number_at (counts_in maps) method ≤ length maps.known.entries
number-le maps counted method =
    let most = count-le id_cmp-total (is_living_decl (program_in maps) method) maps.known.entries in
    omega (arith, counted.numbers method, most)

some-number : (o : Option ℕ) → 1 ≤ unwrap_or o 0 → is_some o ≡ true
some-number None e = absurd (omega (arith, e))
some-number (Some n) e = refl

-- a living declaration is counted
pub number-some : (program : Program) (counts : Counts) → Counted program counts → (id method : Id) → living_of program id ≡ Some method → 1 ≤ number_at counts method
number-some program counts counted id method is =
    let moved = counts_for-is program method id in
    let one = ap one_if (ap (is_of method) is ∙ same_id-own method) in
    let within = part-le id_cmp-total id_cmp-IsAntisymmetric (is_living_decl program method) program.known id in
    omega (arith, counted.numbers method, moved, one, within)

pub place-some : (program : Program) (counts : Counts) → Counted program counts → (id method : Id) → living_of program id ≡ Some method → is_some (get counts method) ≡ true
place-some program counts counted id method is = some-number (get counts method) (number-some program counts counted id method is)

-- ---- after `set`

module _ (program : Program) (rules : IsProgram program) (counts : Counts) (counted : Counted program counts)
    (at : Cell) (value : Value) (there : IsSome (get program.cells at)) (new : IsProgram (with_value program at value)) where
  place-kept : (method : Id) (kind : MethodKind) → get (with_value program at value).known method ≡ Some (knowns.Method kind) → is_some (get counts method) ≡ true
  place-kept method kind is = let was = method-kept program rules at value there new method kind is in counted.places method was.0 was.1

  filled : (id : Id) (o : Option Known) → IsTrue (fills id a_method o) → (kind : MethodKind) × (o ≡ Some (knowns.Method kind))
  filled id None e = absurd cc
  filled id (Some knowns.Class) e = absurd cc
  filled id (Some (knowns.Method kind)) e = (kind, refl)
  filled id (Some (knowns.Decl method)) e = absurd cc
  filled id (Some knowns.Field) e = absurd cc
  filled id (Some (knowns.Param method)) e = absurd cc

  living-decl : (o : Option Known) (b : Bool) (method : Id) → living_as o b ≡ Some method → o ≡ Some (knowns.Decl method)
  living-decl None b method e = absurd (none-some method e)
  living-decl (Some knowns.Class) b method e = absurd (none-some method e)
  living-decl (Some (knowns.Method kind)) b method e = absurd (none-some method e)
  living-decl (Some (knowns.Decl own)) true method e = cc
  living-decl (Some (knowns.Decl own)) false method e = absurd (none-some method e)
  living-decl (Some knowns.Field) b method e = absurd (none-some method e)
  living-decl (Some (knowns.Param own)) b method e = absurd (none-some method e)

  -- the method of which the identity is a living declaration afterwards has a place
  pub place-now : (method : Id) → living_of (with_value program at value) at.id ≡ Some method → is_some (get counts method) ≡ true
  place-now method is =
      let known = living-decl (get (with_value program at value).known at.id) (living_at (with_value program at value) at.id) method is in
      let kind = filled at.id (get (with_value program at value).known method) (new.decls at.id method known) in
      place-kept method kind.0 kind.1

  pub counted-value : (after : Counts)
      → ((method : Id) → number_at after method + one_if (is_of method (living_of program at.id)) ≡ number_at counts method + one_if (is_of method (living_of (with_value program at value) at.id)))
      → ((method : Id) → is_some (get counts method) ≡ true → is_some (get after method) ≡ true)
      → Counted (with_value program at value) after
  counted-value after moved kept = record {
    numbers = λ method.
        let a = moved method in
        let b = counted.numbers method in
        let c = (moves-value program at value).numbers method in
        let d = counts_for-is program method at.id in
        let e = counts_for-is (with_value program at value) method at.id in
        omega (arith, a, b, c, d, e);
    places = λ method kind is. kept method (place-kept method kind is);
  }

-- ---- counts that move

insert-kept : (counts : Counts) (id : Id) (n : ℕ) (method : Id) → is_some (get counts method) ≡ true → is_some (get (insert counts id n) method) ≡ true
insert-kept counts id n method is = ap is_some (get-insert id_cmp-total counts id n method) ∙ by (same_id method id) where
  by : (b : Bool) → is_some (cond b (Some n) (get counts method)) ≡ true
  by true = refl
  by false = is

pub lowered-kept : (counts : Counts) (o : Option Id) (method : Id) → is_some (get counts method) ≡ true → is_some (get (lowered counts o) method) ≡ true
lowered-kept counts None method is = is
lowered-kept counts (Some own) method is = insert-kept counts own (number_at counts own - 1) method is

raised-kept : (counts : Counts) (o : Option Id) (method : Id) → is_some (get counts method) ≡ true → is_some (get (raised counts o) method) ≡ true
raised-kept counts None method is = is
raised-kept counts (Some own) method is = insert-kept counts own (number_at counts own + 1) method is

pub recounted-kept : (counts : Counts) (was now : Option Id) (method : Id) → is_some (get counts method) ≡ true → is_some (get (recounted counts was now) method) ≡ true
recounted-kept counts was now method is = by (same_method was now) where
  by : (b : Bool) → is_some (get (cond b counts (raised (lowered counts was) now)) method) ≡ true
  by true = is
  by false = raised-kept (lowered counts was) now method (lowered-kept counts was method is)

same_method-is : (first second : Option Id) → same_method first second ≡ true → first ≡ second
same_method-is None None e = refl
same_method-is (Some first) (Some second) e = ap (λ m. Some m) (id_tied first second e)
same_method-is None (Some second) e = absurd cc
same_method-is (Some first) None e = absurd cc

pub number-recounted : (counts : Counts) (was now : Option Id) (method : Id) → one_if (is_of method was) ≤ number_at counts method
    → number_at (recounted counts was now) method + one_if (is_of method was) ≡ number_at counts method + one_if (is_of method now)
number-recounted counts was now method some = by (same_method was now) refl where
  by : (b : Bool) → same_method was now ≡ b → number_at (cond b counts (raised (lowered counts was) now)) method + one_if (is_of method was) ≡ number_at counts method + one_if (is_of method now)
  by true e = ap (λ o. number_at counts method + one_if (is_of method o)) (same_method-is was now e)
  by false e =
      let up = number-raised (lowered counts was) now method in
      let down = number-lowered counts was method in
      omega (arith, some, up, down)

-- ---- after an entity is added

living-entity : (o : Option Known) (b : Bool) → entity_in o ≡ None → living_as o b ≡ None
living-entity None b e = refl
living-entity (Some knowns.Class) b e = refl
living-entity (Some (knowns.Method kind)) b e = refl
living-entity (Some (knowns.Decl own)) b e = absurd (none-some _ (sym e))
living-entity (Some knowns.Field) b e = refl
living-entity (Some (knowns.Param own)) b e = refl

number-counted_by : (counts : Counts) (id : Id) (o : Option Known) (b : Bool) (method : Id) → number_at (counted_by counts id o b) method ≡ number_at counts method + one_if (is_of method (living_as o b))
number-counted_by counts id (Some (knowns.Method kind)) b method =
    ap (λ o. unwrap_or o 0) (get-insert id_cmp-total counts id (number_at counts id) method) ∙ by (same_id method id) refl where
      by : (same : Bool) → same_id method id ≡ same → unwrap_or (cond same (Some (number_at counts id)) (get counts method)) 0 ≡ number_at counts method + 0
      by true e = ap (number_at counts) (sym (id_tied method id e)) ∙ omega arith
      by false e = omega arith
number-counted_by counts id (Some (knowns.Decl own)) true method = number-raised counts (Some own) method
number-counted_by counts id (Some (knowns.Decl own)) false method = omega arith
number-counted_by counts id None b method = omega arith
number-counted_by counts id (Some knowns.Class) b method = omega arith
number-counted_by counts id (Some knowns.Field) b method = omega arith
number-counted_by counts id (Some (knowns.Param own)) b method = omega arith

place-counted_by : (counts : Counts) (id : Id) (o : Option Known) (b : Bool) (method : Id) → is_some (get counts method) ≡ true → is_some (get (counted_by counts id o b) method) ≡ true
place-counted_by counts id (Some (knowns.Method kind)) b method is = insert-kept counts id (number_at counts id) method is
place-counted_by counts id (Some (knowns.Decl own)) true method is = insert-kept counts own (number_at counts own + 1) method is
place-counted_by counts id (Some (knowns.Decl own)) false method is = is
place-counted_by counts id None b method is = is
place-counted_by counts id (Some knowns.Class) b method is = is
place-counted_by counts id (Some knowns.Field) b method is = is
place-counted_by counts id (Some (knowns.Param own)) b method is = is

place-own : (counts : Counts) (id : Id) (o : Option Known) (b : Bool) (kind : MethodKind) → o ≡ Some (knowns.Method kind) → is_some (get (counted_by counts id o b) id) ≡ true
place-own counts id o b kind is =
    ap (λ o. is_some (get (counted_by counts id o b) id)) is
    ∙ ap is_some (get-insert id_cmp-total counts id (number_at counts id) id)
    ∙ ap (λ same. is_some (cond same (Some (number_at counts id)) (get counts id))) (same_id-own id)

method-same : (first second : Option Known) (kind : MethodKind) → entity_in first ≡ entity_in second → first ≡ Some (knowns.Method kind) → second ≡ Some (knowns.Method kind)
method-same first None kind e is = absurd (none-some _ (sym e ∙ ap entity_in is))
method-same first (Some knowns.Class) kind e is = sym e ∙ ap entity_in is
method-same first (Some (knowns.Method own)) kind e is = sym e ∙ ap entity_in is
method-same first (Some (knowns.Decl own)) kind e is = sym e ∙ ap entity_in is
method-same first (Some knowns.Field) kind e is = sym e ∙ ap entity_in is
method-same first (Some (knowns.Param own)) kind e is = absurd (none-some _ (sym e ∙ ap entity_in is))

pub counted-entity : (program : Program) (counts : Counts) → Counted program counts → (entity : NewEntity) → entity_in (get program.known entity.id) ≡ None
    → Counted (with_entity program entity) (counted_by counts entity.id (get (with_entity program entity).known entity.id) (living_at (with_entity program entity) entity.id))
counted-entity program counts counted entity fresh = record {
  numbers = λ method.
      let id = entity.id in
      let new = with_entity program entity in
      let a = number-counted_by counts id (get new.known id) (living_at new id) method in
      let b = counted.numbers method in
      let c = (moves-entity program entity).numbers method in
      let d = counts_for-is program method id ∙ ap (λ o. one_if (is_of method o)) (living-entity (get program.known id) (living_at program id) fresh) in
      let e = counts_for-is new method id in
      omega (arith, a, b, c, d, e);
  places = λ method kind is. by method kind is (same_id method entity.id) refl;
} where
  by : (method : Id) (kind : MethodKind) → get (with_entity program entity).known method ≡ Some (knowns.Method kind) → (b : Bool) → same_id method entity.id ≡ b
      → IsTrue (is_some (get (counted_by counts entity.id (get (with_entity program entity).known entity.id) (living_at (with_entity program entity) entity.id)) method))
  by method kind is true e =
      let same = id_tied method entity.id e in
      let new = with_entity program entity in
      subst (λ m. IsTrue (is_some (get (counted_by counts entity.id (get new.known entity.id) (living_at new entity.id)) m))) (sym same)
      (place-own counts entity.id (get new.known entity.id) (living_at new entity.id) kind (ap (get new.known) (sym same) ∙ is))
  by method kind is false e =
      let new = with_entity program entity in
      let elsewhere = entity-elsewhere program entity method (λ same. true≢false (sym (ap (λ m. same_id m entity.id) same ∙ same_id-own entity.id) ∙ e)) in
      place-counted_by counts entity.id (get new.known entity.id) (living_at new entity.id) method
      (counted.places method kind (method-same (get new.known method) (get program.known method) kind elsewhere is))
