-- For which entities a cell tells whether they live.
use Rattle.std.proofs.Common.{◌≡◌, ◌∙◌, refl, sym, ap, [], ◌∷◌, List}
use Rattle.std.specs.FinMap.{get}
use Rattle.std.specs.Option.{option_map_or}
use Rattle.std.specs.Prelude.{◌||◌, ◌&&◌, Bool, true, false, Option, None, Some, if◌then◌else◌}
use Rattle.mol_base.specs.Order.{id_cmp}
use Rattle.mol_base.specs.declared.ident.Id.{Id}
use Rattle.mol_base.specs.declared.ident.Stamp.{Stamp}
use Rattle.mol_log_rules.specs.Living.{is_known_decl, is_life_cell}
use Rattle.mol_log_writers.proofs.Noting.{if-or, one-noted, or-no}
use Rattle.mol_log_writers.specs.LastWriters.{AreNoted, IsLifeNoted, lives_by, method_of_decl, stamp_in}
use Rattle.mol_table_rules.specs.Program.{Program, same_id}
use Rattle.mol_values_types.specs.Slots.{same_slot}
use Rattle.mol_values_types.specs.declared.cell.Cell.{Cell}
use Rattle.mol_values_types.specs.declared.cell.Slot.TheVariants as slots
use Rattle.mol_values_types.specs.declared.known.Known.{Known}
use Rattle.mol_values_types.specs.declared.known.Known.TheVariants as knowns

known-decl : (known : Option Known) (id : Id) → option_map_or (same_id id) (method_of_decl known) false ≡ is_known_decl id known
known-decl None id = refl
known-decl (Some knowns.Class) id = refl
known-decl (Some (knowns.Method kind)) id = refl
known-decl (Some (knowns.Decl method)) id = refl
known-decl (Some knowns.Field) id = refl
known-decl (Some (knowns.Param method)) id = refl

module _ (left : Program) (own : Id) (stamp : Stamp) (old : List (Id × Stamp)) where
  -- the stamp at one key more
  abbrev IsPut : Id → List (Id × Stamp) → List (Id × Stamp) → Type 0
  IsPut key was entries = (id : Id) → stamp_in id_cmp entries id ≡ (if same_id id key then Some stamp else stamp_in id_cmp was id)

  by-method : (method : Option Id) → method_of_decl (get left.known own) ≡ method → (id : Id)
      → (same_id id own || option_map_or (same_id id) method false) ≡ lives_by left id own
  by-method method known id =
      ap (λ m. same_id id own || option_map_or (same_id id) m false) (sym known)
      ∙ ap (λ is. same_id id own || is) (known-decl (get left.known own) id)

  pub life-one : (entries : List (Id × Stamp)) → method_of_decl (get left.known own) ≡ None → IsPut own old entries
      → IsLifeNoted left own stamp old entries
  life-one entries none first id =
      first id ∙ ap (λ b. if b then Some stamp else stamp_in id_cmp old id) (sym (or-no (same_id id own)) ∙ by-method None none id)

  pub life-both : (method : Id) (middle entries : List (Id × Stamp)) → method_of_decl (get left.known own) ≡ Some method
      → IsPut own old middle → IsPut method middle entries → IsLifeNoted left own stamp old entries
  life-both method middle entries known first second id =
      second id
      ∙ ap (λ (was : Option Stamp). if same_id id method then Some stamp else was) (first id)
      ∙ if-or (same_id id own) (same_id id method) (Some stamp) (stamp_in id_cmp old id)
      ∙ ap (λ b. if b then Some stamp else stamp_in id_cmp old id) (by-method (Some method) known id)

module _ (left : Program) (at : Cell) (stamp : Stamp) (old : List (Id × Stamp)) where
  cell-life : (b : Bool) → same_slot at.slot slots.Live ≡ b → (id : Id) → (b && lives_by left id at.id) ≡ is_life_cell left id at
  cell-life b is id = ap (λ slot. slot && lives_by left id at.id) (sym is)

  pub no-life : same_slot at.slot slots.Live ≡ false → AreNoted id_cmp (is_life_cell left) (at ∷ []) stamp old old
  no-life is =
      one-noted id_cmp (is_life_cell left) at stamp old old
      (λ id. ap (λ b. if b then Some stamp else stamp_in id_cmp old id) (cell-life false is id))

  pub of-life : (entries : List (Id × Stamp)) → same_slot at.slot slots.Live ≡ true → IsLifeNoted left at.id stamp old entries
      → AreNoted id_cmp (is_life_cell left) (at ∷ []) stamp old entries
  of-life entries is noted =
      one-noted id_cmp (is_life_cell left) at stamp old entries
      (λ id. noted id ∙ ap (λ b. if b then Some stamp else stamp_in id_cmp old id) (cell-life true is id))
