-- Entries whose values are changed where they stand, one place after another.
use Rattle.std.proofs.Common.{◌≡◌, ◌∙◌, refl, sym, ap, subst, ℕ, zero, suc, ◌≤◌, Bool, true, false, cond, List, [], ◌∷◌, map, length, slice_get, Option, None, Some, option_map, arith}
use Rattle.std.proofs.lemmas.Cmp.{eq_by_cmp_equiv}
use Rattle.std.proofs.lemmas.Option.{same_Some}
use Rattle.std.specs.Cmp.{IsEquivalence}
use Rattle.std.specs.FinMap as finite
use Rattle.std.specs.FinMap.{entries, from_entries, get, get-from_entries, same_map}
use Rattle.std.specs.List.{IsDistinct}
use Rattle.std.specs.Map.{keys_of}
use Rattle.std.specs.Ordering.{eq_by_cmp}
use Rattle.indexmap.proofs.MapLemmas.{insert_entry-first}
use Rattle.indexmap.proofs.RemoveLemmas.{own_first}
use Rattle.indexmap.specs.IndexMap.{insert_entry, set_value_at}
use Rattle.mol_base.specs.declared.ident.Id.{Id}
use Rattle.mol_table.specs.Maps.{cells_of, program_in}
use Rattle.mol_table.specs.Tidying.{bare_in, changed_at, value_by}
use Rattle.mol_table.specs.declared.maps.Maps.{Maps}
use Rattle.mol_table_rules.proofs.CellOrder.{cell_cmp-IsAntisymmetric, cell_cmp-total}
use Rattle.mol_table_rules.proofs.TidyRules.{get-mapped}
use Rattle.mol_table_rules.specs.Program.{cell, params_at, params_in}
use Rattle.mol_table_rules.specs.Tidy.{tidy_value}
use Rattle.mol_values_types.proofs.Ties.{cell_eq, cell_ties}
use Rattle.mol_values_types.specs.Order.{cell_cmp}
use Rattle.mol_values_types.specs.declared.cell.Cell.{Cell}
use Rattle.mol_values_types.specs.declared.cell.Slot.TheVariants as slots
use Rattle.mol_values_types.specs.declared.param.Param.{Param}
use Rattle.mol_values_types.specs.declared.value.Value.{Value}
use Rattle.mol_values_types.specs.declared.value.Value.TheVariants as values

cell-equivalence : IsEquivalence cell_eq
cell-equivalence =
    let alike : cell_eq ≡ eq_by_cmp cell_cmp = λ i x y. cell_ties x y i in
    subst IsEquivalence (sym alike) (eq_by_cmp_equiv cell_cmp-total)

-- # Lists of entries

module _ (change : Value → Value) where
  -- the values before a place are changed, those behind not yet
  abbrev pub changed_to : ℕ → List (Cell × Value) → List (Cell × Value)
  changed_to zero es = es
  changed_to (suc place) [] = []
  changed_to (suc place) (e ∷ es) = (e.0, change e.1) ∷ changed_to place es

  pub one-more : (place : ℕ) (es : List (Cell × Value)) → changed_at change place (changed_to place es) ≡ changed_to (suc place) es
  one-more zero [] = refl
  one-more zero (e ∷ es) = refl
  one-more (suc place) [] = refl
  one-more (suc place) (e ∷ es) = ap (λ (rest : List (Cell × Value)). (e.0, change e.1) ∷ rest) (one-more place es)

  pub all-changed : (place : ℕ) (es : List (Cell × Value)) → length es ≤ place → changed_to place es ≡ map (λ e. (e.0, change e.1)) es
  all-changed zero [] within = refl
  all-changed zero (e ∷ es) within = absurd (omega arith)
  all-changed (suc place) [] within = refl
  all-changed (suc place) (e ∷ es) within =
      ap (λ (rest : List (Cell × Value)). (e.0, change e.1) ∷ rest) (all-changed place es (omega arith))

  -- what reads the same of a changed value reads the same of all entries
  module _ {A : Type 0} (read : Option Value → A) (kept : (value : Value) → read (Some (change value)) ≡ read (Some value)) (at : Cell) where
    found-alike : (place : ℕ) (es : List (Cell × Value))
        → read (finite.find cell_cmp at (changed_to place es)) ≡ read (finite.find cell_cmp at es)
    found-alike zero es = refl
    found-alike (suc place) [] = refl
    found-alike (suc place) (e ∷ es) = by (eq_by_cmp cell_cmp at e.0) (found-alike place es) where
      by : (b : Bool) → read (finite.find cell_cmp at (changed_to place es)) ≡ read (finite.find cell_cmp at es)
          → read (cond b (Some (change e.1)) (finite.find cell_cmp at (changed_to place es))) ≡ read (cond b (Some e.1) (finite.find cell_cmp at es))
      by true rest = kept e.1
      by false rest = rest

    pub read-alike : (place : ℕ) (es : List (Cell × Value)) → read (get (cells_of (changed_to place es)) at) ≡ read (get (cells_of es) at)
    read-alike place es =
        ap read (get-from_entries cell_cmp-total (changed_to place es) at) ∙ found-alike place es
        ∙ ap read (sym (get-from_entries cell_cmp-total es at))

  find-mapped : (at : Cell) (es : List (Cell × Value))
      → finite.find cell_cmp at (map (λ e. (e.0, change e.1)) es) ≡ option_map change (finite.find cell_cmp at es)
  find-mapped at [] = refl
  find-mapped at (e ∷ es) = by (eq_by_cmp cell_cmp at e.0) (find-mapped at es) where
    by : (b : Bool) → finite.find cell_cmp at (map (λ e. (e.0, change e.1)) es) ≡ option_map change (finite.find cell_cmp at es)
        → cond b (Some (change e.1)) (finite.find cell_cmp at (map (λ e. (e.0, change e.1)) es))
        ≡ option_map change (cond b (Some e.1) (finite.find cell_cmp at es))
    by true rest = refl
    by false rest = rest

  -- the map of changed entries is the map with each value changed
  pub mapped-alike : (es : List (Cell × Value))
      → cells_of (map (λ e. (e.0, change e.1)) es) ≡ from_entries (map (λ e. (e.0, change e.1)) (entries (cells_of es)))
  mapped-alike es =
      same_map cell_cmp-total cell_cmp-IsAntisymmetric _ _ (λ at.
      get-from_entries cell_cmp-total (map (λ e. (e.0, change e.1)) es) at ∙ find-mapped at es
      ∙ ap (option_map change) (sym (get-from_entries cell_cmp-total es at))
      ∙ sym (get-mapped cell_cmp-total change (cells_of es) at))

  -- # A write by key

  pub none-changed : (place : ℕ) (es : List (Cell × Value)) → slice_get es place ≡ None → changed_at change place es ≡ es
  none-changed place [] none = refl
  none-changed zero (e ∷ es) none = absurd cc
  none-changed (suc place) (e ∷ es) none = ap (λ (rest : List (Cell × Value)). e ∷ rest) (none-changed place es none)

  set-changed : (es : List (Cell × Value)) (place : ℕ) (key : Cell) (value new : Value) → slice_get es place ≡ Some (key, value)
      → new ≡ change value → set_value_at es place new ≡ changed_at change place es
  set-changed [] place key value new at is = refl
  set-changed (e ∷ es) zero key value new at is =
      let same = same_Some e (key, value) at in
      ap (λ (v : Value). (e.0, v) ∷ es) (is ∙ ap change (sym (ap (λ (p : Cell × Value). p.1) same)))
  set-changed (e ∷ es) (suc place) key value new at is =
      ap (λ (rest : List (Cell × Value)). e ∷ rest) (set-changed es place key value new at is)

  -- a write at the key of a place
  pub inserted-changed : (es : List (Cell × Value)) (place : ℕ) (key : Cell) (value new : Value) → IsDistinct cell_eq (keys_of es)
      → slice_get es place ≡ Some (key, value) → new ≡ change value → insert_entry cell_eq es key new ≡ changed_at change place es
  inserted-changed es place key value new distinct at is =
      insert_entry-first cell_eq key new es place (own_first cell_eq cell-equivalence es place key value distinct at)
      ∙ set-changed es place key value new at is

-- # Tidied values

-- a tidied list of parameters is the list
params-kept : (present : Id → List Param) (bare : Id → Option Id) (value : Value)
    → params_in (Some (tidy_value present bare value)) ≡ params_in (Some value)
params-kept present bare (values.Live x) = refl
params-kept present bare (values.Package x) = refl
params-kept present bare (values.Owner x) = refl
params-kept present bare (values.Method x) = refl
params-kept present bare (values.Name x) = refl
params-kept present bare (values.Super x) = refl
params-kept present bare (values.Result x) = refl
params-kept present bare (values.Params x) = refl
params-kept present bare (values.Kind x) = refl
params-kept present bare (values.Fixed x) = refl
params-kept present bare (values.Words x) = refl
params-kept present bare (values.Notes x) = refl
params-kept present bare (values.Body x) = refl
params-kept present bare (values.Value ty init) = refl

-- so values are tidied alike while some are tidied
pub tidied-alike : (old new : Maps) (index : List (Id × Id)) (place : ℕ)
    → new.cells.entries ≡ changed_to (value_by old index) place old.cells.entries → value_by new index ≡ value_by old index
tidied-alike old new index place is =
    let present : params_at (program_in new) ≡ params_at (program_in old) = λ i method.
    (ap (λ (es : List (Cell × Value)). params_in (get (cells_of es) (cell method slots.Params))) is
    ∙ read-alike (value_by old index) params_in (params-kept (params_at (program_in old)) (bare_in index)) (cell method slots.Params)
    place old.cells.entries) i in
    λ i. tidy_value (present i) (bare_in index)
