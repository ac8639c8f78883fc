-- The maps with new identities, one key after another.
use Rattle.std.specs.Prelude.{◌≡◌, ℕ, Bool, true, false, cond, List, [], ◌∷◌, ◌++◌, None, Some, is_some, unwrap_or}
use Rattle.std.proofs.Common.{refl, sym, ap, ◌∙◌}
use Rattle.std.specs.FinMap.{get}
use Rattle.std.specs.List.{list_any}
use Rattle.std.specs.Ordering.{eq_by_cmp}
use Rattle.mol_base.specs.Order.{id_cmp, id_cmp-total, id_cmp-IsAntisymmetric}
use Rattle.mol_base.specs.declared.ident.Id.{Id}
use Rattle.mol_table_rules.specs.Counting.{Counts}
use Rattle.mol_table_rules.specs.Life.{lives}
use Rattle.mol_table_numbers.specs.Looked.{HasNames, HasLiving, renumbered_counts}
use Rattle.mol_values_types.specs.Order.{cell_cmp}
use Rattle.mol_table_rules.proofs.CellOrder.{cell_cmp-total, cell_cmp-IsAntisymmetric}
use Rattle.mol_table_rules.specs.Program.{Program, Cells, Knowns, same_id, cell}
use Rattle.mol_values_types.specs.Renamed.{rename_value, rename_known}
use Rattle.mol_values.specs.Renaming.{names_of, name_in}
use Rattle.mol_table_rules.specs.Renumber.{base_id, number, numbered, renumber}
use Rattle.mol_values_types.specs.declared.cell.Cell.{Cell}
use Rattle.mol_values_types.specs.declared.known.Known.{Known}
use Rattle.mol_values_types.specs.declared.value.Value.{Value}
use Rattle.mol_table_rules.proofs.Counts.{none-some, some-same}
use Rattle.mol_table_numbers.proofs.RenamedMaps.{IsTaken, renamed-same, renamed-entries, taken-none, taken-more, taken-dead, taken-absent, taken-all}
use Rattle.mol_table_numbers.proofs.RenamedValues.{cells-apart, cells-renamed, known-renamed}

module _ (program : Program) where
  abbrev pub CellsTaken : Cells → List Cell → Type 0
  CellsTaken new ks = IsTaken (λ (at : Cell). lives program at.id) (λ (at : Cell). cell (numbered program at.id) at.slot) (rename_value (numbered program)) program.cells new ks

  abbrev pub KnownTaken : Knowns → List Id → Type 0
  KnownTaken new ks = IsTaken (lives program) (numbered program) (rename_known (numbered program)) program.known new ks

  abbrev pub CountsTaken : Counts → Counts → List Id → Type 0
  CountsTaken old new ks = IsTaken (lives program) (numbered program) (λ (n : ℕ). n) old new ks

module _ (program : Program) (names : List (Id × Id)) (has : HasNames program names) where
  name-is : (id : Id) → name_in names id ≡ numbered program id
  name-is id = ap (λ o. unwrap_or o id) (has.at id) ∙ at (lives program id) where
    at : (b : Bool) → unwrap_or (cond b (Some (base_id (number program id))) None) id ≡ cond b (base_id (number program id)) id
    at true = refl
    at false = refl

  names-are : name_in names ≡ numbered program
  names-are = λ i id. name-is id i

  some-lives : (id name : Id) → get (names_of names) id ≡ Some name → (lives program id ≡ true) × (name ≡ numbered program id)
  some-lives id name is = at (lives program id) refl where
    at : (b : Bool) → lives program id ≡ b → (lives program id ≡ true) × (name ≡ numbered program id)
    at true e = (
      e,
      some-same name (numbered program id) (sym is ∙ has.at id ∙ ap (λ b. cond b (Some (base_id (number program id))) None) e
          ∙ sym (ap (λ b. Some (cond b (base_id (number program id)) id)) e)),
    )
    at false e = absurd (none-some name (sym (has.at id ∙ ap (λ b. cond b (Some (base_id (number program id))) None) e) ∙ is))

  none-dead : (id : Id) → get (names_of names) id ≡ None → lives program id ≡ false
  none-dead id is = at (lives program id) refl where
    at : (b : Bool) → lives program id ≡ b → lives program id ≡ false
    at true e = absurd (none-some (base_id (number program id)) (sym is ∙ has.at id ∙ ap (λ b. cond b (Some (base_id (number program id))) None) e))
    at false e = e

  -- ---- cells

  abbrev apart-cells : (a b : Cell) → lives program a.id ≡ true → lives program b.id ≡ true → cell (numbered program a.id) a.slot ≡ cell (numbered program b.id) b.slot → a ≡ b
  apart-cells = cells-apart program has.apart

  pub cell-more : (was new : Cells) (ks : List Cell) (x : Cell) (name : Id) (v w : Value) → get (names_of names) x.id ≡ Some name → get program.cells x ≡ Some v → w ≡ rename_value (name_in names) v
      → ((q : Cell) → get new q ≡ cond (eq_by_cmp cell_cmp q (cell name x.slot)) (Some w) (get was q)) → CellsTaken program was ks → CellsTaken program new (ks ++ x ∷ [])
  cell-more was new ks x name v w named is changed put =
      let living = some-lives x.id name named in
      taken-more cell_cmp-total cell_cmp-IsAntisymmetric _ _ _ apart-cells program.cells was new ks x v living.0 is
      (λ q. put q ∙ (λ i. cond (eq_by_cmp cell_cmp q (cell (living.1 i) x.slot)) (Some ((changed ∙ ap (λ name. rename_value name v) names-are) i)) (get was q)))

  pub cell-dead : (was : Cells) (ks : List Cell) (x : Cell) → get (names_of names) x.id ≡ None → CellsTaken program was ks → CellsTaken program was (ks ++ x ∷ [])
  cell-dead was ks x none = taken-dead cell_cmp-total cell_cmp-IsAntisymmetric _ _ _ apart-cells program.cells was ks x (none-dead x.id none)

  pub cell-absent : (was : Cells) (ks : List Cell) (x : Cell) → get program.cells x ≡ None → CellsTaken program was ks → CellsTaken program was (ks ++ x ∷ [])
  cell-absent was ks x none = taken-absent cell_cmp-total cell_cmp-IsAntisymmetric _ _ _ apart-cells program.cells was ks x none

  pub cells-none : (new : Cells) → ((q : Cell) → get new q ≡ None) → CellsTaken program new []
  cells-none new none = taken-none cell_cmp-total cell_cmp-IsAntisymmetric _ _ _ apart-cells program.cells new none

  pub cells-all : (new : Cells) (ks : List Cell) → ((q : Cell) → is_some (get program.cells q) ≡ true → list_any (eq_by_cmp cell_cmp q) ks ≡ true) → CellsTaken program new ks
      → new ≡ (renumber program).cells
  cells-all new ks all taken =
      renamed-same cell_cmp-total cell_cmp-IsAntisymmetric _ _ _ apart-cells program.cells new (renumber program).cells
      (taken-all cell_cmp-total cell_cmp-IsAntisymmetric _ _ _ apart-cells program.cells new ks (λ k live there. all k there) taken)
      (cells-renamed program has.apart)

  -- ---- what is known

  pub known-more : (was new : Knowns) (ks : List Id) (x name : Id) (v w : Known) → get (names_of names) x ≡ Some name → get program.known x ≡ Some v → w ≡ rename_known (name_in names) v
      → ((q : Id) → get new q ≡ cond (eq_by_cmp id_cmp q name) (Some w) (get was q)) → KnownTaken program was ks → KnownTaken program new (ks ++ x ∷ [])
  known-more was new ks x name v w named is changed put =
      let living = some-lives x name named in
      taken-more id_cmp-total id_cmp-IsAntisymmetric _ _ _ has.apart program.known was new ks x v living.0 is
      (λ q. put q ∙ (λ i. cond (eq_by_cmp id_cmp q (living.1 i)) (Some ((changed ∙ ap (λ name. rename_known name v) names-are) i)) (get was q)))

  pub known-dead : (was : Knowns) (ks : List Id) (x : Id) → get (names_of names) x ≡ None → KnownTaken program was ks → KnownTaken program was (ks ++ x ∷ [])
  known-dead was ks x none = taken-dead id_cmp-total id_cmp-IsAntisymmetric _ _ _ has.apart program.known was ks x (none-dead x none)

  pub known-absent : (was : Knowns) (ks : List Id) (x : Id) → get program.known x ≡ None → KnownTaken program was ks → KnownTaken program was (ks ++ x ∷ [])
  known-absent was ks x none = taken-absent id_cmp-total id_cmp-IsAntisymmetric _ _ _ has.apart program.known was ks x none

  pub known-none : (new : Knowns) → ((q : Id) → get new q ≡ None) → KnownTaken program new []
  known-none new none = taken-none id_cmp-total id_cmp-IsAntisymmetric _ _ _ has.apart program.known new none

  pub known-all : (new : Knowns) (ks : List Id) → HasLiving program ks → KnownTaken program new ks → new ≡ (renumber program).known
  known-all new ks living taken =
      renamed-same id_cmp-total id_cmp-IsAntisymmetric _ _ _ has.apart program.known new (renumber program).known
      (taken-all id_cmp-total id_cmp-IsAntisymmetric _ _ _ has.apart program.known new ks (λ k live there. living k ∙ live) taken)
      (known-renamed program has.apart)

  -- ---- numbers of living declarations

  pub count-more : (old was new : Counts) (ks : List Id) (x name : Id) (n : ℕ) → get (names_of names) x ≡ Some name → get old x ≡ Some n
      → ((q : Id) → get new q ≡ cond (eq_by_cmp id_cmp q name) (Some n) (get was q)) → CountsTaken program old was ks → CountsTaken program old new (ks ++ x ∷ [])
  count-more old was new ks x name n named is put =
      let living = some-lives x name named in
      taken-more id_cmp-total id_cmp-IsAntisymmetric _ _ _ has.apart old was new ks x n living.0 is
      (λ q. put q ∙ ap (λ y. cond (eq_by_cmp id_cmp q y) (Some n) (get was q)) living.1)

  pub count-dead : (old was : Counts) (ks : List Id) (x : Id) → get (names_of names) x ≡ None → CountsTaken program old was ks → CountsTaken program old was (ks ++ x ∷ [])
  count-dead old was ks x none = taken-dead id_cmp-total id_cmp-IsAntisymmetric _ _ _ has.apart old was ks x (none-dead x none)

  pub count-absent : (old was : Counts) (ks : List Id) (x : Id) → get old x ≡ None → CountsTaken program old was ks → CountsTaken program old was (ks ++ x ∷ [])
  count-absent old was ks x none = taken-absent id_cmp-total id_cmp-IsAntisymmetric _ _ _ has.apart old was ks x none

  pub counts-none : (old new : Counts) → ((q : Id) → get new q ≡ None) → CountsTaken program old new []
  counts-none old new none = taken-none id_cmp-total id_cmp-IsAntisymmetric _ _ _ has.apart old new none

  pub counts-all : (old new : Counts) (ks : List Id) → ((q : Id) → is_some (get old q) ≡ true → list_any (same_id q) ks ≡ true) → CountsTaken program old new ks
      → new ≡ renumbered_counts program old
  counts-all old new ks all taken =
      renamed-same id_cmp-total id_cmp-IsAntisymmetric _ _ _ has.apart old new (renumbered_counts program old)
      (taken-all id_cmp-total id_cmp-IsAntisymmetric _ _ _ has.apart old new ks (λ k live there. all k there) taken)
      (renamed-entries id_cmp-total id_cmp-IsAntisymmetric (lives program) (numbered program) (λ (n : ℕ). n) has.apart old)
