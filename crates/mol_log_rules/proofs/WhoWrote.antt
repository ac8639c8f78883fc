-- Who wrote a cell last, and what.
use Rattle.std.proofs.Common.{◌≡◌, ◌∙◌, refl, sym, ap, true≢false, List, [], ◌∷◌, Option, None, Some}
use Rattle.std.specs.List.{list_any}
use Rattle.std.specs.Option.{option_or}
use Rattle.std.specs.Prelude.{◌||◌, Bool, true, false, cond, is_some, if◌then◌else◌}
use Rattle.mol_base.specs.declared.ident.Stamp.{Stamp}
use Rattle.mol_log_rules.proofs.Appended.{last-append}
use Rattle.mol_log_rules.specs.Histories.{History, last}
use Rattle.mol_log_rules.specs.Writers.{writes_some, last_writer, writer, same_cell, WritesLast}
use Rattle.mol_op.specs.ChangeLaws.{none-some, some-same}
use Rattle.mol_op.specs.Changes.{Write, last_write}
use Rattle.mol_values_types.specs.declared.cell.Cell.{Cell}

pub some-or : {X : Type 0} (a b : Option X) → is_some (option_or a b) ≡ (is_some a || is_some b)
some-or None b = refl
some-or (Some x) b = refl

or-turned : (a b : Bool) → (a || b) ≡ (b || a)
or-turned true true = refl
or-turned true false = refl
or-turned false true = refl
or-turned false false = refl

pub some-cond : {X : Type 0} (b : Bool) (x : X) → is_some (cond b (Some x) None) ≡ b
some-cond true x = refl
some-cond false x = refl

-- ---- a writer exactly where a last value

-- a list of writes has one of a cell exactly where it gives the cell a value
writes-together : (writes : List Write) (at : Cell) → list_any (λ (write : Write). same_cell at write.0) writes ≡ is_some (last_write writes at)
writes-together [] at = refl
writes-together (write ∷ writes) at =
    or-turned (same_cell at write.0) (list_any (λ (write : Write). same_cell at write.0) writes)
    ∙ (λ i. writes-together writes at i || sym (some-cond (same_cell at write.0) write.1) i)
    ∙ sym (some-or (last_write writes at) (cond (same_cell at write.0) (Some write.1) None))

pub writers-together : (history : History) (at : Cell) → is_some (writer history at) ≡ is_some (last history at)
writers-together [] at = refl
writers-together (entry ∷ history) at =
    some-or (writer history at) (cond (writes_some (same_cell at) entry.change) (Some entry.stamp) None)
    ∙ (λ i. writers-together history at i
    || (some-cond (writes_some (same_cell at) entry.change) entry.stamp ∙ writes-together entry.change.writes at) i)
    ∙ sym (some-or (last history at) (last_write entry.change.writes at))

-- ---- the last one by its place

pub writer-placed : (passes : Cell → Bool) (history : History) (stamp : Stamp) → last_writer passes history ≡ Some stamp
    → WritesLast passes history stamp
writer-placed passes [] stamp is = absurd (none-some stamp is)
writer-placed passes (entry ∷ history) stamp is =
    by (last_writer passes history) refl (writer-placed passes history stamp) (writes_some passes entry.change) refl is where
      by : (later : Option Stamp) → last_writer passes history ≡ later → (last_writer passes history ≡ Some stamp → WritesLast passes history stamp)
          → (here : Bool) → writes_some passes entry.change ≡ here → option_or later (if here then Some entry.stamp else None) ≡ Some stamp
          → WritesLast passes (entry ∷ history) stamp
      by (Some found) later rest here writes so =
          let behind = rest (later ∙ so) in
          record {
            front = entry ∷ behind.front;
            entry = behind.entry;
            back = behind.back;
            place = ap (λ more. entry ∷ more) behind.place;
            stamped = behind.stamped;
            writes = behind.writes;
            none_behind = behind.none_behind;
          }
      by None later rest true writes so = record {
        front = [];
        entry = entry;
        back = history;
        place = refl;
        stamped = some-same entry.stamp stamp so;
        writes = writes;
        none_behind = later;
      }
      by None later rest false writes so = absurd (none-some stamp so)

not-some : {X : Type 0} (o : Option X) → is_some o ≡ false → o ≡ None
not-some None e = refl
not-some (Some x) e = absurd (true≢false e)

or-some : {X : Type 0} (o more : Option X) → is_some o ≡ true → o ≡ option_or o more
or-some (Some x) more e = refl
or-some None more e = absurd (true≢false (sym e))

-- what the last writer of a cell writes is the last value
pub writer-valued : (history : History) (at : Cell) (stamp : Stamp) (found : WritesLast (same_cell at) history stamp)
    → last_write found.entry.change.writes at ≡ last history at
writer-valued history at stamp found =
    or-some (last_write writes at) (last found.front at) some
    ∙ ap (λ o. option_or (option_or o (last_write writes at)) (last found.front at)) (sym none)
    ∙ sym (last-append found.front (found.entry ∷ found.back) at) ∙ ap (λ all. last all at) (sym found.place)
  where
    writes : List Write
    writes = found.entry.change.writes

    some : is_some (last_write writes at) ≡ true
    some = sym (writes-together writes at) ∙ found.writes

    none : last found.back at ≡ None
    none = not-some (last found.back at) (sym (writers-together found.back at) ∙ ap is_some found.none_behind)
