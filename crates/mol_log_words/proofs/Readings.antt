-- What the two laws of a reader say of what is read of a whole list of words.
use Rattle.std.proofs.Common.{◌≡◌, ◌-◌, ◌<◌, ◌≤◌, ◌==◌, Bool, true, false, List, length, Result, Ok, Err, ap, inl, inr}
use Rattle.std.proofs.Common.{refl, arith, if◌then◌else◌}
use Rattle.std.proofs.lemmas.Bool.Decides.{nat_tests}
use Rattle.mol_log_words.specs.Words.{Word}
use Rattle.mol_log_words.specs.FirstBad.{Form}
use Rattle.mol_log_words.specs.Reader.{Parser}
use Rattle.mol_log_words.specs.Reads.{Reads, answered, IsReading}
use Rattle.mol_log_words.specs.declared.fault.Fault.{Fault}
use Rattle.mol_log_words.specs.declared.fault.Fault.TheVariants.{Bad, OutOfMemory}
use Rattle.mol_log_words.specs.declared.fault.BadWord.TheVariants as whole
use Rattle.mol_log_words.proofs.FirstBad.{Laws, tree, longer, refused, only, none, left}

module _ {T : Type 0} (S : Form T) (p : Parser T) (laws : Laws S p) where
  read_short : (ts new : List Word) (t : T) → p ts ≡ Ok (t, new) → length new ≡ 0 → IsReading S ts (Ok t)
  read_short ts new t e z = record {
    tree = tree S p laws ts t new e z;
    back = λ x h. inl (ap Ok (only S p laws ts t new e x h).0);
    bad = λ at h. absurd cc;
  }

  read_long : (ts new : List Word) (t : T) → p ts ≡ Ok (t, new) → 0 < length new → IsReading S ts (Err (whole.Bad (length ts - length new)))
  read_long ts new t e some = let few : length new ≤ length ts = left S p laws ts (Ok (t, new)) e in record {
    tree = tt;
    back = λ x h. absurd (omega (arith, (only S p laws ts t new e x h).1));
    bad = λ at h. let same : length ts - length new ≡ at = cc in longer S p laws ts t new e some at (omega arith);
  }

  read_bad : (ts new : List Word) → p ts ≡ Err new → IsReading S ts (Err (whole.Bad (length ts - length new)))
  read_bad ts new e = let few : length new ≤ length ts = left S p laws ts (Err new) e in record {
    tree = tt;
    back = λ x h. absurd (none S p laws ts new e x h);
    bad = λ at h. let same : length ts - length new ≡ at = cc in refused S p laws ts new e at (omega arith);
  }

  read_none : (ts : List Word) → IsReading S ts (Err whole.OutOfMemory)
  read_none ts = record { tree = tt; back = λ x h. inr refl; bad = λ at h. absurd cc }

  read_by : (ts new : List Word) (t : T) → p ts ≡ Ok (t, new) → (b : Bool) → (length new == 0) ≡ b
      → IsReading S ts (if b then Ok t else Err (whole.Bad (length ts - length new)))
  read_by ts new t e true z = read_short ts new t e (grind (arith, nat_tests))
  read_by ts new t e false z = read_long ts new t e (grind (arith, nat_tests))

  -- what was read, as the reader reads it
  pub reading : (ts new : List Word) (read : Result T Fault) → Reads (p ts) read new
      → IsReading S ts (answered (length ts) (length new) read)
  unfolding answered
  reading ts new (Ok t) h = read_by ts new t h (length new == 0) refl
  reading ts new (Err Bad) h = read_bad ts new (h (λ e. cc))
  reading ts new (Err OutOfMemory) h = read_none ts
