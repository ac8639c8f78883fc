-- Bytes and entries above what a log may have, by their counted numbers.
use Rattle.std.proofs.Common.{◌≡◌, ℕ, ◌<◌, ◌≤◌, List, length, sym, subst}
use Rattle.mol_base.specs.Limits.{most}
use Rattle.mol_base.specs.declared.limit.Which.TheVariants.{LogBytes, Operations}
use Rattle.mol_log_rows.specs.lines.Lines as lines
use Rattle.mol_log_rows.specs.lines.Lines.{IsSizeFault, counted_entries}
use Rattle.mol_log_rows.specs.declared.lines.fault.LogFault.TheVariants.{TooLong}

pub size_fault : (bytes : List ℕ) (n : ℕ) → n ≡ length bytes → most LogBytes < n → IsSizeFault bytes (TooLong LogBytes n)
size_fault bytes n same more =
    subst (λ m. IsSizeFault bytes (TooLong LogBytes m)) (sym same) (lines.many_bytes (subst (λ m. most LogBytes < m) same more))

pub entries_fault : (bytes : List ℕ) (n : ℕ) → length bytes ≤ most LogBytes → n ≡ counted_entries bytes → most Operations < n
    → IsSizeFault bytes (TooLong Operations n)
entries_fault bytes n short same more =
    subst (λ m. IsSizeFault bytes (TooLong Operations m)) (sym same) (lines.many_entries short (subst (λ m. most Operations < m) same more))
