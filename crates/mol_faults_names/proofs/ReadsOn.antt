-- Names read on, one after the other.
use Rattle.std.proofs.Common.{◌≡◌, ◌<◌, ℕ, suc, ◌+◌, [], ◌∷◌, ◌++◌, length, take, get_or, Option, sym, ◌∙◌, ap, arith}
use Rattle.std.proofs.lemmas.List.{length-take-le, take_more}
use Rattle.jav_names.specs.DottedNames.{Name, Names}
use Rattle.jav_names.specs.Leftmost.{Leftmost}
use Rattle.mol_base.specs.declared.ident.Id.{Id}
use Rattle.mol_faults_names.specs.Reads.{Reads, next_read, reads_on}
use Rattle.mol_resolve_rules.specs.Readers.{Reader}
use Rattle.mol_resolve_rules.specs.ReadTrees.{path_by}
use Rattle.mol_table_rules.specs.Program.{Program}

module _ (program : Program) (reader : Reader Id Id) (leftmost : Leftmost Id Id) where
  abbrev on : ℕ → Option Reads → Names → Option Reads
  on = reads_on program reader leftmost

  -- one more, behind so many
  abbrev next : Name → ℕ → Option Reads → Option Reads
  next name count read = next_read program reader name (path_by count leftmost) read

  behind : (count : ℕ) (read : Option Reads) (names : Names) (name : Name)
      → on count read (names ++ name ∷ []) ≡ next name (count + length names) (on count read names)
  behind count read [] name = ap (λ n. next name n read) (let same : count ≡ count + 0 = omega arith in same)
  behind count read (first ∷ names) name = behind (suc count) (next first count read) names name
      ∙ ap (λ n. next name n (on (suc count) (next first count read) names))
      (let same : suc count + length names ≡ count + suc (length names) = omega arith in same)

  pub reads-more : (read : Option Reads) (names : Names) (at : ℕ) (name : Name) (so_far : Option Reads) → at < length names
      → name ≡ get_or names at name → so_far ≡ on 1 read (take at names) → next name (at + 1) so_far ≡ on 1 read (take (at + 1) names)
  reads-more read names at name so_far within is so =
      ap (next name (at + 1)) so
      ∙ ap (λ n. next name n (on 1 read (take at names)))
      (let far = length-take-le at names (omega (arith, within)) in let same : at + 1 ≡ 1 + length (take at names) = omega (arith, far) in same)
      ∙ sym (behind 1 read (take at names) name)
      ∙ ap (on 1 read) (ap (λ n. take at names ++ n ∷ []) is ∙ sym (take_more names at name within))
