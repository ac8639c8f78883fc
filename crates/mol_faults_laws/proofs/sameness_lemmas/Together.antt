-- Programs that are the same are clean together.
use Rattle.mol_faults_laws.specs.sameness.Laws.{SameAreClean}
use Rattle.mol_faults_laws.proofs.sameness_lemmas.Faults.{also-clean, also-printed}

pub same_are_clean : SameAreClean
same_are_clean = record {
  clean = λ first second rules others knows same clean.
      also-clean first second (record { rules = rules; others = others; knows = knows; same = same }) clean;
  files = λ first second rules others knows same clean.
      also-printed first second (record { rules = rules; others = others; knows = knows; same = same }) clean;
}
