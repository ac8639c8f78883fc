-- The first of all faults in order goes before each other one.
use Rattle.std.proofs.Common.{◌≡◌, ◌⊎◌, inl, inr, ℕ, ◌<◌, List, [], ◌∷◌, ◌++◌, map, length, Option, None, Some, option_map, Contains, refl, sym, ap, subst, arith, true≢false}
use Rattle.std.specs.Prelude.{◌↔◌, IsSome}
use Rattle.std.specs.Option.{option_to_list}
use Rattle.std.proofs.lemmas.List.Elements.{All-contains}
use Rattle.std.proofs.lemmas.Map.Views.{All-after_first}
use Rattle.std.specs.declared.cmp.Ordering.TheVariants.{Less}
use Rattle.jav_names.proofs.Lists.{stands_first, stands_where}
use Rattle.mol_spell_rules.proofs.FaultsOrdered.{faults_determined}
use Rattle.mol_spell_rules.specs.FaultList.{Fault, fault_cmp, AreFaults}
use Rattle.mol_table_rules.specs.Program.{Program}
use Rattle.mol_faults.specs.First.{IsFirst, first_of}

pub first-mapped : {X Y : Type 0} (f : X → Y) (xs : List X) → first_of (map f xs) ≡ option_map f (first_of xs)
first-mapped f [] = refl
first-mapped f (x ∷ xs) = refl

-- what is taken from so many is the first of them
pub first-taken : {X : Type 0} (taken : Option X) (all rest : List X) (count : ℕ) → all ≡ option_to_list taken ++ rest
    → (IsSome taken ↔ (0 < count)) → count ≡ length all → first_of all ≡ taken
first-taken (Some x) all rest count is some so_many = ap first_of is
first-taken None [] rest count is some so_many = refl
first-taken None (x ∷ xs) rest count is some so_many = absurd (true≢false (sym (some.1 (omega (arith, so_many)))))

is-first : (program : Program) (faults : List Fault) → AreFaults program faults → IsFirst program (first_of faults)
is-first program [] are = (faults_determined.clean program [] are).0 refl
is-first program (fault ∷ faults) are = record {
  is = (are.each fault).0 (stands_first fault faults);
  before_all = λ later is. by later (stands_where fault later faults ((are.each later).1 is));
} where
  by : (later : Fault) → (fault ≡ later) ⊎ Contains faults later → (fault ≡ later) ⊎ (fault_cmp fault later ≡ Less)
  by later (inl same) = inl same
  by later (inr rest) = inr (All-contains (λ next. fault_cmp fault next ≡ Less) faults later
      (All-after_first fault_cmp fault faults are.ascending) rest)

-- what is the first of all faults as the program keeps them
pub is-first-of : (program : Program) (faults : List Fault) (first : Option Fault) → first ≡ first_of faults → AreFaults program faults
    → IsFirst program first
is-first-of program faults first is are = subst (IsFirst program) (sym is) (is-first program faults are)
