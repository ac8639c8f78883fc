-- Faults of what is mentioned, part by part.
use Rattle.std.specs.Prelude.{◌≡◌, Result, Ok, Err, ℕ, ◌+◌, ◌<◌, List, [], ◌∷◌, ◌++◌, drop, length, map, Option, None, Some}
use Rattle.std.proofs.Common.{refl, sym, ap, ◌∙◌, get_or}
use Rattle.std.specs.List.{flat_map}
use Rattle.std.specs.Option.{option_or}
use Rattle.std.specs.Result.{IsErrAnd}
use Rattle.mol_table_rules.specs.Mentions.{Mention, joined}
use Rattle.mol_table_rules.specs.Program.{Knowns}
use Rattle.mol_op.specs.Tests.{IsVerdict, mention_fault, mentions_fault}
use Rattle.mol_op.specs.ChangeLaws.{or-assoc}
use Rattle.mol_op.specs.declared.fault.OpFault.{OpFault}
use Rattle.mol_op.specs.Names.{drop-item}

-- the first fault of two lists is that of the first one, else that of the second
pub faults_append : (known : Knowns) (front back : List Mention) → mentions_fault known (front ++ back) ≡ option_or (mentions_fault known front) (mentions_fault known back)
faults_append known [] back = refl
faults_append known (mention ∷ front) back =
    ap (option_or (mention_fault known mention)) (faults_append known front back)
    ∙ sym (or-assoc (mention_fault known mention) (mentions_fault known front) (mentions_fault known back))

-- of two parts
pub fault-of-parts : (known : Knowns) (whole front back : List Mention) → whole ≡ front ++ back
    → mentions_fault known whole ≡ option_or (mentions_fault known front) (mentions_fault known back)
fault-of-parts known whole front back is = ap (mentions_fault known) is ∙ faults_append known front back

pub fault-of-three : (known : Knowns) (whole front middle back : List Mention) → whole ≡ front ++ middle ++ back
    → mentions_fault known whole ≡ option_or (mentions_fault known front) (option_or (mentions_fault known middle) (mentions_fault known back))
fault-of-three known whole front middle back is =
    fault-of-parts known whole (front ++ middle) back is
    ∙ ap (λ fault. option_or fault (mentions_fault known back)) (faults_append known front middle)
    ∙ or-assoc (mentions_fault known front) (mentions_fault known middle) (mentions_fault known back)

-- ---- what the items of a list mention

pub joined-map : {X : Type 0} (mentions_of : X → List Mention) (xs : List X) → joined (map mentions_of xs) ≡ flat_map mentions_of xs
joined-map mentions_of [] = refl
joined-map mentions_of (x ∷ xs) = ap (λ rest. mentions_of x ++ rest) (joined-map mentions_of xs)

module _ {X : Type 0} (known : Knowns) (mentions_of : X → List Mention) (xs : List X) (i : ℕ) (x : X) (within : i < length xs) (is : x ≡ get_or xs i x) where
  from-here : mentions_fault known (flat_map mentions_of (drop i xs))
      ≡ option_or (mentions_fault known (mentions_of x)) (mentions_fault known (flat_map mentions_of (drop (i + 1) xs)))
  from-here =
      ap (λ rest. mentions_fault known (flat_map mentions_of rest)) (drop-item xs i x within is)
      ∙ faults_append known (mentions_of x) (flat_map mentions_of (drop (i + 1) xs))

  -- an item whose mentions have a fault
  pub fault-found : (why : OpFault) → mentions_fault known (mentions_of x) ≡ Some why → mentions_fault known (flat_map mentions_of (drop i xs)) ≡ Some why
  fault-found why found = from-here ∙ ap (λ fault. option_or fault (mentions_fault known (flat_map mentions_of (drop (i + 1) xs)))) found

  -- an item whose mentions have none
  pub fault-passed : mentions_fault known (mentions_of x) ≡ None
      → mentions_fault known (flat_map mentions_of (drop (i + 1) xs)) ≡ mentions_fault known (flat_map mentions_of (drop i xs))
  fault-passed none = sym (from-here ∙ ap (λ fault. option_or fault (mentions_fault known (flat_map mentions_of (drop (i + 1) xs)))) none)

-- ---- what a refusal answers

pub refused : (fault : Option OpFault) (r : Result (Unit {0}) OpFault) (why : OpFault) → IsErrAnd r (λ e. e ≡ why) → fault ≡ Some why → IsVerdict fault r
refused fault (Ok x) why is e = absurd is
refused fault (Err own) why is e = e ∙ ap (λ w. Some w) (sym is)
