-- What a misread name has to do with, added one after the other.
use Rattle.std.proofs.Common.{◌≡◌, List, ◌++◌, map, Option, None, Some, option_map, refl, sym, ap, ◌∙◌, append_assoc}
use Rattle.std.specs.Option.{option_to_list}
use Rattle.mol_spell_rules.specs.references.References.{Target}
use Rattle.mol_faults_rules.specs.Met.{kept_met}
use Rattle.mol_faults_rules.specs.declared.met.Met.{Met}

listed : (o : Option Met) → map kept_met (option_to_list o) ≡ option_to_list (option_map kept_met o)
listed None = refl
listed (Some met) = refl

pub both-added : (before middle after : List Target) (first second : Option Met) → middle ≡ before ++ map kept_met (option_to_list first)
    → after ≡ middle ++ map kept_met (option_to_list second)
    → after ≡ before ++ (option_to_list (option_map kept_met first) ++ option_to_list (option_map kept_met second))
both-added before middle after first second once again =
    again ∙ (λ i. once i ++ listed second i)
    ∙ append_assoc before (map kept_met (option_to_list first)) (option_to_list (option_map kept_met second))
    ∙ ap (λ met. before ++ (met ++ option_to_list (option_map kept_met second))) (listed first)
