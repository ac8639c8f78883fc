-- What is made of an identity, by what it is known as.
use Rattle.std.specs.Prelude.{Option}
use Rattle.std.specs.FinMap.{get}
use Rattle.std.specs.Option.{option_and_then}
use Rattle.mol_base.specs.declared.ident.Id.{Id}
use Rattle.mol_table_rules.specs.Program.{Program}
use Rattle.mol_values_types.specs.declared.known.Known.{Known}

-- nothing, where it is not known
abbrev pub made_of : {Y : Type 0} → Program → (Id × Known → Option Y) → Id → Option Y
made_of program made id = option_and_then (λ (known : Known). made (id, known)) (get program.known id)
