-- What a log is to a program: changes with their stamps, in order.
use Rattle.std.specs.FinMap.{get}
use Rattle.std.specs.Option.{option_or}
use Rattle.std.specs.Prelude.{◌≡◌, List, [], ◌∷◌, map, Option, None, option_map}
use Rattle.mol_base.specs.declared.ident.Id.{Id}
use Rattle.mol_base.specs.declared.ident.Stamp.{Stamp}
use Rattle.mol_op.specs.Changes.{first_name, written}
use Rattle.mol_op.specs.Entries.{Change, Applies, leaves, last_value}
use Rattle.mol_op.specs.declared.fault.OpFault.{OpFault}
use Rattle.mol_table_rules.specs.Program.{Program}
use Rattle.mol_values_types.specs.declared.cell.Cell.{Cell}
use Rattle.mol_values_types.specs.declared.known.Known.{Known}
use Rattle.mol_values_types.specs.declared.value.Value.{Value}

-- a change, and the stamp under which it was recorded
pub record Stamped : Type 0 where
  pub stamp : Stamp
  pub change : Change

abbrev pub History : Type 0
History = List Stamped

abbrev pub changes : History → List Change
changes history = map (λ (entry : Stamped). entry.change) history

-- each entry applies to what those before it leave
abbrev pub AppliesOn : Program → History → Type 0
AppliesOn base history = Applies base (changes history)

-- what the entries leave of a program
abbrev pub after : Program → History → Program
after base history = leaves base (changes history)

-- the last value that they write into a cell
abbrev pub last : History → Cell → Option Value
last history at = last_value (changes history) at

-- what the first entry that names an identity names it as
abbrev pub first_named : History → Id → Option Known
first_named [] id = None
first_named (entry ∷ history) id = option_or (first_name entry.change.names id) (first_named history id)

-- The base with the last writes of a history: a cell has the last value that is written into it, and where none is, what it had. What was
-- known stays as it was, and else it is known as what it is named first.
pub record HasLastWrites (base : Program) (history : History) (program : Program) : Type 0 where
  pub cells : (at : Cell) → get program.cells at ≡ option_or (last history at) (get base.cells at)
  pub known : (id : Id) → get program.known id ≡ option_or (get base.known id) (first_named history id)

-- the stamp of the first entry that does not apply to what those before it leave, and why
abbrev pub first_refused : Program → History → Option (Stamp × OpFault)
first_refused base [] = None
first_refused base (entry ∷ history) =
    option_or (option_map (λ (why : OpFault). (entry.stamp, why)) (entry.change.fault base.known))
    (first_refused (written base entry.change.writes entry.change.names) history)
