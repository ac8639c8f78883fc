-- What trees are read as in a program is what they are read as with numbers.
use Rattle.std.proofs.Common.{◌≡◌, ℕ, Option, Some, None, option_map, refl, ◌∙◌}
use Rattle.mol_base.specs.declared.ident.Id.{Id}
use Rattle.jav_names.specs.Types.{OwnStands}
use Rattle.jav_names.specs.UnitViews.{MemberKey}
use Rattle.mol_resolve_keys.specs.Laws.{TreesReadAlike}
use Rattle.mol_resolve_keys.specs.NumberLaws.{ReadsByNumbers, ProgramsNumbered}
use Rattle.mol_resolve_keys.specs.NumberedPrograms.{keys_of, numbered}
use Rattle.mol_resolve_rules.specs.Outcomes.{Outcome, mapped}
use Rattle.mol_resolve_rules.specs.ProgramViews.{program_view, program_ids}
use Rattle.mol_resolve_rules.specs.Readers.{Reader}
use Rattle.mol_resolve_rules.specs.ReadStatements.{read_initial, read_body}
use Rattle.mol_resolve_rules.specs.ReadTypes.{ReadType, read_type, type_tree}
use Rattle.mol_table_rules.specs.Program.{Program}
use Rattle.mol_table_rules.specs.Rules.{IsProgram}
use Rattle.mol_values_types.specs.declared.iblock.IBody.{IBody}
use Rattle.mol_resolve_keys.proofs.NumberedPrograms.{views-numbered, reader-numbered}
use Rattle.mol_resolve_keys.proofs.ReadingsAlike.{readings_alike}
use Rattle.mol_resolve_keys.proofs.RenamedAsThemselves.{type-kept, expr-kept, block-kept}

some-itself : {X : Type 0} (o : Option X) → option_map (λ x. x) o ≡ o
some-itself None = refl
some-itself (Some x) = refl

-- what changes nothing changes no outcome
outcome-kept : {X : Type 0} (change : X → X) → ((x : X) → change x ≡ x) → (o : Outcome X) → mapped change o ≡ o
outcome-kept {X} change kept o = (λ i. mapped (λ (x : X). kept x i) o) ∙ (λ i. record { value = some-itself o.value i; faults = o.faults })

some-kept : {X : Type 0} (change : X → X) → ((x : X) → change x ≡ x) → (o : Option X) → option_map change o ≡ o
some-kept {X} change kept o = (λ i. option_map (λ (x : X). kept x i) o) ∙ some-itself o

module _ (program : Program) (reader : Reader Id Id) (rules : IsProgram program) (view : reader.view ≡ program_view program)
    (ids : reader.ids ≡ program_ids program) (own : OwnStands (program_view program).classes reader.header) where
  alike : TreesReadAlike (keys_of program) (λ id. id) reader (numbered program reader)
  alike = readings_alike Id Id ℕ MemberKey (keys_of program) (λ id. id) reader (numbered program reader)
      (reader-numbered program reader rules view ids own)

  reads-by-numbers : ReadsByNumbers program reader
  reads-by-numbers = record {
    types = λ type. alike.types type ∙ some-kept _ type-kept (type_tree (numbered program reader) type);
    declared_types = λ at type. alike.declared_types at type
        ∙ (λ i. mapped (λ (read : ReadType ℕ). type-kept read.tree i) (read_type (numbered program reader) at type));
    first_values = λ init. alike.first_values init
        ∙ outcome-kept _ (some-kept _ expr-kept) (read_initial (numbered program reader) init);
    bodies = λ block. alike.bodies block
        ∙ outcome-kept _ (λ (body : IBody) i. record { block = block-kept body.block i }) (read_body (numbered program reader) block);
  }

pub programs_numbered : ProgramsNumbered
programs_numbered = record { views = views-numbered; readers = reader-numbered; readings = reads-by-numbers }
