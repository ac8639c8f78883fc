-- Names are read alike in two such programs, in the file of a class that lives.
use Rattle.std.proofs.Common.{Bool, List, None, Option, Some, [], ap, false, refl, sym, true, true≢false, ℕ, ◌∙◌, ◌≡◌}
use Rattle.std.specs.FinMap.{entries, get}
use Rattle.std.specs.Option.{option_and_then}
use Rattle.std.specs.Prelude.{if◌then◌else◌, map}
use Rattle.jav_names.specs.DottedNames.{Name, Names}
use Rattle.jav_names.specs.LookUps.{variable, method_from, is_constructor}
use Rattle.jav_names.specs.Types.{OwnStands}
use Rattle.jav_names.specs.Views.{ViewClass}
use Rattle.mol_base.specs.declared.ident.Id.{Id}
use Rattle.mol_resolve_rules.specs.Locals.{Locals}
use Rattle.mol_resolve_rules.specs.ProgramReaders.{class_at, class_header, parameter_in}
use Rattle.mol_resolve_rules.specs.ProgramViews.{living_class, kind_in, program_view, method_in, program_ids, superclass_at}
use Rattle.mol_resolve_rules.specs.Readers.{Reader, Parameter, place_of}
use Rattle.mol_spell_rules.specs.Answers.{answer}
use Rattle.mol_spell_rules.specs.SpelledExpressions.{is_declaration_of}
use Rattle.mol_spell_rules.specs.UnitCells.{reader_as, cell_reader}
use Rattle.mol_spell_rules.specs.Writers.{Asked, field_asked, method_asked}
use Rattle.mol_table_rules.specs.Life.{lives, entity_in, lives_as}
use Rattle.mol_table_rules.specs.Program.{Program, package_at, params_at, name_at, living_at}
use Rattle.mol_table_rules.specs.Renumber.{is_class}
use Rattle.mol_values_types.specs.declared.cell.Cell.{Cell}
use Rattle.mol_values_types.specs.declared.known.Known.{Known}
use Rattle.mol_values_types.specs.declared.known.Known.TheVariants as knowns
use Rattle.mol_resolve_rules.proofs.ProgramsViewed.{programs_viewed}
use Rattle.mol_resolve_rules.proofs.Stands.{in_some}
use Rattle.mol_table_rules.proofs.Living.{same_id-own}
use Rattle.mol_table_rules.proofs.TidyRules.{and-both}
use Rattle.mol_faults_laws.proofs.sameness_lemmas.Alike.{class-known, class-lives, known-same, listed-same, method-lives, package-same, params-same}
use Rattle.mol_faults_laws.proofs.sameness_lemmas.Answering.{AsksStanding, answer-same}
use Rattle.mol_faults_laws.proofs.sameness_lemmas.Entities.{also-known, entry-stands}
use Rattle.mol_faults_laws.proofs.sameness_lemmas.LivingViews.{class-has, entity-class, superclass-same, value-stands, view-same}
use Rattle.mol_faults_laws.proofs.sameness_lemmas.Twins.{IsGoodClass, IsGoodValue, Twins}
use Rattle.mol_faults_laws.proofs.sameness_lemmas.Views.{with_superclass, variables-same, methods-same as view-methods-same}

-- what is asked for of a value is of a class that lives
abbrev pub IsGoodAsked : Program → Asked → Type 0
IsGoodAsked program (field_asked type name) = IsGoodValue program type
IsGoodAsked program (method_asked type name arity) = IsGoodValue program type
IsGoodAsked program asked = Unit {0}

-- where names are read in the file of a class
abbrev pub reader_of : Program → Names → Id → List (Parameter Id) → Bool → Reader Id Id
reader_of program imports class params in_constructor = record {
  view = program_view program;
  ids = program_ids program;
  header = class_header program class imports;
  class = class;
  params = params;
  in_constructor = in_constructor;
}

module _ (P Q : Program) (twins : Twins P Q) (class : Id) (good : IsGoodClass P class) where
  class_at-is : class_at P class ≡ Some (record { key = class; «package» = package_at P class; name = name_at P class })
  class_at-is =
      ap (option_and_then (λ (known : Known). living_class P (class, known))) (class-known P Q twins.alike class good)
      ∙ ap {A = Bool} {B = Option (ViewClass Id)} (λ b. if b then Some
      (record { key = class; «package» = package_at P class; name = name_at P class }) else None)
      (and-both (is_class (get P.known class)) (living_at P class) good).1

  class_at-same : class_at P class ≡ class_at Q class
  class_at-same =
      let known = class-known P Q twins.alike class good in
      ap (option_and_then (λ (known : Known). living_class P (class, known))) known
      ∙ entity-class P Q twins class knowns.Class known
      ∙ sym (ap (option_and_then (λ (known : Known). living_class Q (class, known)))
      (also-known P Q twins.alike.knows class knowns.Class known refl))

  header-same : (imports : Names) → class_header P class imports ≡ class_header Q class imports
  header-same imports =
      let packages = package-same P Q twins.alike class (class-lives P Q twins.alike class good) in
      λ i. record { own = class_at-same i; «package» = packages i; imports = imports }

  own-stands : (imports : Names) → OwnStands (program_view P).classes (class_header P class imports)
  own-stands imports own is =
      let known = class-known P Q twins.alike class good in
      in_some (living_class P) (entries P.known) (class, knowns.Class) own (entry-stands P class knowns.Class known)
      (sym (ap (option_and_then (λ (known : Known). living_class P (class, known))) known) ∙ is)

  method_id-same : (program_ids P).method_id ≡ (program_ids Q).method_id
  method_id-same = λ i declared. known-same P Q twins.alike (method_in declared.key) (λ own. refl) declared.key i

  module _ (imports : Names) (params : List (Parameter Id)) (in_constructor : Bool) where
    abbrev here : Reader Id Id
    here = reader_of P imports class params in_constructor

    abbrev there : Reader Id Id
    there = reader_of Q imports class params in_constructor

    -- as here, but for the superclasses of what does not live; no name asks for the identities of parameters
    abbrev between : Reader Id Id
    between = record {
      view = with_superclass (program_view P) (superclass_at Q);
      ids = record {
        class_id = λ id. id;
        member_id = λ id. id;
        method_id = (program_ids P).method_id;
        param_ids =
            (program_ids Q).param_ids;
      };
      header = class_header P class imports;
      class = class;
      params = params;
      in_constructor = in_constructor;
    }

    stepped : between ≡ there
    stepped =
        let ids = method_id-same in
        let header = header-same imports in
        let view = view-same P Q twins in
        λ i. record {
          view = sym view i;
          ids = record { class_id = λ id. id; member_id = λ id. id; method_id = ids i; param_ids = (program_ids Q).param_ids };
          header = header i;
          class = class;
          params = params;
          in_constructor = in_constructor;
        }

    asks-standing : (asked : Asked) → IsGoodAsked P asked → AsksStanding (program_view P) asked
    asks-standing (field_asked type name) good = value-stands P Q twins type good
    asks-standing (method_asked type name arity) good = value-stands P Q twins type good
    asks-standing asked good = tt {0}

    pub answered-alike : (locals : Locals Id) (asked : Asked) → IsGoodAsked P asked → answer here locals asked ≡ answer there locals asked
    answered-alike locals asked asks =
        answer-same here (superclass_at Q) (superclass-same P Q twins) (class-has P class good) (programs_viewed.ordered P) same_id-own
        (own-stands imports) locals asked (asks-standing asked asks)
        ∙ ap (λ (r : Reader Id Id). answer r locals asked) stepped

    pub variables-alike : (locals : Locals Id) (name : Name)
        → variable here.view (place_of here locals) name ≡ variable there.view (place_of there locals) name
    variables-alike locals name =
        variables-same (program_view P) (superclass_at Q) (superclass-same P Q twins) (place_of here locals) name (class-has P class good)
        ∙ ap (λ (r : Reader Id Id). variable r.view (place_of r locals) name) stepped

    pub declarations-alike : (method : Id) (name : Name) (arity : ℕ)
        → is_declaration_of here method (method_from here.view class name arity)
        ≡ is_declaration_of there method (method_from there.view class name arity)
    declarations-alike method name arity =
        ap (is_declaration_of here method)
        (view-methods-same (program_view P) (superclass_at Q) (superclass-same P Q twins) class name arity (class-has P class good))
        ∙ ap (λ (r : Reader Id Id). is_declaration_of r method (method_from r.view class name arity)) stepped

  -- where the names of a cell are read
  pub reader-form : (imports : Names) (at : Cell) → lives P at.id ≡ true → (params : List (Parameter Id)) × (in_constructor : Bool)
      × (cell_reader P imports class at ≡ reader_of P imports class params in_constructor)
      × (cell_reader Q imports class at ≡ reader_of Q imports class params in_constructor)
  reader-form imports at living = by (get P.known at.id) refl where
    alone : (known : Known) → get P.known at.id ≡ Some known → entity_in (Some known) ≡ Some known
        → ((program : Program) → reader_as program imports class (Some known) ≡ reader_of program imports class [] false)
        → (params : List (Parameter Id)) × (in_constructor : Bool)
        × (cell_reader P imports class at ≡ reader_of P imports class params in_constructor)
        × (cell_reader Q imports class at ≡ reader_of Q imports class params in_constructor)
    alone known is entity same = (
      [],
      false,
      ap (reader_as P imports class) is ∙ same P,
      ap (reader_as Q imports class) (also-known P Q twins.alike.knows at.id known is entity) ∙ same Q,
    )

    by : (o : Option Known) → get P.known at.id ≡ o → (params : List (Parameter Id)) × (in_constructor : Bool)
        × (cell_reader P imports class at ≡ reader_of P imports class params in_constructor)
        × (cell_reader Q imports class at ≡ reader_of Q imports class params in_constructor)
    by None is = absurd (true≢false (sym living ∙ ap (lives_as P at.id) is))
    by (Some knowns.Class) is = alone knowns.Class is refl (λ program. refl)
    by (Some (knowns.Method kind)) is = alone (knowns.Method kind) is refl (λ program. refl)
    by (Some knowns.Field) is = alone knowns.Field is refl (λ program. refl)
    by (Some (knowns.Param method)) is = (
      [],
      false,
      ap (reader_as P imports class) is,
      ap (reader_as Q imports class) (listed-same P Q twins.alike at.id method is living).1,
    )
    by (Some (knowns.Decl method)) is =
        let alive = sym (ap (lives_as P at.id) is) ∙ living in
        let params = params-same P Q twins.alike method (method-lives P Q twins.alike at.id method is alive) in
        let kinds = known-same P Q twins.alike kind_in (λ own. refl) method in (
          map parameter_in (params_at P method),
          is_constructor (kind_in (get P.known method)),
          ap (reader_as P imports class) is,
          ap (reader_as Q imports class) (also-known P Q twins.alike.knows at.id (knowns.Decl method) is refl)
              ∙ (λ i. reader_of Q imports class (map parameter_in (sym params i)) (is_constructor (sym kinds i))),
        )
