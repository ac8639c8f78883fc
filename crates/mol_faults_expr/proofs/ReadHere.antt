-- What is read at the place where it is written.
use Rattle.std.proofs.Common.{◌≡◌, ℕ, Bool, true, false, [], Option, None, Some, refl, sym, ◌∙◌, ap, subst, slice_get, if◌then◌else◌}
use Rattle.std.proofs.lemmas.Option.{slice_get-map}
use Rattle.std.specs.Option.{option_map, option_map_or}
use Rattle.jav_names.proofs.CutNames.{names_cut}
use Rattle.jav_names.specs.DottedNames.{cut}
use Rattle.jav_names.specs.OnValues.{StaticType, mixed_value}
use Rattle.jav_names.specs.StaticTypes.{of_type}
use Rattle.mol_scope.specs.asked.Places.{IsAt, reader_of}
use Rattle.mol_scope.specs.declared.asked.place.NamePlace.{NamePlace}
use Rattle.mol_base.specs.declared.ident.Id.{Id}
use Rattle.mol_spell_places.specs.body_locals.Kept.{Kept, local_of, locals_of}
use Rattle.mol_spell_places.specs.declared.body_locals.body_local.BodyLocal.{BodyLocal}
use Rattle.mol_faults_expr.specs.Names.{local_value}
use Rattle.mol_faults_expr.specs.Paths.{names_of}
use Rattle.mol_faults_expr.specs.Places.{AreReadAt}
use Rattle.mol_faults_expr.specs.Readings.{reads_as}
use Rattle.mol_faults_expr.specs.declared.spelled.Spelled.{Spelled}
use Rattle.mol_faults_names.specs.Kept.{locals_at, reader_at, IsPlace}
use Rattle.mol_faults_names.specs.declared.place.InsteadPlace.{InsteadPlace}
use Rattle.mol_spell_rules.specs.references.References.{Target}
use Rattle.mol_resolve_rules.specs.Locals.{Local, Locals}
use Rattle.mol_resolve_rules.specs.ProgramViews.{seen}
use Rattle.mol_resolve_rules.specs.Readers.{Reader}
use Rattle.mol_spell_rules.specs.Writers.{Asked, Writer, text_of}

module _ (writer : Writer) (locals : Locals Id) (place : NamePlace) (kept : Kept) (at : AreReadAt writer locals place kept) where
  -- what reads as its target at the place does so where it is written
  pub reads-so : (given target : Target) (reads : Option (Option Target)) (around : Locals Id) (asked shown : Asked)
      → reads ≡ reads_as (reader_of place) around given asked → given ≡ target → asked ≡ shown
      → reads ≡ reads_as writer.reader around target shown
  reads-so given target reads around asked shown is named same =
      is ∙ (λ i. reads_as (sym at.reader i) around (named i) (same i))

  -- the names and numbers of variables there are those of its locals and parameters
  pub is-place : (instead : InsteadPlace) → instead.names.now ≡ place → instead.locals.now ≡ kept → IsPlace instead
  is-place instead names locals = subst (λ (place : NamePlace). IsAt place (locals_of instead.locals.now)) (sym names)
      (subst (λ (kept : Kept). IsAt place (locals_of kept)) (sym locals) (subst (IsAt place) at.locals_are at.at))

  -- so does what reads so beside these locals
  pub reads-there : (instead : InsteadPlace) → instead.names.now ≡ place → instead.locals.now ≡ kept
      → (given target : Target) (reads : Option (Option Target)) (asked shown : Asked)
      → reads ≡ reads_as (reader_at instead) (locals_at instead) given asked → given ≡ target → asked ≡ shown
      → reads ≡ reads_as writer.reader locals target shown
  reads-there instead names are given target reads asked shown is named same =
      is ∙ (λ i. reads_as (reader_of (names i)) (locals_of (are i)) given asked)
      ∙ (λ i. reads_as (sym at.reader i) (sym at.locals_are i) (named i) (same i))

  pub class-is : place.variables.class ≡ writer.reader.class
  class-is = sym (ap (λ (reader : Reader Id Id). reader.class) at.reader)

  -- the static type of a local, if there is one of this number
  pub local-is : (number : ℕ) (local : Option BodyLocal) → local ≡ slice_get kept.declared number
      → option_map_or (λ (local : BodyLocal). of_type (seen local.ty.now)) local mixed_value ≡ local_value writer locals number
  local-is number local is = by local ∙ ap found (ap (option_map local_of) is ∙ sym (slice_get-map local_of kept.declared number)
      ∙ ap (λ (locals : Locals Id). slice_get locals.declared number) (sym at.locals_are))
      ∙ ap (λ type. option_map_or (λ type. of_type type) type mixed_value)
      (sym (slice_get-map (λ (local : Local Id). local.type) locals.declared number)) where
        found : Option (Local Id) → StaticType Id
        found local = option_map_or (λ type. of_type type) (option_map (λ (local : Local Id). local.type) local) mixed_value

        by : (local : Option BodyLocal) → option_map_or (λ (local : BodyLocal). of_type (seen local.ty.now)) local mixed_value
            ≡ found (option_map local_of local)
        by None = refl
        by (Some local) = refl

-- the text of what is spelled
pub text-is : (spelled : Spelled) → spelled.text ≡ text_of (names_of spelled)
text-is spelled = by spelled.is_simple where
  by : (simple : Bool) → spelled.text ≡ text_of (if simple then record { first = spelled.text; rest = [] } else cut spelled.text)
  by true = refl
  by false = sym (names_cut.whole spelled.text)
