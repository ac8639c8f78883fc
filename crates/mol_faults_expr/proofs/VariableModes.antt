-- Whether a name reads as a variable does not depend on what follows it after dots.
use Rattle.std.proofs.Common.{◌≡◌, ℕ, false, Option, None, Some, refl, sym, ◌∙◌}
use Rattle.jav_names.specs.DottedNames.{Name, Names}
use Rattle.jav_names.specs.Leftmost.{Leftmost}
use Rattle.jav_names.specs.LookUps.{class_or_outside, fewest, leftmost_type, simple_type, variable, variable_or}
use Rattle.jav_names.specs.Types.{TypeReading, class_read, imported, written, no_type}
use Rattle.jav_names.specs.Variables.{Variable}
use Rattle.jav_names.specs.Views.{Classes, Found, found, outside, not_found}
use Rattle.mol_scope.specs.asked.Answers.{is_answer}
use Rattle.mol_base.specs.declared.ident.Id.{Id}
use Rattle.mol_spell_rules.specs.references.References.{Target, class_target, field_target, outside_target}
use Rattle.mol_resolve_rules.specs.Locals.{Locals}
use Rattle.mol_resolve_rules.specs.Readers.{Reader, place_of}
use Rattle.mol_spell_rules.specs.Answers.{answer, before_answer, name_answer}
use Rattle.mol_spell_rules.specs.Writers.{name_asked, name_before_asked}

-- no class is this, and nothing outside
pub record IsVariable (target : Target) : Type 0 where
  pub no_class : (class : Id) → is_answer target (Some (class_target class)) ≡ false
  pub not_outside : (text : Name) → is_answer target (Some (outside_target text)) ≡ false

pub field-variable : (id : Id) → IsVariable (field_target id)
field-variable id = record { no_class = λ class. refl; not_outside = λ text. refl }

module _ (reader : Reader Id Id) (locals : Locals Id) (target : Target) (is : IsVariable target) (name : Name) where
  -- a type is no variable
  no-type : (classes : Classes Id) (rest : Names) (read : TypeReading Id)
      → is_answer target (before_answer reader locals name (leftmost_type {M = Id} classes name rest read)) ≡ false
  no-type classes rest (class_read class) = is.no_class (reader.ids.class_id class)
  no-type classes rest (imported import more) = is.not_outside import
  no-type classes rest (written text) = by (fewest classes name rest) where
    by : (o : Option (Id × ℕ)) → is_answer target (before_answer reader locals name (class_or_outside {M = Id} o)) ≡ false
    by None = is.not_outside name
    by (Some class) = is.no_class (reader.ids.class_id class.0)
  no-type classes rest no_type = is.not_outside name

  pub reads-alike : (follow : Names) → is_answer target (answer reader locals (name_asked name))
      ≡ is_answer target (answer reader locals (name_before_asked name follow))
  reads-alike follow = by (variable reader.view (place_of reader locals) name) where
    read : TypeReading Id
    read = simple_type reader.view.classes (place_of reader locals).header name

    otherwise : Leftmost Id Id
    otherwise = leftmost_type reader.view.classes name follow read

    by : (v : Found (Variable Id Id)) → is_answer target (name_answer reader locals name v)
        ≡ is_answer target (before_answer reader locals name (variable_or v otherwise))
    by (found v) = refl
    by outside = is.not_outside name ∙ sym (no-type reader.view.classes follow read)
    by not_found = sym (no-type reader.view.classes follow read)
