-- A program that is tidied once more stays as it is: neither its parameters nor its constructors without parameters have changed.
use Rattle.std.specs.Prelude.{◌≡◌, Bool, true, false, ◌&&◌, List, [], ◌∷◌, Option, None, Some, option_map}
use Rattle.std.proofs.Common.{refl, sym, ap, ◌∙◌, true≢false}
use Rattle.std.specs.List.{find, list_any}
use Rattle.std.specs.Option.{option_map_or}
use Rattle.std.specs.FinMap.{entries, get, keys, same_map}
use Rattle.mol_base.specs.declared.ident.Id.{Id}
use Rattle.mol_table_rules.specs.Forms.{differ}
use Rattle.mol_table_rules.specs.Life.{is_decl_of}
use Rattle.mol_table_rules.specs.Program.{Program, same_id, cell, params_in, params_at, owner_in, owner_at, value_at, living_at}
use Rattle.mol_table_rules.specs.Rules.{IsProgram}
use Rattle.mol_table_rules.specs.Tidy.{tidy_value, is_constructor, is_bare, bare_constructor, tidied, tidy}
use Rattle.mol_values_types.specs.TokenForms.{is_empty}
use Rattle.mol_values_types.specs.declared.cell.Slot.TheVariants as slots
use Rattle.mol_values_types.specs.declared.known.Known.{Known}
use Rattle.mol_values_types.specs.declared.param.Param.{Param}
use Rattle.mol_values_types.specs.declared.value.Value.{Value}
use Rattle.mol_values_types.specs.declared.value.Value.TheVariants as values
use Rattle.mol_table_rules.proofs.CellOrder.{cell_cmp-total, cell_cmp-IsAntisymmetric}
use Rattle.mol_table_rules.proofs.TidyRules.{and-both, found-passes, params-formed, living-kept, tidied-at}
use Rattle.mol_table_rules.proofs.TidiedBlocks.{value-stays}
use Rattle.mol_table_rules.proofs.TidiedExpressions.{ids}

none-listed : (params : List Param) → is_empty params ≡ true → params ≡ []
none-listed [] e = refl
none-listed (param ∷ params) e = absurd (true≢false (sym e))

module _ (program : Program) where
  params-kept : (o : Option Value) → params_in (option_map (tidied program) o) ≡ params_in o
  params-kept None = refl
  params-kept (Some (values.Live x)) = refl
  params-kept (Some (values.Package x)) = refl
  params-kept (Some (values.Owner x)) = refl
  params-kept (Some (values.Method x)) = refl
  params-kept (Some (values.Name x)) = refl
  params-kept (Some (values.Super x)) = refl
  params-kept (Some (values.Result x)) = refl
  params-kept (Some (values.Params x)) = refl
  params-kept (Some (values.Kind x)) = refl
  params-kept (Some (values.Fixed x)) = refl
  params-kept (Some (values.Words x)) = refl
  params-kept (Some (values.Notes x)) = refl
  params-kept (Some (values.Body x)) = refl
  params-kept (Some (values.Value ty init)) = refl

  owner-kept : (o : Option Value) → owner_in (option_map (tidied program) o) ≡ owner_in o
  owner-kept None = refl
  owner-kept (Some (values.Live x)) = refl
  owner-kept (Some (values.Package x)) = refl
  owner-kept (Some (values.Owner x)) = refl
  owner-kept (Some (values.Method x)) = refl
  owner-kept (Some (values.Name x)) = refl
  owner-kept (Some (values.Super x)) = refl
  owner-kept (Some (values.Result x)) = refl
  owner-kept (Some (values.Params x)) = refl
  owner-kept (Some (values.Kind x)) = refl
  owner-kept (Some (values.Fixed x)) = refl
  owner-kept (Some (values.Words x)) = refl
  owner-kept (Some (values.Notes x)) = refl
  owner-kept (Some (values.Body x)) = refl
  owner-kept (Some (values.Value ty init)) = refl

  -- the present parameters of a method, and the owner of an entity, do not change
  present-same : params_at (tidy program) ≡ params_at program
  present-same = λ i method. (ap params_in (tidied-at program (cell method slots.Params)) ∙ params-kept (value_at program method slots.Params)) i

  owner-same : owner_at (tidy program) ≡ owner_at program
  owner-same = λ i id. (ap owner_in (tidied-at program (cell id slots.Owner)) ∙ owner-kept (value_at program id slots.Owner)) i

  living-same : living_at (tidy program) ≡ living_at program
  living-same = λ i id. living-kept program id i

  -- nor does the least living constructor without parameters
  bare-same : bare_constructor (tidy program) ≡ bare_constructor program
  bare-same = λ i class.
      let declares : Id → Id × Known → Bool = λ method entry. is_decl_of method entry.1 && living-same i entry.0 && option_map_or (same_id class) (owner-same i entry.0) false in
      find (λ method. is_constructor (get program.known method) && is_empty (present-same i method) && list_any (declares method) (entries program.known)) (keys program.known)

  module _ (rules : IsProgram program) where
    params-differ : (method : Id) → differ (ids (params_at program method)) ≡ true
    params-differ method = (and-both _ _ (params-formed program rules method)).1

    bare-plain : (class constructor : Id) → bare_constructor program class ≡ Some constructor → params_at program constructor ≡ []
    bare-plain class constructor is =
        none-listed (params_at program constructor) (and-both _ _ (and-both _ _ (found-passes (is_bare program class) (keys program.known) constructor is)).0).1

    again : (value : Value) → tidied (tidy program) (tidied program value) ≡ tidied program value
    again value =
        (λ i. tidy_value (present-same i) (bare-same i) (tidied program value))
        ∙ value-stays (params_at program) (bare_constructor program) params-differ bare-plain value

    maybe-again : (o : Option Value) → option_map (tidied (tidy program)) (option_map (tidied program) o) ≡ option_map (tidied program) o
    maybe-again None = refl
    maybe-again (Some value) = ap Some (again value)

    -- what is tidied stays as it is
    pub tidy-tidy : tidy (tidy program) ≡ tidy program
    tidy-tidy =
        let same : (tidy (tidy program)).cells ≡ (tidy program).cells = same_map cell_cmp-total cell_cmp-IsAntisymmetric _ _ (λ at.
        tidied-at (tidy program) at ∙ ap (option_map (tidied (tidy program))) (tidied-at program at) ∙ maybe-again (get program.cells at) ∙ sym (tidied-at program at)) in
        λ i. record { cells = same i; known = program.known }
