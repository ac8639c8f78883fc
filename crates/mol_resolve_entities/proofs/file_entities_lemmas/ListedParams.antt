-- Parameters that are read each with its identity are those that are read together and then listed.
use Rattle.std.proofs.Common.{◌≡◌, ℕ, List, [], ◌∷◌, ◌++◌, map, length, Option, Some, None, option_map, refl, ◌∙◌, ap, arith}
use Rattle.std.specs.List.{zip}
use Rattle.std.specs.Option.{option_zip}
use Rattle.mol_base.specs.declared.ident.Id.{Id}
use Rattle.jav_tree.specs.declared.unit.Param.{Param}
use Rattle.jav_names.specs.UnitViews.{MemberKey}
use Rattle.mol_resolve_laws.proofs.MethodItems.{all-length, zip-length}
use Rattle.mol_resolve_rules.specs.Expected.{listed}
use Rattle.mol_resolve_rules.specs.Outcomes.{put_first}
use Rattle.mol_resolve_rules.specs.ReadFiles.{read_params}
use Rattle.mol_resolve_rules.specs.ReadTypes.{ReadType, read_type}
use Rattle.mol_resolve_rules.specs.Readers.{Reader}
use Rattle.mol_values_types.specs.declared.param.Param.{Param as Listed}
use Rattle.mol_resolve_entities.specs.member_entities.Headings.{all_read, listed_as, param_read}

abbrev pub listed_params : List Id → List Param → List (ReadType ℕ) → List Listed
listed_params ids params read = map listed (zip ids (zip params read))

module _ (reader : Reader ℕ MemberKey) (at : ℕ) where
  pub same-faults : (ids : List Id) (params : List Param) → length ids ≡ length params
      → (all_read ids reader at params).faults ≡ (read_params reader at params).faults
  same-faults [] [] same = refl
  same-faults [] (param ∷ params) same = absurd cc
  same-faults (id ∷ ids) [] same = absurd cc
  same-faults (id ∷ ids) (param ∷ params) same =
      ap (λ faults. (read_type reader at param.ty).faults ++ faults) (same-faults ids params (omega (arith, same)))

  listed-first : (id : Id) (param : Param) (ids : List Id) (params : List Param) (read : Option (ReadType ℕ))
      (rest : Option (List (ReadType ℕ))) (made : Option (List Listed)) → made ≡ option_map (listed_params ids params) rest
      → option_map put_first (option_zip (option_map (listed_as id param) read) made)
      ≡ option_map (listed_params (id ∷ ids) (param ∷ params)) (option_map put_first (option_zip read rest))
  listed-first id param ids params None rest made is = refl
  listed-first id param ids params (Some read) None made is =
      ap (λ made. option_map put_first (option_zip (Some (listed_as id param read)) made)) is
  listed-first id param ids params (Some read) (Some rest) made is =
      ap (λ made. option_map put_first (option_zip (Some (listed_as id param read)) made)) is

  pub listed-value : (ids : List Id) (params : List Param) → length ids ≡ length params
      → (all_read ids reader at params).value ≡ option_map (listed_params ids params) (read_params reader at params).value
  listed-value [] [] same = refl
  listed-value [] (param ∷ params) same = absurd cc
  listed-value (id ∷ ids) [] same = absurd cc
  listed-value (id ∷ ids) (param ∷ params) same =
      listed-first id param ids params (read_type reader at param.ty).value (read_params reader at params).value
      (all_read ids reader at params).value (listed-value ids params (omega (arith, same)))

  -- as many as are declared
  pub listed-length : (ids : List Id) (params : List Param) (list : List Listed) → length ids ≡ length params
      → (all_read ids reader at params).value ≡ Some list → length list ≡ length params
  listed-length ids params list same is =
      all-length (param_read reader at) (zip ids params) list is ∙ zip-length ids params same ∙ same
