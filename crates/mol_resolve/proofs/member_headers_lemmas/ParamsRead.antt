-- Parameters, read one after the other.
use Rattle.std.proofs.Common.{◌≡◌, ℕ, ◌+◌, ◌<◌, List, [], ◌∷◌, ◌++◌, map, take, length, min, get_or, Option, option_map, refl, sym, ◌∙◌, ap, subst, arith}
use Rattle.std.specs.List.{zip}
use Rattle.std.specs.Option.{option_zip}
use Rattle.std.proofs.lemmas.List.{map_push, take_all, take_more}
use Rattle.std.proofs.lemmas.Slice.Zip.{get_or-zip, length-zip}
use Rattle.jav_tree.specs.declared.unit.Param.{Param}
use Rattle.jav_names.specs.UnitViews.{MemberKey}
use Rattle.mol_base.specs.declared.ident.Id.{Id}
use Rattle.mol_resolve_expr.proofs.Outcomes.{both_read, made_read}
use Rattle.mol_resolve_expr.proofs.Several.{all_more}
use Rattle.mol_resolve_entities.specs.member_entities.Headings.{all_read, listed_as, param_read, put_last}
use Rattle.mol_resolve_readings.specs.reads.Reads.{Reads}
use Rattle.mol_resolve_rules.specs.Outcomes.{TreeFault, all, both, mapped}
use Rattle.mol_resolve_rules.specs.ReadTypes.{ReadType, read_type}
use Rattle.mol_resolve_rules.specs.Readers.{Reader}
use Rattle.mol_values_types.specs.declared.param.Param.{Param as Listed}

module _ (reader : Reader ℕ MemberKey) (at : ℕ) (ids : List Id) (params : List Param) where
  abbrev pairs : List (Id × Param)
  pairs = zip ids params

  -- so many of them
  abbrev pub so_many : ℕ → Option (List Listed) → Option TreeFault → Option TreeFault → Type 0
  so_many count list before after = Reads (all (map (param_read reader at) (take count pairs))) list before after

  pub one-read : (i : ℕ) (id : Id) (param : Param) → i < length ids → i < length params → id ≡ get_or ids i id
      → param ≡ get_or params i param → (list longer : Option (List Listed)) (value : Option (ReadType ℕ))
      (before middle after : Option TreeFault) → so_many i list before middle → Reads (read_type reader at param.ty) value middle after
      → longer ≡ option_map put_last (option_zip list (option_map (listed_as id param) value)) → so_many (i + 1) longer before after
  one-read i id param in_ids in_params id_is param_is list longer value before middle after first next is =
      let item : Option Listed = option_map (listed_as id param) value in
      let further : take (i + 1) pairs ≡ take i pairs ++ (id, param) ∷ [] =
      take_more pairs i (id, param) (omega (arith, length-zip ids params, in_ids, in_params))
      ∙ ap (λ pair. take i pairs ++ pair ∷ [])
      (get_or-zip ids params i (id, param) in_ids in_params ∙ (λ j. (sym id_is j, sym param_is j))) in
      let same : all (map (param_read reader at) (take (i + 1) pairs))
      ≡ mapped put_last (both (all (map (param_read reader at) (take i pairs))) (param_read reader at (id, param))) =
      ap all (ap (map (param_read reader at)) further ∙ map_push (param_read reader at) (take i pairs) (id, param))
      ∙ all_more (map (param_read reader at) (take i pairs)) (param_read reader at (id, param)) in
      subst (λ outcome. Reads outcome longer before after) (sym same)
      (made_read put_last (both (all (map (param_read reader at) (take i pairs))) (param_read reader at (id, param)))
      (option_zip list item) longer before after
      (both_read (all (map (param_read reader at) (take i pairs))) (param_read reader at (id, param)) list item before middle after first
      (made_read (listed_as id param) (read_type reader at param.ty) value item middle after next refl)) is)

  pub whole-read : (count : ℕ) → count ≡ min (length ids) (length params) → (list : Option (List Listed)) (before after : Option TreeFault)
      → so_many count list before after → Reads (all_read ids reader at params) list before after
  whole-read count is list before after read =
      subst (λ taken. Reads (all (map (param_read reader at) taken)) list before after)
      (take_all count pairs (omega (arith, is, length-zip ids params))) read
