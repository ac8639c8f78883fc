-- Renumbering keeps the forms of values, and renames what they mention.
use Rattle.std.specs.Prelude.{◌≡◌, Bool, true, false, ◌&&◌, ◌||◌, not, nat_le, List, [], ◌∷◌, map, Option, None, Some, option_map}
use Rattle.std.proofs.Common.{refl, sym, ap, ◌∙◌, true≢false}
use Rattle.std.proofs.lemmas.List.{length-map}
use Rattle.std.specs.List.{flat_map, list_all, list_any}
use Rattle.mol_base.specs.declared.ident.Id.{Id}
use Rattle.mol_table_rules.specs.Forms.{is_param, differ, are_params, is_formed}
use Rattle.mol_table_rules.specs.Life.{lives}
use Rattle.mol_table_rules.specs.Mentions.{Mention, a_listed_param, named, type_mentions, maybe_mentions, param_mentions, mentions, parent_mentions}
use Rattle.mol_table_rules.specs.Program.{Program, same_id, params_in}
use Rattle.mol_values_types.specs.Renamed.{rename_type, rename_expr, rename_param, rename_value, rename_known}
use Rattle.mol_table_rules.specs.Renumber.{numbered, renumber}
use Rattle.mol_values_types.specs.TokenForms.{is_name, is_filler}
use Rattle.mol_values_types.specs.declared.itype.IType.{IType}
use Rattle.mol_values_types.specs.declared.kind.MethodKind.TheVariants.{Instance, Static, Constructor}
use Rattle.mol_values_types.specs.declared.known.Known.{Known}
use Rattle.mol_values_types.specs.declared.known.Known.TheVariants as knowns
use Rattle.mol_values_types.specs.declared.param.Param.{Param}
use Rattle.mol_values_types.specs.declared.value.Value.{Value}
use Rattle.mol_values_types.specs.declared.value.Value.TheVariants as values
use Rattle.mol_table_rules.proofs.Living.{id_tied, same_id-own}
use Rattle.mol_table_numbers.proofs.RenamedExpressions.{rename_mention, join, type-kept, void-kept, result-kept, type-mentions}
use Rattle.mol_table_numbers.proofs.RenamedBlocks.{maybe-initial, maybe-mentioned, body-kept, body-mentioned}
use Rattle.mol_table_numbers.proofs.RenamedValues.{and-both, and-of, parent-kept}

module _ (program : Program) (apart : (a b : Id) → lives program a ≡ true → lives program b ≡ true → numbered program a ≡ numbered program b → a ≡ b) where
  abbrev g : Id → Id
  g = numbered program

  abbrev new : Program
  new = renumber program

  -- ---- lists of parameters

  abbrev pub Live : List Param → Type 0
  Live params = list_all (λ (param : Param). lives program param.id) params ≡ true

  abbrev pub LiveIds : List Id → Type 0
  LiveIds ids = list_all (lives program) ids ≡ true

  pub same-kept : (a b : Id) → lives program a ≡ true → lives program b ≡ true → same_id (g a) (g b) ≡ same_id a b
  same-kept a b a-lives b-lives = at (same_id a b) refl where
    apart-new : same_id a b ≡ false → (c : Bool) → same_id (g a) (g b) ≡ c → same_id (g a) (g b) ≡ false
    apart-new e true same = absurd (true≢false (sym (same_id-own a) ∙ ap (same_id a) (apart a b a-lives b-lives (id_tied (g a) (g b) same)) ∙ e))
    apart-new e false same = same

    at : (c : Bool) → same_id a b ≡ c → same_id (g a) (g b) ≡ same_id a b
    at true e = ap (λ x. same_id (g x) (g b)) (id_tied a b e) ∙ same_id-own (g b) ∙ sym e
    at false e = apart-new e _ refl ∙ sym e

  pub any-kept : (id : Id) (ids : List Id) → lives program id ≡ true → LiveIds ids → list_any (same_id (g id)) (map g ids) ≡ list_any (same_id id) ids
  any-kept id [] live all = refl
  any-kept id (x ∷ xs) live all = let parts = and-both _ _ all in λ i. same-kept id x live parts.0 i || any-kept id xs live parts.1 i

  pub differ-kept : (ids : List Id) → LiveIds ids → differ (map g ids) ≡ differ ids
  differ-kept [] all = refl
  differ-kept (x ∷ xs) all = let parts = and-both _ _ all in λ i. not (any-kept x xs parts.0 parts.1 i) && differ-kept xs parts.1 i

  pub one-kept : (param : Param) → is_param (rename_param g param) ≡ is_param param
  one-kept param = λ i. is_name param.name && type-kept g param.ty i && is_filler param.filler

  pub all-kept : (params : List Param) → list_all is_param (map (rename_param g) params) ≡ list_all is_param params
  all-kept [] = refl
  all-kept (param ∷ params) = λ i. one-kept param i && all-kept params i

  pub ids-kept : (params : List Param) → map (λ (param : Param). param.id) (map (rename_param g) params) ≡ map g (map (λ (param : Param). param.id) params)
  ids-kept [] = refl
  ids-kept (param ∷ params) = λ i. g param.id ∷ ids-kept params i

  pub live-ids : (params : List Param) → Live params → LiveIds (map (λ (param : Param). param.id) params)
  live-ids [] all = refl
  live-ids (param ∷ params) all = let parts = and-both _ _ all in and-of _ _ parts.0 (live-ids params parts.1)

  pub params-kept : (params : List Param) → Live params → are_params (map (rename_param g) params) ≡ are_params params
  params-kept params all = λ i. all-kept params i && nat_le (length-map params (rename_param g) i) 255 && (ap differ (ids-kept params) ∙ differ-kept (map (λ (param : Param). param.id) params) (live-ids params all)) i

  abbrev pub AreLive : Value → Type 0
  AreLive v = Live (params_in (Some v))

  pub formed-kept : (known : Known) (v : Value) → AreLive v → is_formed (rename_known g known) (rename_value g v) ≡ is_formed known v
  formed-kept knowns.Class (values.Live x) live = refl
  formed-kept (knowns.Method Instance) (values.Live x) live = refl
  formed-kept (knowns.Method Static) (values.Live x) live = refl
  formed-kept (knowns.Method Constructor) (values.Live x) live = refl
  formed-kept (knowns.Decl method) (values.Live x) live = refl
  formed-kept knowns.Field (values.Live x) live = refl
  formed-kept (knowns.Param method) (values.Live x) live = refl
  formed-kept knowns.Class (values.Package x) live = refl
  formed-kept (knowns.Method Instance) (values.Package x) live = refl
  formed-kept (knowns.Method Static) (values.Package x) live = refl
  formed-kept (knowns.Method Constructor) (values.Package x) live = refl
  formed-kept (knowns.Decl method) (values.Package x) live = refl
  formed-kept knowns.Field (values.Package x) live = refl
  formed-kept (knowns.Param method) (values.Package x) live = refl
  formed-kept knowns.Class (values.Owner x) live = refl
  formed-kept (knowns.Method Instance) (values.Owner x) live = refl
  formed-kept (knowns.Method Static) (values.Owner x) live = refl
  formed-kept (knowns.Method Constructor) (values.Owner x) live = refl
  formed-kept (knowns.Decl method) (values.Owner x) live = refl
  formed-kept knowns.Field (values.Owner x) live = refl
  formed-kept (knowns.Param method) (values.Owner x) live = refl
  formed-kept knowns.Class (values.Method x) live = refl
  formed-kept (knowns.Method Instance) (values.Method x) live = refl
  formed-kept (knowns.Method Static) (values.Method x) live = refl
  formed-kept (knowns.Method Constructor) (values.Method x) live = refl
  formed-kept (knowns.Decl method) (values.Method x) live = refl
  formed-kept knowns.Field (values.Method x) live = refl
  formed-kept (knowns.Param method) (values.Method x) live = refl
  formed-kept knowns.Class (values.Name x) live = refl
  formed-kept (knowns.Method Instance) (values.Name x) live = refl
  formed-kept (knowns.Method Static) (values.Name x) live = refl
  formed-kept (knowns.Method Constructor) (values.Name x) live = refl
  formed-kept (knowns.Decl method) (values.Name x) live = refl
  formed-kept knowns.Field (values.Name x) live = refl
  formed-kept (knowns.Param method) (values.Name x) live = refl
  formed-kept knowns.Class (values.Super x) live = parent-kept program apart x
  formed-kept (knowns.Method Instance) (values.Super x) live = parent-kept program apart x
  formed-kept (knowns.Method Static) (values.Super x) live = parent-kept program apart x
  formed-kept (knowns.Method Constructor) (values.Super x) live = parent-kept program apart x
  formed-kept (knowns.Decl method) (values.Super x) live = parent-kept program apart x
  formed-kept knowns.Field (values.Super x) live = parent-kept program apart x
  formed-kept (knowns.Param method) (values.Super x) live = parent-kept program apart x
  formed-kept knowns.Class (values.Result x) live = result-kept g x
  formed-kept (knowns.Method Instance) (values.Result x) live = result-kept g x
  formed-kept (knowns.Method Static) (values.Result x) live = result-kept g x
  formed-kept (knowns.Method Constructor) (values.Result x) live = void-kept g x
  formed-kept (knowns.Decl method) (values.Result x) live = result-kept g x
  formed-kept knowns.Field (values.Result x) live = result-kept g x
  formed-kept (knowns.Param method) (values.Result x) live = result-kept g x
  formed-kept knowns.Class (values.Params x) live = params-kept x live
  formed-kept (knowns.Method Instance) (values.Params x) live = params-kept x live
  formed-kept (knowns.Method Static) (values.Params x) live = params-kept x live
  formed-kept (knowns.Method Constructor) (values.Params x) live = params-kept x live
  formed-kept (knowns.Decl method) (values.Params x) live = params-kept x live
  formed-kept knowns.Field (values.Params x) live = params-kept x live
  formed-kept (knowns.Param method) (values.Params x) live = params-kept x live
  formed-kept knowns.Class (values.Kind x) live = refl
  formed-kept (knowns.Method Instance) (values.Kind x) live = refl
  formed-kept (knowns.Method Static) (values.Kind x) live = refl
  formed-kept (knowns.Method Constructor) (values.Kind x) live = refl
  formed-kept (knowns.Decl method) (values.Kind x) live = refl
  formed-kept knowns.Field (values.Kind x) live = refl
  formed-kept (knowns.Param method) (values.Kind x) live = refl
  formed-kept knowns.Class (values.Fixed x) live = refl
  formed-kept (knowns.Method Instance) (values.Fixed x) live = refl
  formed-kept (knowns.Method Static) (values.Fixed x) live = refl
  formed-kept (knowns.Method Constructor) (values.Fixed x) live = refl
  formed-kept (knowns.Decl method) (values.Fixed x) live = refl
  formed-kept knowns.Field (values.Fixed x) live = refl
  formed-kept (knowns.Param method) (values.Fixed x) live = refl
  formed-kept knowns.Class (values.Words x) live = refl
  formed-kept (knowns.Method Instance) (values.Words x) live = refl
  formed-kept (knowns.Method Static) (values.Words x) live = refl
  formed-kept (knowns.Method Constructor) (values.Words x) live = refl
  formed-kept (knowns.Decl method) (values.Words x) live = refl
  formed-kept knowns.Field (values.Words x) live = refl
  formed-kept (knowns.Param method) (values.Words x) live = refl
  formed-kept knowns.Class (values.Notes x) live = refl
  formed-kept (knowns.Method Instance) (values.Notes x) live = refl
  formed-kept (knowns.Method Static) (values.Notes x) live = refl
  formed-kept (knowns.Method Constructor) (values.Notes x) live = refl
  formed-kept (knowns.Decl method) (values.Notes x) live = refl
  formed-kept knowns.Field (values.Notes x) live = refl
  formed-kept (knowns.Param method) (values.Notes x) live = refl
  formed-kept knowns.Class (values.Body x) live = body-kept g x
  formed-kept (knowns.Method Instance) (values.Body x) live = body-kept g x
  formed-kept (knowns.Method Static) (values.Body x) live = body-kept g x
  formed-kept (knowns.Method Constructor) (values.Body x) live = body-kept g x
  formed-kept (knowns.Decl method) (values.Body x) live = body-kept g x
  formed-kept knowns.Field (values.Body x) live = body-kept g x
  formed-kept (knowns.Param method) (values.Body x) live = body-kept g x
  formed-kept knowns.Class (values.Value ty init) live = λ i. type-kept g ty i && maybe-initial g init i
  formed-kept (knowns.Method Instance) (values.Value ty init) live = λ i. type-kept g ty i && maybe-initial g init i
  formed-kept (knowns.Method Static) (values.Value ty init) live = λ i. type-kept g ty i && maybe-initial g init i
  formed-kept (knowns.Method Constructor) (values.Value ty init) live = λ i. type-kept g ty i && maybe-initial g init i
  formed-kept (knowns.Decl method) (values.Value ty init) live = λ i. type-kept g ty i && maybe-initial g init i
  formed-kept knowns.Field (values.Value ty init) live = λ i. type-kept g ty i && maybe-initial g init i
  formed-kept (knowns.Param method) (values.Value ty init) live = λ i. type-kept g ty i && maybe-initial g init i

  -- ---- what values mention

  pub parent-mentions : (o : Option IType) → parent_mentions (option_map (rename_type g) o) ≡ map (rename_mention g) (parent_mentions o)
  parent-mentions None = refl
  parent-mentions (Some ty) = type-mentions g ty

  abbrev pub all_params : List Param → List Mention
  all_params params = flat_map param_mentions params

  pub params-mentions : (params : List Param) → all_params (map (rename_param g) params) ≡ map (rename_mention g) (all_params params)
  params-mentions [] = refl
  params-mentions (param ∷ params) =
      join g (param_mentions param) (all_params params) (param_mentions (rename_param g param)) (all_params (map (rename_param g) params))
      (join g (named a_listed_param param.id) (type_mentions param.ty) (named a_listed_param (g param.id)) (type_mentions (rename_type g param.ty)) refl (type-mentions g param.ty)) (params-mentions params)

  pub mentions-kept : (v : Value) → mentions (rename_value g v) ≡ map (rename_mention g) (mentions v)
  mentions-kept (values.Live x) = refl
  mentions-kept (values.Package x) = refl
  mentions-kept (values.Owner x) = refl
  mentions-kept (values.Method x) = refl
  mentions-kept (values.Name x) = refl
  mentions-kept (values.Super x) = parent-mentions x
  mentions-kept (values.Result x) = type-mentions g x
  mentions-kept (values.Params x) = params-mentions x
  mentions-kept (values.Kind x) = refl
  mentions-kept (values.Fixed x) = refl
  mentions-kept (values.Words x) = refl
  mentions-kept (values.Notes x) = refl
  mentions-kept (values.Body x) = body-mentioned g x
  mentions-kept (values.Value ty init) = join g (type_mentions ty) (maybe_mentions init) (type_mentions (rename_type g ty)) (maybe_mentions (option_map (rename_expr g) init)) (type-mentions g ty) (maybe-mentioned g init)
