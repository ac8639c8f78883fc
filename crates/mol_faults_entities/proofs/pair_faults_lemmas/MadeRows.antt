-- Rows that are made of what is known, each by its identity.
use Rattle.std.proofs.Common.{◌≡◌, ℕ, ◌+◌, ◌<◌, List, [], ◌∷◌, ◌++◌, length, get_or, take, map, Option, Some, None, option_map, is_some, Contains, filter_map, refl, sym, ◌∙◌, ap, subst, true, IsPermutation}
use Rattle.std.specs.FinMap.{get}
use Rattle.std.specs.List.{cons_option}
use Rattle.std.specs.Option.{option_to_list}
use Rattle.std.proofs.lemmas.List.{map-append, take_more}
use Rattle.std.proofs.lemmas.List.Elements.{filter_map-append}
use Rattle.std.proofs.lemmas.List.Sorted.{Contains-permutation, IsPermutation-map, IsPermutation-sym}
use Rattle.mol_base.specs.declared.ident.Id.{Id}
use Rattle.mol_faults_entities.specs.pair_faults.MadeRows.{AreMade}
use Rattle.mol_resolve_rules.proofs.Stands.{from_some, in_some}
use Rattle.mol_table_rules.specs.Identities.{AreKnown}
use Rattle.mol_table_rules.specs.Program.{Program}

-- Rows are made of identities that are known, and name them.
pub record IsMaking {R : Type 0} (program : Program) (id_of : R → Id) (made : Id → Option R) : Type 0 where
  pub own : (id : Id) (row : R) → made id ≡ Some row → id_of row ≡ id
  pub known : (id : Id) (row : R) → made id ≡ Some row → is_some (get program.known id) ≡ true

module _ {R : Type 0} (program : Program) (id_of : R → Id) (made : Id → Option R) (making : IsMaking program id_of made) where
  pub rows-made : (ids : List Id) → AreKnown program ids → (rows : List R) → rows ≡ filter_map made ids → AreMade id_of made rows
  rows-made ids known rows are row = (to, from) where
    to : Contains rows row → made (id_of row) ≡ Some row
    to stands =
        let found = from_some made ids row (subst (λ rs. Contains rs row) are stands) in
        ap made (making.own found.0 row found.2) ∙ found.2

    from : made (id_of row) ≡ Some row → Contains rows row
    from is = subst (λ rs. Contains rs row) (sym are)
        (in_some made ids (id_of row) row ((known (id_of row)).1 (making.known (id_of row) row is)) is)

module _ {X R : Type 0} (seen : X → R) (made : Id → Option R) (ids : List Id) (i : ℕ) (id : Id) (within : i < length ids)
    (is : id ≡ get_or ids i id) where
  -- one more
  pub rows-more : (before after : List X) (row : Option X) → map seen before ≡ filter_map made (take i ids)
      → option_map seen row ≡ made id → after ≡ before ++ option_to_list row → map seen after ≡ filter_map made (take (i + 1) ids)
  rows-more before after row are same grown =
      ap (map seen) grown ∙ map-append seen before (option_to_list row)
      ∙ (λ k. are k ++ (alone row ∙ ap (λ (o : Option R). cons_option o []) (same ∙ ap made is)) k)
      ∙ sym (ap (filter_map made) (take_more ids i id within) ∙ filter_map-append made (take i ids) (get_or ids i id ∷ [])) where
        alone : (o : Option X) → map seen (option_to_list o) ≡ cons_option (option_map seen o) []
        alone None = refl
        alone (Some x) = refl

module _ {X R : Type 0} (seen : X → R) (id_of : R → Id) (made : Id → Option R) where
  -- the same rows in another order
  pub rows-moved : (before after : List X) → IsPermutation before after → AreMade id_of made (map seen before)
      → AreMade id_of made (map seen after)
  rows-moved before after moved are row =
      let there : IsPermutation (map seen before) (map seen after) = IsPermutation-map seen before after moved in (
        λ stands. (are row).0 (Contains-permutation (map seen after) (map seen before) row
            (IsPermutation-sym (map seen before) (map seen after) there) stands),
        λ is. Contains-permutation (map seen before) (map seen after) row there ((are row).1 is),
      )
