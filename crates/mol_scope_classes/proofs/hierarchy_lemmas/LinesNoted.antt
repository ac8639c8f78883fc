-- The last class of a line is given a place below that of what it extends.
use Rattle.std.proofs.Common.{◌≡◌, ◌⊎◌, inl, inr, ℕ, Bool, true, false, cond, ◌||◌, List, [], ◌∷◌, ◌++◌, length, Option, Some, None, Contains, refl, sym, ◌∙◌, ap, subst, true≢false}
use Rattle.std.specs.Cmp.{eq_by_cmp_equiv}
use Rattle.std.specs.List.{list_any}
use Rattle.std.proofs.lemmas.List.Elements.{Contains-append_left, Contains-push}
use Rattle.std.proofs.lemmas.Map.Views.{list_any-from_Contains}
use Rattle.jav_names.proofs.Lists.{stands_first, stands_where, stands_nowhere}
use Rattle.mol_base.specs.Order.{id_cmp-total}
use Rattle.mol_base.specs.declared.ident.Id.{Id}
use Rattle.mol_table_rules.proofs.Counts.{some-same}
use Rattle.mol_table_rules.proofs.Living.{id_tied}
use Rattle.mol_table_rules.specs.Heights.{upward}
use Rattle.mol_table_rules.specs.Program.{Program, same_id}
use Rattle.mol_scope_classes.specs.hierarchy.Placed.{number_in, ArePlaced, AreNew, IsLine, AddsBelow, Keeps}
use Rattle.mol_table_rules.specs.Heights.{Leads}
use Rattle.mol_scope_classes.specs.declared.hierarchy.place.Place.{Place}
use Rattle.mol_scope_classes.proofs.hierarchy_lemmas.PlacesAdded.{new-number, kept, below-added}
use Rattle.mol_scope_classes.proofs.hierarchy_lemmas.Tops.{leads-front}

module _ (program : Program) (numbers : List (Id × ℕ)) (places : List Place) (class below : Id) (above : ℕ) (keys rest : List Id)
    (same : keys ≡ rest ++ below ∷ []) (apart : list_any (same_id below) rest ≡ false) (line : IsLine program numbers class keys above)
    (new : AreNew numbers keys) (new_numbers : List (Id × ℕ)) (new_places : List Place)
    (adds : AddsBelow numbers places below above new_numbers new_places) where
  bare : AreNew numbers (below ∷ [])
  bare x stands = new x (subst (λ ids. Contains ids x) (sym same) (behind (stands_where below x [] stands))) where
    behind : (below ≡ x) ⊎ Contains [] x → Contains (rest ++ below ∷ []) x
    behind (inl own) = subst (Contains (rest ++ below ∷ [])) own (Contains-push rest below)
    behind (inr none) = absurd (stands_nowhere x none)

  parts : (middle : Option Id) × Leads program (Some class) rest middle × Leads program middle (below ∷ []) (Some line.at)
  parts = leads-front program (Some class) rest (below ∷ []) (Some line.at)
      (subst (λ ids. Leads program (Some class) ids (Some line.at)) same line.leads)

  pub noted-placed : ArePlaced program numbers places → ArePlaced program new_numbers new_places
  noted-placed placed = below-added program numbers places
      (below ∷ []) adds.place new_numbers new_places adds.added bare placed below line.at above refl
      (sym (ap (upward program) parts.2.0) ∙ parts.2.1) line.is adds.below

  pub noted-line : IsLine program new_numbers class rest (length places)
  noted-line = record {
    at = below;
    leads = subst (Leads program (Some class) rest) parts.2.0 parts.1;
    is = new-number program numbers places (below ∷ []) adds.place new_numbers new_places adds.added bare below (stands_first below []);
  }

  pub noted-kept : Keeps numbers new_numbers
  noted-kept = kept program numbers places (below ∷ []) adds.place new_numbers new_places adds.added bare

  pub noted-new : AreNew new_numbers rest
  noted-new x stands = by (same_id x below) refl where
    by : (b : Bool) → same_id x below ≡ b → number_in new_numbers x ≡ None
    by true own = absurd (true≢false (sym (list_any-from_Contains (eq_by_cmp_equiv id_cmp-total) below rest
        (subst (Contains rest) (id_tied x below own) stands)) ∙ apart))
    by false other =
        adds.added.numbered x ∙ ap (λ b. cond (b || false) (Some (length places)) (number_in numbers x)) other
        ∙ new x (subst (λ ids. Contains ids x) (sym same) (Contains-append_left rest (below ∷ []) x stands))

-- the line is through
pub all-noted : (program : Program) (numbers : List (Id × ℕ)) (class : Id) (keys : List Id) (above : ℕ) → keys ≡ []
    → IsLine program numbers class keys above → number_in numbers class ≡ Some above
all-noted program numbers class keys above none line =
    let same : Some class ≡ Some line.at = subst (λ ids. Leads program (Some class) ids (Some line.at)) none line.leads in
    ap (number_in numbers) (some-same class line.at same) ∙ line.is
