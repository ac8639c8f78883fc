-- Facts of programs.
use Rattle.std.specs.Prelude.{◌≡◌, ◌↔◌, ◌+◌, Bool, true, false, cond, ◌||◌, List, [], ◌∷◌, map, Option, Some, is_some, unwrap_or, IsTrue}
use Rattle.std.proofs.Common.{refl, sym, ap, ◌∙◌, arith, true≢false, get_or}
use Rattle.std.specs.List.{list_any, IsDistinct, Contains}
use Rattle.std.specs.List.Sorted.{IsSorted}
use Rattle.std.specs.Cmp.{eq_by_cmp_equiv}
use Rattle.std.specs.Ordering.{eq_by_cmp, is_eq, is_lt, ordering_reverse}
use Rattle.std.specs.declared.cmp.Ordering.{Ordering}
use Rattle.std.specs.declared.cmp.Ordering.TheVariants.{Less, Equal, Greater}
use Rattle.std.specs.FinMap.{empty, entries, get, get-empty, get-from_entries, from_entries, find, len-empty, len-entries}
use Rattle.std.proofs.lemmas.Map.Keys.{apart_from_distinct}
use Rattle.std.proofs.lemmas.Map.Views.{list_any-from_Contains, Contains-from_any}
use Rattle.mol_base.specs.Order.{id_cmp, id_cmp-total}
use Rattle.mol_base.specs.declared.ident.Id.{Id}
use Rattle.mol_table_rules.specs.Counting.{passing, Counted}
use Rattle.mol_table_rules.specs.Identities.{IsAscending}
use Rattle.mol_values_types.specs.Order.{cell_cmp}
use Rattle.mol_table_rules.specs.Program.{nothing, same_id, cell}
use Rattle.mol_table_rules.specs.Rules.{IsProgram}
use Rattle.mol_values_types.specs.Slots.{has_slot}
use Rattle.mol_values_types.specs.declared.known.Known.{Known}
use Rattle.mol_table_rules.proofs.Counts.{none-some}
use Rattle.mol_table_rules.proofs.Living.{id_tied}
use Rattle.mol_values_types.proofs.Lookups.{no_length}

-- ---- the program that knows nothing

pub nothing-IsProgram : IsProgram nothing
nothing-IsProgram = record {
  whole = λ id slot. ap is_some (get-empty cell_cmp (cell id slot)) ∙ ap (λ known. has_slot known slot) (sym (get-empty id_cmp id));
  forms = λ id slot known value is holds. absurd (none-some known (sym (get-empty id_cmp id) ∙ is));
  references = λ id slot value holds. absurd (none-some value (sym (get-empty cell_cmp (cell id slot)) ∙ holds));
  kinds = λ id kind holds. absurd (none-some _ (sym (get-empty cell_cmp (cell id _)) ∙ holds));
  methods = λ id method holds. absurd (none-some _ (sym (get-empty cell_cmp (cell id _)) ∙ holds));
  decls = λ id method is. absurd (none-some _ (sym (get-empty id_cmp id) ∙ is));
  params = λ id method is. absurd (none-some _ (sym (get-empty id_cmp id) ∙ is));
  single = λ method one other kind is many first second. absurd (none-some _ (sym (get-empty id_cmp method) ∙ is));
  declarations = λ id method kind is of. absurd (none-some _ (sym (get-empty id_cmp id) ∙ is));
}

pub no_entries : {K X : Type 0} (R : K → K → Ordering) → entries (empty {X = X} {R = R}) ≡ []
no_entries {X = X} R = no_length (entries (empty {X = X} {R = R})) (sym (len-entries (empty {X = X} {R = R})) ∙ len-empty R X)

pub nothing-Counted : Counted nothing empty
nothing-Counted = record {
  numbers = λ method. ap (λ o. unwrap_or o 0) (get-empty id_cmp method) ∙ sym (ap (passing _) (no_entries {X = Known} id_cmp));
  places = λ method kind is. absurd (none-some _ (sym (get-empty id_cmp method) ∙ is));
}

-- ---- identities in order

pub ascending : (ids : List Id) → IsSorted id_cmp ids → IsDistinct (eq_by_cmp id_cmp) ids → IsAscending ids
ascending ids sorted distinct k d within =
    by _ _ refl refl (sorted k d (omega arith) within) (apart_from_distinct (eq_by_cmp id_cmp) ids k (k + 1) d distinct (omega arith) within)
  where
    by : (o r : Ordering) → id_cmp (get_or ids k d) (get_or ids (k + 1) d) ≡ o → id_cmp (get_or ids (k + 1) d) (get_or ids k d) ≡ r
        → is_lt (id_cmp (get_or ids (k + 1) d) (get_or ids k d)) ≡ false → is_eq (id_cmp (get_or ids k d) (get_or ids (k + 1) d)) ≡ false → id_cmp (get_or ids k d) (get_or ids (k + 1) d) ≡ Less
    by Less r is back after apart = is
    by Equal r is back after apart = absurd (true≢false (ap is_eq (sym is) ∙ apart))
    by Greater r is back after apart = absurd (true≢false (sym (ap is_lt (id_cmp-total.antisymm (get_or ids (k + 1) d) (get_or ids k d) ∙ ap ordering_reverse is)) ∙ after))

-- the keys of entries are what the map of these entries has
any-find : {X : Type 0} (q : Id) (es : List (Id × X)) → list_any (same_id q) (map (λ e. e.0) es) ≡ is_some (find id_cmp q es)
any-find q [] = refl
any-find q (e ∷ es) = any-more (same_id q e.0) _ e.1 (find id_cmp q es) (any-find q es) where
  any-more : {X : Type 0} (b any : Bool) (x : X) (o : Option X) → any ≡ is_some o → (b || any) ≡ is_some (cond b (Some x) o)
  any-more true any x o e = refl
  any-more false any x o e = e

pub keys-known : {X : Type 0} (es : List (Id × X)) (id : Id) → list_any (same_id id) (map (λ e. e.0) es) ≡ is_some (get (from_entries {R = id_cmp} es) id)
keys-known es id = any-find id es ∙ ap is_some (sym (get-from_entries id_cmp-total es id))

pub contains-known : {X : Type 0} (es : List (Id × X)) (id : Id)
    → Contains (map (λ e. e.0) es) id ↔ IsTrue (is_some (get (from_entries {R = id_cmp} es) id))
contains-known es id = (
  λ contained. sym (keys-known es id) ∙ list_any-from_Contains (eq_by_cmp_equiv id_cmp-total) id _ contained,
  λ is. Contains-from_any id_tied id _ (keys-known es id ∙ is),
)
