-- The identities that maps keep in order are those that are known, in their order.
use Rattle.std.specs.Prelude.{◌≡◌, ℕ, ◌+◌, ◌<◌, ◌≤◌, Bool, true, false, ◌&&◌, List, [], ◌∷◌, map, length, Option, None, Some, T}
use Rattle.std.proofs.Common.{suc, refl, sym, ap, subst, ◌∙◌, arith, get_or, true≢false}
use Rattle.std.specs.FinMap.{entries, entries-from_sorted, from_entries, from_sorted, get, get-from_entries, get-from_sorted, is_sorted, same_map}
use Rattle.std.specs.FinMap as finite
use Rattle.std.specs.FinMap.Entries.{below_all}
use Rattle.std.specs.List.{IsDistinct}
use Rattle.std.specs.Ordering.{is_lt}
use Rattle.std.specs.declared.cmp.Ordering.TheVariants.{Less}
use Rattle.mol_base.specs.Order.{id_cmp, id_cmp-total, id_cmp-IsAntisymmetric}
use Rattle.mol_base.specs.declared.ident.Id.{Id}
use Rattle.indexmap.specs.IndexMap.{keys}
use Rattle.mol_table_rules.specs.Counting.{one_if, passing}
use Rattle.mol_table_rules.specs.Life.{lives_as, lives}
use Rattle.mol_table.specs.Maps.{program_in, IsOrdered}
use Rattle.mol_values_types.specs.Order.{id_eq}
use Rattle.mol_table_rules.specs.Program.{Program, same_id, living_at}
use Rattle.mol_table_rules.specs.Renumber.{is_class, is_living_class}
use Rattle.mol_values_types.specs.declared.known.Known.{Known}
use Rattle.mol_values_types.specs.declared.known.Known.TheVariants as knowns
use Rattle.mol_table.specs.declared.maps.Maps.{Maps}
use Rattle.mol_table_numbers.proofs.InOrder.{Adjacent, adjacent, below}
use Rattle.mol_values_types.proofs.Ties.{id_ties}

abbrev ids_of : List (Id × Known) → List Id
ids_of es = map (λ e. e.0) es

and-T : (a b : Bool) → a ≡ true → T b → T (a && b)
and-T true b e t = t
and-T false b e t = absurd (true≢false (sym e))

below-all : (x : Id) (es : List (Id × Known)) → ((j : ℕ) (d : Id) → j < length (ids_of es) → id_cmp x (get_or (ids_of es) j d) ≡ Less) → T (below_all id_cmp x es)
below-all x [] less = tt
below-all x (e ∷ es) less = and-T _ _ (ap is_lt (less 0 x (omega arith))) (below-all x es (λ j d within. less (suc j) d (omega (arith, within))))

in-order : (es : List (Id × Known)) → Adjacent id_cmp id_cmp-total (ids_of es) → T (is_sorted id_cmp es)
in-order [] up = tt
in-order (e ∷ es) up = both (below_all id_cmp e.0 es) (is_sorted id_cmp es) (below-all e.0 es (below id_cmp id_cmp-total e.0 (ids_of es) up)) (in-order es (λ k d within. up (suc k) d (omega (arith, within)))) where
  both : (a b : Bool) → T a → T b → T (a && b)
  both true b t u = u
  both false b t u = absurd t

pub known-keys : (maps : Maps) → IsOrdered maps → IsDistinct id_eq (keys maps.known) → finite.keys (program_in maps).known ≡ keys maps.known
known-keys maps sorted distinct =
    let es = maps.known.entries in
    let apart : IsDistinct same_id (ids_of es) = subst (λ eq. IsDistinct eq (ids_of es)) (λ i x y. id_ties x y i) distinct in
    let up : T (is_sorted id_cmp es) = in-order es (adjacent id_cmp id_cmp-total (ids_of es) sorted apart) in
    let same : from_entries {R = id_cmp} es ≡ from_sorted {R = id_cmp} es = same_map id_cmp-total id_cmp-IsAntisymmetric _ _ (λ q. get-from_entries id_cmp-total es q ∙ sym (get-from_sorted id_cmp es q up)) in
    ap ids_of (ap entries same ∙ entries-from_sorted id_cmp es up)

-- ---- classes among what lives

pub class-lives : (program : Program) (id : Id) → is_living_class program id ≡ true → lives program id ≡ true
class-lives program id h = at (get program.known id) refl where
  at : (o : Option Known) → get program.known id ≡ o → lives program id ≡ true
  at None e = absurd (true≢false (sym h ∙ ap (λ o. is_class o && living_at program id) e))
  at (Some knowns.Class) e = ap (lives_as program id) e ∙ sym (ap (λ o. is_class o && living_at program id) e) ∙ h
  at (Some (knowns.Method kind)) e = absurd (true≢false (sym h ∙ ap (λ o. is_class o && living_at program id) e))
  at (Some (knowns.Decl method)) e = absurd (true≢false (sym h ∙ ap (λ o. is_class o && living_at program id) e))
  at (Some knowns.Field) e = absurd (true≢false (sym h ∙ ap (λ o. is_class o && living_at program id) e))
  at (Some (knowns.Param method)) e = absurd (true≢false (sym h ∙ ap (λ o. is_class o && living_at program id) e))
