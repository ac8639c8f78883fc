-- Topmost declarations, by the living declarations of a method.
use Rattle.std.proofs.Common.{◌≡◌, Bool, true, false, ◌&&◌, ◌||◌, cond, not, List, [], ◌∷◌, Option, Some, None, refl, sym, ◌∙◌, ap, true≢false}
use Rattle.std.specs.FinMap.{get, entries, find, get-entries}
use Rattle.std.specs.List.{list_all, AllByRecursion}
use Rattle.std.specs.Option.{option_map_or}
use Rattle.std.proofs.lemmas.Bool.{and_parts}
use Rattle.mol_base.specs.Order.{id_cmp, id_cmp-total, id_cmp-IsAntisymmetric}
use Rattle.mol_base.specs.declared.ident.Id.{Id}
use Rattle.mol_table_rules.proofs.Counts.{none-some, some-same, each_found}
use Rattle.mol_table_rules.proofs.Living.{id_tied, same_id-own}
use Rattle.mol_table_rules.specs.Counting.{living_as, living_of}
use Rattle.mol_table_rules.specs.Faults.{is_above, is_above_living, is_topmost}
use Rattle.mol_table_rules.specs.Life.{is_decl_of, is_living_decl}
use Rattle.mol_table_rules.specs.Program.{Program, same_id, living_at, owner_at}
use Rattle.mol_values_types.specs.declared.known.Known.{Known}
use Rattle.mol_values_types.specs.declared.known.Known.TheVariants as knowns

-- ---- living declarations

if-living : (method : Id) (known : Option Known) (lives : Bool) → living_as known lives ≡ Some method
    → (what : Known) × (known ≡ Some what) × ((is_decl_of method what && lives) ≡ true)
if-living method None lives is = absurd (none-some method is)
if-living method (Some knowns.Class) lives is = absurd (none-some method is)
if-living method (Some (knowns.Method kind)) lives is = absurd (none-some method is)
if-living method (Some knowns.Field) lives is = absurd (none-some method is)
if-living method (Some (knowns.Param own)) lives is = absurd (none-some method is)
if-living method (Some (knowns.Decl own)) false is = absurd (none-some method is)
if-living method (Some (knowns.Decl own)) true is =
    (knowns.Decl own, refl, ap (λ b. b && true) (ap (same_id method) (some-same own method is) ∙ same_id-own method))

living-if : (method : Id) (what : Known) (lives : Bool) → (is_decl_of method what && lives) ≡ true
    → living_as (Some what) lives ≡ Some method
living-if method knowns.Class lives is = absurd (true≢false (sym is))
living-if method (knowns.Method kind) lives is = absurd (true≢false (sym is))
living-if method knowns.Field lives is = absurd (true≢false (sym is))
living-if method (knowns.Param own) lives is = absurd (true≢false (sym is))
living-if method (knowns.Decl own) lives is =
    let parts = and_parts (same_id method own) lives is in
    ap (living_as (Some (knowns.Decl own))) parts.1 ∙ ap (λ m. Some m) (sym (id_tied method own parts.0))

-- ---- entries

module _ (test : Id × Known → Bool) where
  all-at : (es : List (Id × Known)) → list_all test es ≡ true → (id : Id) (known : Known) → find id_cmp id es ≡ Some known
      → test (id, known) ≡ true
  all-at [] all id known is = absurd (none-some known is)
  all-at (e ∷ es) all id known is =
      let parts = and_parts (test e) (list_all test es) all in
      by (same_id id e.0) refl is parts.0 (all-at es parts.1 id known) where
        by : (b : Bool) → same_id id e.0 ≡ b → cond b (Some e.1) (find id_cmp id es) ≡ Some known → test e ≡ true
            → (find id_cmp id es ≡ Some known → test (id, known) ≡ true) → test (id, known) ≡ true
        by true same h first rest = ap test (λ i. (id_tied id e.0 same i, some-same known e.1 (sym h) i)) ∙ first
        by false apart h first rest = rest h

  all-of : (program : Program) → ((id : Id) (known : Known) → get program.known id ≡ Some known → test (id, known) ≡ true)
      → list_all test (entries program.known) ≡ true
  all-of program each = by (entries program.known) (each_found id_cmp-total id_cmp-IsAntisymmetric program.known) where
    by : (es : List (Id × Known)) → AllByRecursion (λ (e : Id × Known). get program.known e.0 ≡ Some e.1) es → list_all test es ≡ true
    by [] all = refl
    by (e ∷ es) all = ap (λ b. b && list_all test es) (each e.0 e.1 all.0) ∙ by es all.1

-- ---- topmost declarations

module _ (program : Program) (method : Id) where
  abbrev pub Declares : Id → Type 0
  Declares decl = living_of program decl ≡ Some method

  abbrev above_each : Id → Bool
  above_each decl = list_all (is_above_living program method decl) (entries program.known)

  pub topmost-above : (decl below : Id) → is_topmost program method decl ≡ true → Declares below
      → is_above program (owner_at program below) (owner_at program decl) ≡ true
  topmost-above decl below top living =
      let all = (and_parts (option_map_or (λ known. is_living_decl program method (decl, known)) (get program.known decl) false)
      (above_each decl) top).1 in
      let known = if-living method (get program.known below) (living_at program below) living in
      let passes = all-at (is_above_living program method decl) (entries program.known) all below known.0
      (sym (get-entries program.known below) ∙ known.1) in
      sym (ap (λ b. not b || is_above program (owner_at program below) (owner_at program decl)) known.2) ∙ passes

  pub topmost-declares : (decl : Id) → is_topmost program method decl ≡ true → Declares decl
  topmost-declares decl top = by (get program.known decl) refl
      (and_parts (option_map_or (λ known. is_living_decl program method (decl, known)) (get program.known decl) false)
      (above_each decl) top).0 where
        by : (o : Option Known) → get program.known decl ≡ o
            → option_map_or (λ known. is_living_decl program method (decl, known)) o false ≡ true
            → Declares decl
        by None none is = absurd (true≢false (sym is))
        by (Some what) known is = ap (λ k. living_as k (living_at program decl)) known ∙ living-if method what (living_at program decl) is

  pub is-topmost : (decl : Id) → Declares decl
      → ((below : Id) → Declares below → is_above program (owner_at program below) (owner_at program decl) ≡ true)
      → is_topmost program method decl ≡ true
  is-topmost decl living above =
      let known = if-living method (get program.known decl) (living_at program decl) living in
      ap (λ o. option_map_or (λ known. is_living_decl program method (decl, known)) o false && above_each decl) known.1
      ∙ ap (λ b. b && above_each decl) known.2
      ∙ all-of (is_above_living program method decl) program each where
        each : (below : Id) (what : Known) → get program.known below ≡ Some what → is_above_living program method decl (below, what) ≡ true
        each below what known = by (is_living_decl program method (below, what)) refl where
          by : (b : Bool) → is_living_decl program method (below, what) ≡ b
              → (not (is_living_decl program method (below, what)) || is_above program (owner_at program below)
              (owner_at program decl)) ≡ true
          by false fails = ap (λ b. not b || is_above program (owner_at program below) (owner_at program decl)) fails
          by true holds =
              ap (λ b. not b || is_above program (owner_at program below) (owner_at program decl)) holds
              ∙ above below (ap (λ k. living_as k (living_at program below)) known ∙ living-if method what (living_at program below) holds)
