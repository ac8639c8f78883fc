-- Texts that are put into a set one by one.
use Rattle.std.proofs.Common.{◌≡◌, ℕ, suc, ◌-◌, ◌<◌, ◌≤◌, List, [], ◌∷◌, ◌++◌, map, length, drop, get_or, Option, None, Some, refl, sym, ap, ◌∙◌, arith}
use Rattle.std.proofs.Math.Seq.{drop-cons, drop-length}
use Rattle.std.proofs.lemmas.Cmp.{nat_list_cmp_total}
use Rattle.std.specs.BTreeSet.{insert_key}
use Rattle.std.specs.Cmp.Lexicographic.{slice_cmp}
use Rattle.std.specs.FinMap.{FinMap, entries, entries-insert, empty, from_entries, len-empty, len-entries}
use Rattle.std.specs.FinMap.Entries.{by_order, put}
use Rattle.std.specs.List.{cons_option, filter_map}
use Rattle.std.specs.Option.{option_to_list}
use Rattle.std.specs.Ordering.{match_ordering, nat_cmp}
use Rattle.std.specs.declared.cmp.Ordering.{Ordering}
use Rattle.std.specs.declared.cmp.Ordering.TheVariants.{Less, Equal, Greater}
use Rattle.jav_names.specs.DottedNames.{Name, Names}
use Rattle.mol_spell_rules.specs.Sets.{as_set}
use Rattle.mol_spell_rules.specs.Writers.{Use}
use Rattle.mol_spell_uses.specs.uses.Kept.{kept_use}
use Rattle.mol_spell_uses.specs.declared.uses.used.Use.{Use as Kept}

-- ---- one text

abbrev pub set_of : Names → Names
set_of names = as_set (slice_cmp nat_cmp) names

abbrev Entries : Type 0
Entries = List (Name × Unit {0})

abbrev first : Name × Unit {0} → Name
first entry = entry.0

in-order : (o : Ordering) (k : Name) (e : Name × Unit {0}) (es : Entries) (keys : Names) (more : Entries) → keys ≡ map first more
    → match_ordering o (k ∷ e.0 ∷ map first es) (e.0 ∷ map first es) (e.0 ∷ keys)
    ≡ map first (by_order o ((k, tt) ∷ e ∷ es) ((e.0, tt) ∷ es) (e ∷ more))
in-order Less k e es keys more same = refl
in-order Equal k e es keys more same = refl
in-order Greater k e es keys more same = ap (λ keys. e.0 ∷ keys) same

key-put : (es : Entries) (k : Name) → insert_key (slice_cmp nat_cmp) (map first es) k ≡ map first (put (slice_cmp nat_cmp) k tt es)
key-put [] k = refl
key-put (e ∷ es) k = in-order (slice_cmp nat_cmp k e.0) k e es _ _ (key-put es k)

set-more : (names : Names) (k : Name) → insert_key (slice_cmp nat_cmp) (set_of names) k ≡ set_of (k ∷ names)
set-more names k =
    let held : FinMap (slice_cmp nat_cmp) (Unit {0}) = from_entries (map (λ name. (name, tt {0})) names) in
    key-put (entries held) k ∙ sym (ap (map first) (entries-insert nat_list_cmp_total held k tt))

pub put-in : (names : Names) (k : Name) (old new : Names) → new ≡ insert_key (slice_cmp nat_cmp) old k → old ≡ set_of names
    → new ≡ set_of (k ∷ names)
put-in names k old new is was = is ∙ ap (λ keys. insert_key (slice_cmp nat_cmp) keys k) was ∙ set-more names k

-- ---- those of several, from the last to the first

no-length : {A : Type 0} (xs : List A) → length xs ≡ 0 → [] ≡ xs
no-length [] e = refl
no-length (x ∷ xs) e = absurd (omega arith)

empty-set : [] ≡ set_of []
empty-set =
    let held : FinMap (slice_cmp nat_cmp) (Unit {0}) = empty in
    ap (map first) (no-length (entries held) (sym (len-entries held) ∙ len-empty (slice_cmp nat_cmp) (Unit {0})))

module _ (made : Use → Option Name) where
  abbrev pub made_of : List Kept → Names
  made_of uses = filter_map made (map kept_use uses)

  pub set-none : (uses : List Kept) (set : Names) → set ≡ [] → set ≡ set_of (made_of (drop (length uses) uses))
  set-none uses set is = is ∙ empty-set ∙ ap (λ uses. set_of (made_of uses)) (sym (drop-length uses))

  in-front : (o : Option Name) (names : Names) → option_to_list o ++ names ≡ cons_option o names
  in-front None names = refl
  in-front (Some name) names = refl

  pub set-further : (uses : List Kept) (at : ℕ) (used : Kept) (text : Option Name) (old new : Names) → 0 < at → at ≤ length uses
      → used ≡ get_or uses (at - 1) used → text ≡ made (kept_use used) → old ≡ set_of (made_of (drop at uses))
      → ((names : Names) → old ≡ set_of names → new ≡ set_of (option_to_list text ++ names))
      → new ≡ set_of (made_of (drop (at - 1) uses))
  set-further uses at used text old new above within is text_is was inserts =
      let next : suc (at - 1) ≡ at = omega arith in
      let cut : drop (at - 1) uses ≡ get_or uses (at - 1) used ∷ drop (suc (at - 1)) uses = drop-cons uses (at - 1) used (omega arith) in
      let same : drop (at - 1) uses ≡ used ∷ drop at uses = cut ∙ (λ i. sym is i ∷ drop (next i) uses) in
      let rest : Names = made_of (drop at uses) in
      inserts rest was ∙ ap (λ o. set_of (option_to_list o ++ rest)) text_is
      ∙ ap set_of (in-front (made (kept_use used)) rest) ∙ ap (λ uses. set_of (made_of uses)) (sym same)
